-- The lines of a text of readings, one after another, and the printed lines among them.
use Prim.Native.Nat.{ℕ, suc, ◌+◌, ◌-◌, ◌≤◌, ◌<◌}
use native.Mathlib.Numerals.{add-one}
use native.Mathlib.Omega.{arith}
use mathlib.Core.Path.{◌≡◌, refl, sym, ap, ◌∙◌}
use mathlib.Core.Bool.{Bool, true, false, cond}
use mathlib.Core.List.{List, [], ◌∷◌, ◌++◌, map, flat_map}
use lib.Dec.{ltb, eqb}
use lib.ListN.{length, take, drop, length-append, length-drop, drop_of_length-le, take-append-drop}
use lib.Seq.{drop-cons, drop-drop, take_all}
use borrow.Author.Tests.{ltb-true, ltb-false}
use Rattle.text.specs.definitions.Syntax.{File}
use Rattle.cycles.specs.definitions.Spots.{Spot}
use Rattle.cycles.specs.definitions.Fields.{lengthened}
use Rattle.cycles.specs.definitions.Reference.{read_spot}
use Rattle.cycles.specs.definitions.Readings.{lines, PartOfLine, header_line, record_lines}
use Rattle.cycles.proofs.laws.ReadingsLaws.{lines_fed, lines_last}
use Rattle.senders.specs.definitions.Sender.{State}
use Rattle.senders.specs.definitions.Answer.{Answer, refused, accepted}
use Rattle.senders.specs.definitions.Line.{Accepted, new, resent, line}
use Rattle.senders.specs.definitions.Turns.{state_after, turns}
use Rattle.sheets.specs.definitions.Rows.{PrintedLine}
use Rattle.days.specs.definitions.DaySheet.{printed_for, printed_lines, line_feeds}
use Rattle.values.specs.declared.Value.{Value}
use Rattle.std.specs.Prelude.{Option, Some, None}
use Rattle.days.specs.inner_contracts.SheetMemory.{LineEnd, new_number}

-- ---- lines

-- a text's first line, where one starts
pub line_taken : (s : List ℕ) (at r : ℕ) → at < length s → LineEnd s at r
    → lines (drop at s) ≡ take (r - at) (drop at s) ∷ lines (drop (r + 1) s)
unfolding lines
line_taken s at r h e = go (ltb r (length s)) refl
  where
    piece : List ℕ
    piece = take (r - at) (drop at s)

    parts : drop at s ≡ piece ++ drop r s
    parts =
        let i : at + (r - at) ≡ r = let a = e.after in omega arith in
        sym (take-append-drop (r - at) (drop at s)) ∙ ap (λ (t : List ℕ). piece ++ t) (drop-drop (r - at) at s ∙ ap (λ (k : ℕ). drop k s) i)

    last : (l : List ℕ) → 0 < length l → PartOfLine l → lines l ≡ l ∷ []
    last [] p q = absurd (omega arith)
    last (b ∷ l) p q = lines_last b l q

    go : (t : Bool) → ltb r (length s) ≡ t → lines (drop at s) ≡ piece ∷ lines (drop (r + 1) s)
    go true q =
        let l = ltb-true r (length s) q in
        let c : drop r s ≡ 10 ∷ drop (r + 1) s =
        drop-cons s r 0 l ∙ ap (λ (b : ℕ). b ∷ drop (suc r) s) (e.fed l) ∙ ap (λ (k : ℕ). 10 ∷ drop k s) (sym (add-one r)) in
        ap lines (parts ∙ ap (λ (t : List ℕ). piece ++ t) c) ∙ lines_fed piece (drop (r + 1) s) e.part
    go false q =
        let l = ltb-false r (length s) q in
        let i = e.inside in
        let n = length-drop at s in
        let short : length s ≤ r + 1 = omega arith in
        let none : drop (r + 1) s ≡ [] = drop_of_length-le s short in
        let all : piece ≡ drop at s = take_all (r - at) (drop at s) (omega arith) in
        ap lines (sym all) ∙ last piece (let k = ap length all in omega arith) e.part ∙ ap (λ (t : List ℕ). piece ∷ lines t) (sym none)

-- where no line starts, there is none
pub no_lines : (s : List ℕ) (at : ℕ) → length s ≤ at → lines (drop at s) ≡ []
unfolding lines
no_lines s at h = ap lines (drop_of_length-le s h)

-- the header, and the records after it
module _ (s : List ℕ) (r : ℕ) (e : LineEnd s 0 r) where
  both : (header_line (lines s) ≡ take r s) × (record_lines (lines s) ≡ lines (drop (r + 1) s))
  unfolding header_line record_lines lines
  both = go (ltb 0 (length s)) refl
    where
      go : (t : Bool) → ltb 0 (length s) ≡ t → (header_line (lines s) ≡ take r s) × (record_lines (lines s) ≡ lines (drop (r + 1) s))
      go true q =
          let z : r - 0 ≡ r = omega arith in
          let l : lines s ≡ take r s ∷ lines (drop (r + 1) s) =
          line_taken s 0 r (ltb-true 0 (length s) q) e ∙ ap (λ (k : ℕ). take k s ∷ lines (drop (r + 1) s)) z in
          (ap header_line l, ap record_lines l)
      go false q = empty s (ltb-false 0 (length s) q) e.inside
        where
          empty : (s : List ℕ) → length s ≤ 0 → r ≤ length s → (header_line (lines s) ≡ take r s) × (record_lines (lines s) ≡ lines (drop (r + 1) s))
          empty [] h i = let z : r ≡ 0 = omega arith in rw z (refl, refl)
          empty (b ∷ s) h i = absurd (omega arith)

  pub header_taken : header_line (lines s) ≡ take r s
  header_taken = both.0

  pub records_left : record_lines (lines s) ≡ lines (drop (r + 1) s)
  records_left = both.1

-- ---- how many lines

lengthened_most : (b : ℕ) (ls : List (List ℕ)) (n : ℕ) → length ls ≤ suc n → length (lengthened b ls) ≤ suc n
unfolding lengthened
lengthened_most b [] n h = omega arith
lengthened_most b (l ∷ ls) n h = h

lines_no_more : (s : List ℕ) → length (lines s) ≤ suc (line_feeds s)
unfolding lines line_feeds
lines_no_more [] = omega arith
lines_no_more (b ∷ s) = go (eqb b 10) (lines_no_more s)
  where
    go : (t : Bool) → length (lines s) ≤ suc (line_feeds s)
        → length (cond t ([] ∷ lines s) (lengthened b (lines s))) ≤ suc (cond t (suc (line_feeds s)) (line_feeds s))
    go true h = omega arith
    go false h = lengthened_most b (lines s) (line_feeds s) h

-- "of which there are at most as many as line feeds"
pub records_most : (s : List ℕ) → length (record_lines (lines s)) ≤ line_feeds s
unfolding record_lines
records_most s = go (lines s) (lines_no_more s)
  where
    go : (ls : List (List ℕ)) → length ls ≤ suc (line_feeds s) → length (record_lines ls) ≤ line_feeds s
    go [] h = omega arith
    go (l ∷ ls) h = omega arith

-- ---- printed lines

-- what a record prints in a state
abbrev pub printed_after : File → List Spot → State → Answer Accepted → List PrintedLine
printed_after f ps s a = printed_for ps a (state_after f s a)

-- what a line of that number prints, and any other
abbrev pub printed_if : Option ℕ → List Value → List PrintedLine
printed_if None vs = []
printed_if (Some n) vs = record { number = n; values = vs } ∷ []

pub printed_by_number : (f : File) (ps : List Spot) (s : State) (a : Answer Accepted)
    → printed_after f ps s a ≡ printed_if (new_number a) (map (read_spot (state_after f s a).stores.now) ps)
unfolding printed_for new_number
printed_by_number f ps s (refused code) = refl
printed_by_number f ps s (accepted (resent l)) = refl
printed_by_number f ps s (accepted (new l)) = refl

module _ (f : File) (ps : List Spot) (s : State) where
  -- a record first
  pub printed_first : (names v : List ℕ) (vs : List (List ℕ))
      → printed_lines ps (turns f names s (v ∷ vs))
      ≡ printed_after f ps s (line f s names v) ++ printed_lines ps (turns f names (state_after f s (line f s names v)) vs)
  unfolding printed_lines turns flat_map
  printed_first names v vs = refl

  pub printed_none : (names : List ℕ) → printed_lines ps (turns f names s []) ≡ []
  unfolding printed_lines turns flat_map
  printed_none names = refl

-- no more printed lines than records
printed_few : (f : File) (ps : List Spot) (s : State) (a : Answer Accepted) → length (printed_after f ps s a) ≤ 1
unfolding printed_for
printed_few f ps s (refused code) = omega arith
printed_few f ps s (accepted (resent l)) = omega arith
printed_few f ps s (accepted (new l)) = omega arith

pub printed_no_more : (f : File) (ps : List Spot) (names : List ℕ) (s : State) (vs : List (List ℕ))
    → length (printed_lines ps (turns f names s vs)) ≤ length vs
printed_no_more f ps names s [] = rw (printed_none f ps s names) (omega arith)
printed_no_more f ps names s (v ∷ vs) =
    let a = printed_few f ps s (line f s names v) in
    let b = printed_no_more f ps names (state_after f s (line f s names v)) vs in
    rw (
      printed_first f ps s names v vs,
      length-append (printed_after f ps s (line f s names v)) (printed_lines ps (turns f names (state_after f s (line f s names v)) vs)),
    )
    (omega arith)
