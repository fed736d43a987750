-- Line by line, a replay prints what its definition says.
use Prim.Native.Nat.{ℕ, ◌+◌, ◌<◌}
use native.Mathlib.Omega.{arith}
use mathlib.Core.Path.{◌≡◌, refl, sym, ap, ◌∙◌}
use mathlib.Core.List.{List, [], ◌∷◌, ◌++◌, flat_map, append_assoc, append-nil}
use mathlib.Core.Bool.{Bool, true, false}
use mathlib.Core.Option.{Option, none, some}
use lib.Dec.{leb}
use lib.ListN.{length, take, length-append}
use lib.Seq.{length-take-le, take_all}
use borrow.Author.Tests.{lt-leb, leb-true, leb-false}
use Rattle.text.specs.definitions.Syntax.{File}
use Rattle.checking.specs.definitions.Verdict.{Verdict, verdict, MOST_BYTES}
use Rattle.cycles.specs.definitions.Header.{Column, header}
use Rattle.cycles.specs.definitions.Record.{record_of}
use Rattle.cycles.specs.definitions.Readings.{lines, PartOfLine, header_line, record_lines}
use Rattle.cycles.specs.definitions.Row.{row_header}
use Rattle.cycles.proofs.laws.ReadingsLaws.{part_take, before, lines_after, before_line, before_none, lines_fed, lines_last}
use Rattle.senders.specs.definitions.Sender.{State}
use Rattle.senders.specs.definitions.Answer.{or_refused, if_accepted}
use Rattle.senders.specs.definitions.Line.{addressed, line}
use Rattle.senders.specs.definitions.Follow.{fresh}
use Rattle.senders.specs.definitions.Turns.{state_after, turns}
use Rattle.replay.specs.definitions.Replay.{refusal, row_for, rows, rows_under, rows_of, replay_by, replay}
use Rattle.replay.specs.inner_contracts.Awaiting.{
  Awaits,
  names_row,
  awaited_under,
  prints,
  awaited_after,
  prints_at_end,
  prints_lines,
  awaited_after_lines,
  to_print,
  left_after,
  opening,
  awaited_first,
}
use Rattle.replay.specs.inner_contracts.Awaiting.Awaits.{names, values, nothing}
use Rattle.replay.specs.inner_contracts.Feeding.{LONGEST}

-- ---- all lines together

nothing_more : (ls : List (List ℕ)) → prints_lines nothing ls ≡ []
unfolding prints_lines prints prints_at_end awaited_after
nothing_more [] = refl
nothing_more (l ∷ ls) = nothing_more ls

pub nothing_printed : (t : List ℕ) → to_print nothing t ≡ []
unfolding to_print
nothing_printed t = nothing_more (lines t)

rows_printed : (f : File) (ns : List ℕ) (s : State) (ls : List (List ℕ)) → prints_lines (values f ns s) ls ≡ rows f (turns f ns s ls)
unfolding prints_lines prints prints_at_end awaited_after rows turns flat_map
rows_printed f ns s [] = refl
rows_printed f ns s (v ∷ vs) =
    ap (λ (t : List ℕ). (row_for f (line f s ns v) (state_after f s (line f s ns v)) ++ 10 ∷ []) ++ t) (rows_printed f ns (state_after f s (line f s ns v)) vs)

under_printed : (f : File) (ns : List ℕ) (o : Option (List Column)) (ls : List (List ℕ))
    → names_row f o ++ prints_lines (awaited_under f ns o) ls ≡ rows_under f ns o ls
unfolding names_row awaited_under rows_under
under_printed f ns none ls = rw (nothing_more ls) (append-nil (refusal 22 ++ 10 ∷ []))
under_printed f ns (some cs) ls =
    rw (rows_printed f ns (fresh f) ls) (append_assoc (row_header f) (10 ∷ []) (rows f (turns f ns (fresh f) ls)))

none_under : (f : File) (o : Option (List Column)) → names_row f o ≡ rows_under f [] o []
unfolding names_row rows_under rows turns flat_map
none_under f none = refl
none_under f (some cs) = refl

bench_printed : (f : File) (ls : List (List ℕ)) → prints_lines (names f) ls ≡ rows_of f ls
unfolding prints_lines prints_at_end prints awaited_after rows_of header_line record_lines
bench_printed f [] = none_under f (header f [])
bench_printed f (l ∷ ls) = under_printed f l (header f l) ls

by_verdict : (v : Verdict) (ls : List (List ℕ)) → opening v ++ prints_lines (awaited_first v) ls ≡ replay_by v ls
unfolding opening awaited_first replay_by
by_verdict (Verdict.refused_at code at) ls = rw (nothing_more ls) (append-nil _)
by_verdict (Verdict.accepted f) ls = bench_printed f ls

pub replay_printed : (bench readings : List ℕ) → opening (verdict bench) ++ to_print (awaited_first (verdict bench)) readings ≡ replay bench readings
unfolding to_print replay
replay_printed bench readings = by_verdict (verdict bench) (lines readings)

-- ---- a text that is taken apart

module _ (a : Awaits) where
  -- a line feed ends a line
  pub print_fed : (k t : List ℕ) → PartOfLine k → to_print a (k ++ 10 ∷ t) ≡ prints a k ++ to_print (awaited_after a k) t
  unfolding to_print prints_lines
  print_fed k t p = rw (lines_fed k t p)

  pub left_fed : (k t : List ℕ) → PartOfLine k → left_after a (k ++ 10 ∷ t) ≡ left_after (awaited_after a k) t
  unfolding left_after awaited_after_lines
  left_fed k t p = rw (lines_fed k t p)

  -- so does the text's end
  pub print_last : (k : List ℕ) → PartOfLine k → 0 < length k → to_print a k ≡ prints a k ++ prints_at_end (awaited_after a k)
  unfolding to_print prints_lines
  print_last [] p h = absurd (omega arith)
  print_last (b ∷ k) p h = rw (lines_last b k p)

  pub print_none : to_print a [] ≡ prints_at_end a
  unfolding to_print prints_lines lines
  print_none = refl

-- ---- a line that is too long may be cut

no_record : (n : ℕ) (v : List ℕ) → LONGEST < length v → record_of n v ≡ none
unfolding record_of
no_record n v h = rw (lt-leb (length v) 8192 (omega arith), record_of)

no_header : (f : File) (v : List ℕ) → LONGEST < length v → header f v ≡ none
unfolding header
no_header f v h = rw (lt-leb (length v) 32768 h, header)

same_line : (f : File) (s : State) (ns a b : List ℕ) → LONGEST < length a → LONGEST < length b → line f s ns a ≡ line f s ns b
unfolding line addressed or_refused if_accepted
same_line f s ns a b h i = go (header f ns) refl
  where
    go : (o : Option (List Column)) → header f ns ≡ o → line f s ns a ≡ line f s ns b
    go none e = rw (e, addressed, line)
    go (some cs) e = rw (e, addressed, line, no_record (length cs) a h, no_record (length cs) b i)

long_prints : (a : Awaits) (x y : List ℕ) → LONGEST < length x → LONGEST < length y → prints a x ≡ prints a y
unfolding prints
long_prints (names f) x y h i = rw (no_header f x h, no_header f y i)
long_prints (values f ns s) x y h i = rw (same_line f s ns x y h i)
long_prints nothing x y h i = refl

long_awaits : (a : Awaits) (x y : List ℕ) → LONGEST < length x → LONGEST < length y → awaited_after a x ≡ awaited_after a y
unfolding awaited_after awaited_under
long_awaits (names f) x y h i = rw (no_header f x h, no_header f y i)
long_awaits (values f ns s) x y h i = rw (same_line f s ns x y h i)
long_awaits nothing x y h i = refl

-- what sees no difference in too long a line sees none in its parts
module _ {A : Type 0} (see : List (List ℕ) → A)
    (blind : (x y : List ℕ) (ls : List (List ℕ)) → LONGEST < length x → LONGEST < length y → see (x ∷ ls) ≡ see (y ∷ ls)) where
  part_seen : (x y : List ℕ) (ls : List (List ℕ)) → LONGEST < length x → LONGEST < length y → see (before x ls) ≡ see (before y ls)
  part_seen [] y ls h i = absurd (omega arith)
  part_seen (p ∷ x) [] ls h i = absurd (omega arith)
  part_seen (p ∷ x) (q ∷ y) [] h i = rw (before_none p x, before_none q y) (blind (p ∷ x) (q ∷ y) [] h i)
  part_seen (p ∷ x) (q ∷ y) (l ∷ ls) h i =
      rw (before_line (p ∷ x) l ls, before_line (q ∷ y) l ls)
      (blind (p ∷ x ++ l) (q ∷ y ++ l) ls (simp length-append (omega arith)) (simp length-append (omega arith)))

  cut_seen : (n : ℕ) → LONGEST < n → (k t : List ℕ) → PartOfLine k → see (lines (k ++ t)) ≡ see (lines (take n k ++ t))
  cut_seen n h k t p = go (leb (length k) n) refl
    where
      go : (b : Bool) → leb (length k) n ≡ b → see (lines (k ++ t)) ≡ see (lines (take n k ++ t))
      go true q = rw (take_all n k (leb-true (length k) n q))
      go false q =
          let g = leb-false (length k) n q in
          let j = length-take-le n k (omega arith) in
          ap see (lines_after k t p) ∙ part_seen k (take n k) (lines t) (omega arith) (omega arith)
          ∙ ap see (sym (lines_after (take n k) t (part_take n k p)))

lines_blind : (a : Awaits) (x y : List ℕ) (ls : List (List ℕ)) → LONGEST < length x → LONGEST < length y → prints_lines a (x ∷ ls) ≡ prints_lines a (y ∷ ls)
unfolding prints_lines
lines_blind a x y ls h i = rw (long_prints a x y h i, long_awaits a x y h i)

left_blind : (a : Awaits) (x y : List ℕ) (ls : List (List ℕ)) → LONGEST < length x → LONGEST < length y
    → awaited_after_lines a (x ∷ ls) ≡ awaited_after_lines a (y ∷ ls)
unfolding awaited_after_lines
left_blind a x y ls h i = rw (long_awaits a x y h i)

-- to as many bytes as there is room for
module _ (n : ℕ) (h : LONGEST < n) (a : Awaits) (k t : List ℕ) (p : PartOfLine k) where
  pub print_cut : to_print a (k ++ t) ≡ to_print a (take n k ++ t)
  unfolding to_print
  print_cut = cut_seen (prints_lines a) (lines_blind a) n h k t p

  pub left_cut : left_after a (k ++ t) ≡ left_after a (take n k ++ t)
  unfolding left_after
  left_cut = cut_seen (awaited_after_lines a) (left_blind a) n h k t p

-- ---- a bench that is too long may be cut too

pub verdict_cut : (bench : List ℕ) → verdict (take (MOST_BYTES + 1) bench) ≡ verdict bench
unfolding verdict
verdict_cut bench = go (leb (length bench) (MOST_BYTES + 1)) refl
  where
    go : (b : Bool) → leb (length bench) (MOST_BYTES + 1) ≡ b → verdict (take (MOST_BYTES + 1) bench) ≡ verdict bench
    go true q = rw (take_all (MOST_BYTES + 1) bench (leb-true (length bench) (MOST_BYTES + 1) q))
    go false q =
        let g = leb-false (length bench) (MOST_BYTES + 1) q in
        let j = length-take-le (MOST_BYTES + 1) bench (omega arith) in
        rw (lt-leb (length bench) MOST_BYTES (omega arith), lt-leb (length (take (MOST_BYTES + 1) bench)) MOST_BYTES (omega arith), verdict)
