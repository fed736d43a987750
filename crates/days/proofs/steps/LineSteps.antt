-- Where a line ends, how many line feeds a text has, and the numbers of new lines.
use Prim.Native.Nat.{ℕ, zero, suc, ◌+◌, ◌-◌, ◌*◌, ◌/◌, ◌≤◌, ◌<◌}
use native.Mathlib.Omega.{arith}
use mathlib.Core.Path.{◌≡◌, refl, sym, ap, ◌∙◌}
use mathlib.Core.Bool.{Bool, true, false, cond}
use mathlib.Core.List.{List, [], ◌∷◌}
use Rattle.std.specs.Prelude.{Option, Some, None, position}
use Rattle.std.specs.List.{count_by, position_or_len}
use Rattle.std.proofs.lemmas.List.Quantifiers.{position-Some}
use Rattle.std.proofs.lemmas.List.Sums.{fails_before_first, sum_by-cons}
use Rattle.std.proofs.lemmas.Option.{none-some}
use lib.Dec.{eqb, ltb}
use lib.ListN.{length, get_or, take, drop, length-drop}
use lib.Seq.{get_or-drop}
use borrow.Author.Tests.{lt-ltb, le-ltb, ltb-true, ltb-false, eqb-true}
use Rattle.cycles.specs.definitions.Readings.{PartOfLine}
use Rattle.senders.specs.inner_contracts.Judging.{Judged}
use Rattle.senders.specs.inner_contracts.Judging.{Refused, New, Resent}
use Rattle.senders.specs.definitions.Sender.{Sender}
use Rattle.senders.specs.definitions.Answer.{Answer, refused, accepted}
use Rattle.senders.specs.definitions.Line.{Accepted, new, resent, line}
use Rattle.senders.specs.inner_contracts.Judging.{judgement}
use Rattle.senders.specs.inner_contracts.Advancing.{Advanced}
use Rattle.sheets.specs.definitions.Layout.{MOST_CHOSEN}
use Rattle.sheets.specs.definitions.Sizes.{MOST_LINE_BYTES, MOST_CLOSING_BYTES}
use Rattle.days.specs.definitions.DaySheet.{line_feeds, sheet_size}
use Rattle.days.specs.inner_contracts.SheetMemory.{LineEnd, new_number, Stepped}

-- ---- a line's end

part_by : (l : List ℕ) (k : ℕ) → k ≤ length l → ((j : ℕ) → j < k → eqb (get_or l j 0) 10 ≡ false) → PartOfLine (take k l)
part_by l zero h e = tt
part_by [] (suc k) h e = tt
part_by (b ∷ l) (suc k) h e = (e 0 (omega arith), part_by l k (omega arith) (λ j p. e (suc j) (omega arith)))

module _ (s : List ℕ) (at : ℕ) (h : at ≤ length s) {o : Option ℕ} (q : o ≡ position (λ b. eqb b 10) (drop at s)) where
  pub line_fed : {size : ℕ} → o ≡ Some size → LineEnd s at (at + size)
  line_fed {size} e =
      let (below, here, before) = position-Some (λ (b : ℕ). eqb b 10) (drop at s) size 0 (sym q ∙ e) in
      let l = length-drop at s in
      let n : at + size - at ≡ size = omega arith in
      record {
        after = omega arith;
        inside = omega arith;
        part = rw n (part_by (drop at s) size (omega arith) before);
        fed = λ inside. sym (get_or-drop at s size 0) ∙ eqb-true (get_or (drop at s) size 0) 10 here;
      }

  pub line_over : o ≡ None → LineEnd s at (length s)
  line_over e =
      let most : length (drop at s) ≤ position_or_len (λ b. eqb b 10) (drop at s) =
      none_long (ltb (position_or_len (λ b. eqb b 10) (drop at s)) (length (drop at s))) refl (sym q ∙ e) in
      let l = length-drop at s in
      record {
        after = h;
        inside = omega arith;
        part =
            part_by (drop at s) (length s - at) (omega arith)
            (λ k p. fails_before_first (λ (b : ℕ). eqb b 10) (drop at s) k 0 (omega arith));
        fed = λ inside. absurd (omega arith);
      }
    where
      none_long : (t : Bool) → ltb (position_or_len (λ b. eqb b 10) (drop at s)) (length (drop at s)) ≡ t
          → cond t (Some (position_or_len (λ b. eqb b 10) (drop at s))) None ≡ None → length (drop at s) ≤ position_or_len (λ b. eqb b 10) (drop at s)
      none_long true e g = absurd (none-some (position_or_len (λ b. eqb b 10) (drop at s)) (sym g))
      none_long false e g = ltb-false (position_or_len (λ b. eqb b 10) (drop at s)) (length (drop at s)) e

-- ---- line feeds

pub feeds_by_count : (s : List ℕ) → count_by (λ b. eqb b 10) s ≡ line_feeds s
unfolding line_feeds
feeds_by_count [] = refl
feeds_by_count (b ∷ s) = sum_by-cons (λ x. cond (eqb x 10) 1 0) b s ∙ go (eqb b 10) (feeds_by_count s)
  where
    go : (t : Bool) → count_by (λ b. eqb b 10) s ≡ line_feeds s → cond t 1 0 + count_by (λ b. eqb b 10) s ≡ cond t (suc (line_feeds s)) (line_feeds s)
    go true e = omega arith
    go false e = omega arith

module _ (s : List ℕ) where
  -- ---- the stated size

  -- by how many lines there is room for
  abbrev least : ℕ
  least = MOST_CHOSEN * MOST_CLOSING_BYTES

  abbrev stated : ℕ
  stated = least + MOST_LINE_BYTES * line_feeds s

  pub size_short : (size : ℕ) → size < least → true ≡ ltb size (sheet_size s)
  unfolding sheet_size
  size_short size h = sym (lt-ltb size stated (omega arith))

  pub size_told : (size feeds : ℕ) → least ≤ size → feeds ≡ count_by (λ b. eqb b 10) s → ltb ((size - least) / MOST_LINE_BYTES) feeds ≡ ltb size (sheet_size s)
  unfolding sheet_size
  size_told size feeds h e = go (ltb ((size - least) / MOST_LINE_BYTES) feeds) refl
    where
      told : feeds ≡ line_feeds s
      told = e ∙ feeds_by_count s

      go : (t : Bool) → ltb ((size - least) / MOST_LINE_BYTES) feeds ≡ t → t ≡ ltb size stated
      go true q = let n = told in let l = ltb-true ((size - least) / MOST_LINE_BYTES) feeds q in sym (lt-ltb size stated (omega arith))
      go false q = let n = told in let l = ltb-false ((size - least) / MOST_LINE_BYTES) feeds q in sym (le-ltb size stated (omega arith))

-- ---- a record

unfoldable pub judged_number : Judged → Option ℕ
judged_number (Refused code) = None
judged_number (New at number) = Some number
judged_number (Resent at) = None

number_judged : (xs : List Sender) (a : Answer Accepted) → judged_number (judgement xs a) ≡ new_number a
unfolding judgement new_number judged_number
number_judged xs (refused code) = refl
number_judged xs (accepted (new l)) = refl
number_judged xs (accepted (resent l)) = refl

module _ {classes literals d refs scopes columns : List ℕ} {width : ℕ} {values state new_state : List ℕ} {j : Judged}
    (advances : Advanced classes literals d refs scopes columns width values state new_state j) where
  pub stepped : {t : Option ℕ} → t ≡ judged_number j → Stepped classes literals d refs scopes columns width values state new_state t
  stepped e = record {
    is = λ text offsets lengths b print s h names cs x y.
        let m = advances.is text offsets lengths b print s h names cs x y in
        (e ∙ ap judged_number m.judged ∙ number_judged s.senders (line b.checked.bench.file s names values), m.left);
  }
