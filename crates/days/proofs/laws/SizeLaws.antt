-- Sizes of a day sheet: so many chosen cells and printed lines, so many rows of 80 bytes.
use Prim.Native.Nat.{ℕ, suc, ◌≤◌}
use native.Mathlib.Omega.{arith}
use mathlib.Core.Path.{◌≡◌, refl, sym, ap, ◌∙◌, subst}
use mathlib.Core.Bool.{Bool, true, false}
use mathlib.Core.Logic.{◌⊎◌, inl, inr}
use mathlib.Core.List.Memᴰ
use mathlib.Core.List.{
  List,
  [],
  ◌∷◌,
  map,
  Memᴰ,
}
use mathlib.Core.Option.{Option, none, some}
use lib.Dec.{leb}
use lib.ListN.{length, length-map}
use borrow.Author.Tests.{leb-true}
use Rattle.text.specs.definitions.Syntax.{File}
use Rattle.text.proofs.laws.ListLaws.{some_injective, none_some}
use Rattle.cycles.specs.definitions.Spots.{Spot}
use Rattle.cycles.specs.definitions.Fields.{split, fields}
use Rattle.cycles.specs.definitions.Reference.{read_spot}
use Rattle.cycles.specs.definitions.Readings.{lines, record_lines}
use Rattle.senders.specs.definitions.Sender.{State}
use Rattle.senders.specs.definitions.Answer.{Answer, refused, accepted}
use Rattle.senders.specs.definitions.Line.{Accepted, new, resent, line}
use Rattle.senders.specs.definitions.Turns.{state_after, turns}
use Rattle.sheets.specs.definitions.Layout.{SHEET_COLUMNS, MOST_CHOSEN}
use Rattle.sheets.specs.definitions.Rows.{PrintedLine}
use Rattle.sheets.specs.definitions.Sheet.{sheet_rows}
use Rattle.sheets.proofs.laws.SheetLaws.{Narrow}
use Rattle.sheets.proofs.theorems.SheetSizes.{every_row_full, sheet_most}
use Rattle.days.specs.definitions.Chosen.{spot_named, spot_before, spots_named, chosen, is_real_spot}
use Rattle.days.specs.definitions.DaySheet.{printed_for, printed_lines, day_sheet, sheet_size}
use Rattle.days.proofs.laws.DayLaws.{records_most, printed_after, printed_first, printed_none, printed_no_more}

spots_counted : (f : File) (xs : List (List ℕ)) (ps : List Spot) → spots_named f xs ≡ some ps → length ps ≡ length xs
unfolding spots_named spot_before
spots_counted f [] ps h = ap length (sym (some_injective h))
spots_counted f (x ∷ xs) ps h = go (λ qs. spots_counted f xs qs) (spot_named f (split 46 x)) (spots_named f xs) refl h
  where
    go : ((qs : List Spot) → spots_named f xs ≡ some qs → length qs ≡ length xs) → (o : Option Spot) (rest : Option (List Spot))
        → spots_named f xs ≡ rest → spot_before o rest ≡ some ps → length ps ≡ suc (length xs)
    go counted none rest e q = absurd (none_some q)
    go counted (some p) none e q = absurd (none_some q)
    go counted (some p) (some qs) e q = ap length (sym (some_injective q)) ∙ ap suc (counted qs e)

pub chosen_few : (f : File) (cells : List ℕ) (ps : List Spot) → chosen f cells ≡ some ps → length ps ≤ MOST_CHOSEN
unfolding chosen
chosen_few f cells ps h = go (leb (length (fields cells)) MOST_CHOSEN) refl
  where
    go : (t : Bool) → leb (length (fields cells)) MOST_CHOSEN ≡ t → length ps ≤ MOST_CHOSEN
    go true e =
        let n = leb-true (length (fields cells)) MOST_CHOSEN e in
        let q : spots_named f (fields cells) ≡ some ps = rw (e, chosen) at h in
        let c = spots_counted f (fields cells) ps q in
        omega arith
    go false e = let q : none ≡ some ps = rw (e, chosen) at h in absurd (none_some q)

-- ---- the sheet

-- each printed line has a value for each chosen cell
printed_values : (f : File) (ps : List Spot) (s : State) (a : Answer Accepted) (l : PrintedLine) → Memᴰ l (printed_after f ps s a)
    → length l.values ≡ length ps
unfolding printed_for
printed_values f ps s (refused code) l m = absurd (Memᴰ.not-nil m)
printed_values f ps s (accepted (resent k)) l m = absurd (Memᴰ.not-nil m)
printed_values f ps s (accepted (new k)) l m =
    ap (λ (x : PrintedLine). length x.values) (Memᴰ.eq_of_singleton m)
    ∙ length-map ps (read_spot (state_after f s (accepted (new k))).stores.now)

module _ (f : File) (ps : List Spot) (names : List ℕ) (few : length ps ≤ MOST_CHOSEN) where
  narrow : (s : State) (vs : List (List ℕ)) → Narrow (printed_lines ps (turns f names s vs))
  narrow s [] l m = absurd (Memᴰ.not-nil (subst (λ (ls : List PrintedLine). Memᴰ l ls) (printed_none f ps s names) m))
  narrow s (v ∷ vs) l m =
      go (narrow after vs l)
      (Memᴰ.append_cases (printed_after f ps s (line f s names v))
      (subst (λ (ls : List PrintedLine). Memᴰ l ls) (printed_first f ps s names v vs) m))
    where
      after : State
      after = state_after f s (line f s names v)

      go : (Memᴰ l (printed_lines ps (turns f names after vs)) → length l.values ≤ MOST_CHOSEN)
          → Memᴰ l (printed_after f ps s (line f s names v)) ⊎ Memᴰ l (printed_lines ps (turns f names after vs)) → length l.values ≤ MOST_CHOSEN
      go later (inl q) = let n = printed_values f ps s (line f s names v) l q in omega arith
      go later (inr q) = later q

  pub day_rows_full : (s : State) (vs : List (List ℕ)) (row : List ℕ)
      → Memᴰ row (sheet_rows (map is_real_spot ps) (printed_lines ps (turns f names s vs))) → length row ≡ SHEET_COLUMNS
  day_rows_full s vs =
      let n = length-map ps is_real_spot in
      every_row_full (map is_real_spot ps) (printed_lines ps (turns f names s vs)) (omega arith) (narrow s vs)

  pub day_sheet_most : (s : State) (readings : List ℕ) → length (day_sheet ps (turns f names s (record_lines (lines readings)))) ≤ sheet_size readings
  unfolding day_sheet sheet_size
  day_sheet_most s readings =
      let vs = record_lines (lines readings) in
      let n = length-map ps is_real_spot in
      let a = sheet_most (map is_real_spot ps) (printed_lines ps (turns f names s vs)) (omega arith) (narrow s vs) in
      let b = printed_no_more f ps names s vs in
      let c = records_most readings in
      omega arith
