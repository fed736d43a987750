-- The closing rows: sizes, and how they are put.
use mathlib.Core.Path.{◌≡◌, refl, sym, ap, ◌∙◌}
use mathlib.Core.List.{List, [], ◌∷◌, ◌++◌, append_assoc, append-nil}
use mathlib.Core.Bool.{Bool, true, false, cond}
use Prim.Native.Nat.{ℕ, suc, ◌+◌, ◌-◌, ◌*◌, ◌≤◌, ◌<◌, zero-le}
use native.Mathlib.Nat.{add-zero}
use native.Mathlib.Numerals.{add-one}
use native.Mathlib.Omega.{arith}
use lib.Dec.{lit≤}
use lib.Ieee.{Float}
use lib.ListN.{length, get_or, take, replicate, length-append}
use lib.Seq.{take-suc, length-take-le}
use Rattle.values.specs.declared.Value.{Value}
use Rattle.values.specs.declared.Value.TheVariants.{Real, Unset}
use Rattle.values.specs.inner_contracts.Puts.{Put}
use Rattle.values.proofs.laws.PutLaws.{put_none, put_same}
use Rattle.sheets.specs.declared.Fold.{Fold}
use Rattle.sheets.specs.definitions.Layout.{SHEET_COLUMNS, NUMBER_COLUMNS, CELL_COLUMNS, MOST_CHOSEN, right_aligned}
use Rattle.sheets.specs.definitions.Rows.{half}
use Rattle.sheets.specs.definitions.Closing.{column_row, two_rows, closing_rows, all_closing_rows}
use Rattle.sheets.specs.definitions.Sheet.{with_feeds}
use Rattle.sheets.specs.definitions.Sizes.{SHEET_ROW_BYTES, MOST_LINE_BYTES, MOST_CLOSING_BYTES}
use Rattle.sheets.proofs.laws.LayoutLaws.{length_right, length_filled, right_end}
use Rattle.sheets.proofs.laws.FedRows.{Full, full_none, full_cons, full_append, fed_none, fed_most, rows_next, rows_end, row_put}
use Rattle.sheets.proofs.laws.RowLaws.{half_most}

-- ---- one column

module _ (k : ℕ) (below : Bool) (v : Value) where
  pub column_text_end : {l m : List ℕ} {at r : ℕ} → Put (right_aligned (NUMBER_COLUMNS + CELL_COLUMNS * (k + 1)) (half below v)) l at m r
      → r ≡ at + (NUMBER_COLUMNS + CELL_COLUMNS * (k + 1))
  column_text_end p = right_end (NUMBER_COLUMNS + CELL_COLUMNS * (k + 1)) (half below v) (omega (arith, half_most below v)) p

  pub column_put : {l m n : List ℕ} {at end r : ℕ} → Put (right_aligned (NUMBER_COLUMNS + CELL_COLUMNS * (k + 1)) (half below v)) l at m end
      → Put (replicate (at + SHEET_COLUMNS - end) 32 ++ 10 ∷ []) m end n r → Put (with_feeds (column_row k below v ∷ [])) l at n r
  unfolding column_row
  column_put p q = row_put (right_aligned (NUMBER_COLUMNS + CELL_COLUMNS * (k + 1)) (half below v)) p q

  length_column : k < MOST_CHOSEN → length (column_row k below v) ≡ SHEET_COLUMNS
  unfolding column_row
  length_column h =
      let w = NUMBER_COLUMNS + CELL_COLUMNS * (k + 1) in
      let e = length_right w (half below v) (omega (arith, half_most below v)) in
      length_filled (right_aligned w (half below v)) (omega arith)

  pub column_end : {l m : List ℕ} {at r : ℕ} → k < MOST_CHOSEN → Put (with_feeds (column_row k below v ∷ [])) l at m r → r ≡ at + SHEET_ROW_BYTES
  column_end h p = rows_end (column_row k below v ∷ []) (full_cons (length_column h) full_none) p

module _ (k : ℕ) (x : Float) where
  pub two_rows_put : {l m n : List ℕ} {at b r : ℕ} → Put (with_feeds (column_row k false (Real x) ∷ [])) l at m b
      → Put (with_feeds (column_row k true (Real x) ∷ [])) m b n r → Put (with_feeds (two_rows k x)) l at n r
  unfolding two_rows
  two_rows_put p q = rows_next (column_row k false (Real x) ∷ []) (column_row k true (Real x) ∷ []) p q

  two_rows_full : k < MOST_CHOSEN → Full (two_rows k x)
  unfolding two_rows
  two_rows_full h = full_cons (length_column k false (Real x) h) (full_cons (length_column k true (Real x) h) full_none)

  two_rows_count : length (two_rows k x) ≡ 2
  unfolding two_rows
  two_rows_count = refl

  pub two_rows_end : {l m : List ℕ} {at r : ℕ} → k < MOST_CHOSEN → Put (with_feeds (two_rows k x)) l at m r → r ≡ at + MOST_LINE_BYTES
  two_rows_end h p = rows_end (two_rows k x) (two_rows_full h) p ∙ rw two_rows_count

module _ (k : ℕ) (f : Fold) where
  abbrev found_rows : List (List ℕ)
  found_rows = two_rows k f.lowest ++ (two_rows k f.highest ++ two_rows k f.last)

  abbrev none_row : List ℕ
  none_row = column_row k false Unset

  closing_of_found : f.found ≡ true → closing_rows k f ≡ found_rows
  unfolding closing_rows
  closing_of_found e = rw e

  closing_of_none : f.found ≡ false → closing_rows k f ≡ none_row ∷ none_row ∷ none_row ∷ []
  unfolding closing_rows
  closing_of_none e = rw e

  pub found_put : {l m n o : List ℕ} {at a b r : ℕ} → f.found ≡ true → Put (with_feeds (two_rows k f.lowest)) l at m a
      → Put (with_feeds (two_rows k f.highest)) m a n b → Put (with_feeds (two_rows k f.last)) n b o r → Put (with_feeds (closing_rows k f)) l at o r
  found_put e p q s =
      let t = rows_next (two_rows k f.highest) (two_rows k f.last) q s in
      put_same (rows_next (two_rows k f.lowest) (two_rows k f.highest ++ two_rows k f.last) p t) (ap with_feeds (sym (closing_of_found e)))

  pub none_put : {l m n o : List ℕ} {at a b r : ℕ} → f.found ≡ false → Put (with_feeds (none_row ∷ [])) l at m a
      → Put (with_feeds (none_row ∷ [])) m a n b → Put (with_feeds (none_row ∷ [])) n b o r → Put (with_feeds (closing_rows k f)) l at o r
  none_put e p q s =
      let t = rows_next (none_row ∷ []) (none_row ∷ []) q s in
      put_same (rows_next (none_row ∷ []) (none_row ∷ none_row ∷ []) p t) (ap with_feeds (sym (closing_of_none e)))

  closing_full : k < MOST_CHOSEN → Full (closing_rows k f)
  closing_full h = go f.found refl
    where
      two : (x : Float) → Full (two_rows k x)
      two x = two_rows_full k x h

      one : length none_row ≡ SHEET_COLUMNS
      one = length_column k false Unset h

      go : (t : Bool) → f.found ≡ t → Full (closing_rows k f)
      go true e =
          rw (closing_of_found e)
          (full_append (two_rows k f.lowest) (two f.lowest) (full_append (two_rows k f.highest) (two f.highest) (two f.last)))
      go false e = rw (closing_of_none e) (full_cons one (full_cons one (full_cons one full_none)))

  closing_count : length (closing_rows k f) ≤ 6
  closing_count = go f.found refl
    where
      go : (t : Bool) → f.found ≡ t → length (closing_rows k f) ≤ 6
      go true e =
          rw (
            closing_of_found e,
            length-append (two_rows k f.lowest) (two_rows k f.highest ++ two_rows k f.last),
            length-append (two_rows k f.highest) (two_rows k f.last),
            two_rows_count k f.lowest,
            two_rows_count k f.highest,
            two_rows_count k f.last,
          )
          (lit≤ tt)
      go false e = rw (closing_of_none e) (lit≤ tt)

-- ---- a column that may be real

pub real_put : (real : Bool) (rows : List (List ℕ)) {l m : List ℕ} {at r : ℕ} → real ≡ true → Put (with_feeds rows) l at m r
    → Put (with_feeds (cond real rows [])) l at m r
real_put real rows e p = rw e p

pub not_real_put : (real : Bool) (rows : List (List ℕ)) (l : List ℕ) (at : ℕ) → real ≡ false → Put (with_feeds (cond real rows [])) l at l at
not_real_put real rows l at e = rw e (put_same (put_none l at) (sym fed_none))

if_real_full : (real : Bool) (k : ℕ) (f : Fold) → k < MOST_CHOSEN → Full (cond real (closing_rows k f) [])
if_real_full true k f h = closing_full k f h
if_real_full false k f h = full_none

if_real_count : (real : Bool) (k : ℕ) (f : Fold) → length (cond real (closing_rows k f) []) ≤ 6
if_real_count true k f = closing_count k f
if_real_count false k f = zero-le

-- ---- all columns

pub closings_full : (k : ℕ) (bs : List Bool) (fs : List Fold) → k + length bs ≤ MOST_CHOSEN → Full (all_closing_rows k bs fs)
unfolding all_closing_rows
closings_full k [] fs h = full_none
closings_full k (b ∷ bs) [] h = full_none
closings_full k (b ∷ bs) (f ∷ fs) h =
    full_append (cond b (closing_rows k f) []) (if_real_full b k f (omega arith)) (closings_full (suc k) bs fs (omega arith))

closings_count : (k : ℕ) (bs : List Bool) (fs : List Fold) → length (all_closing_rows k bs fs) ≤ 6 * length bs
unfolding all_closing_rows
closings_count k [] fs = zero-le
closings_count k (b ∷ bs) [] = zero-le
closings_count k (b ∷ bs) (f ∷ fs) =
    let m = if_real_count b k f in
    let r = closings_count (suc k) bs fs in
    rw (length-append (cond b (closing_rows k f) []) (all_closing_rows (suc k) bs fs)) (omega arith)

-- 486 bytes for each column
pub closings_most : (bs : List Bool) (fs : List Fold) → length bs ≤ MOST_CHOSEN → length (with_feeds (all_closing_rows 0 bs fs)) ≤ MOST_CLOSING_BYTES * length bs
closings_most bs fs h =
    let m = fed_most (all_closing_rows 0 bs fs) (6 * length bs) (closings_full 0 bs fs (omega arith)) (closings_count 0 bs fs) in
    omega arith

-- column k + length bs after the columns bs; fs may have folds of more columns
closings_snoc : (k : ℕ) (bs : List Bool) (fs : List Fold) (b : Bool) (d : Fold) → length bs < length fs
    → all_closing_rows k (bs ++ (b ∷ [])) fs ≡ all_closing_rows k bs fs ++ cond b (closing_rows (k + length bs) (get_or fs (length bs) d)) []
unfolding all_closing_rows
closings_snoc k [] [] b d h = absurd (none h)
  where
    none : 0 < 0 → ⊥
    none h = omega arith
closings_snoc k [] (f ∷ fs) b d h = rw (add-zero k) (append-nil (cond b (closing_rows k f) []))
closings_snoc k (a ∷ bs) [] b d h = absurd (none (length bs) h)
  where
    none : (n : ℕ) → suc n < 0 → ⊥
    none n h = omega arith
closings_snoc k (a ∷ bs) (f ∷ fs) b d h =
    let l : length bs < length fs = omega arith in
    let e : suc k + length bs ≡ k + suc (length bs) = omega arith in
    let here = cond a (closing_rows k f) [] in
    rw (closings_snoc (suc k) bs fs b d l, e)
    (sym (append_assoc here (all_closing_rows (suc k) bs fs) (cond b (closing_rows (k + suc (length bs)) (get_or fs (length bs) d)) [])))

pub closings_none : (l : List ℕ) (at : ℕ) (fs : List Fold) → Put (with_feeds (all_closing_rows 0 [] fs)) l at l at
unfolding all_closing_rows
closings_none l at fs = put_same (put_none l at) (sym fed_none)

pub closings_next : (bs : List Bool) (fs : List Fold) (k : ℕ) (b : Bool) (d : Fold) {l m n : List ℕ} {at a r : ℕ} → k < length bs → k < length fs
    → Put (with_feeds (all_closing_rows 0 (take k bs) fs)) l at m a → Put (with_feeds (cond (get_or bs k b) (closing_rows k (get_or fs k d)) [])) m a n r
    → Put (with_feeds (all_closing_rows 0 (take (k + 1) bs) fs)) l at n r
closings_next bs fs k b d p q x y =
    let real = get_or bs k b in
    let n : length (take k bs) ≡ k = length-take-le k bs (omega arith) in
    let z : 0 + length (take k bs) ≡ k = omega arith in
    let s = closings_snoc 0 (take k bs) fs real d (rw n q) in
    let t = rw (z, n) at s in
    let e : all_closing_rows 0 (take (k + 1) bs) fs ≡ all_closing_rows 0 (take k bs) fs ++ cond real (closing_rows k (get_or fs k d)) [] =
    rw (add-one k, take-suc bs k b p) t in
    put_same (rows_next (all_closing_rows 0 (take k bs) fs) (cond real (closing_rows k (get_or fs k d)) []) x y) (ap with_feeds (sym e))

pub closings_end : (bs : List Bool) (fs : List Fold) (k : ℕ) {l m : List ℕ} {at a : ℕ} → k ≤ MOST_CHOSEN → k ≤ length bs
    → Put (with_feeds (all_closing_rows 0 (take k bs) fs)) l at m a → a ≤ at + MOST_CLOSING_BYTES * k
closings_end bs fs k h p q =
    let n = length-take-le k bs p in
    omega (arith, q.end, closings_most (take k bs) fs (omega arith))
