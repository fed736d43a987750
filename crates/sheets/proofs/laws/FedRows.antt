-- Rows closed by line feeds, one after another; full rows are as wide as the sheet.
use mathlib.Core.Path.{◌≡◌, refl, sym, ap, ◌∙◌}
use mathlib.Core.Logic.{◌⊎◌, inl, inr}
use mathlib.Core.List.Memᴰ
use mathlib.Core.List.{
  List,
  [],
  ◌∷◌,
  ◌++◌,
  flat_map,
  append_assoc,
  append-nil,
  Memᴰ,
}
use Prim.Native.Nat.{ℕ, ◌+◌, ◌-◌, ◌*◌, ◌≤◌}
use native.Mathlib.Omega.{arith}
use lib.ListN.{length, replicate, length-append}
use Rattle.values.specs.inner_contracts.Puts.{Put}
use Rattle.values.proofs.laws.PutLaws.{put_next, put_same}
use Rattle.sheets.specs.definitions.Layout.{SHEET_COLUMNS, filled}
use Rattle.sheets.specs.definitions.Sheet.{with_feeds}
use Rattle.sheets.specs.definitions.Sizes.{SHEET_ROW_BYTES}

-- ---- line feeds

pub fed_none : with_feeds [] ≡ []
unfolding with_feeds flat_map
fed_none = refl

pub fed_one : (r : List ℕ) → with_feeds (r ∷ []) ≡ r ++ 10 ∷ []
unfolding with_feeds flat_map
fed_one r = append-nil (r ++ 10 ∷ [])

pub fed_append : (xs ys : List (List ℕ)) → with_feeds (xs ++ ys) ≡ with_feeds xs ++ with_feeds ys
unfolding with_feeds flat_map
fed_append [] ys = refl
fed_append (x ∷ xs) ys =
    ap (λ (l : List ℕ). (x ++ 10 ∷ []) ++ l) (fed_append xs ys) ∙ sym (append_assoc (x ++ 10 ∷ []) (with_feeds xs) (with_feeds ys))

-- rows put after rows
pub rows_next : (xs ys : List (List ℕ)) {l m n : List ℕ} {at a r : ℕ} → Put (with_feeds xs) l at m a → Put (with_feeds ys) m a n r
    → Put (with_feeds (xs ++ ys)) l at n r
rows_next xs ys p q = put_same (put_next p q) (sym (fed_append xs ys))

-- a text that is put, filled and closed is a row
pub row_put : (t : List ℕ) {l m n : List ℕ} {at end r : ℕ} → Put t l at m end
    → Put (replicate (at + SHEET_COLUMNS - end) 32 ++ 10 ∷ []) m end n r → Put (with_feeds (filled t ∷ [])) l at n r
unfolding filled
row_put t {at = at} {end = end} p q =
    let e : at + SHEET_COLUMNS - end ≡ SHEET_COLUMNS - length t = omega (arith, p.end) in
    put_same (put_next p (rw e at q)) (sym (fed_one (filled t) ∙ append_assoc t (replicate (SHEET_COLUMNS - length t) 32) (10 ∷ [])))

-- ---- full rows

abbrev pub Full : List (List ℕ) → Type 0
Full rows = (r : List ℕ) → Memᴰ r rows → length r ≡ SHEET_COLUMNS

pub full_none : Full []
full_none r m = absurd (Memᴰ.not-nil m)

pub full_cons : {x : List ℕ} {xs : List (List ℕ)} → length x ≡ SHEET_COLUMNS → Full xs → Full (x ∷ xs)
full_cons {x} {xs} h g r m = go (Memᴰ.cases_cons m)
  where
    go : (r ≡ x) ⊎ Memᴰ r xs → length r ≡ SHEET_COLUMNS
    go (inl e) = ap length e ∙ h
    go (inr n) = g r n

pub full_append : (xs : List (List ℕ)) {ys : List (List ℕ)} → Full xs → Full ys → Full (xs ++ ys)
full_append xs {ys} h g r m = go (Memᴰ.append_cases xs m)
  where
    go : Memᴰ r xs ⊎ Memᴰ r ys → length r ≡ SHEET_COLUMNS
    go (inl n) = h r n
    go (inr n) = g r n

pub length_fed : (rows : List (List ℕ)) → Full rows → length (with_feeds rows) ≡ SHEET_ROW_BYTES * length rows
unfolding with_feeds flat_map
length_fed [] h = refl
length_fed (r ∷ rows) h =
    let e = h r (Memᴰ.head refl) in
    let i = length_fed rows (λ x m. h x (Memᴰ.tail m)) in
    rw (length-append (r ++ 10 ∷ []) (with_feeds rows), length-append r (10 ∷ []), i, e) (omega arith)

pub fed_most : (rows : List (List ℕ)) (n : ℕ) → Full rows → length rows ≤ n → length (with_feeds rows) ≤ SHEET_ROW_BYTES * n
fed_most rows n f h = rw (length_fed rows f) (omega arith)

pub rows_end : (rows : List (List ℕ)) {l m : List ℕ} {at r : ℕ} → Full rows → Put (with_feeds rows) l at m r → r ≡ at + SHEET_ROW_BYTES * length rows
rows_end rows f p = p.end ∙ rw (length_fed rows f)
