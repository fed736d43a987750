-- Laws of rows of columns: row by row from the front, one more row at the end, and a column alone.
use mathlib.Core.Path.{◌≡◌, refl, ap, ◌∙◌}
use mathlib.Core.List.{List, [], ◌∷◌, ◌++◌, map}
use Prim.Native.Nat.{ℕ, zero, suc, ◌+◌, ◌<◌, ◌≤◌}
use native.Mathlib.Nat.{add-zero, zero-add}
use native.Mathlib.Numerals.{add-one}
use native.Mathlib.Omega.{arith}
use lib.ListN.{length, get_or, set, take, drop, drop_of_length-le}
use lib.Seq.{get_or-set_same, get_or-set_other}
use Rattle.text.specs.definitions.Tokens.{Token}
use Rattle.text.specs.inner_contracts.TokenTable.{TokenColumns, columns_of, row_token, rows_from, rows}
use Rattle.text.proofs.laws.RunLaws.{byte_at}

next : (i k : ℕ) → i + 1 + k ≡ i + suc k
next i k = omega arith

module _ (t : TokenColumns) (text : List ℕ) where
  length_rows_from : (i n : ℕ) → length (rows_from i n t text) ≡ n
  unfolding rows_from
  length_rows_from i zero = refl
  length_rows_from i (suc n) = ap suc (length_rows_from (i + 1) n)

  drop_rows_from : (i n k : ℕ) → k < n → drop k (rows_from i n t text) ≡ row_token t text (i + k) ∷ drop (suc k) (rows_from i n t text)
  unfolding rows_from
  drop_rows_from i zero k h = absurd (omega arith)
  drop_rows_from i (suc n) zero h = rw (add-zero i)
  drop_rows_from i (suc n) (suc k) h =
      drop_rows_from (i + 1) n k (omega arith) ∙ ap (λ (j : ℕ). row_token t text j ∷ drop (suc k) (rows_from (i + 1) n t text)) (next i k)

  snoc_rows_from : (i n : ℕ) → rows_from i (suc n) t text ≡ rows_from i n t text ++ (row_token t text (i + n) ∷ [])
  unfolding rows_from
  snoc_rows_from i zero = rw (add-zero i)
  snoc_rows_from i (suc n) = ap (◌∷◌ (row_token t text i)) (snoc_rows_from (i + 1) n ∙ rw (next i n))

  -- what f gives of the rows is a column, if it is so of each row
  column_from : (f : Token → ℕ) (col : List ℕ) → ((k : ℕ) → f (row_token t text k) ≡ get_or col k 0) → (i n : ℕ) → i + n ≤ length col
      → map f (rows_from i n t text) ≡ take n (drop i col)
  unfolding rows_from
  column_from f col e i zero h = refl
  column_from f col e i (suc n) h = rw (byte_at col i (omega arith), e i) (ap (◌∷◌ (get_or col i 0)) (column_from f col e (i + 1) n (omega arith)))

-- two tables with the same rows
rows_from_same : (t u : TokenColumns) (text : List ℕ) (i n : ℕ) → ((k : ℕ) → k < i + n → row_token t text k ≡ row_token u text k)
    → rows_from i n t text ≡ rows_from i n u text
unfolding rows_from
rows_from_same t u text i zero h = refl
rows_from_same t u text i (suc n) h = rw (h i (omega arith)) (ap (◌∷◌ (row_token u text i)) (rows_from_same t u text (i + 1) n (λ k l. h k (omega arith))))

module _ (n : ℕ) (t : TokenColumns) (text : List ℕ) where
  pub length_rows : length (rows n t text) ≡ n
  unfolding rows
  length_rows = length_rows_from t text 0 n

  pub drop_rows : (i : ℕ) → i < n → drop i (rows n t text) ≡ row_token t text i ∷ drop (i + 1) (rows n t text)
  unfolding rows
  drop_rows i h = rw add-one (drop_rows_from t text 0 n i h ∙ rw zero-add)

  pub drop_rows_past : (i : ℕ) → n ≤ i → drop i (rows n t text) ≡ []
  drop_rows_past i h = drop_of_length-le (rows n t text) {i = i} (rw length_rows h)

  pub rows_class : n ≤ length t.classes → map (λ (u : Token). u.class) (rows n t text) ≡ take n t.classes
  unfolding rows row_token
  rows_class h = column_from t text (λ (u : Token). u.class) t.classes (λ k. refl) 0 n (omega arith)

  pub rows_offset : n ≤ length t.offsets → map (λ (u : Token). u.at) (rows n t text) ≡ take n t.offsets
  unfolding rows row_token
  rows_offset h = column_from t text (λ (u : Token). u.at) t.offsets (λ k. refl) 0 n (omega arith)

  pub rows_value : n ≤ length t.values → map (λ (u : Token). u.value) (rows n t text) ≡ take n t.values
  unfolding rows row_token
  rows_value h = column_from t text (λ (u : Token). u.value) t.values (λ k. refl) 0 n (omega arith)

-- a row put after the first n
module _ (text cs os ls vs : List ℕ) (n c o l v : ℕ) where
  abbrev put : TokenColumns
  put = columns_of (set cs n c) (set os n o) (set ls n l) (set vs n v)

  row_put : n < length cs → n < length os → n < length ls → n < length vs
      → row_token put text n ≡ record { class = c; at = o; bytes = take l (drop o text); value = v }
  unfolding row_token
  row_put hc ho hl hv = rw (get_or-set_same cs n c 0 hc, get_or-set_same os n o 0 ho, get_or-set_same ls n l 0 hl, get_or-set_same vs n v 0 hv)

  row_kept : (k : ℕ) → k < n → row_token put text k ≡ row_token (columns_of cs os ls vs) text k
  unfolding row_token
  row_kept k h =
      let other : k ≡ n → ⊥ = λ e. omega arith in
      rw (get_or-set_other cs n k c 0 other, get_or-set_other os n k o 0 other, get_or-set_other ls n k l 0 other, get_or-set_other vs n k v 0 other)

  pub rows_put : n < length cs → n < length os → n < length ls → n < length vs
      → rows (n + 1) put text ≡ rows n (columns_of cs os ls vs) text ++ (record { class = c; at = o; bytes = take l (drop o text); value = v } ∷ [])
  unfolding rows
  rows_put hc ho hl hv =
      let kept = rows_from_same put (columns_of cs os ls vs) text 0 n (λ k h. row_kept k (omega arith)) in
      rw (add-one n, snoc_rows_from put text 0 n, zero-add, row_put hc ho hl hv, kept)
