-- The rows that have a number in common with a set, byte by byte of the set.
use Prim.Native.Nat.{ℕ, ◌+◌, ◌*◌, ◌/◌, ◌%◌, ◌≤◌, ◌<◌}
use native.Mathlib.Nat.{mul-suc, mul-le-mul_left}
use native.Mathlib.Numerals.{add-one}
use native.Mathlib.Omega.{arith}
use mathlib.Core.Path.{◌≡◌, refl, sym, ap, ◌∙◌, subst}
use mathlib.Core.List.{List}
use mathlib.Core.Bool.{Bool, true, false, not, ◌||◌, or-true, false≢true}
use mathlib.Core.Logic.{inr}
use lib.Bits.{bit_and, and_comm}
use lib.Dec.{eqb, ltb}
use lib.ListN.{get_or}
use Prim.Native.Nat.{zero-le}
use borrow.Author.Tests.{eq-eqb, ne_eqb, eqb-false, ltb-true, ltb-false, not-true}
use Rattle.cell_sets.specs.definitions.Sets.{has_bit, is_in}
use Rattle.cell_sets.specs.inner_contracts.Adding.{Added}
use Rattle.cell_sets.specs.inner_contracts.Meeting.{row_has, Met, byte_meets}
use Rattle.cell_sets.proofs.laws.BitLaws.{has_bit_zero, and_meets, meets_and}

-- a row more
pub row_next : (size k : ℕ) → size * (k + 1) ≡ size * k + size
row_next size k = ap (λ (x : ℕ). size * x) (add-one k) ∙ mul-suc size k

-- row number k, of so many, ends where they end or before
pub row_within : (size k count : ℕ) → k < count → size * k + size ≤ size * count
row_within size k count h = subst (λ (x : ℕ). x ≤ size * count) (mul-suc size k) (mul-le-mul_left size h)

-- ---- the tests of a byte

module _ (rows : List ℕ) (at size byte k p : ℕ) (e : p ≡ at + size * k) where
  pub meets_here : (bit_and (get_or rows p 0) byte ≡ 0 → ⊥) → byte_meets rows at size byte k ≡ true
  unfolding byte_meets
  meets_here d = rw (← e, ne_eqb (bit_and (get_or rows p 0) byte) 0 d)

  pub apart_here : bit_and (get_or rows p 0) byte ≡ 0 → byte_meets rows at size byte k ≡ false
  unfolding byte_meets
  apart_here z = rw (← e, eq-eqb (bit_and (get_or rows p 0) byte) 0 z)

pub bits_same : {passes : ℕ → Bool} {first end : ℕ} {before : ℕ → Bool} {r s : ℕ} → s ≡ r → Added passes first end before (has_bit r)
    → Added passes first end before (has_bit s)
bits_same {passes} {first} {end} {before} e a = subst (λ (n : ℕ). Added passes first end before (has_bit n)) (sym e) a

-- ---- one byte after another

-- what the bytes below number j say
pub record MetBelow (rows : List ℕ) (base size count : ℕ) (set : List ℕ) (j r : ℕ) : Type 0 where
  pub common : (k : ℕ) → k < count → has_bit r k ≡ true → (i : ℕ) × (i < 8 * j) × (row_has rows base size k i ≡ true) × (is_in set i ≡ true)
  pub meets : (k : ℕ) → k < count → (i : ℕ) → i < 8 * j → row_has rows base size k i ≡ true → is_in set i ≡ true → has_bit r k ≡ true
  pub none : (k : ℕ) → count ≤ k → has_bit r k ≡ false

-- by the byte that has number i
module _ (set : List ℕ) (j i : ℕ) (s : i / 8 ≡ j) where
  in_byte : is_in set i ≡ has_bit (get_or set j 0) (i % 8)
  unfolding is_in
  in_byte = ap (λ (x : ℕ). has_bit (get_or set x 0) (i % 8)) s

  row_byte : (rows : List ℕ) (base size k : ℕ) → row_has rows base size k i ≡ has_bit (get_or rows (base + j + size * k) 0) (i % 8)
  unfolding row_has
  row_byte rows base size k =
      let e : base + size * k + i / 8 ≡ base + j + size * k = omega arith in ap (λ (x : ℕ). has_bit (get_or rows x 0) (i % 8)) e

module _ {rows : List ℕ} {base size count : ℕ} {set : List ℕ} where
  pub met_begin : MetBelow rows base size count set 0 0
  met_begin = record {
    common = λ k h t. absurd (false≢true (sym (has_bit_zero k) ∙ t));
    meets = λ k h i l p q. absurd (omega arith);
    none = λ k h. has_bit_zero k;
  }

  pub met_same : {j r s : ℕ} → s ≡ r → MetBelow rows base size count set j r → MetBelow rows base size count set j s
  met_same {j} e m = subst (λ (n : ℕ). MetBelow rows base size count set j n) (sym e) m

  pub met_end : {j r : ℕ} → j ≡ size → MetBelow rows base size count set j r → Met rows base size count set r
  met_end {j} {r} e m = record {
    common = λ k h t. within k (m.common k h t);
    meets = λ k h i l. m.meets k h i (omega arith);
    none = m.none;
  }
    where
      within : (k : ℕ) → (i : ℕ) × (i < 8 * j) × (row_has rows base size k i ≡ true) × (is_in set i ≡ true)
          → (i : ℕ) × (i < 8 * size) × (row_has rows base size k i ≡ true) × (is_in set i ≡ true)
      within k (i, l, p, q) = (i, omega arith, p, q)

  module _ {j r : ℕ} (m : MetBelow rows base size count set j r) where
    wider : (k : ℕ) → (i : ℕ) × (i < 8 * j) × (row_has rows base size k i ≡ true) × (is_in set i ≡ true)
        → (i : ℕ) × (i < 8 * (j + 1)) × (row_has rows base size k i ≡ true) × (is_in set i ≡ true)
    wider k (i, l, p, q) = (i, omega arith, p, q)

    -- a byte of the set that is 0
    pub met_skip : get_or set j 0 ≡ 0 → MetBelow rows base size count set (j + 1) r
    met_skip z = record {
      common = λ k h t. wider k (m.common k h t);
      meets = λ k h i l p q. m.meets k h i (below i l q (ltb i (8 * j)) refl) p q;
      none = m.none;
    }
      where
        below : (i : ℕ) → i < 8 * (j + 1) → is_in set i ≡ true → (b : Bool) → ltb i (8 * j) ≡ b → i < 8 * j
        below i l q true e = ltb-true i (8 * j) e
        below i l q false e =
            let g = ltb-false i (8 * j) e in
            let s : i / 8 ≡ j = omega arith in
            absurd (false≢true (sym (in_byte set j i s ∙ ap (λ (x : ℕ). has_bit x (i % 8)) z ∙ has_bit_zero (i % 8)) ∙ q))

    -- a byte of the set, and the rows that it meets
    pub met_next : {after : ℕ} → get_or set j 0 < 256 → Added (byte_meets rows (base + j) size (get_or set j 0)) 0 count (has_bit r) (has_bit after)
        → MetBelow rows base size count set (j + 1) after
    unfolding byte_meets
    met_next {after} small a = record {
      common = λ k h t. by_row k (has_bit r k) refl h (sym (a.inside k zero-le h) ∙ t);
      meets = λ k h i l p q. a.inside k zero-le h ∙ by_side k h i l p q (ltb i (8 * j)) refl;
      none = λ k h. a.outside k (inr h) ∙ m.none k h;
    }
      where
        -- the byte of row number k
        row : ℕ → ℕ
        row k = get_or rows (base + j + size * k) 0

        found : (k : ℕ) → (b : ℕ) × (b < 8) × (has_bit (get_or set j 0) b ≡ true) × (has_bit (row k) b ≡ true)
            → (i : ℕ) × (i < 8 * (j + 1)) × (row_has rows base size k i ≡ true) × (is_in set i ≡ true)
        found k (b, l, p, q) =
            let i = 8 * j + b in
            let s : (8 * j + b) / 8 ≡ j = omega arith in
            let o : (8 * j + b) % 8 ≡ b = omega arith in
            (i, omega arith, row_byte set j i s rows base size k ∙ ap (has_bit (row k)) o ∙ q, in_byte set j i s ∙ ap (has_bit (get_or set j 0)) o ∙ p)

        by_row : (k : ℕ) (b : Bool) → has_bit r k ≡ b → k < count → (has_bit r k || not (eqb (bit_and (row k) (get_or set j 0)) 0)) ≡ true
            → (i : ℕ) × (i < 8 * (j + 1)) × (row_has rows base size k i ≡ true) × (is_in set i ≡ true)
        by_row k true e h t = wider k (m.common k h e)
        by_row k false e h t =
            let d = eqb-false (bit_and (row k) (get_or set j 0)) 0 (not-true (eqb (bit_and (row k) (get_or set j 0)) 0) (rw e at t)) in
            found k (meets_and 8 (get_or set j 0) (row k) small (λ z. d (and_comm (row k) (get_or set j 0) ∙ z)))

        by_side : (k : ℕ) → k < count → (i : ℕ) → i < 8 * (j + 1) → row_has rows base size k i ≡ true → is_in set i ≡ true
            → (b : Bool) → ltb i (8 * j) ≡ b → (has_bit r k || not (eqb (bit_and (row k) (get_or set j 0)) 0)) ≡ true
        by_side k h i l p q true e = rw (m.meets k h i (ltb-true i (8 * j) e) p q)
        by_side k h i l p q false e =
            let g = ltb-false i (8 * j) e in
            let s : i / 8 ≡ j = omega arith in
            let d = and_meets (row k) (get_or set j 0) (i % 8) (sym (row_byte set j i s rows base size k) ∙ p) (sym (in_byte set j i s) ∙ q) in
            ap (λ (x : Bool). has_bit r k || not x) (ne_eqb (bit_and (row k) (get_or set j 0)) 0 d) ∙ or-true (has_bit r k)
