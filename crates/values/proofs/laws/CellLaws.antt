-- Cells in bytes: a stored value is read back, other cells keep theirs, and what is identical is one value.
use mathlib.Core.Path.{◌≡◌, refl, sym, ap, ◌∙◌}
use mathlib.Core.List.{List}
use mathlib.Core.Bool.{Bool, true, false, false≢true}
use mathlib.Core.Logic.{◌⊎◌, inl, inr}
use Prim.Native.Nat.{ℕ, ◌+◌, ◌*◌, ◌≤◌, ◌<◌}
use native.Mathlib.Omega.{arith}
use lib.Dec.{T, ltb, eqb}
use lib.ListN.{length, get_or, set, length-set}
use lib.Seq.{get_or-set_same}
use borrow.Author.Tests.{ltb-true, ltb-false, eq-eqb, eqb-true}
use Rattle.values.specs.declared.Value.{Value}
use Rattle.values.specs.declared.Kind.{Kind}
use Rattle.values.specs.definitions.Storable.{of_kind, storable}
use Rattle.values.specs.definitions.Bytes.{word_at, low_first, overwritten}
use Rattle.values.specs.definitions.Cells.{tag, payload, unpacked, cell_bytes, cell_at, with_cell, identical}
use Rattle.values.proofs.laws.ByteLaws.{length_overwritten, overwritten_below, overwritten_above, word_same, word_back}
use Rattle.values.proofs.laws.StorableLaws.{payload_below, unpacked_packed, unpacked_at_kind, length_cell_bytes}

pub with_cell_bytes : (l : List ℕ) (i : ℕ) (v : Value) → with_cell l i v ≡ overwritten l (i * 9) (cell_bytes v)
with_cell_bytes l i v = refl

pub length_with_cell : (l : List ℕ) (i : ℕ) (v : Value) → length (with_cell l i v) ≡ length l
length_with_cell l i v = length_overwritten l (i * 9) (cell_bytes v)

-- a test of the kind is all that a cell needs
pub cell_storable : (k : Kind) (l : List ℕ) (i : ℕ) → T (of_kind k (cell_at l i)) → T (storable k (cell_at l i))
cell_storable k l i h = unpacked_at_kind k (get_or l (i * 9) 0) (word_at 8 l (i * 9 + 1)) h

pub cell_same : (k : Kind) (l : List ℕ) (i : ℕ) (v : Value) → i * 9 + 9 ≤ length l → T (storable k v) → cell_at (with_cell l i v) i ≡ v
cell_same k l i v p h =
    let m = set l (i * 9) (tag v) in
    let bs = low_first 8 (payload v) in
    ap (λ (t : ℕ). unpacked t (word_at 8 (overwritten m (i * 9 + 1) bs) (i * 9 + 1)))
    (overwritten_below m (i * 9 + 1) bs (i * 9) (omega arith) ∙ get_or-set_same l (i * 9) (tag v) 0 (omega arith))
    ∙ ap (unpacked (tag v)) (word_back 8 m (i * 9 + 1) (payload v) (simp length-set (omega arith)) (payload_below k v h))
    ∙ unpacked_packed k v h

-- every byte outside cell i stays
pub cell_outside : (l : List ℕ) (i : ℕ) (v : Value) (n : ℕ) → (n < i * 9) ⊎ (i * 9 + 9 ≤ n) → get_or (with_cell l i v) n 0 ≡ get_or l n 0
cell_outside l i v n (inl h) = overwritten_below l (i * 9) (cell_bytes v) n h
cell_outside l i v n (inr h) = overwritten_above l (i * 9) (cell_bytes v) n (rw (length_cell_bytes v) h)

pub cell_other : (l : List ℕ) (i j : ℕ) (v : Value) → (i ≡ j → ⊥) → cell_at (with_cell l i v) j ≡ cell_at l j
cell_other l i j v d =
    rw (
      cell_outside l i v (j * 9) (side (j * 9) (omega arith) (omega arith)),
      word_same 8 (with_cell l i v) l (j * 9 + 1) (λ n p q. cell_outside l i v n (side n (omega arith) (omega arith))),
    )
  where
    side : (n : ℕ) → j * 9 ≤ n → n < j * 9 + 9 → (n < i * 9) ⊎ (i * 9 + 9 ≤ n)
    side n p q = go (ltb j i) refl
      where
        go : (b : Bool) → ltb j i ≡ b → (n < i * 9) ⊎ (i * 9 + 9 ≤ n)
        go true e = let h = ltb-true j i e in inl (omega arith)
        go false e = let h = ltb-false j i e in inr (omega arith)

pub identical_self : (a : Value) → identical a a ≡ true
identical_self a = rw (eq-eqb (tag a) (tag a) refl, eq-eqb (payload a) (payload a) refl)

pub identical_same : (j k : Kind) (a b : Value) → T (storable j a) → T (storable k b) → identical a b ≡ true → a ≡ b
identical_same j k a b p q h = go (eqb (tag a) (tag b)) refl
  where
    go : (t : Bool) → eqb (tag a) (tag b) ≡ t → a ≡ b
    go true e =
        let w = eqb-true (payload a) (payload b) (rw e at h) in
        sym (unpacked_packed j a p) ∙ rw (eqb-true (tag a) (tag b) e, w) (unpacked_packed k b q)
    go false e = absurd (false≢true (rw e at h))
