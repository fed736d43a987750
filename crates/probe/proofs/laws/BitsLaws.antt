-- A number by its bits.
use Prim.Native.Nat.{ℕ, suc, ◌/◌, ◌%◌, ◌^◌, ◌≤◌, ◌<◌, suc-le-suc}
use native.Mathlib.Nat.{mod-lt, zero-lt-suc}
use native.Mathlib.Omega.{arith}
use mathlib.Core.Path.{◌≡◌, refl, sym, ◌∙◌}
use mathlib.Core.Bool.{Bool, true, false, false≢true, cond}
use mathlib.Core.List.{List, [], ◌∷◌, map}
use mathlib.Core.Option.{some}
use lib.Dec.{eqb}
use lib.ListN.{length, get_elem?}
use borrow.Author.Tests.{eqb-true, eqb-false}
use Rattle.cell_sets.specs.definitions.Sets.{has_bit}
use Rattle.cell_sets.proofs.laws.BitLaws.{has_bit_suc, has_bit_first, some_bit}
use Rattle.probe.specs.definitions.Tried.{bits_of}

-- a number of m bits that has none is 0
pub no_bits : (m n : ℕ) → n < 2 ^ m → ((k : ℕ) → has_bit n k ≡ false) → n ≡ 0
no_bits m n l none = go (eqb n 0) refl
  where
    never : (k : ℕ) × (k < m) × (has_bit n k ≡ true) → ⊥
    never (k, h, t) = false≢true (sym (none k) ∙ t)

    go : (b : Bool) → eqb n 0 ≡ b → n ≡ 0
    go true e = eqb-true n 0 e
    go false e = absurd (never (some_bit m n l (eqb-false n 0 e)))

low_bit : (n : ℕ) (b : Bool) → eqb (n % 2) 1 ≡ b → n % 2 ≡ cond b 1 0
low_bit n true e = eqb-true (n % 2) 1 e
low_bit n false e =
    let d = eqb-false (n % 2) 1 e in
    let l = mod-lt n (zero-lt-suc 1) in
    omega arith

module _ {A : Type 0} (test : A → Bool) where
  -- a number of m bits, of which there is one for each item of a list, and no other
  pub bits_told : (m : ℕ) (xs : List A) (n : ℕ) → n < 2 ^ m → ((k : ℕ) (x : A) → get_elem? xs k ≡ some x → has_bit n k ≡ test x)
      → ((k : ℕ) → length xs ≤ k → has_bit n k ≡ false) → n ≡ bits_of (map test xs)
  unfolding bits_of
  bits_told m [] n l is none = no_bits m n l (λ k. none k (omega arith))
  bits_told m (x ∷ xs) n l is none =
      let low = low_bit n (test x) (sym (has_bit_first n) ∙ is 0 x refl) in
      let high = bits_told m xs (n / 2) (omega arith) (λ k y e. sym (has_bit_suc n k) ∙ is (suc k) y e)
      (λ k h. sym (has_bit_suc n k) ∙ none (suc k) (suc-le-suc h)) in
      omega arith
