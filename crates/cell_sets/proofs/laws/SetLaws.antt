-- Sets in memory: the empty one, and a number put into one.
use Prim.Native.Nat.{ℕ, zero, suc, ◌+◌, ◌/◌, ◌%◌, ◌^◌, ◌<◌}
use native.Mathlib.Nat.{zero-add}
use native.Mathlib.Omega.{arith}
use mathlib.Core.Path.{◌≡◌, refl, sym, ap, ◌∙◌}
use mathlib.Core.List.{List}
use mathlib.Core.Bool.{Bool, true, false, ◌||◌, or-false}
use lib.Bits.{bit_or}
use lib.Dec.{eqb}
use lib.ListN.{length, get_or, set, replicate, length-set}
use lib.Seq.{get_or-set_same, get_or-set_other}
use borrow.Author.Tests.{eq-eqb, ne_eqb, eqb-true, eqb-false}
use Rattle.cell_sets.specs.definitions.Sets.{has_bit, is_in}
use Rattle.cell_sets.specs.inner_contracts.Meeting.{with_member}
use Rattle.cell_sets.proofs.laws.BitLaws.{has_bit_zero, has_bit_or, has_bit_pow}

getD_zeros : (n p : ℕ) → ◌≡◌ {A = ℕ} (get_or (replicate n 0) p 0) 0
getD_zeros zero p = refl
getD_zeros (suc n) zero = refl
getD_zeros (suc n) (suc p) = getD_zeros n p

pub empty_set : (n i : ℕ) → is_in (replicate n 0) i ≡ false
unfolding is_in
empty_set n i = rw (getD_zeros n (i / 8)) (has_bit_zero (i % 8))

pub length_with_member : (base : ℕ) (s : List ℕ) (i : ℕ) → length (with_member base s i) ≡ length s
unfolding with_member
length_with_member base s i = simp length-set

pub member_apart : (base : ℕ) (s : List ℕ) (i p : ℕ) → (p ≡ base + i / 8 → ⊥) → get_or (with_member base s i) p 0 ≡ get_or s p 0
unfolding with_member
member_apart base s i p d = get_or-set_other s (base + i / 8) p (bit_or (get_or s (base + i / 8) 0) (2 ^ (i % 8))) 0 d

-- two numbers of one byte are the same exactly where their bits are
same_bit : (i j : ℕ) → i / 8 ≡ j / 8 → eqb (i % 8) (j % 8) ≡ eqb i j
same_bit i j h = go (eqb i j) refl
  where
    go : (t : Bool) → eqb i j ≡ t → eqb (i % 8) (j % 8) ≡ t
    go true e = eq-eqb (i % 8) (j % 8) (ap (λ (x : ℕ). x % 8) (eqb-true i j e))
    go false e = ne_eqb (i % 8) (j % 8) (λ q. eqb-false i j e (omega arith))

pub member_added : (base : ℕ) (s : List ℕ) (i j : ℕ) → base + i / 8 < length s
    → has_bit (get_or (with_member base s i) (base + j / 8) 0) (j % 8) ≡ (has_bit (get_or s (base + j / 8) 0) (j % 8) || eqb i j)
unfolding with_member
member_added base s i j h = go (eqb (i / 8) (j / 8)) refl
  where
    go : (t : Bool) → eqb (i / 8) (j / 8) ≡ t
        → has_bit (get_or (set s (base + i / 8) (bit_or (get_or s (base + i / 8) 0) (2 ^ (i % 8)))) (base + j / 8) 0) (j % 8)
        ≡ (has_bit (get_or s (base + j / 8) 0) (j % 8) || eqb i j)
    go true e =
        let q = eqb-true (i / 8) (j / 8) e in
        rw (← q, get_or-set_same s (base + i / 8) (bit_or (get_or s (base + i / 8) 0) (2 ^ (i % 8))) 0 h)
        (has_bit_or (get_or s (base + i / 8) 0) (2 ^ (i % 8)) (j % 8)
        ∙ ap (λ (b : Bool). has_bit (get_or s (base + i / 8) 0) (j % 8) || b) (has_bit_pow (i % 8) (j % 8) ∙ same_bit i j q))
    go false e =
        let d = eqb-false (i / 8) (j / 8) e in
        rw (
          get_or-set_other s (base + i / 8) (base + j / 8) (bit_or (get_or s (base + i / 8) 0) (2 ^ (i % 8))) 0 (λ q. d (omega arith)),
          ne_eqb i j (λ q. d (ap (λ (x : ℕ). x / 8) q)),
        )
        (sym (or-false (has_bit (get_or s (base + j / 8) 0) (j % 8))))

-- the same of a set at the beginning of memory
pub member_in : (s : List ℕ) (i j : ℕ) → i / 8 < length s → is_in (with_member 0 s i) j ≡ (is_in s j || eqb i j)
unfolding is_in
member_in s i j h = simp zero-add at (member_added 0 s i j (rw (zero-add (i / 8)) h))
