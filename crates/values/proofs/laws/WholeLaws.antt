-- Wholes: what a test of an `i64` against the ends of 32 bits tells, that 64 bits hold each sum, difference and product, and the number of a
-- whole in a cell.
use mathlib.Core.Path.{◌≡◌, refl, sym, ap, ◌∙◌}
use mathlib.Core.Bool.{Bool, true, false, false≢true}
use Prim.Native.Nat.{ℕ, zero, suc, ◌+◌, ◌-◌, ◌*◌, ◌^◌, ◌≤◌, ◌<◌, zero-le}
use native.Mathlib.Nat.{mul-le-mul_left, mul-le-mul_right, le_trans, lt_trans, lt_of_le_of_lt, le_of_lt}
use native.Mathlib.Omega.{arith}
use lib.Dec.{ltb, eqb, lit<}
use lib.IntN.{ℤ, pos, negsuc, neg_ℤ, sub_ℕ, ◌+ℤ◌, ◌-ℤ◌, ◌*ℤ◌}
use lib.Signed.{mag, lt_z}
use mir.Syntax.{w32, w64}
use mir.Val.{SFits, to_z, of_z}
use mir.Facts.{to_z-of_z, to_z_pos, sfits_widen}
use borrow.Author.Tests.{ltb-true, ltb-false, lt-ltb, le-ltb, eq-eqb, ne_eqb, eqb-true, eqb-false}
use Rattle.values.specs.definitions.Division.{is_zero}
use Rattle.values.specs.declared.Value.TheVariants.{Whole, Unset}
use Rattle.values.specs.definitions.Value.{fitted, same_whole}
use Rattle.values.specs.definitions.Cells.{raised}

-- ---- what 32 bits hold

pub fitted_holds : (z : ℤ) → SFits w32 z → fitted z ≡ Whole z
unfolding fitted
fitted_holds z f = rw (lt-ltb (mag z) (2 ^ 31) f.sfits)

pub fitted_exceeds : (z : ℤ) → (SFits w32 z → ⊥) → fitted z ≡ Unset
unfolding fitted
fitted_exceeds z f = go (ltb (mag z) (2 ^ 31)) refl
  where
    go : (t : Bool) → ltb (mag z) (2 ^ 31) ≡ t → fitted z ≡ Unset
    go true e = absurd (f (record { sfits = ltb-true (mag z) (2 ^ 31) e }))
    go false e = rw e

-- ---- the ends of 32 bits

pub too_low : (z : ℤ) → lt_z z (negsuc 2147483647) ≡ true → ltb (mag z) (2 ^ 31) ≡ false
too_low (pos n) h = absurd (false≢true h)
too_low (negsuc n) h = le-ltb n (2 ^ 31) (ltb-true 2147483647 n h)

pub too_high : (z : ℤ) → lt_z (pos 2147483647) z ≡ true → ltb (mag z) (2 ^ 31) ≡ false
too_high (pos n) h = le-ltb n (2 ^ 31) (ltb-true 2147483647 n h)
too_high (negsuc n) h = absurd (false≢true h)

below_end : (n : ℕ) → n ≤ 2147483647 → n < 2 ^ 31
below_end n h = omega arith

pub in_range : (z : ℤ) → lt_z z (negsuc 2147483647) ≡ false → lt_z (pos 2147483647) z ≡ false → mag z < 2 ^ 31
in_range (pos n) l h = below_end n (ltb-false 2147483647 n h)
in_range (negsuc n) l h = below_end n (ltb-false 2147483647 n l)

-- ---- 64 bits hold each sum, difference and product of two numbers of 32

apart_mag : (a b m : ℕ) → a ≤ m → b ≤ suc m → mag (sub_ℕ a b) ≤ m
apart_mag a b m p q = go (ltb a b) refl
  where
    go : (t : Bool) → ltb a b ≡ t → mag (sub_ℕ a b) ≤ m
    go true e = rw e (omega arith)
    go false e = rw e (omega arith)

-- the second may be 2 ^ 31, which a difference's second number is after its sign is turned
sum_mag : (x y : ℤ) → mag x < 2 ^ 31 → mag y ≤ 2 ^ 31 → mag (x +ℤ y) < 2 ^ 63
sum_mag (pos a) (pos b) p q = omega arith
sum_mag (pos a) (negsuc b) p q = lt_of_le_of_lt (apart_mag a (suc b) (2 ^ 31) (omega arith) (omega arith)) (lit< tt)
sum_mag (negsuc a) (pos b) p q = lt_of_le_of_lt (apart_mag b (suc a) (2 ^ 31) (omega arith) (omega arith)) (lit< tt)
sum_mag (negsuc a) (negsuc b) p q = omega arith

neg_mag : (y : ℤ) → mag y < 2 ^ 31 → mag (neg_ℤ y) ≤ 2 ^ 31
neg_mag (pos zero) q = zero-le
neg_mag (pos (suc n)) q = omega arith
neg_mag (negsuc n) q = q

pub add_mag : (x y : ℤ) → mag x < 2 ^ 31 → mag y < 2 ^ 31 → mag (x +ℤ y) < 2 ^ 63
add_mag x y p q = sum_mag x y p (le_of_lt q)

pub sub_mag : (x y : ℤ) → mag x < 2 ^ 31 → mag y < 2 ^ 31 → mag (x -ℤ y) < 2 ^ 63
sub_mag x y p q = sum_mag x (neg_ℤ y) p (neg_mag y q)

-- a number turned round is at most as far from 0
pub turned_mag : (n m : ℕ) → n ≤ m → mag (neg_ℤ (pos n)) ≤ m
turned_mag zero m h = zero-le
turned_mag (suc n) m h = omega arith

-- a product is, but for the sign, that of the magnitudes
times_le : (a b : ℕ) → a ≤ 2 ^ 31 → b ≤ 2 ^ 31 → a * b ≤ 2 ^ 62
times_le a b p q = le_trans (mul-le-mul_left a q) (mul-le-mul_right (2 ^ 31) p)

pub mul_mag : (x y : ℤ) → mag x < 2 ^ 31 → mag y < 2 ^ 31 → mag (x *ℤ y) < 2 ^ 63
mul_mag (pos a) (pos b) p q = lt_of_le_of_lt (times_le a b (le_of_lt p) (le_of_lt q)) (lit< tt)
mul_mag (pos a) (negsuc b) p q = lt_of_le_of_lt (turned_mag (a * suc b) (2 ^ 62) (times_le a (suc b) (le_of_lt p) q)) (lit< tt)
mul_mag (negsuc a) (pos b) p q = lt_of_le_of_lt (turned_mag (suc a * b) (2 ^ 62) (times_le (suc a) b p (le_of_lt q))) (lit< tt)
mul_mag (negsuc a) (negsuc b) p q = lt_of_le_of_lt (times_le (suc a) (suc b) p q) (lit< tt)

-- 0 - y, as an operation on two numbers
unfoldable pub from_zero : ℤ → ℤ → ℤ
from_zero x y = pos 0 -ℤ y

pub from_zero_mag : (x y : ℤ) → mag x < 2 ^ 31 → mag y < 2 ^ 31 → mag (from_zero x y) < 2 ^ 63
unfolding from_zero
from_zero_mag x y p q = sub_mag (pos 0) y (lit< tt) q

-- ---- an `i32` as an `i64`, which the program reads back from its bits twice

abbrev pub widened : ℤ → ℤ
widened x = to_z w64 (of_z w64 (to_z w32 (of_z w32 x)))

pub widened_is : {x : ℤ} → SFits w32 x → widened x ≡ x
widened_is f = rw (to_z-of_z f) (to_z-of_z {w = w64} (sfits_widen (tt {0}) f))

-- an operation on two numbers of 32 bits whose result 64 bits hold
module _ (o : ℤ → ℤ → ℤ) (holds : (x y : ℤ) → mag x < 2 ^ 31 → mag y < 2 ^ 31 → mag (o x y) < 2 ^ 63) where
  pub op_fits : {x y : ℤ} → SFits w32 x → SFits w32 y → SFits w64 (o (widened x) (widened y))
  op_fits {x} {y} p q = rw (widened_is p, widened_is q) (record { sfits = holds x y p.sfits q.sfits })

  pub op_is : {x y : ℤ} → SFits w32 x → SFits w32 y → to_z w64 (of_z w64 (o (widened x) (widened y))) ≡ o x y
  op_is {x} {y} p q = to_z-of_z (op_fits p q) ∙ rw (widened_is p, widened_is q)

-- ---- an `i64` that is a number of 32 bits, as an `i32`

module _ {z y : ℤ} (e : z ≡ y) (h : mag y < 2 ^ 31) where
  in_32 : SFits w32 y
  in_32 = record { sfits = h }

  pub narrow_wide : SFits w64 z
  narrow_wide = rw e (sfits_widen tt in_32)

  pub narrow_is : to_z w32 (of_z w32 (to_z w64 (of_z w64 z))) ≡ y
  narrow_is = rw (to_z-of_z narrow_wide, e) (to_z-of_z in_32)

-- ---- tests

pub none_below : (n : ℕ) → ltb n 0 ≡ true → ⊥
none_below n h = omega (arith, ltb-true n 0 h)

pub zero_not : (y : ℤ) → (of_z w64 y ≡ 0 → ⊥) → is_zero y ≡ false
zero_not (pos n) h = ne_eqb n 0 h
zero_not (negsuc n) h = refl

-- two numbers are the same exactly where their bits are
flipped : (a b : ℕ) → a < 2 ^ 31 → b < 2 ^ 31 → 2 ^ 32 - suc a ≡ 2 ^ 32 - suc b → a ≡ b
flipped a b p q h = omega arith

apart : (a b : ℕ) → a < 2 ^ 31 → b < 2 ^ 31 → a ≡ 2 ^ 32 - suc b → ⊥
apart a b p q h = omega arith

pub same_by_bits : (x y : ℤ) → mag x < 2 ^ 31 → mag y < 2 ^ 31 → eqb (of_z w32 x) (of_z w32 y) ≡ same_whole x y
same_by_bits (pos a) (pos b) p q = refl
same_by_bits (pos a) (negsuc b) p q = ne_eqb a (2 ^ 32 - suc b) (apart a b p q)
same_by_bits (negsuc a) (pos b) p q = ne_eqb (2 ^ 32 - suc a) b (λ h. apart b a q p (sym h))
same_by_bits (negsuc a) (negsuc b) p q = go (eqb a b) refl
  where
    go : (t : Bool) → eqb a b ≡ t → eqb (2 ^ 32 - suc a) (2 ^ 32 - suc b) ≡ eqb a b
    go true e = eq-eqb (2 ^ 32 - suc a) (2 ^ 32 - suc b) (ap (λ (n : ℕ). 2 ^ 32 - suc n) (eqb-true a b e)) ∙ sym e
    go false e = ne_eqb (2 ^ 32 - suc a) (2 ^ 32 - suc b) (λ h. eqb-false a b e (flipped a b p q h)) ∙ sym e

-- ---- a whole as its distance from -2 ^ 31, and back

pub raised_lt : (x : ℤ) → mag x < 2 ^ 31 → raised x < 2 ^ 32
raised_lt (pos n) h = omega arith
raised_lt (negsuc n) h = omega arith

pub lower_is : (w : ℕ) → w < 4294967296 → to_z w64 w -ℤ pos 2147483648 ≡ sub_ℕ w 2147483648
lower_is w h = rw (to_z_pos w64 {n = w} (lt_trans h (lit< tt)))

pub lowered_mag : (w : ℕ) → w < 4294967296 → mag (sub_ℕ w 2147483648) < 2 ^ 31
lowered_mag w h = go (ltb w 2147483648) refl
  where
    go : (t : Bool) → ltb w 2147483648 ≡ t → mag (sub_ℕ w 2147483648) < 2 ^ 31
    go true e = rw e (omega (arith, ltb-true w 2147483648 e))
    go false e = rw e (omega (arith, ltb-false w 2147483648 e))

pub lowered : (w : ℕ) → w < 4294967296 → to_z w32 (of_z w32 (to_z w64 (of_z w64 (to_z w64 w -ℤ pos 2147483648)))) ≡ sub_ℕ w 2147483648
lowered w h = narrow_is (lower_is w h) (lowered_mag w h)

pub lowered_raised : (x : ℤ) → mag x < 2 ^ 31 → sub_ℕ (raised x) 2147483648 ≡ x
lowered_raised (pos n) h = rw (le-ltb (n + 2147483648) 2147483648 (omega arith)) (ap pos (back n))
  where
    back : (n : ℕ) → n + 2147483648 - 2147483648 ≡ n
    back n = omega arith
lowered_raised (negsuc n) h = rw (lt-ltb (2147483648 - suc n) 2147483648 (omega arith)) (ap negsuc (back n h))
  where
    back : (n : ℕ) → n < 2147483648 → 2147483648 - suc (2147483648 - suc n) ≡ n
    back n h = omega arith

-- ---- the number after a `-`

pub neg_small : (n : ℕ) → n ≤ 2147483648 → mag (neg_ℤ (pos n)) < 2 ^ 31
neg_small zero h = lit< tt
neg_small (suc n) h = h
