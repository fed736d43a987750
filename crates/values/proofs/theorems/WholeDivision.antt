-- Whole `/` rounds toward minus infinity: it is the floor of the quotient, and nothing else is.
use mathlib.Core.Path.{◌≡◌, refl, sym, ◌∙◌}
use mathlib.Core.Bool.{true, false, false≢true}
use Prim.Native.Nat.{ℕ, zero, suc, ◌^◌, ◌<◌}
use native.Mathlib.Nat.{zero-lt-suc}
use native.Mathlib.Omega.{arith}
use lib.Dec.{ltb→lt, lt→ltb}
use lib.IntN.{ℤ, pos, negsuc, ◌+ℤ◌, ◌-ℤ◌, ◌*ℤ◌, neg_ℤ}
use lib.Signed.{mag, shr_z, ◌<ℤ◌}
use borrow.Author.Tests.{lt-ltb}
use Rattle.values.specs.declared.Value.TheVariants.{Whole, Unset}
use Rattle.values.specs.declared.Operator.TheVariants.{Divide}
use Rattle.values.specs.definitions.Division.{is_zero, has_sign_of, floor_quotient, IsFloor}
use Rattle.values.specs.definitions.Value.{fitted, whole_op}
use Rattle.values.proofs.laws.DivisionLaws.{
  floor_up,
  floor_turned,
  down_bounds,
  down_only,
  bounds_turned,
  bounds_back,
  remainder_up,
  remainder_down,
  floor_moves,
  floor_mag,
}

pub record WholeDivision : Type 0 where
  -- for a positive divisor q * y <= x < q * y + y, for a negative one mirrored; no other q is so
  pub floors : (x y : ℤ) → IsFloor x y (floor_quotient x y)
  pub only_floor : (x y q : ℤ) → is_zero y ≡ false → IsFloor x y q → q ≡ floor_quotient x y
  -- what remains has the divisor's sign or is 0
  pub remainder : (x y : ℤ) → is_zero y ≡ false → has_sign_of (x -ℤ floor_quotient x y *ℤ y) y ≡ true
  -- "positions go negative and halving them bends at zero": no more, for moving the zero by k divisors moves the quotient by k
  pub no_bend : (x y : ℤ) → is_zero y ≡ false → (k : ℤ) → floor_quotient (x +ℤ k *ℤ y) y ≡ floor_quotient x y +ℤ k
  -- "A zero divisor and -2147483648 / -1 still give unset", and of 32 bits nothing else does
  pub zero_unset : (x : ℤ) → whole_op Divide x (pos 0) ≡ Unset
  pub end_unset : whole_op Divide (negsuc 2147483647) (negsuc 0) ≡ Unset
  pub else_set : (x y : ℤ) → mag x < 2 ^ 31 → is_zero y ≡ false → ((x ≡ negsuc 2147483647) × (y ≡ negsuc 0) → ⊥)
      → whole_op Divide x y ≡ Whole (floor_quotient x y)

above_zero : (n : ℕ) → pos 0 <ℤ pos (suc n)
above_zero n = record { lt = lt→ltb zero (suc n) (zero-lt-suc n) }

below_zero : {n : ℕ} → negsuc n <ℤ pos 0
below_zero = record { lt = tt }

never_below : (n : ℕ) → pos n <ℤ pos 0 → ⊥
never_below n h = omega (arith, ltb→lt n 0 h.lt)

is_floor : (x y : ℤ) → IsFloor x y (floor_quotient x y)
is_floor x (pos zero) = record { positive = λ h. absurd (never_below 0 h); negative = λ h. absurd (never_below 0 h) }
is_floor x (pos (suc n)) = record { positive = λ h. rw (floor_up x n) (down_bounds x n); negative = λ h. absurd (never_below (suc n) h) }
is_floor x (negsuc n) = record {
  positive = λ h. absurd h.lt;
  negative = λ h. rw (floor_turned x n) (bounds_turned x (shr_z (neg_ℤ x) (suc n)) n (down_bounds (neg_ℤ x) n));
}

is_only : (x y q : ℤ) → is_zero y ≡ false → IsFloor x y q → q ≡ floor_quotient x y
is_only x (pos zero) q z f = absurd (false≢true (sym z))
is_only x (pos (suc n)) q z f =
    let (low, high) = f.positive (above_zero n) in
    down_only x q n low high ∙ sym (floor_up x n)
is_only x (negsuc n) q z f =
    let (above, below) = f.negative below_zero in
    let (low, high) = bounds_back x q n above below in
    down_only (neg_ℤ x) q n low high ∙ sym (floor_turned x n)

is_remainder : (x y : ℤ) → is_zero y ≡ false → has_sign_of (x -ℤ floor_quotient x y *ℤ y) y ≡ true
is_remainder x (pos zero) z = absurd (false≢true (sym z))
is_remainder x (pos (suc n)) z = remainder_up x (floor_quotient x (pos (suc n)) *ℤ pos (suc n)) n ((is_floor x (pos (suc n))).positive (above_zero n)).0
is_remainder x (negsuc n) z = remainder_down x (floor_quotient x (negsuc n) *ℤ negsuc n) n ((is_floor x (negsuc n)).negative below_zero).1

is_set_else : (x y : ℤ) → mag x < 2 ^ 31 → is_zero y ≡ false → ((x ≡ negsuc 2147483647) × (y ≡ negsuc 0) → ⊥)
    → whole_op Divide x y ≡ Whole (floor_quotient x y)
unfolding fitted
is_set_else x y h z f = rw (z, lt-ltb (mag (floor_quotient x y)) (2 ^ 31) (floor_mag x y h z f))

pub whole_division : WholeDivision
unfolding fitted
whole_division = record {
  floors = is_floor;
  only_floor = is_only;
  remainder = is_remainder;
  no_bend = floor_moves;
  zero_unset = λ x. refl;
  end_unset = refl;
  else_set = is_set_else;
}
