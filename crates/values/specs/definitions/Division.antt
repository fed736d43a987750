-- Whole `/`: document 02, order 2, "Travel to the left of zero".
use Rattle.std.specs.Prelude.{Bool, false, cond, ◌||◌, eqb, ℤ, pos, negsuc, ◌+ℤ◌, ◌-ℤ◌, ◌*ℤ◌, ◌≤ℤ◌, ◌<ℤ◌}
use Rattle.std.specs.Bool.{beq}
use Rattle.std.specs.Int.Signed.{quot_z, rem_z, non_neg}

-- "A zero divisor"
abbrev pub is_zero : ℤ → Bool
is_zero (pos n) = eqb n 0
is_zero (negsuc n) = false

-- the remainder has the divisor's sign or is 0
abbrev pub has_sign_of : ℤ → ℤ → Bool
has_sign_of remainder divisor = is_zero remainder || beq (non_neg remainder) (non_neg divisor)

-- "Whole `/` rounds toward minus infinity": x is q * y and a remainder that is nearer to 0 than y and has y's sign or is 0. The library's
-- quotient is rounded toward zero, and its remainder has x's sign or is 0; where it has the other sign than y, q is one less.
abbrev pub floor_quotient : ℤ → ℤ → ℤ
floor_quotient x y = cond (has_sign_of (rem_z x y) y) (quot_z x y) (quot_z x y -ℤ pos 1)

-- q is the greatest whole not above x / y: q <= x / y < q + 1, all of it times y, which turns the order round where y is negative
pub record IsFloor (x y q : ℤ) : Type 0 where
  pub positive : pos 0 <ℤ y → ((q *ℤ y) ≤ℤ x) × (x <ℤ (q *ℤ y +ℤ y))
  pub negative : y <ℤ pos 0 → ((q *ℤ y +ℤ y) <ℤ x) × (x ≤ℤ (q *ℤ y))
