-- Values under the operators and comparisons of document 01 ("The bare machine"); whole `/` is document 02's.
use Rattle.std.specs.Prelude.{◌^◌, Bool, true, false, not, cond, ltb, eqb, ℤ, pos, negsuc, ◌+ℤ◌, ◌-ℤ◌, ◌*ℤ◌, neg_ℤ, Float}
use Rattle.std.specs.Bool.{beq}
use Rattle.std.specs.Int.Signed.{mag}
use Rattle.std.specs.Float.Ieee as Ieee
use Rattle.std.specs.Float.{nan, inf, fin, binary64}
use Rattle.values.specs.declared.Value.{Value}
use Rattle.values.specs.declared.Value.TheVariants.{Whole, Truth, Real, Unset}
use Rattle.values.specs.declared.Operator.{Operator}
use Rattle.values.specs.declared.Operator.TheVariants.{Plus, Minus, Times, Divide}
use Rattle.values.specs.definitions.Division.{is_zero, floor_quotient}

-- "a cell holding a value or unset"
abbrev pub is_set : Value → Bool
is_set (Whole x) = true
is_set (Truth x) = true
is_set (Real x) = true
is_set Unset = false

-- "Wholes outside 32 bits .. give unset": 32 bits hold -2 ^ 31 to 2 ^ 31 - 1
unfoldable pub fitted : ℤ → Value
fitted z = cond (ltb (mag z) (2 ^ 31)) (Whole z) Unset

abbrev pub is_finite : Float → Bool
is_finite nan = false
is_finite (inf s) = false
is_finite (fin s m e) = true

-- "a result not finite gives unset"
unfoldable pub settled : Float → Value
settled x = cond (is_finite x) (Real x) Unset

-- "Wholes outside 32 bits and a zero divisor give unset"; document 02, order 2: "Whole `/` rounds toward minus infinity"
abbrev pub whole_op : Operator → ℤ → ℤ → Value
whole_op Plus x y = fitted (x +ℤ y)
whole_op Minus x y = fitted (x -ℤ y)
whole_op Times x y = fitted (x *ℤ y)
whole_op Divide x y = cond (is_zero y) Unset (fitted (floor_quotient x y))

-- "Reals round once per operation; a result not finite gives unset"
abbrev pub real_op : Operator → Float → Float → Value
real_op Plus x y = settled (Ieee.add binary64 x y)
real_op Minus x y = settled (Ieee.sub binary64 x y)
real_op Times x y = settled (Ieee.mul binary64 x y)
real_op Divide x y = settled (Ieee.div binary64 x y)

-- an operator's second value, after a whole or a real; what does not fit gives unset
abbrev pub with_whole : Operator → ℤ → Value → Value
with_whole op x (Whole y) = whole_op op x y
with_whole op x (Truth y) = Unset
with_whole op x (Real y) = Unset
with_whole op x Unset = Unset

abbrev pub with_real : Operator → Float → Value → Value
with_real op x (Whole y) = Unset
with_real op x (Truth y) = Unset
with_real op x (Real y) = real_op op x y
with_real op x Unset = Unset

-- "Sums: unset gives unset"
abbrev pub operated : Operator → Value → Value → Value
operated op (Whole x) b = with_whole op x b
operated op (Truth x) b = Unset
operated op (Real x) b = with_real op x b
operated op Unset b = Unset

-- unary `-`; of a real, the other sign
abbrev pub negated : Value → Value
negated (Whole x) = fitted (neg_ℤ x)
negated (Truth x) = Unset
negated (Real x) = settled (Ieee.neg x)
negated Unset = Unset

-- "`real` takes a whole"
abbrev pub as_real : Value → Value
as_real (Whole x) = settled (Ieee.of_int binary64 x)
as_real (Truth x) = Unset
as_real (Real x) = Unset
as_real Unset = Unset

abbrev pub same_whole : ℤ → ℤ → Bool
same_whole (pos a) (pos b) = eqb a b
same_whole (pos a) (negsuc b) = false
same_whole (negsuc a) (pos b) = false
same_whole (negsuc a) (negsuc b) = eqb a b

abbrev pub equals_whole : ℤ → Value → Bool
equals_whole x (Whole y) = same_whole x y
equals_whole x (Truth y) = false
equals_whole x (Real y) = false
equals_whole x Unset = false

abbrev pub equals_truth : Bool → Value → Bool
equals_truth x (Whole y) = false
equals_truth x (Truth y) = beq x y
equals_truth x (Real y) = false
equals_truth x Unset = false

abbrev pub equals_real : Float → Value → Bool
equals_real x (Whole y) = false
equals_real x (Truth y) = false
equals_real x (Real y) = Ieee.eq x y
equals_real x Unset = false

-- ""Equal" needs two set values; reals compare by value, so the two zeros are equal"
abbrev pub equal : Value → Value → Bool
equal (Whole x) b = equals_whole x b
equal (Truth x) b = equals_truth x b
equal (Real x) b = equals_real x b
equal Unset b = false

-- "the two values differ; unset differs from any value, not from unset"
abbrev pub differ : Value → Value → Bool
differ (Whole x) b = not (equals_whole x b)
differ (Truth x) b = not (equals_truth x b)
differ (Real x) b = not (equals_real x b)
differ Unset b = is_set b
