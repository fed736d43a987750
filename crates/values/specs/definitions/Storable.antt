-- Which values a cell of a kind can hold.
use Rattle.std.specs.Prelude.{◌^◌, Bool, true, ◌&&◌, ltb}
use Rattle.std.proofs.Math.Option.{some}
use Rattle.std.specs.Int.Signed.{mag}
use Rattle.std.specs.Float.{binary64}
use Rattle.std.specs.Float.Ieee.{fits}
use Rattle.values.specs.declared.Value.{Value}
use Rattle.values.specs.declared.Value.TheVariants.{Whole, Truth, Real, Unset}
use Rattle.values.specs.declared.Kind.{Kind}
use Rattle.values.specs.definitions.Value.{is_finite}
use Rattle.values.specs.definitions.Fitting.{kinds_fit, value_kind}

-- a value of the kind, or unset, which "fits anywhere"
unfoldable pub of_kind : Kind → Value → Bool
unfolding kinds_fit value_kind
of_kind k v = kinds_fit (some k) (value_kind v)

-- "`whole` (32 bits, signed)"; "every real finite", and of binary64
unfoldable pub in_range : Value → Bool
in_range (Whole z) = ltb (mag z) (2 ^ 31)
in_range (Truth b) = true
in_range (Real x) = is_finite x && fits binary64 x
in_range Unset = true

-- "every value of its cell's kind and every real finite"
unfoldable pub storable : Kind → Value → Bool
unfolding of_kind in_range
storable k v = of_kind k v && in_range v
