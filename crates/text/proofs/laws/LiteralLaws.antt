-- Literals: a value of the literal's kind, and set where the number is one that a text can have.
use native.Mathlib.Omega.{arith}
use mathlib.Core.Bool.{true, false}
use lib.Dec.{T}
use lib.IntN.{pos, neg_ℤ}
use lib.Ieee.{binary64, of_int, neg}
use lib.Ieee.Fits.{neg-fits, of_int-fits}
use Rattle.values.specs.definitions.Value.{is_set}
use Rattle.values.specs.definitions.Storable.{storable}
use Rattle.values.proofs.laws.WholeLaws.{neg_small}
use Rattle.values.proofs.laws.StorableLaws.{fitted_storable, settled_storable}
use Rattle.values.proofs.laws.FittingLaws.{fitted_set, settled_set, small_finite, neg_finite}
use Rattle.text.specs.definitions.Syntax.{Literal, truth, whole_number, real_number, literal_kind, literal_value}
use Rattle.text.proofs.laws.NumberLaws.{SmallLiteral}

pub literal_storable : (l : Literal) → T (storable (literal_kind l) (literal_value l))
unfolding literal_kind literal_value storable
literal_storable (truth b) = tt
literal_storable (whole_number false n) = fitted_storable (pos n)
literal_storable (whole_number true n) = fitted_storable (neg_ℤ (pos n))
literal_storable (real_number false n) = settled_storable (of_int binary64 (pos n)) (of_int-fits binary64 (pos n))
literal_storable (real_number true n) =
    settled_storable (neg (of_int binary64 (pos n))) (neg-fits binary64 (of_int binary64 (pos n)) (of_int-fits binary64 (pos n)))

pub literal_set : (l : Literal) → SmallLiteral l → T (is_set (literal_value l))
unfolding literal_value
literal_set (truth b) h = tt
literal_set (whole_number false n) h = fitted_set (pos n) (omega arith)
literal_set (whole_number true n) h = fitted_set (neg_ℤ (pos n)) (neg_small n (omega arith))
literal_set (real_number false n) h = settled_set (of_int binary64 (pos n)) (small_finite n (omega arith))
literal_set (real_number true n) h = settled_set (neg (of_int binary64 (pos n))) (neg_finite (of_int binary64 (pos n)) (small_finite n (omega arith)))
