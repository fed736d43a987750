-- Theorem: values that do not differ, the two zeros included, give values that do not differ through every operation, and equality does not tell them apart.
use mathlib.Core.Path.{◌≡◌}
use lib.Dec.{T}
use Rattle.values.specs.declared.Value.{Value}
use Rattle.values.specs.declared.Operator.{Operator}
use Rattle.values.specs.declared.Kind.{Kind}
use Rattle.values.specs.declared.Kind.TheVariants.{Wholes, Reals}
use Rattle.values.specs.definitions.Value.{operated, negated, as_real, equal}
use Rattle.values.specs.definitions.Storable.{storable}
use Rattle.values.specs.definitions.Fitting.{has_kind, number_kind}
use Rattle.values.proofs.laws.StorableLaws.{operated_storable, negated_storable, as_real_storable}
use Rattle.values.proofs.laws.SameLaws.{same, operated_plain, negated_plain, as_real_plain, equal_plain, plain_same, same_plain}

module _ (k : Kind) (n : T (has_kind (number_kind k))) (a a' : Value) (h : T (storable k a)) (h' : T (storable k a')) (e : same a a') where
  pub same_negated : same (negated a) (negated a')
  same_negated = plain_same k (negated a) (negated a') (negated_storable k a n h) (negated_plain a a' (same_plain k a a' h h' e))

  pub same_operated : (b b' : Value) → T (storable k b) → T (storable k b') → same b b' → (op : Operator) → same (operated op a b) (operated op a' b')
  same_operated b b' g g' d op =
      plain_same k (operated op a b) (operated op a' b') (operated_storable k op a b n h g)
      (operated_plain a a' (same_plain k a a' h h' e) b b' (same_plain k b b' g g' d) op)

pub same_as_real : (a a' : Value) → T (storable Wholes a) → T (storable Wholes a') → same a a' → same (as_real a) (as_real a')
same_as_real a a' h h' e = plain_same Reals (as_real a) (as_real a') (as_real_storable a h) (as_real_plain a a' (same_plain Wholes a a' h h' e))

pub same_equal : (j k : Kind) (a a' b b' : Value) → T (storable j a) → T (storable j a') → T (storable k b) → T (storable k b')
    → same a a' → same b b' → equal a b ≡ equal a' b'
same_equal j k a a' b b' h h' g g' e d = equal_plain a a' (same_plain j a a' h h' e) b b' (same_plain k b b' g g' d)
