-- Kinds in the code, as the definitions' kinds.
use Rattle.std.specs.Prelude.{ℕ, true, false, eqb, Some, None}
use Rattle.std.specs.Prelude as code
use Rattle.std.proofs.Math.Option.{Option, none, some}
use Rattle.values.specs.declared.Kind.{Kind}
use Rattle.values.specs.declared.Kind.TheVariants.{Wholes, Bools, Reals}
use Rattle.values.specs.definitions.Fitting.{number_kind, operated_kind, real_kind}
use Rattle.text.specs.definitions.Tokens.{WHOLE_NUMBER, REAL_NUMBER}

-- a kind, if there is one
abbrev pub kind_as : code.Option Kind → Option Kind
kind_as None = none
kind_as (Some k) = some k

-- the kind of a literal, by the class of its last token
unfoldable pub literal_class : ℕ → Kind
literal_class c = elim (eqb c WHOLE_NUMBER) [ true ↦ Wholes | false ↦ elim (eqb c REAL_NUMBER) [ true ↦ Reals | false ↦ Bools ] ]

-- the kinds that `real`, unary `-` and the other operators give, by those of their operands

abbrev pub real_of : Option Kind → Option Kind
real_of none = none
real_of (some k) = real_kind k

abbrev pub number_of : Option Kind → Option Kind
number_of none = none
number_of (some k) = number_kind k

abbrev pub operated_of : Option Kind → Option Kind → Option Kind
operated_of none b = none
operated_of (some j) none = none
operated_of (some j) (some k) = operated_kind j k
