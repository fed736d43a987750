-- Kinds that fit and the kind of the result, in one table: the checker asks it of expressions, the reference machine of values (document 01, "Names and kinds").
use Rattle.std.specs.Prelude.{Bool, true, false, cond}
use Rattle.std.proofs.Math.Option.{Option, none, some}
use Rattle.values.specs.declared.Value.{Value}
use Rattle.values.specs.declared.Value.TheVariants.{Whole, Truth, Real, Unset}
use Rattle.values.specs.declared.Kind.{Kind}
use Rattle.values.specs.declared.Kind.TheVariants.{Wholes, Bools, Reals}

unfoldable pub same_kind : Kind → Kind → Bool
same_kind Wholes k = elim k [ Wholes ↦ true | Bools ↦ false | Reals ↦ false ]
same_kind Bools k = elim k [ Wholes ↦ false | Bools ↦ true | Reals ↦ false ]
same_kind Reals k = elim k [ Wholes ↦ false | Bools ↦ false | Reals ↦ true ]

-- ---- the table: the kind of the result, none where an operand does not fit

-- "`+ - * /` and unary `-` take wholes or reals"; "a bool never fits an operator"
unfoldable pub number_kind : Kind → Option Kind
number_kind Wholes = some Wholes
number_kind Bools = none
number_kind Reals = some Reals

-- `+ - * /`: "both sides alike"
unfoldable pub operated_kind : Kind → Kind → Option Kind
unfolding same_kind number_kind
operated_kind j k = cond (same_kind j k) (number_kind j) none

-- "`real` takes a whole"
unfoldable pub real_kind : Kind → Option Kind
real_kind Wholes = some Reals
real_kind Bools = none
real_kind Reals = none

-- ---- what fits: "A sum with a fault inside has no kind and fits anywhere, as unset does"

unfoldable pub has_kind : Option Kind → Bool
has_kind none = false
has_kind (some k) = true

-- the one operand of `real` or unary `-`, by its part of the table
unfoldable pub operand_fits : (Kind → Option Kind) → Option Kind → Bool
unfolding has_kind
operand_fits result none = true
operand_fits result (some k) = has_kind (result k)

-- the two of `+ - * /`; beside one of no kind the other must fit with its like
unfoldable pub operands_fit : Option Kind → Option Kind → Bool
unfolding has_kind operated_kind
operands_fit none none = true
operands_fit none (some k) = has_kind (operated_kind k k)
operands_fit (some j) none = has_kind (operated_kind j j)
operands_fit (some j) (some k) = has_kind (operated_kind j k)

-- "Both sides of `=` have one kind; so have a parameter and its action"
unfoldable pub kinds_fit : Option Kind → Option Kind → Bool
unfolding same_kind
kinds_fit none k = true
kinds_fit (some j) none = true
kinds_fit (some j) (some k) = same_kind j k

-- the kind of a value; unset has none
unfoldable pub value_kind : Value → Option Kind
value_kind (Whole z) = some Wholes
value_kind (Truth b) = some Bools
value_kind (Real x) = some Reals
value_kind Unset = none
