-- The syntax tree of a bench file. Offsets are kept where a refusal can point.
use Rattle.std.specs.Prelude.{ℕ, List, Bool, true, false, pos, neg_ℤ}
use Rattle.std.proofs.Math.Option.{Option, none, some}
use Rattle.std.specs.Float.{binary64}
use Rattle.std.specs.Float.Ieee.{of_int, neg}
use Rattle.values.specs.declared.Value.{Value}
use Rattle.values.specs.declared.Value.TheVariants.{Truth}
use Rattle.values.specs.declared.Kind.{Kind}
use Rattle.values.specs.declared.Kind.TheVariants.{Wholes, Bools, Reals}
use Rattle.values.specs.declared.Operator.{Operator}
use Rattle.values.specs.definitions.Value.{fitted, settled}

-- a name's bytes, and the offset of the first
pub record Name : Type 0 where
  pub bytes : List ℕ
  pub at : ℕ

pub data Sort : Type 0 where
  attribute event action : Sort

pub record Member : Type 0 where
  pub at : ℕ
  pub sort : Sort
  pub name : Name
  pub kind : Kind

pub record Interface : Type 0 where
  pub at : ℕ
  pub name : Name
  pub members : List Member

-- "literal (`true`, `false`, or a number with or without `-`)": true for `-`, then the magnitude
pub data Literal : Type 0 where
  truth : Bool → Literal
  whole_number : Bool → ℕ → Literal
  real_number : Bool → ℕ → Literal

pub record Assignment : Type 0 where
  pub name : Name
  pub equals_at : ℕ
  pub literal : Literal

pub record Entity : Type 0 where
  pub at : ℕ
  pub name : Name
  pub interface : Name
  pub assignments : List Assignment
  pub close_at : ℕ

-- document 01's sum, product and factor
pub data Expression : Type 0 where
  literal : Literal → Expression
  member : Name → Name → Expression
  to_real : ℕ → Expression → Expression
  negate : ℕ → Expression → Expression
  apply : Operator → ℕ → Expression → Expression → Expression

-- document 01's place: a name, and the interface where the name is declared as a variable
pub record Target : Type 0 where
  pub name : Name
  pub declares : Option Name

-- `with` attribute `=` expression
pub record Filter : Type 0 where
  pub attribute : Name
  pub equals_at : ℕ
  pub expression : Expression

pub data Test : Type 0 where
  changed : Test
  equals : ℕ → Expression → Test

pub record Clause : Type 0 where
  pub at : ℕ
  pub event : Name
  pub target : Target
  pub filter : Option Filter
  pub test : Test

pub data Condition : Type 0 where
  clause : Clause → Condition
  both : Condition → Condition → Condition
  either : Condition → Condition → Condition

pub record Call : Type 0 where
  pub at : ℕ
  pub action : Name
  pub open_at : ℕ
  pub parameter : Expression
  pub target : Target
  pub filter : Option Filter

-- document 02's rank (order 6), "one number", and the number's offset
pub record Priority : Type 0 where
  pub number : ℕ
  pub at : ℕ

pub record Rule : Type 0 where
  pub at : ℕ
  pub priority : Option Priority
  pub condition : Condition
  pub calls : List Call

pub record File : Type 0 where
  pub interfaces : List Interface
  pub entities : List Entity
  pub rules : List Rule

-- "At most 16 openers .. enclose one another; the 17th breaks the grammar"
abbrev pub OPENERS : ℕ
OPENERS = 16

-- what a literal is: its kind, and its value; "with `r` after it, that whole as a real"
unfoldable pub literal_kind : Literal → Kind
literal_kind (truth b) = Bools
literal_kind (whole_number negative n) = Wholes
literal_kind (real_number negative n) = Reals

unfoldable pub literal_value : Literal → Value
unfolding fitted settled of_int neg
literal_value (truth b) = Truth b
literal_value (whole_number false n) = fitted (pos n)
literal_value (whole_number true n) = fitted (neg_ℤ (pos n))
literal_value (real_number false n) = settled (of_int binary64 (pos n))
literal_value (real_number true n) = settled (neg (of_int binary64 (pos n)))

unfoldable pub priority_given : Option Priority → ℕ
priority_given none = 0
priority_given (some k) = k.number

-- document 02, order 6: "without it the rank is 0"
unfoldable pub priority_of : Rule → ℕ
unfolding priority_given
priority_of r = priority_given r.priority
