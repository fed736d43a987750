-- How a guard fails with an entity for the next variable, by its kind: what is read in memory for it. Only such an entity loses its mark.
use Rattle.std.specs.Prelude.{ℕ, ◌+◌, ◌/◌, ◌%◌, ◌≤◌, ◌<◌, ◌≡◌, List, Bool, true, false, ◌⊎◌, get_or}
use Rattle.std.specs.Bool.{beq}
use Rattle.values.specs.declared.Value.{Value}
use Rattle.values.specs.definitions.Value.{equal, differ}
use Rattle.text.specs.definitions.Syntax.{OPENERS}
use Rattle.text.specs.definitions.Grammar.{expression_reader, atom_reader}
use Rattle.checking.specs.definitions.CountFaults.{MOST_VARIABLES}
use Rattle.checking.specs.inner_contracts.Resolution.{FIRST_VARIABLE}
use Rattle.cycles.specs.declared.evaluate.Binding.{Binding}
use Rattle.cycles.specs.declared.rules.Rules.{Rules}
use Rattle.cycles.specs.inner_contracts.Bundles.{StoreMemory}
use Rattle.cycles.specs.inner_contracts.Evaluation.{bound, CellRead, ExpressionWalk, ConditionWalk}
use Rattle.cycles.specs.inner_contracts.AllRules.{EntityAdded}
use Rattle.cycles.specs.declared.guards.Guard.{Guard}
use Rattle.cycles.specs.declared.guards.GuardKind.{GuardKind}
use Rattle.cycles.specs.declared.guards.GuardKind.TheVariants.{EqualNow, UnequalBefore, Changes, Holds}

-- marks are taken of no entities but those that fail
pub record MarksTaken (Failing : ℕ → Type 0) (before after : List ℕ) : Type 0 where
  pub takes : (e : ℕ) → (get_or after e 0 ≡ get_or before e 0) ⊎ ((get_or after e 0 ≡ 0) × Failing e)

-- with entity e for the next variable a test fails
pub record FailsWith (b : Binding) (level : ℕ) (Fails : Binding → Type 0) (e : ℕ) : Type 0 where
  pub binding : Binding
  pub added : EntityAdded b level e binding
  pub fails : Fails binding

-- with a binding: member m of what r refers to and a value are not equal in one store, or are, as `wanted` says
pub record CellFails (flags cells : List ℕ) (r m : ℕ) (value : Value) (wanted : Bool) (b : Binding) : Type 0 where
  pub cell : Value
  pub reads : CellRead flags cells (bound b r) m cell
  pub fails : beq (equal cell value) wanted ≡ false

-- the value is that of the expression at number `at`, worked out with the entities of the first `inner` variables
pub record ValueFails (classes values refs flags cells : List ℕ) (level inner r m at : ℕ) (wanted : Bool) (b : Binding) : Type 0 where
  pub value : Value
  pub next : ℕ
  pub cell : CellFails flags cells r m value wanted b
  pub with_binding : Binding
  pub walk : ExpressionWalk classes values refs with_binding flags cells (expression_reader OPENERS) at value next
  pub agrees : level < MOST_VARIABLES → (v : ℕ) → v < inner → v ≤ level
      → bound b (FIRST_VARIABLE + v) ≡ bound with_binding (FIRST_VARIABLE + v)

-- member m of what r refers to is now as it was before
pub record Unchanged (flags cells previous_flags previous_cells : List ℕ) (r m : ℕ) (b : Binding) : Type 0 where
  pub cell : Value
  pub earlier : Value
  pub reads : CellRead flags cells (bound b r) m cell
  pub reads_earlier : CellRead previous_flags previous_cells (bound b r) m earlier
  pub same : differ cell earlier ≡ false

-- the condition at number `at` does not hold
pub record GroupFails (classes values refs flags cells previous_flags previous_cells : List ℕ) (at : ℕ) (b : Binding) : Type 0 where
  pub next : ℕ
  pub walk : ConditionWalk classes values refs b flags cells previous_flags previous_cells (atom_reader OPENERS) at false next

module _ (classes values refs : List ℕ) (b : Binding) (level : ℕ) (flags cells previous_flags previous_cells : List ℕ) where
  -- a guard of the kind fails with entity e
  pub data GuardFails (g : Guard) (e : ℕ) : GuardKind → Type 0 where
    unequal_now : FailsWith b level
        (ValueFails classes values refs flags cells level g.inner (get_or refs g.name 0 % 256) (get_or refs g.member 0 / 256) g.at true) e
        → GuardFails g e EqualNow
    equal_before : FailsWith b level
        (ValueFails classes values refs previous_flags previous_cells level g.inner (get_or refs g.name 0 % 256) (get_or refs g.member 0 / 256) g.at false) e
        → GuardFails g e UnequalBefore
    unchanged : FailsWith b level (Unchanged flags cells previous_flags previous_cells (get_or refs g.name 0 % 256) (get_or refs g.member 0 / 256)) e
        → GuardFails g e Changes
    group_false : FailsWith b level (GroupFails classes values refs flags cells previous_flags previous_cells g.at) e → GuardFails g e Holds

-- the same over what is lent together: the columns of a bench, one store or two
module _ (r : Rules) (b : Binding) (level : ℕ) where
  abbrev pub ComparisonFails : StoreMemory → Guard → Bool → ℕ → Type 0
  ComparisonFails s g wanted =
      FailsWith b level
      (ValueFails r.columns.classes.now r.literals.now r.references.now s.flags s.cells level g.inner (get_or r.references.now g.name 0 % 256) (get_or r.references.now g.member 0 / 256) g.at wanted)

  abbrev pub Fails : (current previous : StoreMemory) → Guard → ℕ → Type 0
  Fails current previous g e = GuardFails r.columns.classes.now r.literals.now r.references.now b level current.flags current.cells previous.flags previous.cells g e g.kind
