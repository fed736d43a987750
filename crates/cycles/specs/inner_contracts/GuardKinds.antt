-- Guards of a rule: what must hold at a binding for the rule to write anything there. They are found in the rule's tokens, once for all bindings,
-- and stand in memory with the tokens that they speak of. A binding that fails one is given up before its later variables get entities.
use Rattle.std.specs.Prelude.{ℕ, ◌+◌, ◌%◌, ◌<◌, ◌≤◌, ◌≡◌, List, [], true, false, cond, ◌⊎◌, All, get_or, drop}
use Rattle.std.proofs.Math.Option.{Option}
use Rattle.values.specs.definitions.Value.{equal, differ}
use Rattle.text.specs.definitions.Tokens.{Token, NAME, EVENT, FROM, WITH, ON}
use Rattle.text.specs.definitions.Syntax.{Expression, Condition, Rule}
use Rattle.text.specs.definitions.Readers.{Parser, read}
use Rattle.text.specs.definitions.Syntax.{OPENERS}
use Rattle.text.specs.definitions.Grammar.{expression_reader, atom_reader, rule_after}
use Rattle.text.specs.inner_contracts.Walks.{nth_token, Rows, Stands}
use Rattle.checking.specs.inner_contracts.Directory.{rule_row}
use Rattle.checking.specs.definitions.CountFaults.{MOST_VARIABLES}
use Rattle.checking.specs.inner_contracts.Resolution.{FIRST_VARIABLE}
use Rattle.cycles.specs.declared.evaluate.Binding.{Binding}
use Rattle.cycles.specs.declared.guards.Guard.{Guard}
use Rattle.cycles.specs.declared.guards.GuardKind.TheVariants.{EqualNow, UnequalBefore, Changes, Holds}
use Rattle.cycles.specs.definitions.Store.{Store}
use Rattle.cycles.specs.definitions.Spots.{Spot, Spots}
use Rattle.cycles.specs.inner_contracts.TotalMachine.{value_at, value, holds, binding_writes}
use Rattle.cycles.specs.inner_contracts.Evaluation.{Targeted}
use Rattle.cycles.specs.declared.rules.Rules.{Rules}
use Rattle.cycles.specs.inner_contracts.Bundles.{StoreMemory}
use Rattle.cycles.specs.inner_contracts.AllRules.{candidate, EntityAdded, BindingsPut}

-- the variables that tokens from `low` up to `high` refer to are among the first `level`
pub record Covered (refs : List ℕ) (level low high : ℕ) : Type 0 where
  pub covers : (i v : ℕ) → low ≤ i → i < high → get_or refs i 0 % 256 ≡ FIRST_VARIABLE + v → v < MOST_VARIABLES → v < level

-- token number n names an entity or a variable, and token number m a member of it
pub data Names {classes : List ℕ} (w : Rows classes) : ℕ → ℕ → Type 0 where
  -- `event` name `from` target
  source : {i : ℕ} → Stands w i EVENT → Stands w (i + 1) NAME → Stands w (i + 1 + 1) FROM → Stands w (i + 1 + 1 + 1) NAME
      → Names w (i + 1 + 1 + 1) (i + 1)
  -- `from` or `on`, target, `with` attribute
  attribute : {k i : ℕ} → Stands w k FROM ⊎ Stands w k ON → Targeted w (k + 1) i → Stands w i WITH → Stands w (i + 1) NAME
      → Names w (k + 1) (i + 1)

abbrev pub spot_named : {classes : List ℕ} → Rows classes → Spots → ℕ → ℕ → Option Spot
spot_named w sp n m = sp (nth_token w.tokens n).bytes (nth_token w.tokens m).bytes

-- what a reader reads at number `at`, of the first `level` variables
pub record Part {A : Type 0} {classes : List ℕ} (reader : Parser A) (w : Rows classes) (refs : List ℕ) (level at : ℕ) (a : A) : Type 0 where
  pub used : ℕ
  pub reads : reader (drop at w.tokens) ≡ read a used
  pub from : w.low ≤ at
  pub before : at + used ≤ w.high
  pub covered : Covered refs level at (at + used)

-- where this guard fails, there is silence. Its expression may need fewer variables than its cell
pub data Silences {classes : List ℕ} (w : Rows classes) (refs : List ℕ) (silence : Spots → Store → Store → Type 0) (g : Guard) : Type 0 where
  equals_now : g.kind ≡ EqualNow → Names w g.name g.member → Covered refs g.level g.name (g.name + 1) → g.inner ≤ g.level
      → {x : Expression} → Part (expression_reader OPENERS) w refs g.inner g.at x
      → ((sp : Spots) (now previous : Store) → equal (value_at now (spot_named w sp g.name g.member)) (value sp now x) ≡ false → silence sp now previous)
      → Silences w refs silence g
  differs_before : g.kind ≡ UnequalBefore → Names w g.name g.member → Covered refs g.level g.name (g.name + 1) → g.inner ≤ g.level
      → {x : Expression} → Part (expression_reader OPENERS) w refs g.inner g.at x
      → ((sp : Spots) (now previous : Store) → equal (value_at previous (spot_named w sp g.name g.member)) (value sp previous x) ≡ true
      → silence sp now previous)
      → Silences w refs silence g
  changes : g.kind ≡ Changes → Names w g.name g.member → Covered refs g.level g.name (g.name + 1)
      → ((sp : Spots) (now previous : Store)
      → differ (value_at now (spot_named w sp g.name g.member)) (value_at previous (spot_named w sp g.name g.member)) ≡ false
      → silence sp now previous)
      → Silences w refs silence g
  group : g.kind ≡ Holds → {a : Condition} → Part (atom_reader OPENERS) w refs g.level g.at a
      → ((sp : Spots) (now previous : Store) → holds sp now previous a ≡ false → silence sp now previous)
      → Silences w refs silence g

-- so does each of a list
abbrev pub Guarded : {classes : List ℕ} → Rows classes → List ℕ → (Spots → Store → Store → Type 0) → List Guard → Type 0
Guarded w refs silence guards = All (Silences w refs silence) guards

-- they are those of the rule whose tokens after `when` begin at number `at`: where one fails, the rule writes nothing
pub record GuardsFound (classes refs : List ℕ) (at : ℕ) (guards : List Guard) : Type 0 where
  pub found : (w : Rows classes) → w.low ≤ at → (start : Token) (r : Rule) (used : ℕ) → rule_after start (drop at w.tokens) ≡ read r used
      → at + used ≤ w.high → Guarded w refs (λ sp now previous. binding_writes sp now previous r ≡ []) guards

module _ (classes values d refs scopes flags cells previous_flags previous_cells : List ℕ) (k level : ℕ) (b : Binding) (face : ℕ) where
  -- entity e needs no turn as the next variable's: it is no candidate, or no binding with it writes anything
  pub data Needless (e : ℕ) : Type 0 where
    no_candidate : candidate d flags face e ≡ false → Needless e
    silent : ((r : Binding) → EntityAdded b level e r
        → (area : List ℕ) → BindingsPut classes values d refs scopes flags cells previous_flags previous_cells k (level + 1) r area area)
        → Needless e

  -- of the entities from `first` on, below `end`: those without a mark need no turn, and those with one are candidates
  pub record Marked (first end : ℕ) (marks : List ℕ) : Type 0 where
    pub unmarked : (e : ℕ) → first ≤ e → e < end → get_or marks e 0 ≡ 0 → Needless e
    pub marked : (e : ℕ) → first ≤ e → e < end → (get_or marks e 0 ≡ 0 → ⊥) → candidate d flags face e ≡ true

-- the marks of the candidates
pub record MarksSet (d flags : List ℕ) (face first end : ℕ) (marks : List ℕ) : Type 0 where
  pub sets : (e : ℕ) → first ≤ e → e < end → get_or marks e 0 ≡ cond (candidate d flags face e) 1 0

-- where a guard of the next level fails, the entity loses its mark
pub record Narrowed (classes values refs flags cells previous_flags previous_cells : List ℕ) (b : Binding) (guards : List Guard) (level first end : ℕ)
    (before after : List ℕ) : Type 0 where
  pub narrows : (d scopes : List ℕ) (k face : ℕ) → GuardsFound classes refs (get_or d (rule_row k) 0 + 1) guards
      → Marked classes values d refs scopes flags cells previous_flags previous_cells k level b face first end before
      → Marked classes values d refs scopes flags cells previous_flags previous_cells k level b face first end after

-- the same over what is lent together
abbrev pub Narrows : Rules → (current previous : StoreMemory) → Binding → (guards : List Guard) → (level first end : ℕ) → (before after : List ℕ) → Type 0
Narrows r current previous = Narrowed r.columns.classes.now r.literals.now r.references.now current.flags current.cells previous.flags previous.cells
