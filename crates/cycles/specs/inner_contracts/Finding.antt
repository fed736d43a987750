-- What finding a rule's guards promises of each part of the rule. Guards are put into memory after those that stand there already, so a promise is
-- of memory before and after: where there were guards of a rule, and a failure of the part silences that rule, there are guards of the rule still.
use Rattle.std.specs.Prelude.{ℕ, ◌+◌, ◌≤◌, ◌≡◌, List, [], ◌∷◌, ◌++◌, false, get_or}
use Rattle.std.proofs.Math.Option.{Option}
use Rattle.text.specs.definitions.Tokens.{NAME, WITH, COMMA}
use Rattle.text.specs.definitions.Syntax.{Target, Filter, Test, Condition, Call, Rule}
use Rattle.text.specs.definitions.Readers.{Parser}
use Rattle.text.specs.definitions.Syntax.{OPENERS}
use Rattle.text.specs.definitions.Grammar.{filter_reader, test_reader, call_reader}
use Rattle.text.specs.inner_contracts.Walks.{nth_token, Rows, Stands, Walks}
use Rattle.cycles.specs.definitions.Store.{Store}
use Rattle.cycles.specs.definitions.Spots.{Spots}
use Rattle.cycles.specs.inner_contracts.TotalMachine.{filter_holds, test_holds, holds, call_writes, binding_writes}
use Rattle.cycles.specs.inner_contracts.Evaluation.{all_rows}
use Rattle.cycles.specs.declared.guards.Guard.{Guard}
use Rattle.cycles.specs.declared.guards.GuardKind.{GuardKind}
use Rattle.cycles.specs.inner_contracts.GuardKinds.{Covered, Names, spot_named, Guarded}

-- guards before and after
pub record Growth : Type 0 where
  pub before : List Guard
  pub after : List Guard

-- a guard is put after those that stand there, or none is
pub data GuardPut (guard : Guard) (g : Growth) : Type 0 where
  none_put : g.after ≡ g.before → GuardPut guard g
  one_put : g.after ≡ g.before ++ guard ∷ [] → GuardPut guard g

-- the same of a guard of this kind about tokens number n and m: its level covers n and those from number `at` up to `next`, its inner level the latter
pub record PartPut (refs : List ℕ) (kind : GuardKind) (n m at next : ℕ) (g : Growth) : Type 0 where
  pub level : ℕ
  pub inner : ℕ
  pub within : inner ≤ level
  pub own : Covered refs level n (n + 1)
  pub inside : Covered refs inner at next
  pub put : GuardPut (record { kind = kind; level = level; inner = inner; name = n; member = m; at = at }) g

-- guards of each rule that writes nothing where a part of it fails
pub record Extends {classes : List ℕ} (w : Rows classes) (refs : List ℕ) (fails : Spots → Store → Store → Type 0) (g : Growth) : Type 0 where
  pub extends : (r : Rule) → ((sp : Spots) (now previous : Store) → fails sp now previous → binding_writes sp now previous r ≡ [])
      → Guarded w refs (λ sp now previous. binding_writes sp now previous r ≡ []) g.before
      → Guarded w refs (λ sp now previous. binding_writes sp now previous r ≡ []) g.after

module _ {classes : List ℕ} (refs : List ℕ) where
  -- of what may stand after a clause's target, whose name is token number n
  pub record FilterGuards (n at : ℕ) (w : Rows classes) (f : Option Filter) (g : Growth) : Type 0 where
    pub filters : (t : Target) → t.name.bytes ≡ (nth_token w.tokens n).bytes → (Stands w at WITH → Stands w (at + 1) NAME → Names w n (at + 1))
        → Extends w refs (λ sp now previous. filter_holds sp now t f ≡ false) g

  -- of what is asked of the event that tokens number n and m name
  pub record TestGuards (n m : ℕ) (w : Rows classes) (x : Test) (g : Growth) : Type 0 where
    pub tests : Names w n m → Extends w refs (λ sp now previous. test_holds sp now previous (spot_named w sp n m) x ≡ false) g

  abbrev pub ConditionGuards : Rows classes → Condition → Growth → Type 0
  ConditionGuards w a = Extends w refs (λ sp now previous. holds sp now previous a ≡ false)

  abbrev pub CallGuards : Rows classes → Call → Growth → Type 0
  CallGuards w k = Extends w refs (λ sp now previous. (priority : ℕ) → call_writes sp now priority k ≡ [])

module _ (classes refs : List ℕ) where
  abbrev pub FilterGuardsWalk : ℕ → ℕ → Growth → ℕ → Type 0
  FilterGuardsWalk n at = Walks (all_rows classes) (FilterGuards refs n at) (filter_reader OPENERS) at

  abbrev pub TestGuardsWalk : ℕ → ℕ → ℕ → Growth → ℕ → Type 0
  TestGuardsWalk n m = Walks (all_rows classes) (TestGuards refs n m) (test_reader OPENERS)

  abbrev pub ConditionGuardsWalk : Parser Condition → ℕ → Growth → ℕ → Type 0
  ConditionGuardsWalk = Walks (all_rows classes) (ConditionGuards refs)

  -- of a rule's first call: if it is the only one, its guards; else none
  pub data CallGuarded (at : ℕ) (g : Growth) : Type 0 where
    no_guard : g.after ≡ g.before → CallGuarded at g
    only_call : {next : ℕ} → (get_or classes next 0 ≡ COMMA → ⊥) → Walks (all_rows classes) (CallGuards refs) call_reader at g next
        → CallGuarded at g
