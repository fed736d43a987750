-- What the rules of a bench that are tried write, each for every binding of its variables: of a checked bench in columns, and two stores in memory.
use Rattle.std.specs.Prelude.{ℕ, suc, ◌+◌, ◌≤◌, ◌<◌, ◌≡◌, Bool, true, false, not, ◌&&◌, ◌||◌, cond, T, leb, eqb, length, get_or, drop}
use mathlib.Core.List.{List, [], ◌∷◌, ◌++◌, flat_map}
use Rattle.std.proofs.Math.Option.{some}
use Rattle.std.proofs.Math.ListN.{get_elem?}
use Rattle.text.specs.definitions.Syntax.{Rule, File}
use Rattle.checking.specs.definitions.Scope.{Variable, variables}
use Rattle.checking.specs.inner_contracts.CheckedBench.{CheckedBench}
use Rattle.checking.specs.inner_contracts.Directory.{entity_interface_row}
use Rattle.checking.specs.inner_contracts.Resolution.{FIRST_VARIABLE, References, scope_row, Scopes}
use Rattle.checking.specs.definitions.CountFaults.{MOST_INTERFACES, MOST_VARIABLES}
use Rattle.cell_sets.specs.definitions.Sets.{has_bit}
use Rattle.cycles.specs.declared.bindings.Range.{Range}
use Rattle.cycles.specs.declared.evaluate.Binding.{Binding}
use Rattle.cycles.specs.definitions.Store.{Store}
use Rattle.cycles.specs.definitions.Spots.{spots}
use Rattle.cycles.specs.inner_contracts.TotalMachine.{binding_writes}
use Rattle.cycles.specs.definitions.Bindings.{bindings}
use Rattle.cycles.specs.inner_contracts.TotalMachine.{rule_writes}
use Rattle.cycles.specs.definitions.ClosedSet.{is_of}
use Rattle.cycles.specs.definitions.Quiescence.{is_quiescent}
use Rattle.cycles.specs.inner_contracts.ReadSets.{ReadsAre}
use Rattle.cycles.specs.declared.rules.Rules.{Rules}
use Rattle.cycles.specs.inner_contracts.Bundles.{StoreMemory}
use Rattle.cycles.specs.inner_contracts.Evaluation.{bound, Stored, puts}

-- a checked bench with its rules' names resolved, and two stores of it
pub record RulesGiven (text classes offsets lengths values d refs scopes flags cells previous_flags previous_cells : List ℕ) : Type 0 where
  pub checked : CheckedBench text classes offsets lengths values d
  pub references : References text classes offsets lengths d refs
  pub scopes_are : Scopes text classes offsets lengths d scopes
  pub reads_are : ReadsAre text classes offsets lengths d scopes
  pub now : Store
  pub previous : Store
  pub now_stored : Stored (length checked.bench.file.entities) flags cells now
  pub previous_stored : Stored (length checked.bench.file.entities) previous_flags previous_cells previous

-- the rules of a list that are in the set, the first of them having number k
unfoldable pub rules_in : (set k : ℕ) → List Rule → List Rule
unfolding has_bit
rules_in set k [] = []
rules_in set k (r ∷ rs) = cond (has_bit set k) (r ∷ rules_in set (suc k) rs) (rules_in set (suc k) rs)

-- a set of rules, a bit for each by its number: exactly those that are not quiescent
pub record RulesTried (d scopes flags cells previous_flags previous_cells : List ℕ) (tried : ℕ) : Type 0 where
  pub is : (text classes offsets lengths values refs : List ℕ)
      (g : RulesGiven text classes offsets lengths values d refs scopes flags cells previous_flags previous_cells)
      → (k : ℕ) (r : Rule) → get_elem? g.checked.bench.file.rules k ≡ some r
      → has_bit tried k ≡ not (is_quiescent g.checked.bench.file g.now g.previous r)
  pub none : (text classes offsets lengths values refs : List ℕ)
      (g : RulesGiven text classes offsets lengths values d refs scopes flags cells previous_flags previous_cells)
      → (k : ℕ) → length g.checked.bench.file.rules ≤ k → has_bit tried k ≡ false

-- entities for the first of a rule's variables, each of its variable's interface
abbrev pub Binds : File → List Variable → List ℕ → Type 0
Binds f vs b = (k : ℕ) (v : Variable) (e : ℕ) → get_elem? vs k ≡ some v → get_elem? b k ≡ some e → T (is_of f v.interface.bytes e)

-- a binding in memory has them
abbrev pub Gives : Binding → List ℕ → Type 0
Gives b es = (v e : ℕ) → get_elem? es v ≡ some e → e ≡ bound b (FIRST_VARIABLE + v)

-- are there entities for all variables of rule number k, if there are for the first `level` of them? No rule has more than three
abbrev pub complete : List ℕ → ℕ → ℕ → Bool
complete scopes k level = leb MOST_VARIABLES level || eqb (get_or scopes (scope_row k) 0) level

-- is entity number e present, and of interface number `face`?
abbrev pub candidate : List ℕ → List ℕ → ℕ → ℕ → Bool
candidate d flags face e = eqb (get_or flags e 0) 1 && eqb (get_or d (entity_interface_row e) 0) face

-- among n entities the candidates for interface number `face` have numbers from `first` on, below `end`
pub record Ranged (d flags : List ℕ) (n face first end : ℕ) : Type 0 where
  pub most : end ≤ n
  pub among : (e : ℕ) → e < n → candidate d flags face e ≡ true → (first ≤ e) × (e < end)

-- the same for each interface
abbrev pub Ranges : List ℕ → List ℕ → ℕ → List Range → Type 0
Ranges d flags n ranges =
    (face : ℕ) (other : Range) → face < MOST_INTERFACES → Ranged d flags n face (get_or ranges face other).first (get_or ranges face other).end

-- r is b with entity e for variable number `level`, the next one
pub record EntityAdded (b : Binding) (level e : ℕ) (r : Binding) : Type 0 where
  pub gives : (es : List ℕ) → length es ≡ level → level < MOST_VARIABLES → Gives b es → Gives r (es ++ e ∷ [])
  pub keeps : (v : ℕ) → v < level → level < MOST_VARIABLES → bound r (FIRST_VARIABLE + v) ≡ bound b (FIRST_VARIABLE + v)

module _ (classes values d refs scopes flags cells previous_flags previous_cells : List ℕ) where
  -- rule number k for every binding that begins with entities for the first `level` variables
  pub record BindingsPut (k level : ℕ) (b : Binding) (area after : List ℕ) : Type 0 where
    pub writes : (text offsets lengths : List ℕ)
        (g : RulesGiven text classes offsets lengths values d refs scopes flags cells previous_flags previous_cells)
        → (r : Rule) → get_elem? g.checked.bench.file.rules k ≡ some r
        → (es : List ℕ) → length es ≡ level → level ≤ length (variables r) → Gives b es → Binds g.checked.bench.file (variables r) es
        → after
        ≡ puts area (flat_map (λ rest. binding_writes (spots g.checked.bench.file (variables r) (es ++ rest)) g.now g.previous r)
        (bindings g.checked.bench.file g.now (drop level (variables r))))

  -- what the rules of any set write, one after another, and no others
  pub record SetPut (area after : List ℕ) (set : ℕ) : Type 0 where
    pub writes : (text offsets lengths : List ℕ)
        (g : RulesGiven text classes offsets lengths values d refs scopes flags cells previous_flags previous_cells)
        → after
        ≡ puts area (flat_map (rule_writes g.checked.bench.file g.now g.previous) (rules_in set 0 g.checked.bench.file.rules))

  -- the same of the rules that are tried, and which they are
  pub record RulesPut (area after : List ℕ) (tried : ℕ) : Type 0 where
    pub set_put : SetPut area after tried
    pub tried_are : RulesTried d scopes flags cells previous_flags previous_cells tried

-- the same over what is lent together: the columns of a bench, and two stores
module _ (r : Rules) (current previous : StoreMemory) where
  abbrev pub BindingsWritten : (k level : ℕ) → Binding → (area after : List ℕ) → Type 0
  BindingsWritten = BindingsPut r.columns.classes.now r.literals.now r.columns.d.now r.references.now r.scopes.now current.flags current.cells previous.flags previous.cells

  abbrev pub SetWritten : (area after : List ℕ) → (set : ℕ) → Type 0
  SetWritten = SetPut r.columns.classes.now r.literals.now r.columns.d.now r.references.now r.scopes.now current.flags current.cells previous.flags previous.cells

  abbrev pub RulesWritten : (area after : List ℕ) → (tried : ℕ) → Type 0
  RulesWritten = RulesPut r.columns.classes.now r.literals.now r.columns.d.now r.references.now r.scopes.now current.flags current.cells previous.flags previous.cells

  abbrev pub AreTried : ℕ → Type 0
  AreTried = RulesTried r.columns.d.now r.scopes.now current.flags current.cells previous.flags previous.cells
