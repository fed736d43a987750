-- What the evaluator of one rule at one binding works on: columns that stand for tokens and for what their names mean, memory that stands
-- for a store, and memory that takes writes. What it promises holds in every world for which the columns and the memory stand.
use Rattle.std.specs.Prelude.{ℕ, ◌+◌, ◌*◌, ◌/◌, ◌%◌, ◌<◌, ◌≤◌, ◌≡◌, Bool, cond, ◌⊎◌, ltb, eqb, length, get_or, drop}
use mathlib.Core.List.{List, [], ◌∷◌, flat_map}
use Rattle.std.specs.Prelude as Optional
use Rattle.std.proofs.Math.Option.{Option, none, some}
use Rattle.std.proofs.Math.ListN.{get_elem?}
use Rattle.values.specs.declared.Value.{Value}
use Rattle.values.specs.declared.Operator.{Operator}
use Rattle.values.specs.definitions.Cells.{cell_at}
use Rattle.text.specs.definitions.Tokens.{Token, NAME, EVENT, ACTION, FROM, WITH, ON, COLON, DOT}
use Rattle.text.specs.definitions.Syntax.{Member, Expression, Target, Filter, Test, Condition, Call, Priority, Rule, priority_given, priority_of}
use Rattle.text.specs.definitions.Readers.{Parser, read}
use Rattle.text.specs.definitions.Grammar.{operator_of, target_reader, priority_reader, rule_after}
use Rattle.text.specs.inner_contracts.Walks.{nth_token, Rows, Stands, Walks, Looping}
use Rattle.writes.specs.definitions.Writes.{Write}
use Rattle.writes.specs.inner_contracts.Pending.{pended}
use Rattle.checking.specs.definitions.CountFaults.{MOST_ENTITIES}
use Rattle.checking.specs.inner_contracts.Directory.{NO_MEMBER}
use Rattle.checking.specs.inner_contracts.Resolution.{FIRST_VARIABLE}
use Rattle.cycles.specs.declared.evaluate.Binding.{Binding}
use Rattle.cycles.specs.definitions.Store.{Store}
use Rattle.cycles.specs.declared.rules.Rules.{Rules}
use Rattle.cycles.specs.inner_contracts.Bundles.{StoreMemory}
use Rattle.cycles.specs.definitions.Spots.{Spot, Spots}
use Rattle.cycles.specs.inner_contracts.TotalMachine.{value_at, value, filter_holds, test_holds, holds, call_writes, binding_writes}
use Rattle.checking.specs.definitions.PriorityFaults.{MOST_PRIORITY}
use Rattle.checking.specs.inner_contracts.CheckedBench.{ValuesOf}
use Rattle.cycles.specs.definitions.Reference.{written_if}
use Rattle.cycles.specs.definitions.Planes.{ENTITY_CELLS, ENTITY_CELL_BYTES, MOST_CELL_BYTES}

-- ---- references

-- the entity that a reference means: an entity, or a variable. A binding has the variables' entities as the bytes of
-- one number, the first variable's the lowest
unfoldable pub bound : Binding → ℕ → ℕ
bound b r =
    cond (ltb r FIRST_VARIABLE) r
    (cond (eqb r FIRST_VARIABLE) (b.entities % 256) (cond (eqb r (FIRST_VARIABLE + 1)) (b.entities / 256 % 256) (b.entities / 65536 % 256)))

-- what a reference says of a look-up, among so many entities: member m of entity e, or nothing, where m is no member's number
pub data Locates (count : ℕ) (p : Option Spot) (e m : ℕ) : Type 0 where
  located : (what : Member) → p ≡ some (record { entity = e; member = m; what = what }) → e < count → m < NO_MEMBER → Locates count p e m
  missing : p ≡ none → NO_MEMBER ≤ m → Locates count p e m

-- a target whose name is token number n, up to token number i: "name `:` interface declares a variable; a bare name .."
pub data Targeted {classes : List ℕ} (w : Rows classes) (n : ℕ) : ℕ → Type 0 where
  bare : Stands w n NAME → Targeted w n (n + 1)
  declares : Stands w n NAME → Stands w (n + 1) COLON → Stands w (n + 1 + 1) NAME → Targeted w n (n + 1 + 1 + 1)

-- the names of tokens number n and m mean the cell that the column of references says: at n, a name that means an entity or a variable, it has
-- a reference in its low 8 bits, and at m, a member's name, the member's number above them
abbrev pub Refers : {classes : List ℕ} → Rows classes → List ℕ → Binding → Spots → ℕ → ℕ → ℕ → Type 0
Refers rows refs b spots count n m =
    Locates count (spots (nth_token rows.tokens n).bytes (nth_token rows.tokens m).bytes) (bound b (get_or refs n 0 % 256)) (get_or refs m 0 / 256)

-- the tokens of a rule, of which `rows` tells the range, and what its names mean under a binding, of so many entities
pub record Resolved (classes values refs : List ℕ) (b : Binding) : Type 0 where
  pub rows : Rows classes
  pub value : (i : ℕ) (t : Token) → get_elem? rows.tokens i ≡ some t → t.value ≡ get_or values i 0
  pub spots : Spots
  pub count : ℕ
  pub few : count ≤ MOST_ENTITIES
  -- name `.` member
  pub dotted : (i : ℕ) → Stands rows i NAME → Stands rows (i + 1) DOT → Stands rows (i + 1 + 1) NAME → Refers rows refs b spots count i (i + 1 + 1)
  -- `event` name `from` target
  pub sourced : (i : ℕ) → Stands rows i EVENT → Stands rows (i + 1) NAME → Stands rows (i + 1 + 1) FROM → Stands rows (i + 1 + 1 + 1) NAME
      → Refers rows refs b spots count (i + 1 + 1 + 1) (i + 1)
  -- `action` name .. `on` target, where the `on` is the first after the `action`
  pub called : (i k : ℕ) → Stands rows i ACTION → Stands rows (i + 1) NAME → Stands rows k ON → Stands rows (k + 1) NAME
      → i < k → ((j : ℕ) → i < j → j < k → get_or classes j 0 ≡ ON → ⊥) → Refers rows refs b spots count (k + 1) (i + 1)
  -- `from` or `on`, target, `with` attribute
  pub filtered : (k i : ℕ) → Stands rows k FROM ⊎ Stands rows k ON → Targeted rows (k + 1) i → Stands rows i WITH → Stands rows (i + 1) NAME
      → Refers rows refs b spots count (k + 1) (i + 1)

-- ---- stores in memory

-- a flag of 1 for each present entity, and the cells of each entity, as `decode_store` reads them
pub record Stored (count : ℕ) (flags cells : List ℕ) (s : Store) : Type 0 where
  pub room : count * ENTITY_CELL_BYTES ≤ length cells
  pub present : (e : ℕ) → e < count → s.present e ≡ eqb (get_or flags e 0) 1
  pub cell : (e m : ℕ) → e < count → m < ENTITY_CELLS → s.cell e m ≡ cell_at cells (e * ENTITY_CELLS + m)

-- a world with one store, and one with two
pub record InStore (classes values refs : List ℕ) (b : Binding) (flags cells : List ℕ) : Type 0 where
  pub rule : Resolved classes values refs b
  pub store : Store
  pub stored : Stored rule.count flags cells store

pub record InStores (classes values refs : List ℕ) (b : Binding) (flags cells previous_flags previous_cells : List ℕ) : Type 0 where
  pub rule : Resolved classes values refs b
  pub now : Store
  pub previous : Store
  pub now_stored : Stored rule.count flags cells now
  pub previous_stored : Stored rule.count previous_flags previous_cells previous

-- the cell that a reference says, as it is read
pub record CellRead (flags cells : List ℕ) (e m : ℕ) (r : Value) : Type 0 where
  pub reads : (count : ℕ) (s : Store) (p : Option Spot) → Stored count flags cells s → Locates count p e m → r ≡ value_at s p

-- ---- writes

-- the pending cells of as many entities as a file may have: their bytes, and behind these a byte for each cell, its stamp
abbrev pub MOST_CELLS : ℕ
MOST_CELLS = MOST_ENTITIES * ENTITY_CELLS

abbrev pub MOST_PENDING_BYTES : ℕ
MOST_PENDING_BYTES = MOST_CELL_BYTES + MOST_CELLS

-- memory of pending cells after writes, one after another
unfoldable pub puts : List ℕ → List Write → List ℕ
puts area [] = area
puts area (w ∷ ws) = puts (pended MOST_CELL_BYTES area (w.entity * ENTITY_CELLS + w.member) w.priority w.value) ws

-- the write of a value to the spot that a reference says, by a rule of this priority, if it is made
pub record Put (area : List ℕ) (made : Bool) (priority e m : ℕ) (v : Value) (after : List ℕ) : Type 0 where
  pub written : (count : ℕ) (p : Option Spot) → count ≤ MOST_ENTITIES → Locates count p e m → after ≡ puts area (written_if made p priority v)

-- the priority of the rule whose tokens after `when` begin at number `at`, in every world in which it is not above the greatest
pub record PriorityRead (classes values : List ℕ) (at priority : ℕ) : Type 0 where
  pub within : priority ≤ MOST_PRIORITY
  pub is : (w : Rows classes) → ValuesOf values w.tokens → w.low ≤ at → (k : Option Priority) (used : ℕ) → priority_reader (drop at w.tokens) ≡ read k used
      → at + used ≤ w.high → priority_given k ≤ MOST_PRIORITY → priority ≡ priority_given k

-- the operator of a token's class, if that is one of those that the test says
abbrev pub operator_if : (ℕ → Bool) → ℕ → Optional.Option Operator
operator_if test class = cond (test class) (Optional.Some (operator_of class)) Optional.None

-- ---- what the walks give

-- a target: its name's bytes, and where it ends
pub record Placed {classes : List ℕ} (at next : ℕ) (w : Rows classes) (t : Target) (r : Unit {0}) : Type 0 where
  pub shape : Targeted w at next
  pub named : t.name.bytes ≡ (nth_token w.tokens at).bytes

module _ (classes : List ℕ) where
  abbrev pub all_rows : Rows classes → Rows classes
  all_rows w = w

  abbrev pub TargetWalk : ℕ → ℕ → Type 0
  TargetWalk at next = Walks all_rows (Placed at next) target_reader at tt next

module _ (classes values refs : List ℕ) (b : Binding) (flags cells : List ℕ) where
  abbrev pub in_store_rows : InStore classes values refs b flags cells → Rows classes
  in_store_rows c = c.rule.rows

  abbrev pub ExpressionYields : InStore classes values refs b flags cells → Expression → Value → Type 0
  ExpressionYields c a v = v ≡ value c.rule.spots c.store a

  abbrev pub ExpressionWalk : Parser Expression → ℕ → Value → ℕ → Type 0
  ExpressionWalk = Walks in_store_rows ExpressionYields

  -- a loop over items with operators between them
  abbrev pub ExpressionLoop : Parser Expression → (ℕ → Bool) → (Expression → Token → Parser Expression) → ℕ → Value → ℕ → Type 0
  ExpressionLoop = Looping in_store_rows ExpressionYields

  -- an attribute named after a `with` at number `at` is one of entity e, the target
  pub record Owns (e at : ℕ) (c : InStore classes values refs b flags cells) (t : Target) : Type 0 where
    pub owns : Stands c.rule.rows at WITH → Stands c.rule.rows (at + 1) NAME
        → Locates c.rule.count (c.rule.spots t.name.bytes (nth_token c.rule.rows.tokens (at + 1)).bytes) e (get_or refs (at + 1) 0 / 256)

  pub record FilterYields (e at : ℕ) (c : InStore classes values refs b flags cells) (f : Option Filter) (r : Bool) : Type 0 where
    pub filters : (t : Target) → Owns e at c t → r ≡ filter_holds c.rule.spots c.store t f

  abbrev pub FilterWalk : ℕ → Parser (Option Filter) → ℕ → Bool → ℕ → Type 0
  FilterWalk e r at v next = Walks in_store_rows (FilterYields e at) r at v next

  -- a call's writes, in a rule of this priority, after those that gave `area`
  abbrev pub CallYields : (priority : ℕ) → List ℕ → InStore classes values refs b flags cells → Call → List ℕ → Type 0
  CallYields priority area c k r = r ≡ puts area (call_writes c.rule.spots c.store priority k)

  abbrev pub CallWalk : (priority : ℕ) → List ℕ → Parser Call → ℕ → List ℕ → ℕ → Type 0
  CallWalk priority area = Walks in_store_rows (CallYields priority area)

  abbrev pub CallsYields : (priority : ℕ) → List ℕ → InStore classes values refs b flags cells → List Call → List ℕ → Type 0
  CallsYields priority area c ks r = r ≡ puts area (flat_map (call_writes c.rule.spots c.store priority) ks)

  abbrev pub CallsWalk : (priority : ℕ) → List ℕ → Parser (List Call) → ℕ → List ℕ → ℕ → Type 0
  CallsWalk priority area = Walks in_store_rows (CallsYields priority area)

module _ (classes values refs : List ℕ) (b : Binding) (flags cells previous_flags previous_cells : List ℕ) where
  abbrev pub in_stores_rows : InStores classes values refs b flags cells previous_flags previous_cells → Rows classes
  in_stores_rows c = c.rule.rows

  -- of an event in the spot that a reference says
  pub record TestYields (e m : ℕ) (c : InStores classes values refs b flags cells previous_flags previous_cells) (x : Test) (r : Bool) : Type 0 where
    pub tests : (p : Option Spot) → Locates c.rule.count p e m → r ≡ test_holds c.rule.spots c.now c.previous p x

  abbrev pub TestWalk : ℕ → ℕ → Parser Test → ℕ → Bool → ℕ → Type 0
  TestWalk e m = Walks in_stores_rows (TestYields e m)

  abbrev pub ConditionYields : InStores classes values refs b flags cells previous_flags previous_cells → Condition → Bool → Type 0
  ConditionYields c a r = r ≡ holds c.rule.spots c.now c.previous a

  abbrev pub ConditionWalk : Parser Condition → ℕ → Bool → ℕ → Type 0
  ConditionWalk = Walks in_stores_rows ConditionYields

  abbrev pub ConditionLoop : Parser Condition → (ℕ → Bool) → (Condition → Token → Parser Condition) → ℕ → Bool → ℕ → Type 0
  ConditionLoop = Looping in_stores_rows ConditionYields

  -- of the rule whose tokens after `when` begin at number `at`: `area` after all that it writes
  pub record RulePuts (at : ℕ) (area after : List ℕ) : Type 0 where
    pub writes : (c : InStores classes values refs b flags cells previous_flags previous_cells) → c.rule.rows.low ≤ at
        → (start : Token) (r : Rule) (n : ℕ) → rule_after start (drop at c.rule.rows.tokens) ≡ read r n → at + n ≤ c.rule.rows.high
        → priority_of r ≤ MOST_PRIORITY
        → after ≡ puts area (binding_writes c.rule.spots c.now c.previous r)

-- ---- the same over what is lent together: the columns of a bench, one store or two

module _ (r : Rules) (b : Binding) (s : StoreMemory) where
  abbrev pub Expresses : Parser Expression → ℕ → Value → ℕ → Type 0
  Expresses = ExpressionWalk r.columns.classes.now r.literals.now r.references.now b s.flags s.cells

  abbrev pub Filters : ℕ → Parser (Option Filter) → ℕ → Bool → ℕ → Type 0
  Filters = FilterWalk r.columns.classes.now r.literals.now r.references.now b s.flags s.cells

  abbrev pub CallPuts : (priority : ℕ) → List ℕ → Parser Call → ℕ → List ℕ → ℕ → Type 0
  CallPuts = CallWalk r.columns.classes.now r.literals.now r.references.now b s.flags s.cells

  abbrev pub CallsPut : (priority : ℕ) → List ℕ → Parser (List Call) → ℕ → List ℕ → ℕ → Type 0
  CallsPut = CallsWalk r.columns.classes.now r.literals.now r.references.now b s.flags s.cells

module _ (r : Rules) (b : Binding) (current previous : StoreMemory) where
  abbrev pub Tests : ℕ → ℕ → Parser Test → ℕ → Bool → ℕ → Type 0
  Tests = TestWalk r.columns.classes.now r.literals.now r.references.now b current.flags current.cells previous.flags previous.cells

  abbrev pub Holds : Parser Condition → ℕ → Bool → ℕ → Type 0
  Holds = ConditionWalk r.columns.classes.now r.literals.now r.references.now b current.flags current.cells previous.flags previous.cells

  abbrev pub Writes : (at : ℕ) → (area after : List ℕ) → Type 0
  Writes = RulePuts r.columns.classes.now r.literals.now r.references.now b current.flags current.cells previous.flags previous.cells
