-- What the functions that find the cells which conditions read promise, cell by cell and mention by mention.
use Rattle.std.specs.Prelude.{ℕ, suc, ◌+◌, ◌*◌, ◌-◌, ◌/◌, ◌%◌, ◌≤◌, ◌<◌, ◌≡◌, List, Bool, cond, ◌&&◌, ◌||◌, eqb, ltb, length, get_or}
use Rattle.text.specs.definitions.Tokens.{EVENT, WITH, DOT}
use Rattle.cell_sets.specs.inner_contracts.Meeting.{row_has}
use Rattle.checking.specs.definitions.Scope.{variables}
use Rattle.checking.specs.definitions.CountFaults.{MOST_ENTITIES, MOST_RULES, MOST_VARIABLES}
use Rattle.checking.specs.inner_contracts.Directory.{ENTITY_COUNT_ROW, RULE_COUNT_ROW, entity_interface_row, rule_row}
use Rattle.checking.specs.inner_contracts.RuleParts.{RuleWorld}
use Rattle.checking.specs.inner_contracts.Resolution.{FIRST_VARIABLE, ALL_SCOPE_ROWS, scope_row, References, Scopes}
use Rattle.checking.specs.inner_contracts.Resolving.{OwnerOf}
use Rattle.cycles.specs.definitions.Planes.{ENTITY_CELLS}
use Rattle.cycles.specs.definitions.Reads.{reads_cell}
use Rattle.cycles.specs.inner_contracts.ReadSets.{READ_SET_BYTES, SCOPES_BYTES}

-- ---- one set

-- where the set of rule number k begins
abbrev pub set_start : ℕ → ℕ
set_start k = ALL_SCOPE_ROWS + READ_SET_BYTES * k

-- is member number m of entity number e in the set of rule number k?
abbrev pub set_has : List ℕ → ℕ → ℕ → ℕ → Bool
set_has scopes k e m = row_has scopes ALL_SCOPE_ROWS READ_SET_BYTES k (e * ENTITY_CELLS + m)

-- the set of rule number k has these cells besides those that it had, and no other byte is another
pub record CellsAdded (k : ℕ) (cell : ℕ → ℕ → Bool) (scopes new : List ℕ) : Type 0 where
  pub kept : length new ≡ length scopes
  pub before : (p : ℕ) → p < set_start k → get_or new p 0 ≡ get_or scopes p 0
  pub after : (p : ℕ) → set_start (suc k) ≤ p → get_or new p 0 ≡ get_or scopes p 0
  pub is : (e m : ℕ) → e < MOST_ENTITIES → m < ENTITY_CELLS → set_has new k e m ≡ (set_has scopes k e m || cell e m)

-- ---- mentions

-- does a member's name come after a token of this class in a condition? After `.`, `event` and `with` it does
unfoldable pub is_before_member : ℕ → Bool
is_before_member c = eqb c DOT || (eqb c EVENT || eqb c WITH)

-- is entity number e one of those that the directory has, and of interface number `face`?
unfoldable pub has_face : List ℕ → ℕ → ℕ → Bool
has_face d face e = ltb e (get_or d ENTITY_COUNT_ROW 0) && eqb (get_or d (entity_interface_row e) 0) face

-- can reference r mean entity number e in rule number k? An entity means itself, a variable every entity of its interface
unfoldable pub can_refer : List ℕ → List ℕ → ℕ → ℕ → ℕ → Bool
unfolding has_face
can_refer d scopes k r e =
    cond (ltb r FIRST_VARIABLE) (eqb r e)
    (ltb (r - FIRST_VARIABLE) MOST_VARIABLES && has_face d (get_or scopes (scope_row k + 1 + (r - FIRST_VARIABLE)) 0) e)

-- the cells that token number i, a member's name, mentions by its row and its owner's
pub record MentionAdded (classes d refs : List ℕ) (k i : ℕ) (scopes new : List ℕ) : Type 0 where
  pub owner : ℕ
  pub owns : OwnerOf classes i owner
  pub added : CellsAdded k (λ e m. can_refer d scopes k (get_or refs owner 0 % 256) e && eqb (get_or refs i 0 / 256) m) scopes new

-- ---- rules

-- a bench with resolved names, and its rule number k
pub record ReadWorld (classes d refs scopes : List ℕ) (k : ℕ) : Type 0 where
  pub text : List ℕ
  pub offsets : List ℕ
  pub lengths : List ℕ
  pub references : References text classes offsets lengths d refs
  pub scopes_are : Scopes text classes offsets lengths d scopes
  pub inside : k < get_or d RULE_COUNT_ROW 0
  pub below : k < MOST_RULES
  pub world : RuleWorld text classes offsets lengths d (get_or d (rule_row k) 0)
  pub few : length (variables world.rule) ≤ MOST_VARIABLES

module _ {classes d refs scopes : List ℕ} {k : ℕ} where
  abbrev pub world_reads : ReadWorld classes d refs scopes k → ℕ → ℕ → Bool
  world_reads c e m = reads_cell c.world.bench.file c.world.rule e m

-- the cells that the condition of rule number k reads
pub record RuleRead (classes d refs : List ℕ) (k : ℕ) (scopes new : List ℕ) : Type 0 where
  pub kept : length new ≡ length scopes
  pub before : (p : ℕ) → p < set_start k → get_or new p 0 ≡ get_or scopes p 0
  pub after : (p : ℕ) → set_start (suc k) ≤ p → get_or new p 0 ≡ get_or scopes p 0
  pub is : (c : ReadWorld classes d refs scopes k) (e m : ℕ) → e < MOST_ENTITIES → m < ENTITY_CELLS
      → set_has new k e m ≡ (set_has scopes k e m || world_reads c e m)

-- the sets of all rules are empty, and no other byte is another
pub record Cleared (scopes new : List ℕ) : Type 0 where
  pub kept : length new ≡ length scopes
  pub before : (p : ℕ) → p < ALL_SCOPE_ROWS → get_or new p 0 ≡ get_or scopes p 0
  pub empty : (p : ℕ) → ALL_SCOPE_ROWS ≤ p → p < SCOPES_BYTES → get_or new p 0 ≡ 0

-- the sets of all rules have the cells that their conditions read
pub record ReadsFound (classes d refs scopes new : List ℕ) : Type 0 where
  pub kept : length new ≡ length scopes
  pub before : (p : ℕ) → p < ALL_SCOPE_ROWS → get_or new p 0 ≡ get_or scopes p 0
  pub is : (k : ℕ) (c : ReadWorld classes d refs scopes k) (e m : ℕ) → e < MOST_ENTITIES → m < ENTITY_CELLS → set_has new k e m ≡ world_reads c e m
