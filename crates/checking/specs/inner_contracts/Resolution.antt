-- What the names in a rule refer to, by numbers, as the column of references holds it: in its low 8 bits the entity or variable that a name
-- means, above them the number of the member that a name is. Said for every rule of a file that stands in the columns and the directory.
use Rattle.std.specs.Prelude.{ℕ, ◌+◌, ◌*◌, ◌/◌, ◌%◌, ◌≤◌, ◌<◌, ◌≡◌, List, ◌⊎◌, length, get_or}
use Rattle.std.proofs.Math.Option.{Option, none, some}
use Rattle.std.proofs.Math.ListN.{get_elem?}
use Rattle.text.specs.definitions.Tokens.{NAME, EVENT, ACTION, FROM, WITH, ON, COLON, DOT}
use Rattle.text.specs.definitions.Syntax.{Entity}
use Rattle.checking.specs.definitions.Scope.{Indexed, entity_named, Variable, variables, variable_named, Scope, interface_in}
use Rattle.checking.specs.definitions.CountFaults.{MOST_ENTITIES, MOST_RULES, MOST_VARIABLES}
use Rattle.checking.specs.inner_contracts.Directory.{name_in, interface_number, member_number, RULE_COUNT_ROW, rule_row}
use Rattle.checking.specs.inner_contracts.RuleParts.{RuleWorld, world_scope}

-- the number for a name that means nothing in the rule
abbrev pub NO_REFERENCE : ℕ
NO_REFERENCE = 255

-- a rule's first variable: the numbers below are entities
abbrev pub FIRST_VARIABLE : ℕ
FIRST_VARIABLE = MOST_ENTITIES

-- an entity by its number, or a variable; in a rule an entity comes before a variable
unfoldable pub reference_by : Option (Indexed Entity) → Option (Indexed Variable) → ℕ
reference_by none none = NO_REFERENCE
reference_by none (some v) = FIRST_VARIABLE + v.number
reference_by (some e) v = e.number

unfoldable pub reference : Scope → List ℕ → ℕ
unfolding reference_by entity_named variable_named
reference s n = reference_by (entity_named s.file n) (variable_named s.variables n)

-- the member of that name of what the owner's name means, by its number; NO_MEMBER for none
unfoldable pub member_meant : Scope → List ℕ → List ℕ → ℕ
unfolding member_number interface_in
member_meant s owner m = member_number (interface_in s owner) m

-- token number i is of class k, among those of a rule, which begins at `start`
pub record Within (classes : List ℕ) (start used i k : ℕ) : Type 0 where
  pub after : start < i
  pub before : i < start + 1 + used
  pub inside : i < length classes
  pub class : get_or classes i 0 ≡ k

-- a member's name at token number m, and the name of what it is a member of at number n, in a rule
pub data Owned (classes : List ℕ) (start used : ℕ) : ℕ → ℕ → Type 0 where
  -- name `.` member
  dotted : {i : ℕ} → Within classes start used i NAME → Within classes start used (i + 1) DOT → Within classes start used (i + 1 + 1) NAME
      → Owned classes start used i (i + 1 + 1)
  -- `event` name `from` target
  sourced : {i : ℕ} → Within classes start used i EVENT → Within classes start used (i + 1) NAME → Within classes start used (i + 1 + 1) FROM
      → Within classes start used (i + 1 + 1 + 1) NAME → Owned classes start used (i + 1 + 1 + 1) (i + 1)
  -- `action` name .. `on` target, where the `on` is the first after the `action`
  called : {i k : ℕ} → Within classes start used i ACTION → Within classes start used (i + 1) NAME → Within classes start used k ON
      → Within classes start used (k + 1) NAME → i < k → ((j : ℕ) → i < j → j < k → get_or classes j 0 ≡ ON → ⊥)
      → Owned classes start used (k + 1) (i + 1)
  -- `from` or `on`, a bare name, `with` attribute
  filtered : {k : ℕ} → Within classes start used k FROM ⊎ Within classes start used k ON → Within classes start used (k + 1) NAME
      → Within classes start used (k + 1 + 1) WITH → Within classes start used (k + 1 + 1 + 1) NAME
      → Owned classes start used (k + 1) (k + 1 + 1 + 1)
  -- `from` or `on`, name `:` interface, `with` attribute
  declared : {k : ℕ} → Within classes start used k FROM ⊎ Within classes start used k ON → Within classes start used (k + 1) NAME
      → Within classes start used (k + 1 + 1) COLON → Within classes start used (k + 1 + 1 + 1) NAME
      → Within classes start used (k + 1 + 1 + 1 + 1) WITH → Within classes start used (k + 1 + 1 + 1 + 1 + 1) NAME
      → Owned classes start used (k + 1) (k + 1 + 1 + 1 + 1 + 1)

-- the column of references; of a rule with no more variables than a file may have, so that 8 bits hold a reference
pub record References (text classes offsets lengths d refs : List ℕ) : Type 0 where
  pub owner : (start : ℕ) (c : RuleWorld text classes offsets lengths d start) → length (variables c.rule) ≤ MOST_VARIABLES
      → (i : ℕ) → Within classes start c.begins.used i NAME
      → get_or refs i 0 % 256 ≡ reference (world_scope c) (name_in text offsets lengths i)
  pub member : (start : ℕ) (c : RuleWorld text classes offsets lengths d start) (n m : ℕ) → Owned classes start c.begins.used n m
      → get_or refs m 0 / 256 ≡ member_meant (world_scope c) (name_in text offsets lengths n) (name_in text offsets lengths m)

-- the rows of a rule in the column of scopes: how many variables it has, and then the number of each one's interface
abbrev pub SCOPE_ROWS : ℕ
SCOPE_ROWS = 1 + MOST_VARIABLES

abbrev pub scope_row : ℕ → ℕ
scope_row k = SCOPE_ROWS * k

-- those of all rules
abbrev pub ALL_SCOPE_ROWS : ℕ
ALL_SCOPE_ROWS = SCOPE_ROWS * MOST_RULES

pub record Scopes (text classes offsets lengths d scopes : List ℕ) : Type 0 where
  pub count : (k : ℕ) → k < get_or d RULE_COUNT_ROW 0 → k < MOST_RULES → (c : RuleWorld text classes offsets lengths d (get_or d (rule_row k) 0))
      → length (variables c.rule) ≤ MOST_VARIABLES
      → get_or scopes (scope_row k) 0 ≡ length (variables c.rule)
  pub interface : (k : ℕ) → k < get_or d RULE_COUNT_ROW 0 → k < MOST_RULES → (c : RuleWorld text classes offsets lengths d (get_or d (rule_row k) 0))
      → length (variables c.rule) ≤ MOST_VARIABLES
      → (v : ℕ) (x : Variable) → get_elem? (variables c.rule) v ≡ some x
      → get_or scopes (scope_row k + 1 + v) 0 ≡ interface_number c.bench.file x.interface.bytes

-- what resolving the names of a file's rules leaves in the two columns, which were refs and scopes
pub record Resolves (text classes offsets lengths d refs scopes new_refs new_scopes : List ℕ) : Type 0 where
  pub references : References text classes offsets lengths d new_refs
  pub scopes_are : Scopes text classes offsets lengths d new_scopes
  pub refs_kept : length new_refs ≡ length refs
  pub scopes_kept : length new_scopes ≡ length scopes
