-- The cells that each rule reads, in memory: behind the rows of scopes, for each rule a set of cells, a bit for each.
use Rattle.std.specs.Prelude.{ℕ, ◌+◌, ◌*◌, ◌/◌, ◌≤◌, ◌<◌, ◌≡◌, List, length, get_or}
use Rattle.checking.specs.definitions.Scope.{variables}
use Rattle.checking.specs.definitions.CountFaults.{MOST_ENTITIES, MOST_RULES, MOST_VARIABLES}
use Rattle.checking.specs.inner_contracts.Directory.{RULE_COUNT_ROW, rule_row}
use Rattle.checking.specs.inner_contracts.RuleParts.{RuleWorld}
use Rattle.checking.specs.inner_contracts.Resolution.{ALL_SCOPE_ROWS}
use Rattle.cell_sets.specs.inner_contracts.Meeting.{row_has}
use Rattle.cycles.specs.definitions.Planes.{ENTITY_CELLS}
use Rattle.cycles.specs.definitions.Reads.{reads_cell}

-- a set of as many cells as a file may have
abbrev pub READ_SET_BYTES : ℕ
READ_SET_BYTES = MOST_ENTITIES * ENTITY_CELLS / 8

-- the rows of scopes, and the sets of all rules behind them
abbrev pub SCOPES_BYTES : ℕ
SCOPES_BYTES = ALL_SCOPE_ROWS + READ_SET_BYTES * MOST_RULES

-- the set of each rule has exactly the cells that its condition reads; of a rule with no more variables than a file may have, whose references are sure
pub record ReadsAre (text classes offsets lengths d scopes : List ℕ) : Type 0 where
  pub room : SCOPES_BYTES ≤ length scopes
  pub is : (k : ℕ) → k < get_or d RULE_COUNT_ROW 0 → k < MOST_RULES → (c : RuleWorld text classes offsets lengths d (get_or d (rule_row k) 0))
      → length (variables c.rule) ≤ MOST_VARIABLES
      → (e m : ℕ) → e < MOST_ENTITIES → m < ENTITY_CELLS
      → row_has scopes ALL_SCOPE_ROWS READ_SET_BYTES k (e * ENTITY_CELLS + m) ≡ reads_cell c.bench.file c.rule e m
