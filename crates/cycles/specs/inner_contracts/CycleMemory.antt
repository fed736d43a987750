-- What a cycle leaves in the memory of the stores: of a checked bench in columns, with its rules' names resolved.
use Rattle.std.specs.Prelude.{ℕ, ◌*◌, ◌/◌, ◌%◌, ◌<◌, ◌≡◌, List, ◌++◌, Bool, true, false, not, ◌&&◌, cond, eqb, length, get_or, take, drop}
use Rattle.values.specs.declared.Value.{Value}
use Rattle.values.specs.declared.Value.TheVariants.{Unset}
use Rattle.values.specs.definitions.Cells.{cell_bytes, cell_at, with_cell}
use Rattle.text.specs.definitions.Tokens.{ACTION}
use Rattle.text.specs.definitions.Syntax.{Sort, File}
use Rattle.checking.specs.inner_contracts.DirectoryReads.{Few}
use Rattle.checking.specs.inner_contracts.Directory.{Bench}
use Rattle.checking.specs.definitions.Scope.{member_of, is_attribute, is_action}
use Rattle.checking.specs.inner_contracts.CheckedBench.{CheckedBench}
use Rattle.checking.specs.inner_contracts.Resolution.{References, Scopes}
use Rattle.cycles.specs.definitions.Store.{Inputs}
use Rattle.cycles.specs.definitions.Cycle.{is_sort}
use Rattle.cycles.specs.inner_contracts.TotalMachine.{cycle}
use Rattle.cycles.specs.definitions.SoundStores.{SoundInputs}
use Rattle.cycles.specs.definitions.Planes.{
  CELL_BYTES,
  ENTITY_CELLS,
  ENTITY_CELL_BYTES,
  NO_READING,
  table,
  flag,
  entity_count,
  decode_stores,
  are_stores,
  with_stores,
}
use Rattle.cycles.specs.inner_contracts.CellTokens.{SortTest}
use Rattle.cycles.specs.inner_contracts.LineReads.{presence_table, input_table}
use Rattle.cycles.specs.inner_contracts.ReadSets.{ReadsAre}

-- ---- the steps, from memory to memory

-- is an entity present after the line? By its flags: present, and the presence that was read
abbrev pub present_by : ℕ → ℕ → Bool
present_by present flag = cond (eqb flag 0) (eqb present 1) (eqb flag 2)

-- who is present after the line, by the flags before it and the presence that was read
abbrev pub seen_flag : List ℕ → List ℕ → ℕ → List ℕ
seen_flag present flags e = flag (present_by (get_or present e 0) (get_or flags e 0))

-- an entity leaves: it was present and is no more
abbrev pub leaves_by : ℕ → ℕ → Bool
leaves_by before after = eqb before 1 && not (eqb after 1)

-- cell number i as the rules see it: by the flags before the line and after it, the cells before it, and its readings
unfoldable pub seen_value : List ℕ → List ℕ → List ℕ → List ℕ → File → ℕ → Value
unfolding is_sort is_attribute member_of
seen_value present seen cells inputs f i =
    cond (eqb (get_or inputs (i * CELL_BYTES) 0) NO_READING)
    (cond (leaves_by (get_or present (i / ENTITY_CELLS) 0) (get_or seen (i / ENTITY_CELLS) 0)
    && not (is_sort is_attribute (member_of f (i / ENTITY_CELLS) (i % ENTITY_CELLS)))) Unset (cell_at cells i))
    (cell_at inputs i)

-- cell number i after the cycle: an action's as it was written, any other as the rules saw it
unfoldable pub next_value : List ℕ → List ℕ → File → ℕ → Value
unfolding is_sort is_action member_of
next_value cells area f i = cond (is_sort is_action (member_of f (i / ENTITY_CELLS) (i % ENTITY_CELLS))) (cell_at area i) (cell_at cells i)

-- the value of cell number i, for every file that stands in the columns and the directory
pub record ValueOf (classes d : List ℕ) (value : File → ℕ → Value) (i : ℕ) (v : Value) : Type 0 where
  pub is : (text offsets lengths : List ℕ) (w : Bench text classes offsets lengths d) → Few w.file → v ≡ value w.file i

-- the sorts whose cells are put: all of them, or all but actions
abbrev pub any_sort : Sort → Bool
any_sort s = true

abbrev pub no_action : Sort → Bool
no_action s = not (is_action s)

-- of the first k cells, those of other sorts or of no member have the bytes of their values
abbrev pub OthersStand : File → (Sort → Bool) → (ℕ → Value) → ℕ → List ℕ → Type 0
OthersStand f sort value k l =
    (i : ℕ) → i < k → is_sort sort (member_of f (i / ENTITY_CELLS) (i % ENTITY_CELLS)) ≡ false
    → take CELL_BYTES (drop (i * CELL_BYTES) l) ≡ cell_bytes (value i)

-- the values of the members of those sorts among the first k cells, put over memory that has the values of the others: then it has those of all
pub record MembersPut (classes d : List ℕ) (sort : Sort → Bool) (value : File → ℕ → Value) (k : ℕ) (before after : List ℕ) : Type 0 where
  pub same : length after ≡ length before
  pub is : (text offsets lengths : List ℕ) (w : Bench text classes offsets lengths d) → Few w.file
      → OthersStand w.file sort (value w.file) k before
      → after ≡ table (λ i. cell_bytes (value w.file i)) 0 k ++ drop (k * CELL_BYTES) before

-- what the rules saw in cell number i, put to memory unless the member whose first token has that number is an action
pub record SeenPut (classes : List ℕ) (token : ℕ) (cells : List ℕ) (i : ℕ) (before after : List ℕ) : Type 0 where
  pub action : Bool
  pub tested : SortTest classes token ACTION action
  pub is : after ≡ cond action before (with_cell before i (cell_at cells i))

-- ---- the contract

-- the memory of the stores, which was `stores` and is `after`, by the cycle of a line whose inputs stand in areas of their own
-- (sound inputs: the bytes of others are those of no value, or of another one)
pub record Cycled (classes values d refs scopes input_flags input_cells stores after : List ℕ) : Type 0 where
  pub is : (text offsets lengths : List ℕ) (c : CheckedBench text classes offsets lengths values d)
      → References text classes offsets lengths d refs → Scopes text classes offsets lengths d scopes
      → ReadsAre text classes offsets lengths d scopes
      → are_stores c.bench.file stores ≡ true
      → (i : Inputs) → SoundInputs c.bench.file i
      → take (entity_count c.bench.file) input_flags ≡ presence_table i (entity_count c.bench.file)
      → take (ENTITY_CELL_BYTES * entity_count c.bench.file) input_cells ≡ input_table i (entity_count c.bench.file)
      → after
      ≡ with_stores (entity_count c.bench.file) (cycle c.bench.file (decode_stores (entity_count c.bench.file) stores) i) stores
