-- Which cells moved between two stores in memory: those whose values differ.
use Rattle.std.specs.Prelude.{ℕ, ◌/◌, ◌≤◌, ◌<◌, ◌≡◌, List, Bool, false, cond, eqb, get_or}
use Rattle.values.specs.declared.Value.{Value}
use Rattle.values.specs.declared.Value.TheVariants.{Unset}
use Rattle.values.specs.definitions.Value.{is_set, differ}
use Rattle.values.specs.definitions.Cells.{cell_at}
use Rattle.cell_sets.specs.definitions.Sets.{is_in}

-- what cell number i reads, with so many cells an entity: unset while its entity is absent
unfoldable pub reading_at : (per : ℕ) (flags cells : List ℕ) (i : ℕ) → Value
reading_at per flags cells i = cond (eqb (get_or flags (i / per) 0) 1) (cell_at cells i) Unset

-- does it read another value than before? By value: the two zeros do not differ
unfoldable pub moved_at : (per : ℕ) (flags cells previous_flags previous_cells : List ℕ) (i : ℕ) → Bool
moved_at per flags cells previous_flags previous_cells i = differ (reading_at per flags cells i) (reading_at per previous_flags previous_cells i)

-- the set has the numbers of the cells that moved, and no others
pub record MovedSet (per count : ℕ) (flags cells previous_flags previous_cells set : List ℕ) : Type 0 where
  pub is : (i : ℕ) → i < count → is_in set i ≡ moved_at per flags cells previous_flags previous_cells i
  pub none : (i : ℕ) → count ≤ i → is_in set i ≡ false

-- ---- what inner functions promise

-- does cell number i have another value in one memory of cells than in another?
unfoldable pub cells_differ : (cells previous_cells : List ℕ) (i : ℕ) → Bool
cells_differ cells previous_cells i = differ (cell_at cells i) (cell_at previous_cells i)

-- is it set?
unfoldable pub cell_is_set : (cells : List ℕ) (i : ℕ) → Bool
cell_is_set cells i = is_set (cell_at cells i)

-- did cell number i of an entity with these two flags move?
unfoldable pub entity_moved : (flag previous_flag : ℕ) (cells previous_cells : List ℕ) (i : ℕ) → Bool
entity_moved flag previous_flag cells previous_cells i =
    differ (cond (eqb flag 1) (cell_at cells i) Unset) (cond (eqb previous_flag 1) (cell_at previous_cells i) Unset)
