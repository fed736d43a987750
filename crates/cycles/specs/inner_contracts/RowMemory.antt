-- What code promises that writes a row or its header, for every file that stands in the columns and the directory.
use Rattle.std.specs.Prelude.{ℕ, ◌+◌, ◌*◌, ◌/◌, ◌%◌, ◌≤◌, ◌<◌, ◌≡◌, List, [], ◌∷◌, ◌++◌, Bool, true, false, cond, length, drop}
use Rattle.std.proofs.Math.Option.{Option, none, some}
use Rattle.std.proofs.Math.ListN.{get_elem?}
use Rattle.values.specs.definitions.Cells.{cell_at}
use Rattle.values.specs.definitions.Forms.{printed}
use Rattle.text.specs.definitions.Tokens.{ACTION}
use Rattle.text.specs.definitions.Syntax.{Member, File}
use Rattle.checking.specs.inner_contracts.DirectoryReads.{Few}
use Rattle.checking.specs.definitions.Scope.{member_of, is_action}
use Rattle.checking.specs.definitions.Verdict.{name_if_found}
use Rattle.checking.specs.definitions.CountFaults.{MOST_ENTITIES}
use Rattle.checking.specs.inner_contracts.Directory.{name_in, Bench}
use Rattle.cycles.specs.definitions.Spots.{Spot}
use Rattle.cycles.specs.definitions.Row.{MOST_ROW_BYTES, action_fields, row_header}
use Rattle.values.specs.inner_contracts.Puts.{Put}
use Rattle.cycles.specs.definitions.Planes.{ENTITY_CELLS}
use Rattle.cycles.specs.inner_contracts.CellTokens.{SortTest}

unfoldable pub field_of : (Spot → List ℕ) → ℕ → ℕ → Option Member → List ℕ
unfolding is_action
field_of field e m none = []
field_of field e m (some x) = elim (is_action x.sort) [ true ↦ 32 ∷ field (record { entity = e; member = m; what = x }) | false ↦ [] ]

-- what a row or its header has of cell number i: a space and a field, or nothing
unfoldable pub field_at : File → (Spot → List ℕ) → ℕ → List ℕ
unfolding field_of member_of
field_at f field i = field_of field (i / ENTITY_CELLS) (i % ENTITY_CELLS) (member_of f (i / ENTITY_CELLS) (i % ENTITY_CELLS))

-- a row's field, from the cells in memory
abbrev pub fired_field : List ℕ → Spot → List ℕ
fired_field cells p = printed (cell_at cells (p.entity * ENTITY_CELLS + p.member))

-- the most bytes of such a field with its space, and of those of all cells that a file may have
abbrev pub FIELD_BYTES : ℕ
FIELD_BYTES = 17

abbrev pub FIELDS_BYTES : ℕ
FIELDS_BYTES = FIELD_BYTES * (ENTITY_CELLS * MOST_ENTITIES)

-- the header's
abbrev pub name_field : File → Spot → List ℕ
name_field f p = name_if_found (get_elem? f.entities p.entity) ++ 46 ∷ p.what.name.bytes

-- a space and the value of cell number i, put if the member whose first token has that number is an action
pub record FiredPut (classes : List ℕ) (token : ℕ) (cells : List ℕ) (i : ℕ) (before : List ℕ) (at : ℕ) (after : List ℕ) (r : ℕ) : Type 0 where
  pub short : r ≤ at + FIELD_BYTES
  pub action : Bool
  pub tested : SortTest classes token ACTION action
  pub is : Put (cond action (32 ∷ printed (cell_at cells i)) []) before at after r

-- no token's name has more than 24 bytes
abbrev pub ShortNames : List ℕ → List ℕ → List ℕ → List ℕ → Type 0
ShortNames text classes offsets lengths = (i : ℕ) → i < length classes → length (name_in text offsets lengths i) ≤ 24

pub record NamePut (text classes offsets lengths d : List ℕ) (i : ℕ) (before : List ℕ) (at : ℕ) (after : List ℕ) (r : ℕ) : Type 0 where
  pub within : r ≤ length before
  pub is : (w : Bench text classes offsets lengths d) → Few w.file → ShortNames text classes offsets lengths → at + 50 ≤ length before
      → (r ≤ at + 50) × Put (field_at w.file (name_field w.file) i) before at after r

-- bytes at the front of memory, and how many they are
pub record InFront (bytes before after : List ℕ) (r : ℕ) : Type 0 where
  pub count : r ≡ length bytes
  pub is : after ≡ bytes ++ drop r before

-- the fields of all action cells, from the cells in memory
pub record FieldsPut (classes d cells before : List ℕ) (at : ℕ) (after : List ℕ) (r : ℕ) : Type 0 where
  pub short : r ≤ at + FIELDS_BYTES
  pub is : (text offsets lengths : List ℕ) (w : Bench text classes offsets lengths d) → Few w.file
      → Put (action_fields w.file (fired_field cells)) before at after r

pub record HeaderPut (text classes offsets lengths d before after : List ℕ) (r : ℕ) : Type 0 where
  pub short : (w : Bench text classes offsets lengths d) → Few w.file → ShortNames text classes offsets lengths → r ≤ MOST_ROW_BYTES
  pub is : (w : Bench text classes offsets lengths d) → Few w.file → ShortNames text classes offsets lengths
      → InFront (row_header w.file) before after r
