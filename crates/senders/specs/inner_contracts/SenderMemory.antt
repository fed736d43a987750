-- What code promises that finds, tests or writes the senders' parts of a state image, for every file that stands in the columns and the directory.
use Rattle.std.specs.Prelude.{ℕ, suc, ◌*◌, ◌/◌, ◌%◌, ◌≤◌, ◌≡◌, List, [], ◌∷◌, ◌++◌, Bool, cond, take, drop}
use Rattle.values.specs.definitions.Bytes.{same_bytes, low_first}
use Rattle.values.specs.definitions.Cells.{cell_bytes, cell_at, with_cell}
use Rattle.text.specs.definitions.Tokens.{ACTION}
use Rattle.text.specs.definitions.Syntax.{File}
use Rattle.checking.specs.definitions.Scope.{member_of, is_action}
use Rattle.checking.specs.inner_contracts.Directory.{Bench}
use Rattle.checking.specs.inner_contracts.DirectoryReads.{Few}
use Rattle.cycles.specs.definitions.Cycle.{is_sort}
use Rattle.cycles.specs.definitions.Planes.{CELL_BYTES, ENTITY_CELLS, NUMBER_BYTES, entity_count, table}
use Rattle.cycles.specs.inner_contracts.CellTokens.{SortTest}
use Rattle.cycles.specs.inner_contracts.PlaneMemory.{gathered}
use Rattle.senders.specs.definitions.Sender.{Sender}
use Rattle.senders.specs.definitions.StateImage.{sender_size, name_bytes, decode_senders, is_sender_part, are_senders, is_state}

-- ---- names

-- the place of the first sender of a name; one after the last for none
unfoldable pub place : List ℕ → List Sender → ℕ
unfolding same_bytes
place n [] = 0
place n (x ∷ xs) = cond (same_bytes n x.name) 0 (suc (place n xs))

-- among so many parts of so many bytes
pub record PlaceRead (parts : List ℕ) (size count : ℕ) (name : List ℕ) (r : ℕ) : Type 0 where
  pub within : r ≤ count
  pub is : (f : File) → sender_size (entity_count f) ≡ size → r ≡ place name (decode_senders f count parts)

-- ---- tests

pub record PartTest (classes d part : List ℕ) (r : Bool) : Type 0 where
  pub is : (text offsets lengths : List ℕ) (w : Bench text classes offsets lengths d) → Few w.file → r ≡ is_sender_part w.file part

pub record PartsTest (classes d parts : List ℕ) (count : ℕ) (r : Bool) : Type 0 where
  pub is : (text offsets lengths : List ℕ) (w : Bench text classes offsets lengths d) → Few w.file → r ≡ are_senders w.file count parts

pub record StateTest (print : ℕ) (classes d state : List ℕ) (r : Bool) : Type 0 where
  pub is : (text offsets lengths : List ℕ) (w : Bench text classes offsets lengths d) → Few w.file → r ≡ is_state print w.file state

-- ---- writing

-- cell number i of what is kept of a line: by the cells after it, and its readings, both in memory
unfoldable pub kept_at : List ℕ → List ℕ → File → ℕ → List ℕ
unfolding is_sort is_action member_of
kept_at inputs fired f i =
    cond (is_sort is_action (member_of f (i / ENTITY_CELLS) (i % ENTITY_CELLS))) (cell_bytes (cell_at fired i)) (take CELL_BYTES (drop (i * CELL_BYTES) inputs))

-- what was fired at cell number i, put to memory if the member whose first token has that number is an action
pub record KeptCellPut (classes : List ℕ) (token : ℕ) (fired : List ℕ) (i : ℕ) (before after : List ℕ) : Type 0 where
  pub action : Bool
  pub tested : SortTest classes token ACTION action
  pub is : after ≡ cond action (with_cell before i (cell_at fired i)) before

-- the first k cells of what is kept, put at the front of memory
pub record KeptPut (classes d inputs fired : List ℕ) (k : ℕ) (before after : List ℕ) : Type 0 where
  pub is : (text offsets lengths : List ℕ) (w : Bench text classes offsets lengths d) → Few w.file
      → after ≡ table (kept_at inputs fired w.file) 0 k ++ drop (k * CELL_BYTES) before

-- a sender's part of n entities, its plane gathered from areas of its flags and its cells
unfoldable pub part_of : ℕ → List ℕ → ℕ → List ℕ → List ℕ → List ℕ
unfolding name_bytes gathered
part_of n name last flags cells = name_bytes name ++ low_first NUMBER_BYTES last ++ gathered n flags cells
