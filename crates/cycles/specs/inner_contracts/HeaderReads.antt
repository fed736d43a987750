-- What is read of a header into memory: the numbers of its columns. Said for every file that stands in the token table and the directory and
-- is within the counts.
use Rattle.std.specs.Prelude.{ℕ, zero, suc, ◌+◌, ◌*◌, ◌≤◌, ◌<◌, ◌≡◌, List, [], ◌∷◌, map, Bool, false, ◌||◌, eqb, get_or}
use Rattle.std.proofs.Math.Option.{Option, none, some}
use Rattle.text.specs.definitions.Syntax.{File}
use Rattle.checking.specs.inner_contracts.Directory.{Bench}
use Rattle.checking.specs.inner_contracts.DirectoryReads.{Few}
use Rattle.checking.specs.definitions.CountFaults.{MOST_MEMBERS, MOST_ENTITIES}
use Rattle.cycles.specs.definitions.Spots.{Spot}
use Rattle.cycles.specs.definitions.Fields.{fields}
use Rattle.cycles.specs.definitions.Header.{Column, columns_after_n, header}

-- ---- columns

-- an entity has columns for its members in their order, and then for its presence
abbrev pub PRESENCE_COLUMN : ℕ
PRESENCE_COLUMN = MOST_MEMBERS

abbrev pub ENTITY_COLUMNS : ℕ
ENTITY_COLUMNS = PRESENCE_COLUMN + 1

abbrev pub MOST_COLUMNS : ℕ
MOST_COLUMNS = MOST_ENTITIES * ENTITY_COLUMNS

-- a column by its number
unfoldable pub member_or_presence : Option Spot → ℕ
member_or_presence none = PRESENCE_COLUMN
member_or_presence (some p) = p.member

unfoldable pub column_number : Column → ℕ
unfolding member_or_presence
column_number c = c.entity * ENTITY_COLUMNS + member_or_presence c.event

abbrev pub NO_COLUMN : ℕ
NO_COLUMN = MOST_COLUMNS

unfoldable pub number_if_column : Option Column → ℕ
unfolding column_number
number_if_column none = NO_COLUMN
number_if_column (some c) = column_number c

-- a number that stands for what the file has for a column
pub record ColumnRead (text classes offsets lengths d : List ℕ) (column_in : File → Option Column) (r : ℕ) : Type 0 where
  pub within : r ≤ NO_COLUMN
  pub is : (w : Bench text classes offsets lengths d) → Few w.file → r ≡ number_if_column (column_in w.file)

-- the first k numbers of a memory, the last one first: a header is read from its end
unfoldable pub backwards : ℕ → List ℕ → List ℕ
backwards zero l = []
backwards (suc k) l = get_or l k 0 ∷ backwards k l

unfoldable pub is_number_among : ℕ → List ℕ → Bool
is_number_among n [] = false
is_number_among n (m ∷ ms) = eqb n m || is_number_among n ms

-- the number for no header
abbrev pub NO_HEADER : ℕ
NO_HEADER = MOST_COLUMNS + 1

-- what r numbers of columns say of a header
abbrev pub HeaderIs : Option (List Column) → ℕ → List ℕ → Type 0
HeaderIs none r l = r ≡ NO_HEADER
HeaderIs (some cs) r l = (r ≤ MOST_COLUMNS) × (map column_number cs ≡ backwards r l)

-- the fields after `by`
pub record ColumnsRead (text classes offsets lengths d names columns : List ℕ) (r : ℕ) : Type 0 where
  pub within : r ≤ MOST_COLUMNS + 1
  pub known : (k : ℕ) → k < r → r ≤ MOST_COLUMNS → get_or columns k 0 < NO_COLUMN
  pub is : (w : Bench text classes offsets lengths d) → Few w.file → HeaderIs (columns_after_n w.file (fields names)) r columns

pub record HeaderRead (text classes offsets lengths d names columns : List ℕ) (r : ℕ) : Type 0 where
  pub within : r ≤ MOST_COLUMNS + 1
  pub known : (k : ℕ) → k < r → r ≤ MOST_COLUMNS → get_or columns k 0 < NO_COLUMN
  pub is : (w : Bench text classes offsets lengths d) → Few w.file → HeaderIs (header w.file names) r columns
