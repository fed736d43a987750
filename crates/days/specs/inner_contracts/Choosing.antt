-- What is read of a list of chosen cells into memory: the numbers of the cells. Said for every file that stands in the token table and the
-- directory and is within the counts.
use Rattle.std.specs.Prelude.{ℕ, ◌+◌, ◌*◌, ◌≤◌, ◌<◌, ◌≡◌, List, map, Bool, get_or, take}
use Rattle.std.proofs.Math.Option.{Option, none, some}
use Rattle.values.specs.declared.Value.{Value}
use Rattle.text.specs.definitions.Syntax.{File}
use Rattle.checking.specs.inner_contracts.Directory.{Bench}
use Rattle.checking.specs.inner_contracts.DirectoryReads.{Few}
use Rattle.checking.specs.definitions.CountFaults.{MOST_ENTITIES}
use Rattle.checking.specs.definitions.Scope.{member_of}
use Rattle.cycles.specs.definitions.Store.{Store}
use Rattle.cycles.specs.definitions.Spots.{Spot}
use Rattle.cycles.specs.definitions.Reference.{read_spot}
use Rattle.cycles.specs.definitions.Planes.{ENTITY_CELLS}
use Rattle.cycles.specs.inner_contracts.Evaluation.{Stored}
use Rattle.cycles.specs.inner_contracts.HeaderReads.{backwards}
use Rattle.senders.specs.definitions.Sender.{State}
use Rattle.senders.specs.definitions.StateImage.{state_of}
use Rattle.sheets.specs.definitions.Layout.{MOST_CHOSEN}
use Rattle.days.specs.definitions.Chosen.{chosen, is_real_spot}

-- the number of a cell in a plane of cells; one more than the greatest for none
unfoldable pub spot_number : Spot → ℕ
spot_number p = p.entity * ENTITY_CELLS + p.member

abbrev pub NO_SPOT : ℕ
NO_SPOT = MOST_ENTITIES * ENTITY_CELLS

unfoldable pub number_if_spot : Option Spot → ℕ
unfolding spot_number
number_if_spot none = NO_SPOT
number_if_spot (some p) = spot_number p

pub record SpotRead (text offsets lengths d : List ℕ) (spot_in : File → Option Spot) (r : ℕ) : Type 0 where
  pub within : r ≤ NO_SPOT
  pub is : (classes : List ℕ) (w : Bench text classes offsets lengths d) → Few w.file → r ≡ number_if_spot (spot_in w.file)

-- the count for no list
abbrev pub NO_LIST : ℕ
NO_LIST = MOST_CHOSEN + 1

-- what r numbers of cells, the last one first, say of a list
abbrev pub ChosenAre : Option (List Spot) → ℕ → List ℕ → Type 0
ChosenAre none r l = r ≡ NO_LIST
ChosenAre (some ps) r l = (r ≤ MOST_CHOSEN) × (map spot_number ps ≡ backwards r l)

pub record ChosenRead (text offsets lengths d cells spots : List ℕ) (r : ℕ) : Type 0 where
  pub within : r ≤ MOST_CHOSEN + 1
  pub known : (k : ℕ) → k < r → r ≤ MOST_CHOSEN → get_or spots k 0 < NO_SPOT
  pub is : (classes : List ℕ) (w : Bench text classes offsets lengths d) → Few w.file → ChosenAre (chosen w.file cells) r spots

-- is the cell of that number real? Said of the member that stands there
pub record RealRead (classes d : List ℕ) (spot : ℕ) (r : Bool) : Type 0 where
  pub is : (text offsets lengths : List ℕ) (w : Bench text classes offsets lengths d) → Few w.file
      → (p : Spot) → member_of w.file p.entity p.member ≡ some p.what → spot_number p ≡ spot → r ≡ is_real_spot p

-- what the cell of that number reads in a store whose flags and cells stand in memory
pub record SpotValue (flags cells : List ℕ) (spot : ℕ) (r : Value) : Type 0 where
  pub is : (count : ℕ) (s : Store) → Stored count flags cells s
      → (p : Spot) → p.entity < count → p.member < ENTITY_CELLS → spot_number p ≡ spot → r ≡ read_spot s p

-- which of the chosen cells are real
pub record RealsRead (classes d spots : List ℕ) (count : ℕ) (r : List Bool) : Type 0 where
  pub is : (text offsets lengths : List ℕ) (w : Bench text classes offsets lengths d) → Few w.file
      → (cells : List ℕ) (ps : List Spot) → chosen w.file cells ≡ some ps → map spot_number ps ≡ backwards count spots
      → take count r ≡ map is_real_spot ps

-- what the chosen cells read in a state
pub record CellsRead (d state spots : List ℕ) (count : ℕ) (r : List Value) : Type 0 where
  pub is : (text classes offsets lengths : List ℕ) (w : Bench text classes offsets lengths d) → Few w.file
      → (print : ℕ) (s : State) → state_of print w.file state ≡ some s
      → (cells : List ℕ) (ps : List Spot) → chosen w.file cells ≡ some ps → map spot_number ps ≡ backwards count spots
      → take count r ≡ map (read_spot s.stores.now) ps
