-- What code promises that tests or writes planes, for every file that stands in the columns and the directory.
use Rattle.std.specs.Prelude.{ℕ, ◌*◌, ◌≤◌, ◌≡◌, List, ◌++◌, Bool, true, length, take, drop}
use Rattle.std.proofs.Math.Option.{Option}
use Rattle.values.specs.declared.Kind.{Kind}
use Rattle.text.specs.definitions.Syntax.{Member}
use Rattle.checking.specs.definitions.CountFaults.{MOST_ENTITIES}
use Rattle.checking.specs.inner_contracts.DirectoryReads.{Few}
use Rattle.checking.specs.inner_contracts.Directory.{kind_class, Bench}
use Rattle.cycles.specs.declared.planes.Plane.{Plane}
use Rattle.cycles.specs.declared.planes.Plane.TheVariants.{Now, Previous, Kept}
use Rattle.cycles.specs.definitions.Planes.{ENTITY_CELL_BYTES, stores_size, store_fits, kept_fits, cells_fit, plane_fits, are_stores, STORE_FLAGS, KEPT_FLAGS}
use Rattle.cycles.specs.inner_contracts.CellTokens.{TokenOf}

-- ---- tests

-- a test of a tag and a payload for a kind, which a token's class says
pub record KindTest (test : Kind → ℕ → ℕ → Bool) (class t w : ℕ) (r : Bool) : Type 0 where
  pub is : (k : Kind) → class ≡ kind_class k → r ≡ test k t w

-- the test of each plane of cells
unfoldable pub fit_of : Plane → Bool → Option Member → ℕ → ℕ → Bool
unfolding store_fits kept_fits
fit_of Now present = store_fits true
fit_of Previous present = store_fits present
fit_of Kept present = kept_fits

-- of one cell, by the first token of its member
pub record CellTest (fit : Option Member → ℕ → ℕ → Bool) (classes : List ℕ) (at t w : ℕ) (r : Bool) : Type 0 where
  pub is : (text offsets lengths : List ℕ) (o : Option Member) → TokenOf text classes offsets lengths at o → r ≡ fit o t w

pub record CellsTest (plane : Plane) (classes d flags cells : List ℕ) (r : Bool) : Type 0 where
  pub is : (text offsets lengths : List ℕ) (w : Bench text classes offsets lengths d) → Few w.file → r ≡ cells_fit (fit_of plane) w.file flags cells

-- the bound of each plane's flags: absent or present; no reading, absent or present
unfoldable pub bound_of : Plane → ℕ
bound_of Now = STORE_FLAGS
bound_of Previous = STORE_FLAGS
bound_of Kept = KEPT_FLAGS

pub record PlaneTest (plane : Plane) (classes d m : List ℕ) (r : Bool) : Type 0 where
  pub is : (text offsets lengths : List ℕ) (w : Bench text classes offsets lengths d) → Few w.file
      → r ≡ plane_fits (bound_of plane) (fit_of plane) w.file m

pub record StoresTest (classes d m : List ℕ) (r : Bool) : Type 0 where
  pub is : (text offsets lengths : List ℕ) (w : Bench text classes offsets lengths d) → Few w.file → r ≡ are_stores w.file m

-- ---- writing

-- a plane of n entities whose flags and cells stand in areas of their own, each from the area's front on
unfoldable pub gathered : ℕ → List ℕ → List ℕ → List ℕ
gathered n flags cells = take n flags ++ take (ENTITY_CELL_BYTES * n) cells

-- two stores of the same presence, put at the front of memory
pub record StoresGathered (n : ℕ) (flags now_cells previous_cells before after : List ℕ) : Type 0 where
  pub same : length after ≡ length before
  pub is : n ≤ MOST_ENTITIES → after ≡ gathered n flags now_cells ++ gathered n flags previous_cells ++ drop (stores_size n) before
