-- The numbers of the tokens of some classes, and a column of rows into which they are put.
use Rattle.std.specs.Prelude.{ℕ, zero, suc, ◌+◌, ◌*◌, ◌-◌, ◌≤◌, ◌<◌, ◌≡◌, List, [], ◌∷◌, Bool, true, false, ◌&&◌, leb, length, get_or, take}
use Rattle.std.proofs.lemmas.List.Edits.{sets}
use Rattle.text.specs.definitions.Tokens.{ATTRIBUTE, ACTION, BRACE_CLOSE}
use Rattle.checking.specs.inner_contracts.ClassSearch.{FirstOf}
use Rattle.checking.specs.definitions.CountFaults.{MOST_INTERFACES, MOST_MEMBERS}
use Rattle.checking.specs.inner_contracts.Directory.{MEMBER_COUNT_ROWS, MEMBER_ROWS, ENTITY_ROWS, interface_row, member_count_row}

unfoldable pub place_if : Bool → ℕ → List ℕ → List ℕ
place_if true i ps = i ∷ ps
place_if false i ps = ps

-- those of classes low to high, of so many tokens from number i on
unfoldable pub places : List ℕ → ℕ → ℕ → ℕ → ℕ → List ℕ
unfolding place_if
places classes low high zero i = []
places classes low high (suc k) i = place_if (leb low (get_or classes i 0) && leb (get_or classes i 0) high) i (places classes low high k (suc i))

-- these are put into the rows from `base` on, at most so many of them
pub record Marked (classes : List ℕ) (low high from end base most : ℕ) (d new : List ℕ) (count : ℕ) : Type 0 where
  pub counts : count ≡ length (places classes low high (end - from) from)
  pub puts : new ≡ sets d base (take most (places classes low high (end - from) from))

-- the members of the interface at token number p: up to the `}`, at most 12 of them in the rows from `base` on, and their count in one row
pub record MembersAt (classes : List ℕ) (p base row : ℕ) (d : List ℕ) : Type 0 where
  pub close : ℕ
  pub closes : FirstOf classes BRACE_CLOSE p close
  pub count : get_or d row 0 ≡ length (places classes ATTRIBUTE ACTION (close - p) p)
  pub rows : (j : ℕ) → j < MOST_MEMBERS → j < length (places classes ATTRIBUTE ACTION (close - p) p)
      → get_or d (base + j) 0 ≡ get_or (places classes ATTRIBUTE ACTION (close - p) p) j 0

-- those of so many interfaces, 16 at most, whose token numbers stand in their rows
pub record MembersMarked (classes : List ℕ) (interfaces : ℕ) (d new : List ℕ) : Type 0 where
  pub before : (i : ℕ) → i < MEMBER_COUNT_ROWS → get_or new i 0 ≡ get_or d i 0
  pub after : (i : ℕ) → ENTITY_ROWS ≤ i → get_or new i 0 ≡ get_or d i 0
  pub members : length classes < 65536 → ENTITY_ROWS ≤ length d → (k : ℕ) → k < MOST_INTERFACES → k < interfaces
      → MembersAt classes (get_or d (interface_row k) 0) (MEMBER_ROWS + k * MOST_MEMBERS) (member_count_row k) new
