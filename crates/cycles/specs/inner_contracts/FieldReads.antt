-- What is read of a line's fields, from the last to the first, as the definitions go through them.
use Rattle.std.specs.Prelude.{ℕ, ◌+◌, ◌-◌, ◌≤◌, ◌<◌, ◌≡◌, List, [], ◌∷◌, Bool, not, cond, eqb, length, take, drop, Option, Some, None}
use Rattle.cycles.specs.definitions.Spots.{every}
use Rattle.cycles.specs.definitions.Fields.{split, is_empty}

-- r is where the field that ends at `end` starts: it stands before the fields that follow, and after a mark unless it is the first
pub record FieldStart (mark : ℕ) (l : List ℕ) (end r : ℕ) : Type 0 where
  pub within : r ≤ end
  pub field : (rest : List (List ℕ)) → split mark (drop end l) ≡ [] ∷ rest → split mark (drop r l) ≡ take (end - r) (drop r l) ∷ rest
  pub marked : 0 < r → split mark (drop (r - 1) l) ≡ [] ∷ split mark (drop r l)

-- r is where the first field ends: before a mark
pub record FieldEnd (mark : ℕ) (l : List ℕ) (r : ℕ) : Type 0 where
  pub within : r < length l
  pub marked : split mark l ≡ take r l ∷ split mark (drop (r + 1) l)

unfoldable pub none_empty : List (List ℕ) → Bool
unfolding every is_empty
none_empty xs = every (λ x. not (is_empty x)) xs

-- the length of the first of fields with so many after it, or none
unfoldable pub first_length : ℕ → List (List ℕ) → Option ℕ
first_length count [] = None
first_length count (x ∷ xs) = cond (eqb (length xs) count) (Some (length x)) None

-- the same, and none where a field is empty
unfoldable pub first_size : ℕ → List (List ℕ) → Option ℕ
unfolding none_empty first_length
first_size count xs = cond (none_empty xs) (first_length count xs) None
