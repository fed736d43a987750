-- The first token of a class.
use Rattle.std.specs.Prelude.{ℕ, ◌≤◌, ◌<◌, max, ◌≡◌, List, length, get_or}

-- the first from a token number on, or their count where there is none
pub record FirstOf (classes : List ℕ) (class from r : ℕ) : Type 0 where
  pub low : from ≤ r
  pub high : r ≤ max from (length classes)
  pub before : (k : ℕ) → k < r → from ≤ k → get_or classes k 0 ≡ class → ⊥
  pub here : r < length classes → get_or classes r 0 ≡ class
