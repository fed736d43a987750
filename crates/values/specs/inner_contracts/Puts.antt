-- What code promises that writes bytes to memory.
use Rattle.std.specs.Prelude.{ℕ, ◌+◌, ◌≡◌, List, length}
use Rattle.values.specs.definitions.Bytes.{overwritten}

-- bytes put over memory from `at` on, and the offset after them
pub record Put (bytes before : List ℕ) (at : ℕ) (after : List ℕ) (r : ℕ) : Type 0 where
  pub end : r ≡ at + length bytes
  pub is : after ≡ overwritten before at bytes
