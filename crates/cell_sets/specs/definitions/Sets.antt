-- Sets of numbers in memory.
use Rattle.std.specs.Prelude.{ℕ, ◌/◌, ◌%◌, ◌^◌, List, Bool, eqb, get_or}

-- bit number k of a number, the lowest is number 0
unfoldable pub has_bit : ℕ → ℕ → Bool
has_bit n k = eqb (n / 2 ^ k % 2) 1

-- a set of numbers in memory, eight to a byte: is i in it? What lies past the end is not
unfoldable pub is_in : List ℕ → ℕ → Bool
is_in s i = has_bit (get_or s (i / 8) 0) (i % 8)
