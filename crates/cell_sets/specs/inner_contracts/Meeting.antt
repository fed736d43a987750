-- Rows of sets in memory, one after another, and which of them have a number in common with one set.
use Rattle.std.specs.Prelude.{ℕ, ◌+◌, ◌*◌, ◌/◌, ◌%◌, ◌^◌, ◌≤◌, ◌<◌, ◌≡◌, List, Bool, true, false, not, eqb, get_or, set}
use Rattle.std.specs.Int.Bits.{bit_and, bit_or}
use Rattle.cell_sets.specs.definitions.Sets.{has_bit, is_in}

-- memory with i put into the set whose bytes begin at base
unfoldable pub with_member : (base : ℕ) → List ℕ → ℕ → List ℕ
with_member base s i = set s (base + i / 8) (bit_or (get_or s (base + i / 8) 0) (2 ^ (i % 8)))

-- rows of so many bytes, from base on, are sets: has row number k the number i?
unfoldable pub row_has : List ℕ → (base size k i : ℕ) → Bool
row_has rows base size k i = has_bit (get_or rows (base + size * k + i / 8) 0) (i % 8)

-- the bits of r are the rows that have a number in common with the set
pub record Met (rows : List ℕ) (base size count : ℕ) (set : List ℕ) (r : ℕ) : Type 0 where
  pub common : (k : ℕ) → k < count → has_bit r k ≡ true → (i : ℕ) × (i < 8 * size) × (row_has rows base size k i ≡ true) × (is_in set i ≡ true)
  pub meets : (k : ℕ) → k < count → (i : ℕ) → i < 8 * size → row_has rows base size k i ≡ true → is_in set i ≡ true → has_bit r k ≡ true
  pub none : (k : ℕ) → count ≤ k → has_bit r k ≡ false

-- does the byte of row number k that stands at `at` in row number 0 have a bit in common with this byte?
unfoldable pub byte_meets : List ℕ → (at size byte k : ℕ) → Bool
byte_meets rows at size byte k = not (eqb (bit_and (get_or rows (at + size * k) 0) byte) 0)
