-- Demand 1: the numbers that each call answers, and what a refusal leaves.
use Rattle.std.specs.Prelude.{ℕ, ◌%◌, ◌≡◌, List, [], ◌∷◌}
use Rattle.cycles.specs.definitions.ClosedSet.{Among}

-- an answer has its number in the low 8 bits: "Acceptance returns 0"
abbrev pub number_of : ℕ → ℕ
number_of answer = answer % 256

-- document 01's table, with document 02's numbers, by calls; "Memory that a call only fills gets neither 32 nor 33"
abbrev pub CHECK_NUMBERS : List ℕ
CHECK_NUMBERS = 0 ∷ 31 ∷ 11 ∷ 12 ∷ 13 ∷ 44 ∷ 14 ∷ 15 ∷ 16 ∷ 17 ∷ 18 ∷ []

abbrev pub FRESH_NUMBERS : List ℕ
FRESH_NUMBERS = 0 ∷ 31 ∷ 32 ∷ []

abbrev pub LINE_NUMBERS : List ℕ
LINE_NUMBERS = 0 ∷ 31 ∷ 32 ∷ 33 ∷ 22 ∷ 21 ∷ 43 ∷ 42 ∷ 23 ∷ 24 ∷ 25 ∷ []

abbrev pub HEADER_NUMBERS : List ℕ
HEADER_NUMBERS = 0 ∷ 31 ∷ 32 ∷ []

abbrev pub ROW_NUMBERS : List ℕ
ROW_NUMBERS = 0 ∷ 31 ∷ 32 ∷ 33 ∷ 43 ∷ []

abbrev pub SHEET_NUMBERS : List ℕ
SHEET_NUMBERS = 0 ∷ 31 ∷ 32 ∷ 33 ∷ 41 ∷ 22 ∷ []

-- an answer, and the memory that a call may write, as it was lent and as it is left
pub record ListedAnswer (numbers : List ℕ) (answer : ℕ) (lent left : List (List ℕ)) : Type 0 where
  pub number : Among (number_of answer) numbers
  pub as_lent : (number_of answer ≡ 0 → ⊥) → left ≡ lent
