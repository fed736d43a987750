-- The day sheet's columns (document 02, order 3), and texts in them.
use Rattle.std.specs.Prelude.{ℕ, ◌-◌, List, ◌++◌, length, replicate}

-- "80 columns"
abbrev pub SHEET_COLUMNS : ℕ
SHEET_COLUMNS = 80

-- "Column 1 to 10 holds the line number"
abbrev pub NUMBER_COLUMNS : ℕ
NUMBER_COLUMNS = 10

-- "of 14 columns each"
abbrev pub CELL_COLUMNS : ℕ
CELL_COLUMNS = 14

-- "up to five chosen cells"
abbrev pub MOST_CHOSEN : ℕ
MOST_CHOSEN = 5

-- "over two rows of 8"
abbrev pub HALF_DIGITS : ℕ
HALF_DIGITS = 8

-- "right aligned", in w columns
unfoldable pub right_aligned : ℕ → List ℕ → List ℕ
right_aligned w t = replicate (w - length t) 32 ++ t

-- "each line filled with spaces to exactly 80"
unfoldable pub filled : List ℕ → List ℕ
filled t = t ++ replicate (SHEET_COLUMNS - length t) 32
