-- The rows of a printed line.
use Rattle.std.specs.Prelude.{ℕ, Bool, true, false, not, cond, take, drop}
use mathlib.Core.List.{List, [], ◌∷◌, ◌++◌, flat_map}
use Rattle.std.specs.Float.Ieee.{is_nan}
use Rattle.values.specs.declared.Value.{Value}
use Rattle.values.specs.declared.Value.TheVariants.{Whole, Truth, Real, Unset}
use Rattle.values.specs.definitions.Forms.{digit_byte, decimal_digits, hexadecimal, decimal, printed}
use Rattle.sheets.specs.definitions.Layout.{NUMBER_COLUMNS, CELL_COLUMNS, HALF_DIGITS, right_aligned, filled}

-- a printed line: its number, and what its chosen cells read after it
pub record PrintedLine : Type 0 where
  pub number : ℕ
  pub values : List Value

-- "a set real"; a NaN, which no cell holds, prints as unset
unfoldable pub is_set_real : Value → Bool
is_set_real (Whole z) = false
is_set_real (Truth b) = false
is_set_real (Real x) = not (is_nan x)
is_set_real Unset = false

-- "unset as `-`, reals as their 16 digits over two rows of 8, the first 8 above": a value in the first row (false) and in the second (true),
-- "otherwise spaces"
unfoldable pub half : Bool → Value → List ℕ
unfolding is_set_real digit_byte decimal_digits hexadecimal
half false v = cond (is_set_real v) (take HALF_DIGITS (printed v)) (printed v)
half true v = cond (is_set_real v) (drop HALF_DIGITS (printed v)) []

-- "then up to five chosen cells .. of 14 columns each, right aligned"
unfoldable pub cell_columns : Bool → List Value → List ℕ
unfolding half right_aligned flat_map
cell_columns below vs = flat_map (λ v. right_aligned CELL_COLUMNS (half below v)) vs

-- "Column 1 to 10 holds the line number, right aligned; then up to five chosen cells"
unfoldable pub sheet_row : Bool → List ℕ → List Value → List ℕ
unfolding cell_columns right_aligned filled
sheet_row below lead vs = filled (right_aligned NUMBER_COLUMNS lead ++ cell_columns below vs)

unfoldable pub has_set_real : List Value → Bool
unfolding is_set_real
has_set_real [] = false
has_set_real (v ∷ vs) = cond (is_set_real v) true (has_set_real vs)

-- "The second row .. is there only for a line with a set real"
unfoldable pub line_rows : PrintedLine → List (List ℕ)
unfolding sheet_row has_set_real digit_byte decimal_digits
line_rows l = sheet_row false (decimal l.number) l.values ∷ cond (has_set_real l.values) (sheet_row true [] l.values ∷ []) []
