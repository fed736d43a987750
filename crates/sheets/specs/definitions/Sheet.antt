-- The day sheet: its rows, and its bytes.
use Rattle.std.specs.Prelude.{ℕ, Bool}
use mathlib.Core.List.{List, [], ◌∷◌, ◌++◌, flat_map}
use Rattle.sheets.specs.definitions.Rows.{PrintedLine, line_rows}
use Rattle.sheets.specs.definitions.Folds.{folds}
use Rattle.sheets.specs.definitions.Closing.{all_closing_rows}

-- the rows of each printed line, then the closing rows; `reals` says which of the chosen cells are real
unfoldable pub sheet_rows : List Bool → List PrintedLine → List (List ℕ)
unfolding flat_map line_rows all_closing_rows folds
sheet_rows reals ls = flat_map line_rows ls ++ all_closing_rows 0 reals (folds ls)

-- "closed by a line feed"
unfoldable pub with_feeds : List (List ℕ) → List ℕ
unfolding flat_map
with_feeds rows = flat_map (λ r. r ++ 10 ∷ []) rows

unfoldable pub sheet : List Bool → List PrintedLine → List ℕ
unfolding with_feeds sheet_rows
sheet reals ls = with_feeds (sheet_rows reals ls)
