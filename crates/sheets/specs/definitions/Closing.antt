-- The closing rows: "After the last line come, column by column, for each real column the lowest, highest and last set value, each in that
-- column over two rows, or three rows of `-` if none was set".
use Rattle.std.specs.Prelude.{ℕ, suc, ◌+◌, ◌*◌, List, [], ◌∷◌, ◌++◌, Bool, true, false, cond, Float}
use Rattle.values.specs.declared.Value.{Value}
use Rattle.values.specs.declared.Value.TheVariants.{Real, Unset}
use Rattle.sheets.specs.declared.Fold.{Fold}
use Rattle.sheets.specs.definitions.Layout.{NUMBER_COLUMNS, CELL_COLUMNS, right_aligned, filled}
use Rattle.sheets.specs.definitions.Rows.{half}

-- a value in the columns of chosen cell number k, from 0 on, and nothing else
unfoldable pub column_row : ℕ → Bool → Value → List ℕ
unfolding filled right_aligned half
column_row k below v = filled (right_aligned (NUMBER_COLUMNS + CELL_COLUMNS * (k + 1)) (half below v))

unfoldable pub two_rows : ℕ → Float → List (List ℕ)
unfolding column_row
two_rows k x = column_row k false (Real x) ∷ column_row k true (Real x) ∷ []

unfoldable pub closing_rows : ℕ → Fold → List (List ℕ)
unfolding two_rows column_row
closing_rows k f =
    cond f.found
    (two_rows k f.lowest ++ (two_rows k f.highest ++ two_rows k f.last))
    (column_row k false Unset ∷ column_row k false Unset ∷ column_row k false Unset ∷ [])

-- of the columns from number k on: which of them are real, and their folds
unfoldable pub all_closing_rows : ℕ → List Bool → List Fold → List (List ℕ)
unfolding closing_rows
all_closing_rows k [] fs = []
all_closing_rows k (b ∷ bs) [] = []
all_closing_rows k (b ∷ bs) (f ∷ fs) = cond b (closing_rows k f) [] ++ all_closing_rows (suc k) bs fs
