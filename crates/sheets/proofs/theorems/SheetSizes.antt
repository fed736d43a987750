-- "80 columns, each line filled with spaces to exactly 80 and closed by a line feed", and the stated size of a sheet's memory.
use mathlib.Core.Path.{◌≡◌}
use mathlib.Core.List.{List, flat_map, Memᴰ}
use mathlib.Core.Bool.{Bool}
use Prim.Native.Nat.{ℕ, ◌+◌, ◌*◌, ◌≤◌}
use native.Mathlib.Omega.{arith}
use lib.ListN.{length, length-append}
use Rattle.sheets.specs.definitions.Layout.{SHEET_COLUMNS, MOST_CHOSEN}
use Rattle.sheets.specs.definitions.Sizes.{MOST_LINE_BYTES, MOST_CLOSING_BYTES}
use Rattle.sheets.specs.definitions.Rows.{PrintedLine, line_rows}
use Rattle.sheets.specs.definitions.Folds.{folds}
use Rattle.sheets.specs.definitions.Closing.{all_closing_rows}
use Rattle.sheets.specs.definitions.Sheet.{sheet_rows, with_feeds, sheet}
use Rattle.sheets.proofs.laws.FedRows.{full_append, fed_append}
use Rattle.sheets.proofs.laws.ClosingLaws.{closings_full, closings_most}
use Rattle.sheets.proofs.laws.SheetLaws.{lines_full, lines_most}

module _ (reals : List Bool) (ls : List PrintedLine) (few : length reals ≤ MOST_CHOSEN)
    (narrow : (l : PrintedLine) → Memᴰ l ls → length l.values ≤ MOST_CHOSEN) where
  -- every row has 80 columns
  pub every_row_full : (r : List ℕ) → Memᴰ r (sheet_rows reals ls) → length r ≡ SHEET_COLUMNS
  unfolding sheet_rows
  every_row_full = full_append (flat_map line_rows ls) (lines_full ls narrow) (closings_full 0 reals (folds ls) (omega arith))

  pub sheet_most : length (sheet reals ls) ≤ MOST_CHOSEN * MOST_CLOSING_BYTES + MOST_LINE_BYTES * length ls
  unfolding sheet sheet_rows
  sheet_most =
      let a = lines_most ls narrow in
      let b = closings_most reals (folds ls) few in
      rw (
        fed_append (flat_map line_rows ls) (all_closing_rows 0 reals (folds ls)),
        length-append (with_feeds (flat_map line_rows ls)) (with_feeds (all_closing_rows 0 reals (folds ls))),
      )
      (omega arith)
