-- Theorems: each row of a day sheet has exactly 80 bytes, and the sheet never has more bytes than its stated size.
use Prim.Native.Nat.{ℕ, ◌≤◌}
use mathlib.Core.Path.{◌≡◌}
use mathlib.Core.List.{List, map, Memᴰ}
use mathlib.Core.Option.{some}
use lib.ListN.{length}
use Rattle.text.specs.definitions.Syntax.{File}
use Rattle.cycles.specs.definitions.Spots.{Spot}
use Rattle.cycles.specs.definitions.Readings.{lines, header_line, record_lines}
use Rattle.senders.specs.definitions.Sender.{State}
use Rattle.senders.specs.definitions.Turns.{turns}
use Rattle.sheets.specs.definitions.Layout.{SHEET_COLUMNS}
use Rattle.sheets.specs.definitions.Sheet.{sheet_rows}
use Rattle.days.specs.definitions.Chosen.{chosen, is_real_spot}
use Rattle.days.specs.definitions.DaySheet.{printed_lines, day_sheet, sheet_size}
use Rattle.days.proofs.laws.SizeLaws.{chosen_few, day_rows_full, day_sheet_most}

module _ (f : File) (cells : List ℕ) (ps : List Spot) (h : chosen f cells ≡ some ps) (s : State) where
  pub rows_full : (names : List ℕ) (values : List (List ℕ)) (row : List ℕ)
      → Memᴰ row (sheet_rows (map is_real_spot ps) (printed_lines ps (turns f names s values))) → length row ≡ SHEET_COLUMNS
  rows_full names values row m = day_rows_full f ps names (chosen_few f cells ps h) s values row m

  pub sheet_fits : (readings : List ℕ)
      → length (day_sheet ps (turns f (header_line (lines readings)) s (record_lines (lines readings)))) ≤ sheet_size readings
  sheet_fits readings = day_sheet_most f ps (header_line (lines readings)) (chosen_few f cells ps h) s readings
