-- The most bytes of rows with their line feeds: what a sheet's stated size is made of.
use Rattle.std.specs.Prelude.{ℕ, ◌+◌, ◌*◌}
use Rattle.sheets.specs.definitions.Layout.{SHEET_COLUMNS}

abbrev pub SHEET_ROW_BYTES : ℕ
SHEET_ROW_BYTES = SHEET_COLUMNS + 1

-- a line has two rows at most
abbrev pub MOST_LINE_BYTES : ℕ
MOST_LINE_BYTES = 2 * SHEET_ROW_BYTES

-- a real column has six closing rows at most
abbrev pub MOST_CLOSING_BYTES : ℕ
MOST_CLOSING_BYTES = 6 * SHEET_ROW_BYTES
