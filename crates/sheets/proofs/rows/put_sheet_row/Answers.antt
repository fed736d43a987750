-- the lead, the columns, and what closes the row
use Rattle.std.proofs.Common.{arith}
use Rattle.sheets.specs.definitions.Layout.{NUMBER_COLUMNS}
use Rattle.sheets.proofs.laws.LayoutLaws.{right_end}
use Rattle.sheets.proofs.laws.RowLaws.{columns_whole, row_of_parts}
use Rattle.sheets.proofs.rows.put_sheet_row.Goals as goal

pub close_row-requires : goal.close_row-requires
close_row-requires c =
    let a = right_end NUMBER_COLUMNS c.args.lead.now c.requires.0 c.put_right-columns.ensures in
    let b = columns_whole c.args.below c.args.values.now c.put_columns-end.ensures in
    (omega arith, omega arith, omega arith)

pub returns : goal.returns
returns c =
    row_of_parts c.args.below c.args.lead.now c.args.values.now c.put_right-columns.ensures c.put_columns-end.ensures c.close_row.ensures
