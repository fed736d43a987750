-- one row, then the other
use Rattle.std.proofs.Common.{arith, false}
use Rattle.values.specs.declared.Value.TheVariants.{Real}
use Rattle.sheets.proofs.laws.ClosingLaws.{column_end, two_rows_put}
use Rattle.sheets.proofs.closing.put_two_rows.Goals as goal

pub put_column_row-requires : goal.put_column_row-requires
put_column_row-requires c =
    let a = column_end c.args.k false (Real c.args.x) c.requires.0 c.put_column_row-a.ensures in
    (omega arith, omega arith)

pub returns : goal.returns
returns c = two_rows_put c.args.k c.args.x c.put_column_row-a.ensures c.put_column_row.ensures
