-- rows after rows, by the fold that has a value or none
use Rattle.std.proofs.Common.{arith, false}
use Rattle.values.specs.declared.Value.TheVariants.{Unset}
use Rattle.sheets.proofs.laws.ClosingLaws.{column_end, two_rows_end, found_put, none_put}
use Rattle.sheets.proofs.closing.put_closing.Goals as goal

pub put_two_rows-b-requires : goal.put_two_rows-b-requires
put_two_rows-b-requires c =
    let a = two_rows_end c.args.k c.args.f.lowest c.requires.0 c.put_two_rows-a.ensures in
    (omega arith, omega arith)

pub put_two_rows-requires : goal.put_two_rows-requires
put_two_rows-requires c =
    let a = two_rows_end c.args.k c.args.f.lowest c.requires.0 c.put_two_rows-a.ensures in
    let b = two_rows_end c.args.k c.args.f.highest c.requires.0 c.put_two_rows-b.ensures in
    (omega arith, omega arith)

pub returns-then-f : goal.returns-then-f
returns-then-f c = found_put c.args.k c.args.f c.if-f.true c.put_two_rows-a.ensures c.put_two_rows-b.ensures c.put_two_rows.ensures

pub put_column_row-b-requires : goal.put_column_row-b-requires
put_column_row-b-requires c =
    let a = column_end c.args.k false Unset c.requires.0 c.put_column_row-a.ensures in
    (omega arith, omega arith)

pub put_column_row-requires : goal.put_column_row-requires
put_column_row-requires c =
    let a = column_end c.args.k false Unset c.requires.0 c.put_column_row-a.ensures in
    let b = column_end c.args.k false Unset c.requires.0 c.put_column_row-b.ensures in
    (omega arith, omega arith)

pub returns : goal.returns
returns c = none_put c.args.k c.args.f c.if-f.false c.put_column_row-a.ensures c.put_column_row-b.ensures c.put_column_row.ensures
