-- the value in its columns, and what closes the row
use Rattle.sheets.proofs.laws.ClosingLaws.{column_put}
use Rattle.sheets.proofs.closing.put_column_row.Goals as goal

pub returns : goal.returns
returns c = column_put c.args.k c.args.below c.args.v c.put_half-end.ensures c.close_row.ensures
