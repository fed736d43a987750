-- a column that is not real has none
use Rattle.sheets.specs.definitions.Closing.{closing_rows}
use Rattle.sheets.proofs.laws.ClosingLaws.{not_real_put}
use Rattle.sheets.proofs.closing.put_closing_if_real.Goals as goal

pub returns : goal.returns
returns c = not_real_put c.args.real (closing_rows c.args.k c.args.f) c.args.out.now c.args.at c.if-real.false
