-- the spaces, then the text
use Rattle.sheets.proofs.laws.LayoutLaws.{right_put}
use Rattle.sheets.proofs.rows.put_right.Goals as goal

pub returns : goal.returns
returns c = right_put c.args.width c.args.t.now c.put_spaces-spaced.ensures c.put_bytes.ensures
