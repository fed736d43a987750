-- What is left of `read_chosen`.
use Rattle.std.proofs.Common.{arith}
use Rattle.days.proofs.laws.ChosenReads.{cells_read}
use Rattle.days.proofs.choosing.read_chosen.Goals as goal

pub returns : goal.returns
returns c = cells_read c.row-n.ensures.0 c.args.chosen.now.few (omega arith) c.if-n-gt-MOST_ENTITIES.false c.requires c.loop-k.invariant
