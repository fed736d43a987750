-- What is left of `real_cells`.
use Rattle.std.proofs.Common.{arith}
use Rattle.days.proofs.laws.ChosenReads.{back_next, reals_read}
use Rattle.days.proofs.choosing.real_cells.Goals as goal

pub loop-k-preserved : goal.loop-k-preserved
loop-k-preserved c = back_next _ _ _ _ c.loop-k.invariant (omega arith) c.requires c.is_real_spot.ensures

pub returns : goal.returns
returns c = reals_read c.requires (omega arith) c.loop-k.invariant
