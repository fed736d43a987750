-- The cells that the loop has passed are told.
use Rattle.std.proofs.Common.{false, length}
use Rattle.days.specs.inner_contracts.Choosing.{RealRead}
use Rattle.days.proofs.laws.ChosenReads.{BackRead}
use Rattle.days.proofs.choosing.real_cells.Given as goal

abbrev pub invariant-loop-k : goal.invariant-loop-k
invariant-loop-k l = BackRead (RealRead l.columns.classes.now l.columns.d.now) false l.spots (length l.spots) l.k l.reals
