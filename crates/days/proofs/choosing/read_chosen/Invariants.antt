-- The cells that the loop has passed are read.
use Rattle.std.proofs.Common.{length}
use Rattle.values.specs.declared.Value.TheVariants.{Unset}
use Rattle.cycles.proofs.laws.PlaneTestLaws.{behind}
use Rattle.days.specs.inner_contracts.Choosing.{SpotValue}
use Rattle.days.proofs.laws.ChosenReads.{BackRead}
use Rattle.days.proofs.choosing.read_chosen.Given as goal

abbrev pub invariant-loop-k : goal.invariant-loop-k
invariant-loop-k l = BackRead (SpotValue (behind 5 l.state) (behind l.cells l.state)) Unset l.chosen.spots.now (length l.chosen.spots.now) l.k l.vs
