-- The cells that were read stand in memory, and the next field ends at `end`.
use Rattle.checking.specs.inner_contracts.OfColumns.{of_names}
use Rattle.days.proofs.laws.ChoosingLaws.{ChoosingGoing}
use Rattle.days.proofs.choosing.read_spots.Given as goal

abbrev pub invariant-loop-k : goal.invariant-loop-k
invariant-loop-k l = of_names ChoosingGoing l.columns l.cells l.spots l.end l.k
