-- The parts that the loop has passed have other names.
use Rattle.senders.proofs.steps.PartSteps.{PlacesPassed}
use Rattle.senders.proofs.parts.place_of.Given as goal

abbrev pub invariant-loop-i : goal.invariant-loop-i
invariant-loop-i l = PlacesPassed l.parts l.size l.count l.name l.at l.i
