-- What is left of `place_of`.
use Rattle.senders.proofs.steps.PartSteps.{place_none, places_go_on}
use Rattle.std.proofs.Common.{arith}
use Rattle.senders.proofs.parts.place_of.Goals as goal

pub loop-i-preserved : goal.loop-i-preserved
loop-i-preserved c = places_go_on c.loop-i.invariant (omega arith) c.has_name.ensures c.if-has_name.false

pub returns-clause-place : goal.returns-clause-place
returns-clause-place c = place_none c.loop-i.invariant (omega arith)
