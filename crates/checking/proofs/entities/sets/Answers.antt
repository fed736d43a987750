-- What is left of `sets`.
use Rattle.checking.proofs.laws.AssignmentLaws.{looking_ends}
use Rattle.checking.proofs.entities.sets.Goals as goal

pub returns : goal.returns
returns c = looking_ends c.loop-q.invariant c.loop-q-test.false
