-- What is left of `mark_members`.
use Rattle.checking.proofs.steps.PlaceLaws.{membering_goes_on}
use Rattle.checking.proofs.directory.mark_members.Goals as goal

pub loop-k-preserved : goal.loop-k-preserved
loop-k-preserved c = membering_goes_on _ _ c.loop-k.invariant c.loop-k-test.true c.row-from.ensures.0 c.first_of-close.ensures c.mark-count.ensures c.put.ensures
