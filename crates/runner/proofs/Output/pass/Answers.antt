use Rattle.runner.proofs.steps.PassingLaws.{passed_fed_on}
use Rattle.runner.proofs.Output.pass.Goals as goal

pub loop-rest-preserved : goal.loop-rest-preserved
loop-rest-preserved c = passed_fed_on _ _ c.loop-rest.invariant c.feed-fed.ensures
