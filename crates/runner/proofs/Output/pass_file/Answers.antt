use Rattle.runner.proofs.steps.PassingLaws.{file_more_on}
use Rattle.runner.proofs.Output.pass_file.Goals as goal

pub loop-preserved : goal.loop-preserved
loop-preserved c = file_more_on _ c.loop.invariant c.pass.ensures
