-- What is left of `declaration`.
use Rattle.checking.proofs.steps.RuleNames.{sought_over}
use Rattle.checking.proofs.meanings.declaration.Goals as goal

pub returns : goal.returns
returns c = sought_over c.loop-n.invariant c.loop-n-test.false
