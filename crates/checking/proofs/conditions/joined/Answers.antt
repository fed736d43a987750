-- What is left of `joined`.
use Rattle.checking.proofs.steps.CheckedParts.{joined}
use Rattle.checking.proofs.conditions.joined.Goals as goal

pub returns : goal.returns
returns c = joined c.join.ensures.names c.join.ensures.kinds
