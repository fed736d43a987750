-- What is left of `applied`.
use Rattle.checking.proofs.steps.CheckedParts.{applied}
use Rattle.checking.proofs.expressions.applied.Goals as goal

pub returns : goal.returns
returns c = applied _ c.operands_fit.ensures c.unless-unfit.ensures c.operated_kind.ensures c.join-inside.ensures.names c.join-inside.ensures.kinds c.earlier.ensures
