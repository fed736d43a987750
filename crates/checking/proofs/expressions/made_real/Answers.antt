-- What is left of `made_real`.
use Rattle.checking.proofs.steps.CheckedParts.{made_real}
use Rattle.checking.proofs.expressions.made_real.Goals as goal

pub returns : goal.returns
returns c = made_real _ c.unless-unfit.ensures c.earlier.ensures c.kinds_fit.ensures c.real_kind.ensures
