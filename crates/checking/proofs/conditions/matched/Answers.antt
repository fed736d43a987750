-- What is left of `matched`.
use Rattle.checking.proofs.steps.CheckedParts.{matched}
use Rattle.checking.proofs.conditions.matched.Goals as goal

pub returns : goal.returns
returns c = matched c.kinds_fit.ensures c.unless-unfit.ensures c.earlier.ensures
