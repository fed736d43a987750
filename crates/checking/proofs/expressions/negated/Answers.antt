-- What is left of `negated`.
use Rattle.checking.proofs.steps.CheckedParts.{negated}
use Rattle.checking.proofs.expressions.negated.Goals as goal

pub returns : goal.returns
returns c = negated _ c.unless-unfit.ensures c.earlier.ensures c.fits_operator.ensures c.number_kind.ensures
