-- What is left of `literal`.
use Rattle.checking.proofs.steps.CheckedParts.{literal_checked}
use Rattle.checking.proofs.expressions.literal.Goals as goal

pub returns : goal.returns
returns c = literal_checked
