-- What is left of `from`.
use Rattle.text.specs.inner_contracts.EnumAnswers.{offset_of}
use Rattle.checking.proofs.check.CheckErrorFromSyntaxError.from.Goals as goal

pub returns-in-NoTokenAt : goal.returns-in-NoTokenAt
unfolding offset_of
returns-in-NoTokenAt c = rw c.in-NoTokenAt.is c.refused-in-NoTokenAt.ensures

pub returns-in-UnfitAt : goal.returns-in-UnfitAt
unfolding offset_of
returns-in-UnfitAt c = rw c.in-UnfitAt.is c.refused-in-UnfitAt.ensures
