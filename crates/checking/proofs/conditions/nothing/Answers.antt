-- What is left of `nothing`.
use Rattle.checking.proofs.steps.CheckedParts.{nothing_found}
use Rattle.checking.proofs.conditions.nothing.Goals as goal

pub returns : goal.returns
returns c = nothing_found
