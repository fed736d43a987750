-- What is left of `joined`.
use Rattle.checking.proofs.steps.CodedParts.{coded_joined}
use Rattle.checking.proofs.coded_faults.joined.Goals as goal

pub returns : goal.returns
returns c = coded_joined c.earlier.ensures c.earlier-2.ensures
