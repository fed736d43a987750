use Rattle.engine.proofs.laws.ServingLaws.{header_refused}
use Rattle.engine.proofs.serve.HeaderCall.refusal.Goals as goal

pub returns : goal.returns
returns c text state out v = header_refused text v state out
