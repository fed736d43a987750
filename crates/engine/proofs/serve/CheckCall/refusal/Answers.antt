use Rattle.engine.proofs.laws.ServingLaws.{check_refused}
use Rattle.engine.proofs.serve.CheckCall.refusal.Goals as goal

pub returns : goal.returns
returns c text state out v = check_refused text v state out
