use Rattle.engine.proofs.laws.ServingLaws.{fresh_refused}
use Rattle.engine.proofs.serve.FreshCall.refusal.Goals as goal

pub returns : goal.returns
returns c text state out v = fresh_refused text v state out
