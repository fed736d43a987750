use Rattle.engine.proofs.laws.ServingLaws.{row_refused}
use Rattle.engine.proofs.serve.RowCall.refusal.Goals as goal

pub returns : goal.returns
returns c text state out v = row_refused text v _ _ state out
