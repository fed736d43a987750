use Rattle.engine.proofs.laws.ServingLaws.{sheet_refused}
use Rattle.engine.proofs.serve.SheetCall.refusal.Goals as goal

pub returns : goal.returns
returns c text state out v = sheet_refused text v _ _ _ state out
