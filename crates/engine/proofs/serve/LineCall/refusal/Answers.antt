use Rattle.engine.proofs.laws.ServingLaws.{line_refuses}
use Rattle.engine.proofs.serve.LineCall.refusal.Goals as goal

pub returns : goal.returns
returns c text state out v = line_refuses text v _ _ state out
