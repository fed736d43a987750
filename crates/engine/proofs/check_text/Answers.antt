use Rattle.engine.proofs.steps.EntryLaws.{check_served}
use Rattle.engine.proofs.check_text.Goals as goal

pub returns : goal.returns
returns c = check_served _ _ c.in_ok-room_for.ensures c.serve.ensures
