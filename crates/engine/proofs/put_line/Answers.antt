use Rattle.engine.proofs.steps.EntryLaws.{line_served}
use Rattle.engine.proofs.put_line.Goals as goal

pub returns : goal.returns
returns c = line_served _ _ _ _ _ c.in_ok-room_for.ensures c.in_ok-room_for-2.ensures c.in_ok-room_for-3.ensures c.text_of.ensures c.serve.ensures
