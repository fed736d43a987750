use Rattle.engine.proofs.steps.EntryLaws.{header_served}
use Rattle.engine.proofs.put_header.Goals as goal

pub returns : goal.returns
returns c = header_served _ _ c.in_ok-room_for.ensures c.in_ok-room_for-2.ensures c.text_of.ensures c.serve.ensures
