use Rattle.engine.proofs.steps.EntryLaws.{fresh_served}
use Rattle.engine.proofs.put_fresh_state.Goals as goal

pub returns : goal.returns
returns c = fresh_served _ _ c.in_ok-room_for.ensures c.in_ok-room_for-2.ensures c.text_of.ensures c.serve.ensures
