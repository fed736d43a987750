use Rattle.probe.proofs.steps.TriedSteps.{set_shown}
use Rattle.probe.proofs.put_set.Goals as goal

pub returns : goal.returns
returns c =
    set_shown _ _ _ _ c.in_ok-room_for.ensures c.in_ok-room_for-2.ensures c.in_ok-room_for-3.ensures c.in_ok-room_for-4.ensures c.text_of.ensures
    c.put_for_text.ensures
