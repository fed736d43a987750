-- What is left of `settle`.
use Rattle.senders.proofs.laws.RecordLaws.{settled_new}
use Rattle.senders.proofs.steps.SentSteps.{turn_fits}
use Rattle.senders.proofs.record.settle.Goals as goal

pub returns : goal.returns
returns c =
    settled_new c.is_resent.ensures c.if-is_resent.false c.row-n.ensures.0 c.takes_cells.ensures c.if-not-takes_cells.false
    c.last_of-last.ensures c.in_turn.ensures c.if-not-in_turn.false c.if-line-last.false
    (turn_fits _ _ c.in_turn.ensures c.if-not-in_turn.false) c.follow.ensures
