use Rattle.replay.proofs.steps.FeedingLaws.{none_finished, last_finished}
use Rattle.replay.proofs.Replay.finish.Goals as goal

pub returns-then-is_over-clause-printed : goal.returns-then-is_over-clause-printed
returns-then-is_over-clause-printed c = none_finished _ _ c.is_over.ensures c.if-is_over.true

pub returns-clause-printed : goal.returns-clause-printed
returns-clause-printed c = last_finished _ _ c.is_over.ensures c.if-is_over.false c.put_line.ensures.put
