use Rattle.replay.proofs.steps.FeedingLaws.{values_over}
use Rattle.replay.proofs.Replay.is_over.Goals as goal

pub returns-in-Values : goal.returns-in-Values
returns-in-Values c = rw (← c.self.view_is) (values_over _ c.is_empty.ensures c.in-Values.is)
