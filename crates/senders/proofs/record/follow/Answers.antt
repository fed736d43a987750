-- What is left of `follow`.
use Rattle.senders.proofs.steps.FollowSteps.{followed_known, followed_new}
use Rattle.std.proofs.Common.{refl, rules}
use Rattle.senders.proofs.record.follow.Goals as goal

pub returns-then-known-place : goal.returns-then-known-place
returns-then-known-place c =
    followed_new _ _ _ _ _ _ _ _ _ _ _ c.row-n.ensures.0 c.requires.room.2 (search rules) c.cycle.ensures _ c.put_kept.ensures
    c.part_at-part.ensures c.put_sender.ensures refl c.if-known-place.true

pub returns-else-known-place : goal.returns-else-known-place
returns-else-known-place c =
    followed_known _ _ _ _ _ _ _ _ _ _ _ c.row-n.ensures.0 c.requires.room.2 (search rules) c.cycle.ensures _ c.put_kept.ensures
    c.part_at-part.ensures c.put_sender.ensures refl c.if-known-place.false
