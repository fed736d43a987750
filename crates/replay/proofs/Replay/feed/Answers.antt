use Rattle.std.proofs.Common.{arith, refl}
use Rattle.replay.proofs.steps.FeedingLaws.{feeding_put_on, room_left}
use Rattle.replay.proofs.Replay.feed.Goals as goal

pub loop-out-preserved : goal.loop-out-preserved
loop-out-preserved c =
    let left = room_left _ _ _ c.loop-out.invariant.feeding.fits c.put_line-used.auto.out in
    let short = c.put_line-used.ensures.put.short in
    feeding_put_on _ _ c.loop-out.invariant c.in-Some.ensures _ _ c.put_line-used.ensures refl (omega arith)
