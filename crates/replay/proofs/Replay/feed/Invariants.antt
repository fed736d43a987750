use Rattle.std.proofs.Common.{◌-◌, length}
use Rattle.replay.specs.inner_contracts.Feeding.{FeedingOn}
use Rattle.replay.proofs.Replay.feed.Given as goal

abbrev pub invariant-loop-out : goal.invariant-loop-out
invariant-loop-out l = FeedingOn l.fn.self l.chunk l.self l.out l.taken l.used

abbrev pub decreases-loop-out : goal.decreases-loop-out
decreases-loop-out l = length l.chunk - l.taken
