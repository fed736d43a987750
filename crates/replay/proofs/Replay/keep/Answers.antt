use Rattle.std.proofs.Common.{arith}
use Rattle.replay.proofs.steps.GatheringLaws.{kept_put, put_stood}
use Rattle.replay.proofs.Replay.keep.Goals as goal

pub invariant_of-self : goal.invariant_of-self
invariant_of-self c = (
  omega arith,
  put_stood _ c.args.bytes.now _ c.self.invariant.0 c.self.told.1 c.min-n.ensures c.copy_from_slice.ensures.after c.requires c.self.invariant.1,
)

pub returns : goal.returns
returns c =
    rw (← c.self.view_is)
    (kept_put _ _ c.self.invariant.0 c.self.told.1 c.min-n.ensures c.copy_from_slice.ensures.after c.self.invariant.1.part)
