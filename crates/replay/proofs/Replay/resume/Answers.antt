use Rattle.std.proofs.Common.{arith}
use lib.Seq.{length-take-le}
use Rattle.senders.specs.definitions.StateImage.{STATE}
use Rattle.replay.specs.inner_contracts.Awaiting.{memory_of}
use Rattle.replay.proofs.steps.ResumeLaws.{before_stood, resumed}
use Rattle.replay.proofs.Replay.resume.Goals as goal

pub copy_from_slice-requires-2 : goal.copy_from_slice-requires-2
copy_from_slice-requires-2 c = let n = length-take-le STATE c.args.state.now c.requires.state_room in omega arith

pub invariant_of-replay : goal.invariant_of-replay
invariant_of-replay c = (
  omega arith,
  before_stood (memory_of c.args.bench c.args.stage c.args.columns.now c.args.waiting.now c.args.state.now) c.requires.state_room
      (λ i. omega (arith, c.type_inv.state i)) c.copy_from_slice.ensures.after c.copy_from_slice-2.ensures.after c.requires.stood,
)

pub returns : goal.returns
returns c =
    resumed _ c.requires.state_room (λ i. omega (arith, c.type_inv.state i)) c.copy_from_slice.ensures.after c.copy_from_slice-2.ensures.after
    c.requires.stood c.keep.ensures
