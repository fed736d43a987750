-- What is left of `put_sender`.
use Rattle.senders.proofs.steps.KeptSteps.{sender_put}
use Rattle.std.proofs.Common.{arith, length-set, ◌+◌, ◌-◌, ◌≡◌}
use Rattle.senders.proofs.parts.put_sender.Goals as goal

pub returns : goal.returns
returns c =
    let l = simp length-set at c.put_bytes-end.auto.s in
    let e = c.put_bytes-end.ensures.end in
    let n : c.put_bytes-end.result + (25 - c.put_bytes-end.result) ≡ 25 = omega (arith, c.requires.sender.0) in
    sender_put c.args.n c.args.last c.args.name.now c.args.flags.now c.args.cells.now c.args.memory.now c.requires.sender.0
    c.put_bytes-end.ensures (rw n at c.put_zeros.ensures) c.put_number.ensures c.put_plane.ensures c.requires.room.1 (omega arith)
