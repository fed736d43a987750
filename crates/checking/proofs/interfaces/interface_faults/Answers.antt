-- What is left of `interface_faults`.
use Rattle.checking.proofs.steps.InterfaceLaws.{interfaces_end}
use Rattle.std.proofs.Common.{arith}
use Rattle.checking.proofs.interfaces.interface_faults.Goals as goal

pub returns : goal.returns
returns c = interfaces_end c.interfaces-count.ensures c.loop-k.invariant (omega arith)
