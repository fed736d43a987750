use Rattle.std.proofs.Common.{[], length}
use Rattle.runner.specs.inner_contracts.Passing.{PassedOn}
use Rattle.runner.proofs.Output.pass.Given as goal

abbrev pub invariant-loop-rest : goal.invariant-loop-rest
invariant-loop-rest l = PassedOn l.fn.replay l.chunk [] l.replay l.rest

abbrev pub decreases-loop-rest : goal.decreases-loop-rest
decreases-loop-rest l = length l.rest
