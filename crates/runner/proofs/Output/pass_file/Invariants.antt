use Rattle.runner.specs.inner_contracts.Passing.{FilePassedOn}
use Rattle.runner.proofs.Output.pass_file.Given as goal

abbrev pub invariant-loop : goal.invariant-loop
invariant-loop l = FilePassedOn l.fn.replay l.replay
