-- What the loop of `repeated` keeps.
use Rattle.checking.specs.inner_contracts.OfColumns.{of_tokens}
use Rattle.checking.proofs.steps.RuleNames.{Repeating}
use Rattle.checking.proofs.meanings.repeated.Given as goal

abbrev pub invariant-loop-n : goal.invariant-loop-n
invariant-loop-n l = of_tokens Repeating l.columns l.start l.n l.found
