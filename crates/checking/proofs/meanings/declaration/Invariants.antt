-- What the loop of `declaration` keeps.
use Rattle.checking.specs.inner_contracts.OfColumns.{of_tokens}
use Rattle.checking.proofs.steps.RuleNames.{Sought}
use Rattle.checking.proofs.meanings.declaration.Given as goal

abbrev pub invariant-loop-n : goal.invariant-loop-n
invariant-loop-n l = of_tokens Sought l.columns l.start l.i l.n
