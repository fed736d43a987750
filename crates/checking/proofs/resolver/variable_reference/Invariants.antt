-- What the loop of `variable_reference` keeps.
use Rattle.checking.specs.inner_contracts.OfColumns.{of_tokens}
use Rattle.checking.proofs.steps.ReferenceLaws.{Referring}
use Rattle.checking.proofs.resolver.variable_reference.Given as goal

abbrev pub invariant-loop-n : goal.invariant-loop-n
invariant-loop-n l = of_tokens Referring l.columns l.start l.i l.n l.k
