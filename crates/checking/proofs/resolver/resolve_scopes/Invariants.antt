-- What the loop of `resolve_scopes` keeps.
use Rattle.checking.specs.inner_contracts.OfColumns.{of_file}
use Rattle.checking.proofs.steps.ScopeLaws.{Scoping}
use Rattle.checking.proofs.resolver.resolve_scopes.Given as goal

abbrev pub invariant-loop-k : goal.invariant-loop-k
invariant-loop-k l = of_file Scoping l.columns l.fn.scopes l.scopes l.k
