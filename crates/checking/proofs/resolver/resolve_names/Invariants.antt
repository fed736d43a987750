-- What the loop of `resolve_names` keeps.
use Rattle.checking.specs.inner_contracts.OfColumns.{of_file}
use Rattle.checking.proofs.steps.ResolvedNames.{Naming}
use Rattle.checking.proofs.resolver.resolve_names.Given as goal

abbrev pub invariant-loop-i : goal.invariant-loop-i
invariant-loop-i l = of_file Naming l.columns l.fn.refs l.refs l.start l.i
