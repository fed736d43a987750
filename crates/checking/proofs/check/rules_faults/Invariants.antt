-- What the loop of `rules_faults` keeps.
use Rattle.checking.specs.inner_contracts.OfColumns.{of_file}
use Rattle.checking.proofs.steps.RulesLaws.{Ruled}
use Rattle.checking.proofs.check.rules_faults.Given as goal

abbrev pub invariant-loop-k : goal.invariant-loop-k
invariant-loop-k l = of_file Ruled l.columns l.found.names l.found.kinds l.k
