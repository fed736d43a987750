-- What the loop of `repeated` keeps.
use Rattle.checking.specs.inner_contracts.FoundFaults.{found_as}
use Rattle.checking.specs.inner_contracts.OfColumns.{of_names}
use Rattle.checking.proofs.steps.RepeatedLaws.{Repeating}
use Rattle.checking.proofs.interfaces.repeated.Given as goal

abbrev pub invariant-loop-k : goal.invariant-loop-k
invariant-loop-k l = of_names Repeating l.columns l.base l.count (found_as l.found) l.k
