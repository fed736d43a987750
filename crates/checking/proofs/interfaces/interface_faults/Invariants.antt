-- What the loop of `interface_faults` keeps.
use Rattle.checking.specs.inner_contracts.FoundFaults.{found_as}
use Rattle.checking.specs.inner_contracts.OfColumns.{of_names}
use Rattle.checking.proofs.steps.InterfaceLaws.{InterfacesLeft}
use Rattle.checking.proofs.interfaces.interface_faults.Given as goal

abbrev pub invariant-loop-k : goal.invariant-loop-k
invariant-loop-k l = of_names InterfacesLeft l.columns (found_as l.found) l.k
