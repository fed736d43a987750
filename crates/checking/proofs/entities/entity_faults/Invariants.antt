-- What the loop of `entity_faults` keeps.
use Rattle.checking.specs.inner_contracts.OfColumns.{of_file}
use Rattle.checking.proofs.steps.EntityLaws.{Walked}
use Rattle.checking.proofs.entities.entity_faults.Given as goal

abbrev pub invariant-loop-e : goal.invariant-loop-e
invariant-loop-e l = of_file Walked l.columns l.found.names l.found.kinds l.e
