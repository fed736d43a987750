-- What the loop of `assignment_faults` keeps.
use Rattle.checking.specs.inner_contracts.OfColumns.{of_file}
use Rattle.std.proofs.Common.{◌-◌, length}
use Rattle.checking.proofs.steps.BodyLaws.{Assigning}
use Rattle.checking.proofs.entities.assignment_faults.Given as goal

abbrev pub invariant-loop-q : goal.invariant-loop-q
invariant-loop-q l = of_file Assigning l.columns l.face l.from l.again l.members l.kinds l.q

abbrev pub decreases-loop-q : goal.decreases-loop-q
decreases-loop-q l = length l.columns.classes.now - l.q
