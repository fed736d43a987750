-- What the loop of `sets` keeps.
use Rattle.checking.specs.inner_contracts.OfColumns.{of_tokens}
use Rattle.std.proofs.Common.{◌-◌}
use Rattle.checking.proofs.laws.AssignmentLaws.{Looking}
use Rattle.checking.proofs.entities.sets.Given as goal

abbrev pub invariant-loop-q : goal.invariant-loop-q
invariant-loop-q l = of_tokens Looking l.columns l.from l.to l.i l.q

abbrev pub decreases-loop-q : goal.decreases-loop-q
decreases-loop-q l = l.to - l.q
