-- The assignments before token number q do not set the name.
use Rattle.checking.specs.inner_contracts.OfColumns.{of_tokens}
use Rattle.cycles.proofs.steps.FreshValues.{Assigning}
use Rattle.std.proofs.Common.{length, ◌-◌}
use Rattle.cycles.proofs.fresh.assigned_value.Given as goal

abbrev pub invariant-loop-q : goal.invariant-loop-q
invariant-loop-q l = of_tokens Assigning l.columns l.from l.i l.q

abbrev pub decreases-loop-q : goal.decreases-loop-q
decreases-loop-q l = length l.columns.classes.now - l.q
