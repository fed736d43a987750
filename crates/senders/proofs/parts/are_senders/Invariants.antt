-- What is left of the parts says the same as all of them.
use Rattle.senders.proofs.steps.PartSteps.{PartsPassed}
use Rattle.std.proofs.Common.{◌-◌}
use Rattle.senders.proofs.parts.are_senders.Given as goal

abbrev pub invariant-loop-i : goal.invariant-loop-i
invariant-loop-i l = PartsPassed l.columns.classes.now l.columns.d.now l.parts l.size l.count l.at (l.count - l.i)
