-- What is found so far, with what is left to scan, is what all has.
use Rattle.checking.proofs.steps.PriorityScanLaws.{Prioritizing}
use Rattle.std.proofs.Common.{length}
use Rattle.checking.proofs.priorities.priority_fault.Given as goal

abbrev pub invariant-loop-i : goal.invariant-loop-i
invariant-loop-i l = Prioritizing l.classes l.offsets l.values (length l.classes) l.i l.found
