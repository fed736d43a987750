-- What is found so far, with what is left to scan, is what all has.
use Rattle.checking.proofs.steps.CountScanLaws.{Ruling}
use Rattle.std.proofs.Common.{length}
use Rattle.checking.proofs.counts.rule_fault.Given as goal

abbrev pub invariant-loop-i : goal.invariant-loop-i
invariant-loop-i l = Ruling l.classes l.offsets (length l.classes) l.from l.i l.rules l.variables l.clauses l.calls l.found
