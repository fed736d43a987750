-- What is found so far, with what is left to scan, is what all has.
use Rattle.checking.proofs.steps.CountScanLaws.{Declaring}
use Rattle.checking.proofs.counts.declaration_fault.Given as goal

abbrev pub invariant-loop-i : goal.invariant-loop-i
invariant-loop-i l = Declaring l.classes l.offsets l.end l.i l.interfaces l.members l.entities l.found
