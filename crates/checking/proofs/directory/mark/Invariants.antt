-- What is left to put makes of the rows now what all makes of the rows at first.
use Rattle.checking.proofs.steps.PlaceLaws.{Marking}
use Rattle.std.proofs.Common.{◌-◌}
use Rattle.checking.proofs.directory.mark.Given as goal

abbrev pub invariant-loop-i : goal.invariant-loop-i
invariant-loop-i l = Marking l.classes l.low l.high l.from l.end l.base l.most l.fn.d l.d l.n l.i

abbrev pub decreases-loop-i : goal.decreases-loop-i
decreases-loop-i l = l.end - l.i
