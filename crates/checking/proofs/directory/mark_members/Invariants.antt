-- The members of the interfaces that the loop has passed are put, and the other rows stay.
use Rattle.checking.proofs.steps.PlaceLaws.{Membering}
use Rattle.std.proofs.Common.{◌-◌}
use Rattle.checking.proofs.directory.mark_members.Given as goal

abbrev pub invariant-loop-k : goal.invariant-loop-k
invariant-loop-k l = Membering l.classes l.fn.d l.d l.k

abbrev pub decreases-loop-k : goal.decreases-loop-k
decreases-loop-k l = 16 - l.k
