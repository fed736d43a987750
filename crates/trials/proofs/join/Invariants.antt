use Rattle.std.proofs.Common.{◌≤◌, length}
use Rattle.trials.proofs.join.Given as goal

abbrev pub invariant-loop-part : goal.invariant-loop-part
invariant-loop-part l = l.end ≤ length l.path
