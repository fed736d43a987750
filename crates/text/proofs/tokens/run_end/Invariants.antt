-- Where the loops have come, all bytes pass.
use Rattle.std.proofs.Common.{length, ◌-◌}
use Rattle.text.proofs.steps.RunSteps.{Running}
use Rattle.text.proofs.tokens.run_end.Given as goal

abbrev pub invariant-loop-end : goal.invariant-loop-end
invariant-loop-end g l = Running l.text (goal.F-post g l.passes) l.at l.end

abbrev pub decreases-loop-end : goal.decreases-loop-end
decreases-loop-end g l = length l.text - l.end

abbrev pub invariant-loop-last : goal.invariant-loop-last
invariant-loop-last g l = Running l.text (goal.F-post g l.passes) l.at l.last
