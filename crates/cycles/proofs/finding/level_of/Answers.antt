-- What is left of `level_of`.
use Rattle.cycles.proofs.steps.GuardPuts.{covered_append, covered_fewer, covered_more}
use Rattle.std.proofs.Common.{arith}
use Rattle.cycles.proofs.finding.level_of.Goals as goal

pub loop-i-preserved : goal.loop-i-preserved
loop-i-preserved c = covered_append (covered_more (omega (arith, c.max-level.ensures)) c.loop-i.invariant) (covered_more (omega (arith, c.max-level.ensures)) c.level_at.ensures)

pub returns : goal.returns
returns c = covered_fewer c.loop-i-test.false c.loop-i.invariant
