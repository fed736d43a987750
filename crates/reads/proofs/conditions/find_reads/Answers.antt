-- What is left of `find_reads`.
use Rattle.std.proofs.Common.{arith}
use Rattle.reads.proofs.steps.RuleSteps.{finding_turns, finding_ends}
use Rattle.reads.proofs.conditions.find_reads.Goals as goal

pub returns-then-count-k : goal.returns-then-count-k
returns-then-count-k c =
    finding_ends c.clear_sets.ensures c.loop-k.invariant (λ j a b. omega (arith, c.row-count.ensures.0, c.if-count-k.true))

pub loop-k-preserved : goal.loop-k-preserved
loop-k-preserved c = finding_turns c.loop-k-test.true c.loop-k.invariant c.find_in_rule.ensures

pub returns : goal.returns
returns c = finding_ends c.clear_sets.ensures c.loop-k.invariant (λ j a b. omega (arith, c.loop-k-test.false))
