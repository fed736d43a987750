-- What is left of `conjuncts`.
use Rattle.cycles.proofs.steps.GuardWalks.{conjunct_turns, conjuncts_begin, conjuncts_stop}
use Rattle.cycles.proofs.finding.conjuncts.Goals as goal

pub loop-i-init : goal.loop-i-init
loop-i-init c = conjuncts_begin c.atom_guards-i.ensures

pub loop-i-preserved : goal.loop-i-preserved
loop-i-preserved c = conjunct_turns c.class_at.ensures c.loop-i.invariant c.loop-i-test.true c.skip.ensures c.atom_guards-i-in-loop-i.ensures

pub returns : goal.returns
returns c = conjuncts_stop c.class_at.ensures c.loop-i.invariant c.loop-i-test.false
