-- What is left of `find_guards`.
use Rattle.cycles.proofs.steps.RuleGuards.{guards_are}
use Rattle.cycles.proofs.finding.find_guards.Goals as goal

pub returns : goal.returns
returns c =
    guards_are c.clear.ensures c.priority_end-start.ensures c.conjuncts-next.ensures c.class_at.ensures c.if-class_at-eq-OR.false c.skip.ensures
    c.call_guard.ensures c.conjuncts.ensures
