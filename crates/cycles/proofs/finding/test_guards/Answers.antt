-- What is left of `test_guards`.
use Rattle.cycles.proofs.steps.GuardWalks.{test_changed_guard, test_equals_guards}
use Rattle.cycles.proofs.finding.test_guards.Goals as goal

pub returns-then-class_at-eq-CHANGED : goal.returns-then-class_at-eq-CHANGED
returns-then-class_at-eq-CHANGED c = test_changed_guard c.class_at.ensures c.if-class_at-eq-CHANGED.true c.skip-inside.ensures c.put_in_pass.ensures

pub returns : goal.returns
returns c =
    test_equals_guards c.class_at.ensures c.if-class_at-eq-CHANGED.false c.skip-inside.ensures c.expression_end-next.ensures
    c.put_in_pass-2.ensures c.put_in_pass-3.ensures
