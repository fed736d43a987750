-- What is left of `filter_guard`.
use Rattle.cycles.proofs.steps.GuardWalks.{filter_a_guard, filter_no_guard}
use Rattle.cycles.proofs.finding.filter_guard.Goals as goal

pub returns-then-class_at-ne-WITH : goal.returns-then-class_at-ne-WITH
returns-then-class_at-ne-WITH c = filter_no_guard c.class_at.ensures c.if-class_at-ne-WITH.true

pub returns : goal.returns
returns c =
    filter_a_guard c.class_at.ensures c.if-class_at-ne-WITH.false c.skip-name.ensures c.skip.ensures c.skip-inside.ensures
    c.expression_end-next.ensures c.put_in_pass.ensures
