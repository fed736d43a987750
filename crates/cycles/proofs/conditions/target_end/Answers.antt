-- What is left of `target_end`.
use Rattle.cycles.proofs.steps.ConditionValues.{target_is_bare, target_is_declared}
use Rattle.cycles.proofs.conditions.target_end.Goals as goal

pub returns-then-class_at-ne-COLON : goal.returns-then-class_at-ne-COLON
returns-then-class_at-ne-COLON c = target_is_bare c.skip-colon.ensures c.class_at.ensures c.if-class_at-ne-COLON.true

pub returns : goal.returns
returns c = target_is_declared c.skip-colon.ensures c.class_at.ensures c.if-class_at-ne-COLON.false c.skip.ensures c.skip-2.ensures
