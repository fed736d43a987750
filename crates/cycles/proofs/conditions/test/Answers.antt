-- What is left of `test`.
use Rattle.cycles.proofs.steps.ConditionValues.{test_is_changed, test_is_equals, test_is_unequal}
use Rattle.std.proofs.Common.{refl}
use Rattle.cycles.proofs.conditions.test.Goals as goal

pub returns-then-class_at-eq-CHANGED : goal.returns-then-class_at-eq-CHANGED
returns-then-class_at-eq-CHANGED c = test_is_changed _ c.class_at.ensures c.read_cell-cell.ensures c.if-class_at-eq-CHANGED.true c.read_cell.ensures c.skip-inside.ensures c.differ.ensures

pub returns-then-equal : goal.returns-then-equal
returns-then-equal c =
    test_is_equals _ c.class_at.ensures c.read_cell-cell.ensures c.if-class_at-eq-CHANGED.false c.skip-inside.ensures c.expression-x.ensures c.equal.ensures
    c.if-equal.true c.read_cell-then-equal.ensures c.expression.ensures c.equal-then-equal.ensures refl

pub returns-else-equal : goal.returns-else-equal
returns-else-equal c =
    test_is_unequal _ c.class_at.ensures c.read_cell-cell.ensures c.if-class_at-eq-CHANGED.false c.skip-inside.ensures c.expression-x.ensures c.equal.ensures
    c.if-equal.false
