-- What is left of `filter`.
use Rattle.cycles.proofs.steps.ConditionValues.{filter_is_none, filter_is_some}
use Rattle.cycles.proofs.conditions.filter.Goals as goal

pub returns-then-class_at-ne-WITH : goal.returns-then-class_at-ne-WITH
returns-then-class_at-ne-WITH c = filter_is_none _ c.class_at.ensures c.if-class_at-ne-WITH.true

pub returns : goal.returns
returns c =
    filter_is_some _ c.class_at.ensures c.if-class_at-ne-WITH.false c.skip-name.ensures c.skip.ensures c.skip-inside.ensures
    c.member.ensures c.read_cell-cell.ensures c.expression-x.ensures c.equal.ensures
