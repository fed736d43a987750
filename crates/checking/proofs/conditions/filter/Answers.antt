-- What is left of `filter`.
use Rattle.checking.proofs.steps.RuleWalks.{filter_checked, no_filter_checked}
use Rattle.std.proofs.Common.{sym, ◌∙◌}
use Rattle.text.proofs.laws.ConditionWalks.{filter_none, filter_some}
use Rattle.text.proofs.laws.WalkLaws.{walk_next}
use Rattle.checking.proofs.conditions.filter.Goals as goal

pub returns-then-class_at-ne-WITH : goal.returns-then-class_at-ne-WITH
returns-then-class_at-ne-WITH c =
    walk_next c.nothing.ensures.next_is
    (filter_none _ (λ z. c.if-class_at-ne-WITH.true (c.class_at.ensures ∙ z)) λ w. no_filter_checked _ c.nothing.ensures w)

pub returns : goal.returns
returns c =
    walk_next (c.after.ensures.next_is ∙ c.matched.ensures.next_is)
    (filter_some _ (sym c.class_at.ensures ∙ c.if-class_at-ne-WITH.false) c.skip-name.ensures c.skip-equals.ensures c.skip.ensures c.expression-e.ensures
    λ w a s t u x. filter_checked _ _ c.cell_of-attribute.ensures c.offset.ensures c.matched.ensures c.after.ensures w t.inside u.inside a x)
