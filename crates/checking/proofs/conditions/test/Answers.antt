-- What is left of `test`.
use Rattle.checking.proofs.steps.RuleWalks.{changed_checked, equals_checked}
use Rattle.std.proofs.Common.{sym, ◌∙◌}
use Rattle.text.proofs.laws.ConditionWalks.{test_changed, test_equals}
use Rattle.text.proofs.laws.WalkLaws.{walk_next}
use Rattle.checking.proofs.conditions.test.Goals as goal

pub returns-then-class_at-eq-CHANGED : goal.returns-then-class_at-eq-CHANGED
returns-then-class_at-eq-CHANGED c =
    walk_next c.nothing.ensures.next_is
    (test_changed _ (sym c.class_at.ensures ∙ c.if-class_at-eq-CHANGED.true) c.skip-inside.ensures λ w. changed_checked _ c.nothing.ensures w)

pub returns : goal.returns
returns c =
    walk_next c.matched.ensures.next_is
    (test_equals _ (λ z. c.if-class_at-eq-CHANGED.false (c.class_at.ensures ∙ z)) c.skip-inside.ensures c.expression-e.ensures
    λ w a s x. equals_checked _ c.offset.ensures c.matched.ensures w s.inside a x)
