-- What is left of `+expression_factor_term`.
use Rattle.checking.proofs.steps.RuleWalks.{applied_checked, negated_checked, real_checked}
use Rattle.checking.specs.inner_contracts.RuleParts.{world_scope}
use Rattle.std.proofs.Common.{refl, sym, ◌∙◌}
use Rattle.text.proofs.laws.ExpressionWalks.{expression_begins, factor_closed, factor_leaf, factor_minus, factor_real, factor_round, term_begins}
use Rattle.text.proofs.laws.WalkLaws.{chain_turns, test_read, turn_less, walk_next, walk_stops}
use Rattle.text.specs.definitions.Grammar.{is_factor_operator, is_term_operator}
use Rattle.checking.proofs.expressions.+expression_factor_term.Goals as goal

pub expression-loop-i-init : goal.expression-loop-i-init
expression-loop-i-init t c = expression_begins _ c.term-left.ensures

pub expression-loop-i-smaller : goal.expression-loop-i-smaller
unfolding is_term_operator
expression-loop-i-smaller t c =
    turn_less is_term_operator c.args.columns.now.classes.now refl (test_read is_term_operator c.class_at.ensures c.is_term_operator.ensures c.loop-i-test.true)
    c.skip.ensures c.term-right.ensures.onward c.applied-left.ensures.next_is

pub expression-loop-i-preserved : goal.expression-loop-i-preserved
unfolding is_term_operator
expression-loop-i-preserved t c =
    chain_turns _ _ _ _ _ c.loop-i.invariant refl (test_read is_term_operator c.class_at.ensures c.is_term_operator.ensures c.loop-i-test.true)
    c.skip.ensures (walk_next c.applied-left.ensures.next_is c.term-right.ensures)
    λ w a b s x y. applied_checked _ c.offset.ensures w s.inside c.applied-left.ensures a b x y

pub expression-returns : goal.expression-returns
expression-returns t c = walk_stops _ _ _ _ c.loop-i.invariant (test_read is_term_operator c.class_at.ensures c.is_term_operator.ensures c.loop-i-test.false)

pub factor-returns-then-depth-eq0 : goal.factor-returns-then-depth-eq0
factor-returns-then-depth-eq0 t c = factor_closed _ c.if-depth-eq0.true c.leaf.ensures

pub factor-returns-then-class-eq-REAL : goal.factor-returns-then-class-eq-REAL
factor-returns-then-class-eq-REAL t c =
    walk_next c.made_real.ensures.next_is
    (factor_real _ c.if-depth-eq0.false (sym c.class_at-class.ensures ∙ c.if-class-eq-REAL.true) c.skip-inside.ensures c.skip.ensures c.expression-x.ensures c.skip-then-class-eq-REAL.ensures
    λ w a s x. real_checked _ c.offset.ensures w s.inside c.made_real.ensures a x)

pub factor-returns-then-class-eq-ROUND_OPEN : goal.factor-returns-then-class-eq-ROUND_OPEN
factor-returns-then-class-eq-ROUND_OPEN t c =
    walk_next c.closed.ensures.next_is
    (factor_round _ c.if-depth-eq0.false (sym c.class_at-class.ensures ∙ c.if-class-eq-ROUND_OPEN.true) c.skip-inside.ensures c.expression-x-then-class-eq-ROUND_OPEN.ensures c.skip-then-class-eq-ROUND_OPEN.ensures
    λ w a x. c.closed.ensures.checked (world_scope w) a x)

pub factor-returns-then-class-eq-MINUS : goal.factor-returns-then-class-eq-MINUS
factor-returns-then-class-eq-MINUS t c =
    walk_next c.negated.ensures.next_is
    (factor_minus _ c.if-depth-eq0.false (sym c.class_at-class.ensures ∙ c.if-class-eq-MINUS.true) c.skip-inside.ensures c.factor-x.ensures
    λ w a s x. negated_checked _ c.offset-then-class-eq-MINUS.ensures w s.inside c.negated.ensures a x)

pub factor-returns : goal.factor-returns
factor-returns t c = factor_leaf _ (λ z. c.if-class-eq-REAL.false (c.class_at-class.ensures ∙ z)) (λ z. c.if-class-eq-ROUND_OPEN.false (c.class_at-class.ensures ∙ z)) (λ z. c.if-class-eq-MINUS.false (c.class_at-class.ensures ∙ z)) c.leaf-2.ensures

pub term-loop-i-init : goal.term-loop-i-init
term-loop-i-init t c = term_begins _ c.factor-left.ensures

pub term-loop-i-smaller : goal.term-loop-i-smaller
unfolding is_factor_operator
term-loop-i-smaller t c =
    turn_less is_factor_operator c.args.columns.now.classes.now refl (test_read is_factor_operator c.class_at.ensures c.is_factor_operator.ensures c.loop-i-test.true)
    c.skip.ensures c.factor-right.ensures.onward c.applied-left.ensures.next_is

pub term-loop-i-preserved : goal.term-loop-i-preserved
unfolding is_factor_operator
term-loop-i-preserved t c =
    chain_turns _ _ _ _ _ c.loop-i.invariant refl (test_read is_factor_operator c.class_at.ensures c.is_factor_operator.ensures c.loop-i-test.true)
    c.skip.ensures (walk_next c.applied-left.ensures.next_is c.factor-right.ensures)
    λ w a b s x y. applied_checked _ c.offset.ensures w s.inside c.applied-left.ensures a b x y

pub term-returns : goal.term-returns
term-returns t c = walk_stops _ _ _ _ c.loop-i.invariant (test_read is_factor_operator c.class_at.ensures c.is_factor_operator.ensures c.loop-i-test.false)
