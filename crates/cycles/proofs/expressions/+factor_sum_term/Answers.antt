-- What is left of `factor`, `sum` and `term`.
use Rattle.cycles.proofs.steps.ExpressionValues.{factor_inside, factor_negated, factor_no_opener, factor_operator_none, factor_to_real, operator_falls, operator_turns, operators_stop, term_operator_none}
use Rattle.text.proofs.laws.ExpressionWalks.{expression_begins, factor_closed, term_begins}
use Rattle.text.specs.definitions.Grammar.{is_factor_operator, is_term_operator}
use Rattle.std.proofs.Common.{arith}
use Rattle.cycles.proofs.expressions.+factor_sum_term.Goals as goal

pub factor-returns-then-depth-eq0 : goal.factor-returns-then-depth-eq0
factor-returns-then-depth-eq0 t c = factor_closed _ c.if-depth-eq0.true c.leaf.ensures

pub factor-returns-in-23 : goal.factor-returns-in-23
factor-returns-in-23 t c =
    factor_to_real c.class_at.ensures _ c.if-depth-eq0.false c.in-23.is c.skip-inside.ensures c.skip.ensures c.sum-x.ensures c.as_real.ensures
    c.skip-in-23.ensures

pub factor-returns-in-26 : goal.factor-returns-in-26
factor-returns-in-26 t c =
    factor_inside c.class_at.ensures _ c.if-depth-eq0.false c.in-26.is c.skip-inside.ensures c.sum-x-in-26.ensures c.skip-in-26.ensures

pub factor-returns-in-33 : goal.factor-returns-in-33
factor-returns-in-33 t c = factor_negated c.class_at.ensures _ c.if-depth-eq0.false c.in-33.is c.skip-inside.ensures c.factor-x.ensures c.negate.ensures

pub factor-returns-in_default : goal.factor-returns-in_default
factor-returns-in_default t c = factor_no_opener c.class_at.ensures _ (omega arith) (omega arith) (omega arith) c.leaf-in_default.ensures

pub sum-loop-op-init : goal.sum-loop-op-init
sum-loop-op-init t c = expression_begins _ c.term-left.ensures

pub sum-loop-op-smaller : goal.sum-loop-op-smaller
sum-loop-op-smaller t c =
    operator_falls is_term_operator term_operator_none c.args.world.now.rules.now.columns.classes.now c.class_at.ensures c.term_operator.ensures
    c.in-Some.is c.skip.ensures c.term-right.ensures.onward

pub sum-loop-op-preserved : goal.sum-loop-op-preserved
sum-loop-op-preserved t c =
    operator_turns is_term_operator _ c.loop-op.invariant c.class_at.ensures c.term_operator.ensures term_operator_none c.in-Some.is
    c.skip.ensures c.term-right.ensures c.operate.ensures

pub sum-returns : goal.sum-returns
sum-returns t c = operators_stop is_term_operator _ c.loop-op.invariant c.class_at.ensures c.term_operator.ensures c.in_default.is

pub term-loop-op-init : goal.term-loop-op-init
term-loop-op-init t c = term_begins _ c.factor-left.ensures

pub term-loop-op-smaller : goal.term-loop-op-smaller
term-loop-op-smaller t c =
    operator_falls is_factor_operator factor_operator_none c.args.world.now.rules.now.columns.classes.now c.class_at.ensures c.factor_operator.ensures
    c.in-Some.is c.skip.ensures c.factor-right.ensures.onward

pub term-loop-op-preserved : goal.term-loop-op-preserved
term-loop-op-preserved t c =
    operator_turns is_factor_operator _ c.loop-op.invariant c.class_at.ensures c.factor_operator.ensures factor_operator_none c.in-Some.is
    c.skip.ensures c.factor-right.ensures c.operate.ensures

pub term-returns : goal.term-returns
term-returns t c = operators_stop is_factor_operator _ c.loop-op.invariant c.class_at.ensures c.factor_operator.ensures c.in_default.is
