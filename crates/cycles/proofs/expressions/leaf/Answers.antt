-- What is left of `leaf`.
use Rattle.cycles.proofs.steps.ExpressionValues.{leaf_cell, leaf_is_false, leaf_is_other, leaf_is_real, leaf_is_true, leaf_is_whole}
use Rattle.text.proofs.laws.ExpressionWalks.{leaf_end}
use Rattle.std.proofs.Common.{arith}
use Rattle.cycles.proofs.expressions.leaf.Goals as goal

pub returns-then-len-at : goal.returns-then-len-at
returns-then-len-at c = leaf_end (omega (arith, c.len.ensures))

pub returns-in-0 : goal.returns-in-0
returns-in-0 c = leaf_cell c.class_at.ensures c.in-0.is c.skip-next.ensures c.skip-name.ensures c.skip.ensures c.member_value.ensures

pub returns-in-19 : goal.returns-in-19
returns-in-19 c = leaf_is_true c.class_at.ensures c.in-19.is c.skip-next.ensures

pub returns-in-20 : goal.returns-in-20
returns-in-20 c = leaf_is_false c.class_at.ensures c.in-20.is c.skip-next.ensures

pub returns-in-1 : goal.returns-in-1
returns-in-1 c = leaf_is_whole c.class_at.ensures c.in-1.is c.skip-next.ensures c.value_at.ensures c.whole_literal.ensures

pub returns-in-2 : goal.returns-in-2
returns-in-2 c = leaf_is_real c.class_at.ensures c.in-2.is c.skip-next.ensures c.value_at-in-2.ensures c.real_literal.ensures

pub returns-in_default : goal.returns-in_default
returns-in_default c = leaf_is_other c.class_at.ensures (omega arith) (omega arith) (omega arith) (omega arith) (omega arith)
