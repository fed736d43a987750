-- What is left of `expression`.
use Rattle.text.proofs.laws.ExpressionWalks.{leaf_alone}
use Rattle.cycles.proofs.expressions.expression.Goals as goal

pub returns : goal.returns
returns c = leaf_alone _ c.class_at.ensures c.if-class_at-ge-REAL.false c.leaf-x.ensures c.class_at-2.ensures c.if-class_at-ge-PLUS.false
