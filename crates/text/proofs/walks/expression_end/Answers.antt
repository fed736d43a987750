use Rattle.text.proofs.laws.ExpressionWalks.{leaf_alone}
use Rattle.text.proofs.steps.EndLaws.{walk_ends}
use Rattle.text.proofs.walks.expression_end.Goals as goal

pub returns : goal.returns
returns c =
    walk_ends
    (leaf_alone _ c.class_at.ensures c.if-class_at-ge-REAL.false c.leaf_end-next.ensures
    c.class_at-2.ensures c.if-class_at-ge-PLUS.false)
