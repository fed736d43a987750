use Rattle.std.proofs.Common.{sym, ◌∙◌}
use Rattle.text.proofs.laws.ExpressionWalks.{member_walk, leaf_member, leaf_token}
use Rattle.text.proofs.steps.EndLaws.{walk_ends}
use Rattle.text.proofs.walks.leaf_end.Goals as goal

pub returns-then-class_at-eq-NAME : goal.returns-then-class_at-eq-NAME
returns-then-class_at-eq-NAME c =
    walk_ends {yields = λ w a u. Unit {0}} {v = tt {0}}
    (leaf_member (sym c.class_at.ensures ∙ c.if-class_at-eq-NAME.true)
    (member_walk c.skip-next.ensures c.skip.ensures c.skip-then-class_at-eq-NAME.ensures (λ w p q r. tt)))

pub returns : goal.returns
returns c =
    walk_ends {yields = λ w a u. Unit {0}} {v = tt {0}}
    (leaf_token (λ q. c.if-class_at-eq-NAME.false (c.class_at.ensures ∙ q)) c.skip-next.ensures (λ w a. tt))
