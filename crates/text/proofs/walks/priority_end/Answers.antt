use Rattle.std.proofs.Common.{sym, ◌∙◌}
use Rattle.text.proofs.laws.ConditionWalks.{priority_none, priority_some}
use Rattle.text.proofs.steps.EndLaws.{walk_ends}
use Rattle.text.proofs.walks.priority_end.Goals as goal

pub returns-then-class_at-ne-RANK : goal.returns-then-class_at-ne-RANK
returns-then-class_at-ne-RANK c =
    walk_ends {yields = λ w a u. Unit {0}} {v = tt {0}}
    (priority_none (λ q. c.if-class_at-ne-RANK.true (c.class_at.ensures ∙ q)) (λ w. tt))

pub returns : goal.returns
returns c =
    walk_ends {yields = λ w a u. Unit {0}} {v = tt {0}}
    (priority_some (sym c.class_at.ensures ∙ c.if-class_at-ne-RANK.false) c.skip.ensures c.skip-2.ensures (λ w s. tt))
