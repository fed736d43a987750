-- What is left of `clause`.
use Rattle.checking.proofs.steps.RuleWalks.{clause_checked}
use Rattle.std.proofs.Common.{◌∙◌}
use Rattle.text.proofs.laws.ConditionWalks.{clause_walk}
use Rattle.text.proofs.laws.WalkLaws.{walk_next}
use Rattle.checking.proofs.conditions.clause.Goals as goal

pub returns : goal.returns
returns c =
    walk_next (c.after-2.ensures.next_is ∙ c.after.ensures.next_is ∙ c.joined.ensures.next_is)
    (clause_walk _ c.skip-name.ensures c.skip-from.ensures c.skip.ensures c.target_place-target.ensures c.filter-f.ensures c.skip-2.ensures c.test-t.ensures
    λ w x y z s t u p f e. clause_checked _ _ c.cell_of-event.ensures c.joined.ensures c.after.ensures c.after-2.ensures w t.inside x y z p f e)
