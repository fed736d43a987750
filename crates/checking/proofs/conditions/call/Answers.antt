-- What is left of `call`.
use Rattle.checking.proofs.steps.RuleWalks.{call_checked}
use Rattle.std.proofs.Common.{◌∙◌}
use Rattle.text.proofs.laws.ConditionWalks.{call_walk}
use Rattle.text.proofs.laws.WalkLaws.{walk_next}
use Rattle.checking.proofs.conditions.call.Goals as goal

pub returns : goal.returns
returns c =
    walk_next (c.after-2.ensures.next_is ∙ c.joined.ensures.next_is ∙ c.after.ensures.next_is)
    (call_walk c.skip-name.ensures c.skip-open.ensures c.skip.ensures c.expression-e.ensures c.skip-close.ensures c.skip-2.ensures
    c.target_place-target.ensures c.filter-f.ensures
    λ w a x y s t u e p f. call_checked _ _ _ c.cell_of-action.ensures c.offset.ensures c.matched-parameter.ensures c.after.ensures
    c.joined.ensures c.after-2.ensures w t.inside u.inside a x y e p f)
