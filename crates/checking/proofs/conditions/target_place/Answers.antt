-- What is left of `target_place`.
use Rattle.checking.proofs.steps.RuleWalks.{bare_checked, declaring_checked}
use Rattle.std.proofs.Common.{sym, ◌∙◌}
use Rattle.text.proofs.laws.ConditionWalks.{target_bare, target_declares}
use Rattle.checking.proofs.conditions.target_place.Goals as goal

pub returns-then-class_at-ne-COLON : goal.returns-then-class_at-ne-COLON
returns-then-class_at-ne-COLON c =
    target_bare c.skip-colon.ensures (λ z. c.if-class_at-ne-COLON.true (c.class_at.ensures ∙ z))
    λ w s. bare_checked _ c.meaning_of-owner.ensures c.unwrap_or-face.ensures c.offset.ensures c.is_some.ensures c.unless.ensures w s.inside

pub returns : goal.returns
returns c =
    target_declares c.skip-colon.ensures (sym c.class_at.ensures ∙ c.if-class_at-ne-COLON.false) c.skip-name.ensures c.skip.ensures
    λ w s t u. declaring_checked _ c.meaning_of-owner.ensures c.unwrap_or-face.ensures _ c.declared.ensures w s.inside u.inside
