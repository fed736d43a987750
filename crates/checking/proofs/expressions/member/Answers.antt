-- What is left of `member`.
use Rattle.checking.proofs.steps.RuleWalks.{member_checked}
use Rattle.text.proofs.laws.ExpressionWalks.{member_walk}
use Rattle.checking.proofs.expressions.member.Goals as goal

pub returns : goal.returns
returns c =
    member_walk c.skip-dot.ensures c.skip-name.ensures c.skip.ensures λ w s t u.
    member_checked _ _ c.meaning_of-owner.ensures c.unwrap_or-face.ensures c.cell_of-member.ensures c.offset.ensures c.is_some.ensures c.unless-unknown.ensures c.earlier.ensures w s.inside u.inside
