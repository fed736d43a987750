-- What is left of `member`.
use Rattle.checking.proofs.laws.CalledLaws.{member_numbered, no_member_numbered}
use Rattle.checking.proofs.columns.Columns.member.Goals as goal

pub returns-then-row-face : goal.returns-then-row-face
returns-then-row-face c = no_member_numbered _ _ c.row.ensures.0 c.if-row-face.true

pub returns : goal.returns
returns c = member_numbered _ c.row.ensures.0 c.if-row-face.false c.members.ensures c.first_named.ensures
