-- What is left of `member_kind`.
use Rattle.checking.proofs.laws.DirectoryLaws.{kind_stands}
use Rattle.checking.proofs.table.member_kind.Goals as goal

pub returns : goal.returns
returns c = kind_stands c.member_at.ensures c.class_at.ensures c.kind_of.ensures
