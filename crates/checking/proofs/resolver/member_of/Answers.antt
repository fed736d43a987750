-- What is left of `member_of`.
use Rattle.std.proofs.Math.ListN.{get_elem?}
use Rattle.checking.specs.inner_contracts.Directory.{member_number}
use Rattle.checking.proofs.laws.CalledLaws.{or_by}
use Rattle.checking.proofs.steps.ReferenceLaws.{member_is}
use Rattle.checking.proofs.resolver.member_of.Goals as goal

pub returns : goal.returns
returns c =
    member_is _ _ c.meaning_of.ensures c.unwrap_or-face.ensures
    (or_by (λ f s. member_number (get_elem? f.interfaces c.unwrap_or-face.result) s) c.name.ensures.bytes c.member-member.ensures c.unwrap_or.ensures)
