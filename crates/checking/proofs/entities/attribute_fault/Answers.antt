-- What is left of `attribute_fault`.
use Rattle.std.proofs.Common.{arith, refl}
use Rattle.checking.specs.inner_contracts.FoundFaults.{found_as}
use Rattle.checking.proofs.laws.AssignmentLaws.{attribute_unasked, attribute_asked, attribute_missing}
use Rattle.checking.proofs.entities.attribute_fault.Goals as goal

pub returns-then-row-face : goal.returns-then-row-face
unfolding found_as
returns-then-row-face c = attribute_unasked c.row.ensures.0 c.if-row-face.true refl

pub returns-in-Some : goal.returns-in-Some
returns-in-Some c =
    rw c.in-Some.is
    (attribute_asked c.row.ensures.0 c.if-row-face.false (rw c.in-Some.is at c.requires) c.is_attribute.ensures c.offset-at.ensures c.unless.ensures)

pub returns-in-None : goal.returns-in-None
returns-in-None c =
    rw c.in-None.is (attribute_missing c.row.ensures.0 c.if-row-face.false (omega arith) c.offset-at.ensures c.unless-in-None.ensures)
