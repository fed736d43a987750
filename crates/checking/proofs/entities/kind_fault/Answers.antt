-- What is left of `kind_fault`.
use Rattle.std.proofs.Common.{arith, ap}
use Rattle.checking.specs.inner_contracts.FoundFaults.{found_as}
use Rattle.checking.proofs.laws.AssignmentLaws.{kind_unasked, kind_asked}
use Rattle.checking.proofs.entities.kind_fault.Goals as goal

pub returns-in_err-m : goal.returns-in_err-m
unfolding found_as
returns-in_err-m c = rw c.in_err-m.was (kind_unasked (omega arith) (ap found_as c.from_residual.ensures))

pub returns : goal.returns
returns c =
    rw c.in_ok-m.was
    (kind_asked (rw c.in_ok-m.was at c.requires) c.member_kind.ensures c.class_at.ensures c.literal_kind.ensures c.offset.ensures c.kinds_fit.ensures c.unless.ensures)
