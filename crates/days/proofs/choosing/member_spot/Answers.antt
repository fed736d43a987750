-- What is left of `member_spot`.
use Rattle.std.proofs.Common.{arith, refl}
use Rattle.std.proofs.Math.ListN.{get_elem?}
use Rattle.checking.specs.inner_contracts.Directory.{entity_number, member_number}
use Rattle.checking.proofs.laws.CalledLaws.{some_below, some_by, none_by}
use Rattle.days.proofs.laws.SpotNumbers.{no_owner, no_member, member_read}
use Rattle.days.proofs.choosing.member_spot.Goals as goal

pub returns-in_err-e-clause-read : goal.returns-in_err-e-clause-read
returns-in_err-e-clause-read c =
    rw c.from_residual.ensures (no_owner _ _ _ _ _ _ (none_by entity_number refl c.entity.ensures c.in_err-e.was) refl)

pub returns-in_err-m-clause-read : goal.returns-in_err-m-clause-read
returns-in_err-m-clause-read c =
    let e = some_below c.entity.ensures c.in_ok-e.was in
    rw c.from_residual-in_err-m.ensures
    (no_member _ _ _ _ _ _ (some_by entity_number refl c.entity.ensures c.in_ok-e.was) (λ z. omega arith) c.row-face.ensures.0
    (none_by (λ f s. member_number (get_elem? f.interfaces c.row-face.result) s) refl c.member.ensures c.in_err-m.was) refl)

pub returns-clause-read : goal.returns-clause-read
returns-clause-read c =
    let e = some_below c.entity.ensures c.in_ok-e.was in
    let m = some_below c.member.ensures c.in_ok-m.was in
    member_read _ _ _ _ _ _ (some_by entity_number refl c.entity.ensures c.in_ok-e.was) (λ z. omega arith) c.row-face.ensures.0
    (some_by (λ f s. member_number (get_elem? f.interfaces c.row-face.result) s) refl c.member.ensures c.in_ok-m.was) (λ z. omega arith)
