-- What is left of `event_column`.
use Rattle.std.proofs.Common.{arith, refl}
use Rattle.std.proofs.Math.ListN.{get_elem?}
use Rattle.checking.specs.inner_contracts.Directory.{entity_number, member_number}
use Rattle.checking.proofs.laws.CalledLaws.{some_below, some_by, none_by}
use Rattle.cycles.proofs.laws.ColumnReadLaws.{event_read, no_member, no_owner, other_sort}
use Rattle.cycles.proofs.header.event_column.Goals as goal

pub returns-in_err-e-clause-read : goal.returns-in_err-e-clause-read
returns-in_err-e-clause-read c =
    rw c.from_residual.ensures (no_owner _ _ _ _ _ _ (none_by entity_number refl c.entity.ensures c.in_err-e.was) _ refl)

pub returns-in_err-m-clause-read : goal.returns-in_err-m-clause-read
returns-in_err-m-clause-read c =
    let e = some_below c.entity.ensures c.in_ok-e.was in
    rw c.from_residual-in_err-m.ensures
    (no_member _ _ _ _ _ _ (some_by entity_number refl c.entity.ensures c.in_ok-e.was) _ (λ z. omega arith) c.row-face.ensures.0
    (none_by (λ f s. member_number (get_elem? f.interfaces c.row-face.result) s) refl c.member.ensures c.in_err-m.was) refl)

pub returns-then-member_sort-ne-EVENT-clause-read : goal.returns-then-member_sort-ne-EVENT-clause-read
returns-then-member_sort-ne-EVENT-clause-read c =
    let e = some_below c.entity.ensures c.in_ok-e.was in
    let m = some_below c.member.ensures c.in_ok-m.was in
    other_sort _ _ _ _ _ _ (some_by entity_number refl c.entity.ensures c.in_ok-e.was) _ (λ z. omega arith) c.row-face.ensures.0
    (some_by (λ f s. member_number (get_elem? f.interfaces c.row-face.result) s) refl c.member.ensures c.in_ok-m.was) (λ z. omega arith)
    c.member_sort.ensures c.if-member_sort-ne-EVENT.true

pub returns-clause-read : goal.returns-clause-read
returns-clause-read c =
    let e = some_below c.entity.ensures c.in_ok-e.was in
    let m = some_below c.member.ensures c.in_ok-m.was in
    event_read _ _ _ _ _ _ (some_by entity_number refl c.entity.ensures c.in_ok-e.was) _ (λ z. omega arith) c.row-face.ensures.0
    (some_by (λ f s. member_number (get_elem? f.interfaces c.row-face.result) s) refl c.member.ensures c.in_ok-m.was) (λ z. omega arith)
    c.member_sort.ensures c.if-member_sort-ne-EVENT.false
