-- What is left of `column_called`.
use Rattle.std.proofs.Common.{arith, refl}
use Rattle.checking.specs.inner_contracts.Directory.{entity_number}
use Rattle.checking.proofs.laws.CalledLaws.{some_below, some_by, none_by}
use Rattle.cycles.proofs.laws.ColumnReadLaws.{no_column_read, no_entity, one_part, parts_read, presence_read, three_parts, two_parts}
use Rattle.cycles.proofs.header.column_called.Goals as goal

pub returns-in_err-e-clause-read : goal.returns-in_err-e-clause-read
returns-in_err-e-clause-read c =
    rw c.from_residual.ensures
    (no_entity _ _ _ _ _ _ (none_by entity_number refl c.entity.ensures c.in_err-e.was) _ (one_part _ c.field_start-last.ensures c.if-last-eq0.true) refl)

pub returns-then-last-eq0-clause-read : goal.returns-then-last-eq0-clause-read
returns-then-last-eq0-clause-read c =
    let e = some_below c.entity.ensures c.in_ok-e.was in
    presence_read _ _ _ _ _ _ (some_by entity_number refl c.entity.ensures c.in_ok-e.was) _ (one_part _ c.field_start-last.ensures c.if-last-eq0.true)
    (λ z. omega arith)

pub returns-then-field_start-ne0-clause-read : goal.returns-then-field_start-ne0-clause-read
returns-then-field_start-ne0-clause-read c =
    no_column_read _ _ _ _ _ _
    (λ f. three_parts _ c.field_start-last.ensures c.if-last-eq0.false c.field_start.ensures f c.if-field_start-ne0.true)

pub returns-clause-read : goal.returns-clause-read
returns-clause-read c =
    parts_read _ _ _ _ _ _ _ _
    (two_parts _ c.field_start-last.ensures c.if-last-eq0.false c.field_start.ensures c.if-field_start-ne0.false) c.event_column.ensures.read
