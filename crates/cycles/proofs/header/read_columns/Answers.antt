-- What is left of `read_columns`.
use Rattle.cycles.proofs.steps.HeaderLaws.{column_room, columns_again, columns_begin, columns_end, columns_no_column, columns_room, columns_without_n}
use Rattle.std.proofs.Common.{arith, refl}
use Rattle.cycles.proofs.header.read_columns.Goals as goal

pub loop-end-init : goal.loop-end-init
loop-end-init c = columns_begin _ _ _ _ _ _ _

pub returns-then-same_bytes-clause-read : goal.returns-then-same_bytes-clause-read
returns-then-same_bytes-clause-read c =
    columns_end _ _ _ _ _ _ _ c.loop-end.invariant c.field_start-start.ensures c.if-start-eq0.true
    c.same_bytes.ensures c.if-same_bytes.true

pub returns-then-same_bytes-clause-few : goal.returns-then-same_bytes-clause-few
returns-then-same_bytes-clause-few c = let b = columns_room _ _ _ _ _ _ _ c.loop-end.invariant in omega arith

pub returns-then-start-eq0-clause-read : goal.returns-then-start-eq0-clause-read
returns-then-start-eq0-clause-read c =
    columns_without_n _ _ _ _ _ _ _ c.loop-end.invariant c.field_start-start.ensures c.if-start-eq0.true
    c.same_bytes.ensures c.if-same_bytes.false

pub returns-in_err-column-clause-read : goal.returns-in_err-column-clause-read
returns-in_err-column-clause-read c =
    rw c.from_residual.ensures
    (columns_no_column _ _ _ _ _ _ _ c.loop-end.invariant c.field_start-start.ensures c.if-start-eq0.false c.in_err-column.ensures.read refl)

pub is_read-requires : goal.is_read-requires
is_read-requires c = let b = columns_room _ _ _ _ _ _ _ c.loop-end.invariant in omega arith

pub returns-then-is_read-clause-read : goal.returns-then-is_read-clause-read
returns-then-is_read-clause-read c =
    columns_again _ _ _ _ _ _ _ c.loop-end.invariant c.field_start-start.ensures c.if-start-eq0.false c.in_ok-column.ensures.read
    (λ z. let low = c.in_ok-column.ensures.below in omega arith) c.is_read.ensures c.if-is_read.true

pub offset_bounds-columns-count : goal.offset_bounds-columns-count
offset_bounds-columns-count c = let b = columns_room _ _ _ _ _ _ _ c.loop-end.invariant in omega arith

pub bounds-columns-count : goal.bounds-columns-count
bounds-columns-count c =
    let b = column_room _ _ _ _ _ _ _ c.loop-end.invariant c.field_start-start.ensures c.if-start-eq0.false c.in_ok-column.ensures.read
    (λ z. let low = c.in_ok-column.ensures.below in omega arith) c.is_read.ensures c.if-is_read.false (omega arith) in
    omega arith

pub overflow_add-count : goal.overflow_add-count
overflow_add-count c = let b = columns_room _ _ _ _ _ _ _ c.loop-end.invariant in omega arith
