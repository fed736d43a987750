-- What is left of `spot_called`.
use Rattle.cycles.proofs.laws.ColumnReadLaws.{one_part, two_parts}
use Rattle.days.proofs.laws.SpotNumbers.{one_part_read, many_parts_read, parts_read}
use Rattle.days.proofs.choosing.spot_called.Goals as goal

pub returns-then-last-eq0-clause-read : goal.returns-then-last-eq0-clause-read
returns-then-last-eq0-clause-read c = one_part_read _ _ _ _ _ (one_part _ c.field_start-last.ensures c.if-last-eq0.true)

pub returns-then-field_start-ne0-clause-read : goal.returns-then-field_start-ne0-clause-read
returns-then-field_start-ne0-clause-read c = many_parts_read _ _ _ _ _ c.field_start-last.ensures c.if-last-eq0.false c.field_start.ensures c.if-field_start-ne0.true

pub returns-clause-read : goal.returns-clause-read
returns-clause-read c =
    parts_read _ _ _ _ _ _ _
    (two_parts _ c.field_start-last.ensures c.if-last-eq0.false c.field_start.ensures c.if-field_start-ne0.false)
    c.member_spot.ensures.read
