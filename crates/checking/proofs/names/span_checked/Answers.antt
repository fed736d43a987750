-- What is left of `span_checked`.
use Rattle.checking.proofs.steps.EntitySpanLaws.{spans_none, spans_one, spans_refused}
use Rattle.checking.proofs.names.span_checked.Goals as goal

pub returns-in-Err : goal.returns-in-Err
returns-in-Err c = spans_refused _ c.in-Err.is

pub returns-then-row-number : goal.returns-then-row-number
returns-then-row-number c = spans_none c.in_default.is c.row.ensures.0 c.if-row-number.true

pub returns : goal.returns
returns c = spans_one c.in_default.is c.row.ensures.0 c.if-row-number.false c.row-i.ensures.0 c.offset.ensures c.name.ensures.bytes
