-- What is left of `put_sheet`.
use Rattle.std.proofs.Common.{arith}
use Rattle.days.proofs.steps.SheetSteps.{sheet_no_state, sheet_none_chosen, sheet_no_header, sheet_made, room_for_day}
use Rattle.days.proofs.sheet.put_sheet.Goals as goal

pub returns-then-not-is_state : goal.returns-then-not-is_state
returns-then-not-is_state c = sheet_no_state _ _ _ _ _ _ _ _ _ _ _ _ c.fingerprint.ensures c.is_state.ensures c.if-not-is_state.true

pub returns-in_default : goal.returns-in_default
returns-in_default c =
    sheet_none_chosen _ _ _ _ _ _ _ _ _ _ _ _ c.fingerprint.ensures c.is_state.ensures c.if-not-is_state.false c.in_default.ensures (omega arith)

pub returns-in_default-read : goal.returns-in_default-read
returns-in_default-read c =
    sheet_no_header _ _ _ _ _ _ _ _ _ _ _ _ c.fingerprint.ensures c.is_state.ensures c.if-not-is_state.false c.in-Some.ensures
    c.in-Some.chosen.few c.line_end-end.ensures c.in_default-read.ensures (omega arith)

pub put_day-requires-clause-room : goal.put_day-requires-clause-room
put_day-requires-clause-room c = room_for_day _ c.line_end-end.ensures c.requires.room

pub returns : goal.returns
returns c =
    sheet_made _ _ _ _ _ _ _ _ _ _ _ _ c.fingerprint.ensures c.is_state.ensures c.if-not-is_state.false c.in-Some.ensures
    c.in-Some.chosen.few c.line_end-end.ensures c.in-Some-read.ensures.1 c.in-Some-read.ensures.0 c.requires.state
    (λ i. omega (arith, c.type_inv.state i)) c.requires.room c.copy_state.ensures c.put_day.ensures
