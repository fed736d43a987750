use Rattle.engine.proofs.steps.EntryLaws.{sheet_served}
use Rattle.engine.proofs.put_day_sheet.Goals as goal

pub returns : goal.returns
returns c = sheet_served _ _ _ _ _ c.in_ok-room_for.ensures c.in_ok-room_for-2.ensures c.is_short.ensures c.if-is_short.false c.text_of.ensures c.serve.ensures
