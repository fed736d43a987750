use Rattle.engine.proofs.laws.LineLaws.{told_err}
use Rattle.engine.proofs.laws.ServingLaws.{sheet_is}
use Rattle.engine.proofs.room.ResolvedBench.put_sheet.Goals as goal

pub returns-in_err-put_sheet : goal.returns-in_err-put_sheet
returns-in_err-put_sheet c =
    rw (← c.self.view_is, told_err c.from_residual.ensures.1) (sheet_is c.self.invariant c.put_sheet.ensures c.in_err-put_sheet.was)

pub returns : goal.returns
returns c = rw (← c.self.view_is) (sheet_is c.self.invariant c.put_sheet.ensures c.in_ok-put_sheet.was)
