use Rattle.replay.proofs.steps.LineLaws.{row_ended, refusal_ended}
use Rattle.replay.proofs.rows.end_row.Goals as goal

pub returns-in-Ok : goal.returns-in-Ok
returns-in-Ok c = row_ended _ c.requires.0 c.in-Ok.is c.requires.1

pub returns-in-Err : goal.returns-in-Err
returns-in-Err c = refusal_ended _ _ c.in-Err.is c.code.ensures c.requires.1 c.put_refusal-end.ensures c.put_bytes.ensures
