use Rattle.replay.proofs.steps.LineLaws.{refusal_put}
use Rattle.replay.proofs.rows.put_refusal.Goals as goal

pub returns : goal.returns
returns c = refusal_put _ _ c.put_bytes-word.ensures c.put_decimal.ensures
