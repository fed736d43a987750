use Rattle.replay.proofs.steps.LineLaws.{bench_refusal_put}
use Rattle.replay.proofs.rows.put_bench_refusal.Goals as goal

pub returns : goal.returns
returns c = bench_refusal_put _ _ _ c.put_refusal-word.ensures c.put_bytes-space.ensures c.put_decimal-end.ensures c.put_bytes.ensures
