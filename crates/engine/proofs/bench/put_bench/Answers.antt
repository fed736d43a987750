use Rattle.engine.proofs.laws.BenchLaws.{bench_put}
use Rattle.engine.proofs.bench.put_bench.Goals as goal

pub returns : goal.returns
returns c = bench_put _ _ c.requires c.put_number.ensures c.put_bytes.ensures
