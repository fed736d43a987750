use Rattle.std.proofs.Common.{arith}
use Rattle.replay.proofs.steps.StartLaws.{fresh_bench, first_stood, started_on}
use Rattle.replay.proofs.Replay.new.Goals as goal

pub invariant_of-result : goal.invariant_of-result
invariant_of-result c = (omega arith, first_stood c.resolve.ensures (fresh_bench _ c.put_fresh.ensures) _)

pub returns : goal.returns
returns c = started_on c.resolve.ensures (fresh_bench _ c.put_fresh.ensures) _
