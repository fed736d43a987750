use Rattle.std.proofs.Common.{ap, subst, sym, ◌∙◌}
use Rattle.checking.specs.definitions.Verdict.{Verdict}
use Rattle.replay.specs.inner_contracts.Feeding.{StartedOn}
use Rattle.replay.proofs.steps.StartLaws.{bench_refused}
use Rattle.replay.proofs.start.Goals as goal

pub returns-in-Ok : goal.returns-in-Ok
returns-in-Ok g c = subst (λ text. StartedOn text c.new.result) c.in-Ok.ensures c.new.ensures

pub returns-in-Err : goal.returns-in-Err
returns-in-Err g c =
    bench_refused (c.in-Err.ensures ∙ ap (λ code. Verdict.refused_at code c.in-Err.fault.at) (sym c.code.ensures)) c.requires.room c.put_bench_refusal.ensures
