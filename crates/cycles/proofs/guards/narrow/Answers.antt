-- What is left of `narrow`.
use Rattle.std.proofs.Common.{refl}
use Rattle.cycles.proofs.steps.GuardLaws.{narrowed}
use Rattle.cycles.proofs.guards.narrow.Goals as goal
use Rattle.cycles.proofs.guards.narrow.Goals.{then-guard-candidates, else-guard-candidates}

pub loop-guard-preserved : goal.loop-guard-preserved
loop-guard-preserved c = elim c.if-guard-candidates.branch [
  | then-guard-candidates w ↦
      rw w.marks-is
      (narrowed refl _ c.loop-guard-test.true w.if-guard-candidates.true c.loop-guard.invariant w.narrow_by.ensures)
  | else-guard-candidates w ↦ rw w.marks-is c.loop-guard.invariant
]
