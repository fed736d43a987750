-- The loop has marked the candidates before number e.
use Rattle.cycles.specs.inner_contracts.GuardKinds.{MarksSet}
use Rattle.cycles.proofs.bindings.mark_candidates.Given as goal

abbrev pub invariant-loop-e : goal.invariant-loop-e
invariant-loop-e l = MarksSet l.rules.columns.d.now l.store.flags l.face l.fn.range.first l.e l.marks
