-- What the loop of `keep` keeps.
use Rattle.std.proofs.Common.{false}
use Rattle.cycles.specs.inner_contracts.Failing.{MarksTaken, FailsWith}
use Rattle.cycles.proofs.guards.keep.Given as goal

abbrev pub invariant-loop-e : goal.invariant-loop-e
invariant-loop-e g l = MarksTaken (FailsWith l.b l.candidates.level (λ with. goal.F-post g l.holds with false)) l.initial.marks l.marks
