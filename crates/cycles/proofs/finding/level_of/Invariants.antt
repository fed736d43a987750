-- What the loop of `level_of` keeps.
use Rattle.cycles.specs.inner_contracts.GuardKinds.{Covered}
use Rattle.cycles.proofs.finding.level_of.Given as goal

abbrev pub invariant-loop-i : goal.invariant-loop-i
invariant-loop-i l = Covered l.rules.references.now l.level l.from l.i
