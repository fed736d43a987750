-- What the loop of `conjuncts` keeps.
use Rattle.cycles.proofs.steps.GuardWalks.{ConjunctsLoop}
use Rattle.std.proofs.Common.{length, ◌-◌}
use Rattle.cycles.proofs.finding.conjuncts.Given as goal

abbrev pub invariant-loop-i : goal.invariant-loop-i
invariant-loop-i l = ConjunctsLoop l.pass.rules.now.columns.classes.now l.pass.rules.now.references.now l.at (record { before = l.fn.guards.items; after = l.guards.items }) l.i

abbrev pub decreases-loop-i : goal.decreases-loop-i
decreases-loop-i l = length l.pass.rules.now.columns.classes.now - l.i
