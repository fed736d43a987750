-- The loop has the range of the entities before number e.
use Rattle.cycles.specs.inner_contracts.AllRules.{Ranged}
use Rattle.std.proofs.Common.{◌≤◌}
use Rattle.cycles.proofs.bindings.range_of.Given as goal

abbrev pub invariant-loop-e : goal.invariant-loop-e
invariant-loop-e l = (l.first ≤ l.e) × Ranged l.rules.columns.d.now l.store.flags l.e l.face l.first l.end
