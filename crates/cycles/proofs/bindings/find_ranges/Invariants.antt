-- The loop has the ranges of the interfaces before number `face`.
use Rattle.cycles.proofs.steps.BindingPuts.{RangesBefore}
use Rattle.std.proofs.Common.{◌≡◌, length}
use Rattle.cycles.proofs.bindings.find_ranges.Given as goal

abbrev pub invariant-loop-face : goal.invariant-loop-face
invariant-loop-face l = (length l.ranges ≡ 16) × RangesBefore l.rules.columns.d.now l.store.flags l.n l.ranges l.face
