-- What is left of the flags gives the same answer as all of them.
use Rattle.cycles.specs.definitions.Planes.{each, flags_below}
use Rattle.std.proofs.Common.{get_or, ltb, ◌-◌, ◌≡◌}
use Rattle.cycles.proofs.planes.flags_below.Given as goal

abbrev pub invariant-loop-e : goal.invariant-loop-e
invariant-loop-e l = each (λ k. ltb (get_or l.flags k 0) l.bound) l.e (l.n - l.e) ≡ flags_below l.bound l.n l.flags
