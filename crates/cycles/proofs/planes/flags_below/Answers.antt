-- What is left of `flags_below`.
use Rattle.cycles.specs.definitions.Planes.{each, flags_below}
use Rattle.std.proofs.Common.{ap, arith, get_or, ltb, ◌-◌, ◌≡◌}
use Rattle.cycles.proofs.planes.flags_below.Goals as goal

pub loop-e-init : goal.loop-e-init
unfolding flags_below
loop-e-init c =
    let k : c.args.n - 0 ≡ c.args.n = omega arith in
    ap (each (λ k. ltb (get_or c.args.flags.now k 0) c.args.bound) 0) k
