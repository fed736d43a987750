-- `divide` meets its contract: quotient, remainder and their test on 64 bits are those of the numbers, and the product of remainder and divisor
-- is negative exactly where the remainder has the other sign.
use Rattle.std.proofs.Common.{ap, ◌∙◌, to_z-of_z}
use lib.Signed.{quot_z, rem_z}
use Rattle.values.specs.definitions.Value.{fitted}
use Rattle.values.proofs.laws.WholeLaws.{op_fits, op_is, zero_not}
use Rattle.values.proofs.laws.DivisionLaws.{quot_mag, quot_less, quot_less_mag, remainder_mag, remainder_times, remainder_times_mag, other_sign, own_sign}
use Rattle.values.proofs.operators.divide.Goals as goal

pub returns-then-a-b-lt0 : goal.returns-then-a-b-lt0
unfolding quot_less remainder_times
returns-then-a-b-lt0 c =
    let remainder_is = to_z-of_z (op_fits rem_z remainder_mag c.ranges.x c.ranges.y) in
    let test = rw (remainder_is, op_is remainder_times remainder_times_mag c.ranges.x c.ranges.y) at (rw (c.from-a.ensures, c.from-b.ensures) at c.if-a-b-lt0.true) in
    rw (zero_not c.args.y (rw (to_z-of_z c.ranges.y) at (rw c.from-b.ensures at c.if-b-eq0.false)), other_sign (rem_z c.args.x c.args.y) c.args.y test)
    ((rw (c.from-a.ensures, c.from-b.ensures) at c.fit.ensures)
    ∙ ap fitted (rw (to_z-of_z (op_fits quot_z quot_mag c.ranges.x c.ranges.y)) (op_is quot_less quot_less_mag c.ranges.x c.ranges.y)))

pub returns : goal.returns
unfolding remainder_times
returns c =
    let remainder_is = to_z-of_z (op_fits rem_z remainder_mag c.ranges.x c.ranges.y) in
    let test = rw (remainder_is, op_is remainder_times remainder_times_mag c.ranges.x c.ranges.y) at (rw (c.from-a.ensures, c.from-b.ensures) at c.if-a-b-lt0.false) in
    let set = zero_not c.args.y (rw (to_z-of_z c.ranges.y) at (rw c.from-b.ensures at c.if-b-eq0.false)) in
    rw (set, own_sign (rem_z c.args.x c.args.y) c.args.y set test) ((rw (c.from-a.ensures, c.from-b.ensures) at c.fit-2.ensures) ∙ ap fitted (op_is quot_z quot_mag c.ranges.x c.ranges.y))
