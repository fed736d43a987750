-- What is left of `read_spots`.
use Rattle.std.proofs.Common.{arith, refl}
use Rattle.days.proofs.laws.ChoosingLaws.{choosing_begins, choosing_many, choosing_none, choosing_ends, choosing_next}
use Rattle.days.proofs.choosing.read_spots.Goals as goal

pub loop-k-init : goal.loop-k-init
loop-k-init c = choosing_begins _ _ _ _ _ _

pub returns-in_err-spot-clause-read : goal.returns-in_err-spot-clause-read
returns-in_err-spot-clause-read c =
    rw c.from_residual.ensures (choosing_none _ _ _ _ _ _ c.loop-k.invariant c.field_start-start.ensures c.in_err-spot.ensures.read refl)

pub returns-then-start-eq0-clause-read : goal.returns-then-start-eq0-clause-read
returns-then-start-eq0-clause-read c =
    choosing_ends _ _ _ _ _ _ c.loop-k.invariant c.field_start-start.ensures c.in_ok-spot.ensures.read (λ z. let low = c.in_ok-spot.ensures.below in omega arith)
    (omega arith) (omega arith) c.if-start-eq0.true

pub loop-k-preserved : goal.loop-k-preserved
loop-k-preserved c =
    choosing_next _ _ _ _ _ _ c.loop-k.invariant c.field_start-start.ensures c.in_ok-spot.ensures.read (λ z. let low = c.in_ok-spot.ensures.below in omega arith)
    (omega arith) (omega arith) c.if-start-eq0.false

pub returns-clause-read : goal.returns-clause-read
returns-clause-read c = choosing_many _ _ _ _ _ _ c.loop-k.invariant (omega arith)
