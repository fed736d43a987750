use Rattle.std.proofs.Common.{refl}
use mathlib.Core.Logic.{inl, inr}
use Rattle.engine.proofs.laws.LineLaws.{checked_in_state}
use Rattle.engine.proofs.room.AcceptedBench.check_states.Goals as goal

pub returns-then-not-is_state : goal.returns-then-not-is_state
returns-then-not-is_state c =
    (refl, inl (rw (← c.self.view_is) (checked_in_state c.self.invariant.checked c.fingerprint-print.ensures c.is_state.ensures c.if-not-is_state.true)))

pub returns-then-not-is_state-2 : goal.returns-then-not-is_state-2
returns-then-not-is_state-2 c = (
  refl,
  inr (
    rw (← c.self.view_is) (checked_in_state c.self.invariant.checked c.fingerprint-print.ensures c.is_state.ensures c.if-not-is_state.false),
    rw (← c.self.view_is) (checked_in_state c.self.invariant.checked c.fingerprint-print.ensures c.is_state-2.ensures c.if-not-is_state-2.true),
  ),
)

pub returns : goal.returns
returns c = (
  rw (← c.self.view_is) (checked_in_state c.self.invariant.checked c.fingerprint-print.ensures c.is_state.ensures c.if-not-is_state.false),
  rw (← c.self.view_is) (checked_in_state c.self.invariant.checked c.fingerprint-print.ensures c.is_state-2.ensures c.if-not-is_state-2.false),
)
