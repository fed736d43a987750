use Rattle.std.proofs.Common.{refl}
use Rattle.engine.proofs.laws.LineLaws.{in_state}
use Rattle.engine.proofs.room.ResolvedBench.check_state.Goals as goal

pub returns-then-not-is_state : goal.returns-then-not-is_state
returns-then-not-is_state c = (refl, rw (← c.self.view_is) (in_state c.self.invariant c.fingerprint.ensures c.is_state.ensures c.if-not-is_state.true))

pub returns : goal.returns
returns c = rw (← c.self.view_is) (in_state c.self.invariant c.fingerprint.ensures c.is_state.ensures c.if-not-is_state.false)
