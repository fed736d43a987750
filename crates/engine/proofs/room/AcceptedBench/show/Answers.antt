use Rattle.std.proofs.Common.{sym, ◌∙◌}
use Rattle.engine.proofs.laws.ServingLaws.{row_of_no_state, row_of_no_sender, row_is}
use Rattle.engine.proofs.room.AcceptedBench.show.Goals as goal

pub returns-then-not-is_state : goal.returns-then-not-is_state
returns-then-not-is_state c = rw (← c.self.view_is) (row_of_no_state c.self.invariant c.fingerprint.ensures c.is_state.ensures c.if-not-is_state.true _ _)

pub returns-then-not-is_sender : goal.returns-then-not-is_sender
returns-then-not-is_sender c = rw (← c.self.view_is) (row_of_no_sender c.self.invariant c.fingerprint.ensures c.is_state.ensures c.if-not-is_state.false _ _ (sym c.is_sender.ensures ∙ c.if-not-is_sender.true))

pub returns : goal.returns
returns c = rw (← c.self.view_is) (row_is c.self.invariant c.fingerprint.ensures c.is_state.ensures c.if-not-is_state.false (sym c.is_sender.ensures ∙ c.if-not-is_sender.false) c.show.ensures)
