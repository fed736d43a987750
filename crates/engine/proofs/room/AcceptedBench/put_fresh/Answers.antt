use Rattle.engine.proofs.laws.ServingLaws.{fresh_is}
use Rattle.engine.proofs.room.AcceptedBench.put_fresh.Goals as goal

pub returns : goal.returns
returns c = rw (← c.self.view_is) (fresh_is c.self.invariant c.fingerprint.ensures c.put_fresh.ensures)
