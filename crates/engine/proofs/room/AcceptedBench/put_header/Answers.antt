use Rattle.engine.proofs.laws.ServingLaws.{header_is}
use Rattle.engine.proofs.room.AcceptedBench.put_header.Goals as goal

pub returns : goal.returns
returns c = rw (← c.self.view_is) (header_is c.self.invariant.checked c.put_row_header.ensures)
