use Rattle.engine.proofs.laws.ServingLaws.{header_is, header_short}
use Rattle.engine.proofs.room.ResolvedBench.put_header.Goals as goal

pub returns-clause-is : goal.returns-clause-is
returns-clause-is c = rw (← c.self.view_is) (header_is c.self.invariant.checked c.put_row_header.ensures)

pub returns-clause-short : goal.returns-clause-short
returns-clause-short c = header_short c.self.invariant.checked c.put_row_header.ensures
