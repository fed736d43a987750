use Rattle.std.proofs.Common.{arith, refl}
use Rattle.engine.proofs.laws.LineLaws.{no_header, header_read}
use Rattle.engine.proofs.room.ResolvedBench.read_header.Goals as goal

pub returns-in-Some : goal.returns-in-Some
returns-in-Some c = rw (← c.self.view_is) (header_read c.self.invariant c.in-Some.ensures.read c.in-Some.ensures.few)

pub returns-in-None : goal.returns-in-None
returns-in-None c = (refl, rw (← c.self.view_is) (no_header c.self.invariant c.in-None.ensures.read (omega arith)))
