use Rattle.engine.proofs.laws.ServingLaws.{stands_short, image_is}
use Rattle.engine.proofs.room.AcceptedBench.put_image.Goals as goal

pub put_bench-requires : goal.put_bench-requires
put_bench-requires c = (stands_short c.self.invariant, c.requires)

pub returns : goal.returns
returns c = rw (← c.self.view_is) (image_is c.self.invariant _ c.put_bench.ensures)
