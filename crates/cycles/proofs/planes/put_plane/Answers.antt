-- What is left of `put_plane`.
use Rattle.cycles.proofs.laws.GatheredLaws.{plane_put}
use Rattle.std.proofs.Common.{arith}
use Rattle.cycles.proofs.planes.put_plane.Goals as goal

pub returns : goal.returns
returns c = (omega arith, plane_put c.args.n c.args.flags.now c.args.cells.now c.put_front-next.ensures.1 c.put_front.ensures.1)
