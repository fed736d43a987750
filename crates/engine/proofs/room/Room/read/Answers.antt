use Rattle.std.proofs.Common.{arith}
use Rattle.engine.proofs.laws.ServingLaws.{room_enough}
use Rattle.engine.proofs.room.Room.read.Goals as goal

pub read_into-requires-clause-room : goal.read_into-requires-clause-room
read_into-requires-clause-room g c = room_enough _ _ _ c.requires (omega arith) (omega arith) (omega arith) (omega arith) (omega arith)
