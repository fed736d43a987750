-- The state after an accepted line by the total machine (TotalMachine of cycles), as `ref_follow`. For accepted files the two are equal
-- (`accepted_sound`), so nobody has to believe this one.
use Rattle.text.specs.definitions.Syntax.{File}
use Rattle.cycles.specs.inner_contracts.TotalMachine.{cycle}
use Rattle.senders.specs.definitions.Sender.{State}
use Rattle.senders.specs.definitions.Line.{Accepted, new, resent}
use Rattle.senders.specs.definitions.Follow.{next_state}

unfoldable pub follow : File → State → Accepted → State
unfolding cycle next_state
follow f s (resent l) = s
follow f s (new l) = next_state f s l (cycle f s.stores l.inputs)
