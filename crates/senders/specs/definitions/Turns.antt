-- The run of a text's records from a state.
use Rattle.std.specs.Prelude.{ℕ, List, [], ◌∷◌}
use Rattle.text.specs.definitions.Syntax.{File}
use Rattle.senders.specs.definitions.Sender.{State}
use Rattle.senders.specs.definitions.Answer.{Answer, refused, accepted}
use Rattle.senders.specs.definitions.Line.{Accepted, line}
use Rattle.senders.specs.inner_contracts.TotalFollow.{follow}

-- "A refused line isn't given to it"; an accepted one is followed
unfoldable pub state_after : File → State → Answer Accepted → State
unfolding follow
state_after f s (refused code) = s
state_after f s (accepted a) = follow f s a

-- a record in its turn: what it comes to in the state that it meets, and the state after it
pub record Turn : Type 0 where
  pub answer : Answer Accepted
  pub after : State

-- the records under a header, each in the state that those before it leave: after a refused one "it goes on"
unfoldable pub turns : File → List ℕ → State → List (List ℕ) → List Turn
unfolding line state_after
turns f names s [] = []
turns f names s (v ∷ vs) =
    record { answer = line f s names v; after = state_after f s (line f s names v) } ∷ turns f names (state_after f s (line f s names v)) vs
