-- The reference machine over the records of a text: "A refused line isn't given to it; a resent one starts no cycle".
use Rattle.std.specs.Prelude.{ℕ, List, [], ◌∷◌}
use Rattle.text.specs.definitions.Syntax.{File}
use Rattle.cycles.specs.definitions.Outcome.{Outcome, running, proceed}
use Rattle.senders.specs.definitions.Sender.{State}
use Rattle.senders.specs.definitions.Answer.{Answer, refused, accepted}
use Rattle.senders.specs.definitions.Line.{Accepted, line}
use Rattle.senders.specs.definitions.Follow.{ref_follow}
use Rattle.senders.specs.definitions.Turns.{Turn}

unfoldable pub ref_state_after : File → State → Answer Accepted → Outcome State
unfolding ref_follow
ref_state_after f s (refused code) = running s
ref_state_after f s (accepted a) = ref_follow f s a

unfoldable pub ref_turns : File → List ℕ → State → List (List ℕ) → Outcome (List Turn)
unfolding line proceed ref_state_after
ref_turns f names s [] = running []
ref_turns f names s (v ∷ vs) =
    proceed (ref_state_after f s (line f s names v)) λ t.
    proceed (ref_turns f names t vs) λ ts.
    running (record { answer = line f s names v; after = t } ∷ ts)
