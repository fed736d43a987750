-- The rules that each line of a text of readings tries, from a fresh state on.
use Rattle.std.specs.Prelude.{ℕ}
use mathlib.Core.List.{List, [], ◌∷◌, ◌++◌, flat_map}
use Rattle.text.specs.definitions.Syntax.{File}
use Rattle.checking.specs.definitions.Verdict.{Verdict, verdict}
use Rattle.cycles.specs.definitions.Store.{Store}
use Rattle.cycles.specs.definitions.Spots.{numbered}
use Rattle.cycles.specs.definitions.Quiescence.{item_unless, is_quiescent}
use Rattle.cycles.specs.definitions.Readings.{lines, header_line, record_lines}
use Rattle.senders.specs.definitions.Sender.{State}
use Rattle.senders.specs.definitions.Answer.{Answer, refused, accepted}
use Rattle.senders.specs.definitions.Line.{Accepted, new, resent}
use Rattle.senders.specs.definitions.Follow.{fresh}
use Rattle.senders.specs.definitions.Turns.{Turn, turns}

-- the numbers of the rules that are not quiescent
unfoldable pub tried_numbers : File → Store → Store → List ℕ
unfolding flat_map item_unless is_quiescent numbered
tried_numbers f now previous = flat_map (λ r. item_unless (is_quiescent f now previous r.item) r.number) (numbered 0 f.rules)

-- a line that starts a cycle: the rules see what the state after it keeps as previous; before, they saw what the state before it keeps so
unfoldable pub tried_for : File → Answer Accepted → State → State → List (List ℕ)
unfolding tried_numbers
tried_for f (refused code) before after = []
tried_for f (accepted (resent l)) before after = []
tried_for f (accepted (new l)) before after = tried_numbers f after.stores.previous before.stores.previous ∷ []

-- of the records of a text, one after another
unfoldable pub tried_turns : File → State → List Turn → List (List ℕ)
unfolding tried_for
tried_turns f s [] = []
tried_turns f s (t ∷ ts) = tried_for f t.answer s t.after ++ tried_turns f t.after ts

-- from a fresh state of an accepted text
unfoldable pub tried_by : Verdict → List (List ℕ) → List (List ℕ)
unfolding tried_turns turns fresh header_line record_lines
tried_by (Verdict.refused_at code at) readings = []
tried_by (Verdict.accepted f) readings = tried_turns f (fresh f) (turns f (header_line readings) (fresh f) (record_lines readings))

-- of a bench text and a text of readings
unfoldable pub tried_of : List ℕ → List ℕ → List (List ℕ)
unfolding tried_by verdict lines
tried_of bench readings = tried_by (verdict bench) (lines readings)
