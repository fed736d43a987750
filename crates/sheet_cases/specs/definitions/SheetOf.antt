-- The day sheet of a bench text, where a text of readings has run before it.
use Rattle.std.specs.Prelude.{ℕ, List, [], ◌∷◌}
use Rattle.checking.specs.definitions.Verdict.{Verdict, verdict}
use Rattle.cycles.specs.definitions.Readings.{lines, header_line, record_lines}
use Rattle.senders.specs.definitions.Sender.{State}
use Rattle.senders.specs.definitions.Answer.{Answer, refused}
use Rattle.senders.specs.definitions.Follow.{fresh}
use Rattle.senders.specs.definitions.Turns.{Turn, turns}
use Rattle.days.specs.definitions.DaySheet.{sheet_in}

-- the state that records leave
unfoldable pub state_left : State → List Turn → State
state_left s [] = s
state_left s (t ∷ ts) = state_left t.after ts

unfoldable pub sheet_by : Verdict → List (List ℕ) → List ℕ → List ℕ → Answer (List ℕ)
unfolding sheet_in state_left turns fresh header_line record_lines
sheet_by (Verdict.refused_at code at) before readings cells = refused code
sheet_by (Verdict.accepted f) before readings cells =
    sheet_in f (state_left (fresh f) (turns f (header_line before) (fresh f) (record_lines before))) readings cells

unfoldable pub sheet_of : List ℕ → List ℕ → List ℕ → List ℕ → Answer (List ℕ)
unfolding sheet_by verdict lines
sheet_of bench before readings cells = sheet_by (verdict bench) (lines before) readings cells
