-- The day sheet of a text of readings, "run on from the lent state".
use Rattle.std.specs.Prelude.{ℕ, suc, ◌+◌, ◌*◌, cond, eqb}
use mathlib.Core.List.{List, [], ◌∷◌, map, flat_map}
use Rattle.std.proofs.Math.Option.{Option, none, some}
use Rattle.text.specs.definitions.Syntax.{File}
use Rattle.cycles.specs.definitions.Spots.{Spot}
use Rattle.cycles.specs.definitions.Reference.{read_spot}
use Rattle.cycles.specs.definitions.Header.{header}
use Rattle.cycles.specs.definitions.Readings.{lines, header_line, record_lines}
use Rattle.senders.specs.definitions.Sender.{State}
use Rattle.senders.specs.definitions.Answer.{Answer, refused, accepted, or_refused}
use Rattle.senders.specs.definitions.Line.{Accepted, new, resent}
use Rattle.senders.specs.definitions.Turns.{Turn, turns}
use Rattle.sheets.specs.definitions.Layout.{MOST_CHOSEN}
use Rattle.sheets.specs.definitions.Sizes.{MOST_LINE_BYTES, MOST_CLOSING_BYTES}
use Rattle.sheets.specs.definitions.Rows.{PrintedLine}
use Rattle.sheets.specs.definitions.Sheet.{sheet}
use Rattle.days.specs.definitions.Chosen.{chosen, is_real_spot}

-- "from the taken lines of a day", "the line number" alone (document 02, order 5: "the day sheet shows the number alone"); the chosen cells "as they read
-- after the line"; "A resent line isn't printed"
unfoldable pub printed_for : List Spot → Answer Accepted → State → List PrintedLine
unfolding read_spot
printed_for ps (refused code) after = []
printed_for ps (accepted (resent l)) after = []
printed_for ps (accepted (new l)) after = record { number = l.number; values = map (read_spot after.stores.now) ps } ∷ []

unfoldable pub printed_lines : List Spot → List Turn → List PrintedLine
unfolding flat_map printed_for
printed_lines ps ts = flat_map (λ t. printed_for ps t.answer t.after) ts

unfoldable pub day_sheet : List Spot → List Turn → List ℕ
unfolding sheet is_real_spot printed_lines
day_sheet ps ts = sheet (map is_real_spot ps) (printed_lines ps ts)

-- 41, "after 33 and before any line is read"; 22, of the lines the one that can refuse the sheet
unfoldable pub sheet_in : File → State → List ℕ → List ℕ → Answer (List ℕ)
unfolding or_refused chosen header lines header_line record_lines turns day_sheet
sheet_in f s readings cells =
    or_refused 41 (chosen f cells) λ ps.
    or_refused 22 (header f (header_line (lines readings))) λ cs.
    accepted (day_sheet ps (turns f (header_line (lines readings)) s (record_lines (lines readings))))

-- 33: "memory is no state of that bench"
unfoldable pub sheet_if_state : File → Option State → List ℕ → List ℕ → Answer (List ℕ)
unfolding sheet_in
sheet_if_state f none readings cells = refused 33
sheet_if_state f (some s) readings cells = sheet_in f s readings cells

-- ---- the stated size

unfoldable pub line_feeds : List ℕ → ℕ
line_feeds [] = 0
line_feeds (b ∷ bs) = cond (eqb b 10) (suc (line_feeds bs)) (line_feeds bs)

-- the closing rows of as many columns as there may be, and the rows of each record, of which there are at most as many as line feeds
unfoldable pub sheet_size : List ℕ → ℕ
unfolding line_feeds
sheet_size readings = MOST_CHOSEN * MOST_CLOSING_BYTES + MOST_LINE_BYTES * line_feeds readings
