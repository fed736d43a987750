-- Demand 2: what accepted calls leave and give, what a line sent again gives, how a row reads back, and where a name stands.
use Rattle.std.specs.Prelude.{ℕ, suc, ◌+◌, ◌/◌, ◌%◌, ◌≤◌, ◌≡◌, ◌↔◌, true, cond, length, take, drop, Some}
use mathlib.Core.List.{List, [], ◌∷◌, ◌++◌, map, Memᴰ}
use Rattle.std.proofs.Math.Option.{Option, none, some}
use Rattle.std.proofs.Math.ListN.{get_elem?}
use Rattle.values.specs.definitions.Bytes.{same_bytes}
use Rattle.values.specs.definitions.Forms.{magnitude, event_field, read_back}
use Rattle.text.specs.definitions.Syntax.{File}
use Rattle.checking.specs.definitions.Verdict.{Verdict, verdict, entity_name}
use Rattle.checking.specs.definitions.EntitySpan.{NoEntity}
use Rattle.cycles.specs.definitions.Outcome.{running}
use Rattle.cycles.specs.definitions.Spots.{Spot}
use Rattle.cycles.specs.definitions.Fields.{fields}
use Rattle.cycles.specs.definitions.Header.{Column, header}
use Rattle.cycles.specs.definitions.Readings.{lines, header_line, record_lines}
use Rattle.cycles.specs.definitions.Row.{action_cells, row_header}
use Rattle.cycles.specs.definitions.ClosedSet.{Among}
use Rattle.senders.specs.definitions.Sender.{Sender, State, is_sender}
use Rattle.senders.specs.definitions.Answer.{accepted}
use Rattle.senders.specs.definitions.Line.{Reading, reading, line_of, same_inputs, Accepted, its_line, is_resent, line}
use Rattle.senders.specs.definitions.Follow.{fresh, ref_follow}
use Rattle.senders.specs.definitions.Row.{sender_row}
use Rattle.senders.specs.definitions.Turns.{Turn}
use Rattle.senders.specs.definitions.StateImage.{state_of}
use Rattle.sheets.specs.definitions.Layout.{SHEET_COLUMNS}
use Rattle.sheets.specs.definitions.Sheet.{sheet_rows}
use Rattle.days.specs.definitions.Chosen.{chosen, is_real_spot}
use Rattle.days.specs.definitions.DaySheet.{printed_lines, day_sheet}
use Rattle.days.specs.definitions.ReferenceDay.{ref_turns}
use Rattle.engine.specs.definitions.BenchImage.{bench_of}
use Rattle.engine.specs.definitions.Calls.{ROW, with_row, fingerprint_of, length_answer, AfterLine}
use Rattle.engine.specs.definitions.Runs.{Request, given, given_by, Taken, taken_by}
use Rattle.engine.specs.definitions.DemandOne.{number_of}

-- ---- what is lent

-- the memory stands for a bench file
pub record BenchLent (bench : List ℕ) : Type 0 where
  pub file : File
  pub is_bench : bench_of bench ≡ some file

-- the memory stands for a bench file and a state of it
pub record StateLent (bench state : List ℕ) : Type 0 where
  pub file : File
  pub before : State
  pub is_bench : bench_of bench ≡ some file
  pub is_state : state_of (fingerprint_of bench) file state ≡ some before

-- and the sender is well formed
pub record RowLent (bench state sender : List ℕ) : Type 0 where
  pub lent : StateLent bench state
  pub is_named : is_sender sender ≡ true

-- the memory stands for a bench file and a state of it, and in this state the documents accept the line
pub record LineLent (bench state names values : List ℕ) : Type 0 where
  pub file : File
  pub before : State
  pub taken : Accepted
  pub is_bench : bench_of bench ≡ some file
  pub is_state : state_of (fingerprint_of bench) file state ≡ some before
  pub is_taken : line file before names values ≡ accepted taken

-- the memory stands for a bench file and a state of it, the chosen cells are cells of the file, and the readings' first line is a header of it
pub record SheetLent (bench state readings cells : List ℕ) : Type 0 where
  pub file : File
  pub before : State
  pub spots : List Spot
  pub columns : List Column
  pub is_bench : bench_of bench ≡ some file
  pub is_state : state_of (fingerprint_of bench) file state ≡ some before
  pub is_chosen : chosen file cells ≡ some spots
  pub is_header : header file (header_line (lines readings)) ≡ some columns

-- ---- what is left and given

-- the memory left stands for the file of the text
pub record Checks (text new_bench : List ℕ) : Type 0 where
  pub file : File
  pub is_file : verdict text ≡ Verdict.accepted file
  pub leaves : bench_of new_bench ≡ some file

-- the memory left stands for the fresh state of the bench file
pub record Freshens (bench new_state : List ℕ) : Type 0 where
  pub file : File
  pub is_bench : bench_of bench ≡ some file
  pub leaves : state_of (fingerprint_of bench) file new_state ≡ some (fresh file)

-- "each accepted line leaves the state and fires the actions that they define": the machine takes the line in the state lent and goes on, the
-- memory left stands for its state, and the call gave the row of the line's sender in it
pub record Follows (bench state names values : List ℕ) (r : AfterLine) : Type 0 where
  pub file : File
  pub before : State
  pub taken : Accepted
  pub after : State
  pub is_bench : bench_of bench ≡ some file
  pub is_state : state_of (fingerprint_of bench) file state ≡ some before
  pub is_taken : line file before names values ≡ accepted taken
  pub runs : ref_follow file before taken ≡ running after
  pub leaves : state_of (fingerprint_of bench) file r.state ≡ some after
  pub fires : given_by r ≡ sender_row file after (its_line taken).sender

-- the call gave the row of names
pub record Names (bench : List ℕ) (answer : ℕ) (new_row : List ℕ) : Type 0 where
  pub file : File
  pub is_bench : bench_of bench ≡ some file
  pub gives : given answer new_row ≡ row_header file

-- the call gave the row of the sender in the state
pub record Shows (bench state sender : List ℕ) (answer : ℕ) (new_row : List ℕ) : Type 0 where
  pub file : File
  pub shown : State
  pub is_bench : bench_of bench ≡ some file
  pub is_state : state_of (fingerprint_of bench) file state ≡ some shown
  pub gives : given answer new_row ≡ sender_row file shown sender

-- the machine takes the records one after another from the state lent and is never stuck; the call wrote the sheet of these turns, rows of
-- exactly 80 columns, and no other byte, and answered its length in the 56 bits that an answer has for it
pub record Sheets (bench state readings cells sheet : List ℕ) (answer : ℕ) (new_sheet : List ℕ) : Type 0 where
  pub file : File
  pub before : State
  pub spots : List Spot
  pub turns : List Turn
  pub is_bench : bench_of bench ≡ some file
  pub is_state : state_of (fingerprint_of bench) file state ≡ some before
  pub is_chosen : chosen file cells ≡ some spots
  pub runs : ref_turns file (header_line (lines readings)) before (record_lines (lines readings)) ≡ running turns
  pub rows : (r : List ℕ) → Memᴰ r (sheet_rows (map is_real_spot spots) (printed_lines spots turns)) → length r ≡ SHEET_COLUMNS
  pub writes : new_sheet ≡ with_row (day_sheet spots turns) sheet
  pub counts : answer ≡ length_answer (length (day_sheet spots turns))

-- ---- lines sent again, and rows

-- of two accepted lines of a run with one sender and number: the later one leaves the state's bytes, and gives the row that the earlier one gave
pub record GivenAgain (x y : Taken) : Type 0 where
  pub stays : y.reply.state ≡ y.before
  pub again : given_by y.reply ≡ given_by x.reply

-- "a resent line gives that sender's row, even after lines of others", at any later point of a run
abbrev pub Resent : List Taken → Type 0
Resent [] = Unit {0}
Resent (x ∷ xs) =
    ((y : Taken) → Among y xs → x.line.sender ≡ y.line.sender → x.line.number ≡ y.line.number → GivenAgain x y) × Resent xs

-- among the lines so far, one of this line's sender and number
pub record SentBefore (earlier : List Taken) (y : Taken) : Type 0 where
  pub one : Taken
  pub inside : Among one earlier
  pub sender : one.line.sender ≡ y.line.sender
  pub number : one.line.number ≡ y.line.number

-- and each line that the state before it holds for resent has such an earlier one in its run
abbrev pub AllSentBefore : ℕ → File → List Taken → List Taken → Type 0
AllSentBefore print f earlier [] = Unit {0}
AllSentBefore print f earlier (y ∷ ys) =
    ((s : State) → state_of print f y.before ≡ some s → is_resent f s y.line ≡ true → SentBefore earlier y)
    × AllSentBefore print f (y ∷ earlier) ys

-- among the accepted lines so far, the latest first, that of this sender
unfoldable pub latest_of : List ℕ → List Taken → Option Taken
unfolding same_bytes
latest_of n [] = none
latest_of n (x ∷ xs) = cond (same_bytes n x.line.sender) (some x) (latest_of n xs)

-- a call that says what its sender's latest line said, with room for a row
pub record SaysAgain (f : File) (earlier : List Taken) (q : Request) : Type 0 where
  pub says : Reading
  pub latest : Taken
  pub is_read : reading f q.names q.values ≡ accepted says
  pub is_latest : latest_of says.sender earlier ≡ some latest
  pub number : says.number ≡ latest.line.number
  pub readings : same_inputs f latest.line.inputs (line_of says).inputs ≡ true
  pub room : ROW ≤ length q.row

-- each such call of a run is accepted, whatever lines of others and refused ones came between
abbrev pub AllSentAgain : File → List Taken → List ℕ → List Request → List AfterLine → Type 0
AllSentAgain f earlier state [] rs = Unit {0}
AllSentAgain f earlier state (q ∷ qs) [] = Unit {0}
AllSentAgain f earlier state (q ∷ qs) (r ∷ rs) =
    (SaysAgain f earlier q → number_of r.answer ≡ 0) × AllSentAgain f (taken_by f state q r ++ earlier) r.state qs rs

-- "every printed value reads back as itself": a row has a field for the sender, one for the number and one for each action cell, and reading them
-- as fields of a record gives the sender, its number and the values kept for it, and no reading where nothing was fired
pub record ReadsBack (f : File) (x : Sender) (r : List ℕ) : Type 0 where
  pub count : length (fields r) ≡ suc (suc (length (action_cells f)))
  pub sender : get_elem? (fields r) 0 ≡ some x.name
  pub number : (t : List ℕ) → get_elem? (fields r) 1 ≡ some t → magnitude t ≡ Some x.last
  pub fired : (i : ℕ) (p : Spot) (t : List ℕ) → get_elem? (action_cells f) i ≡ some p → get_elem? (fields r) (suc (suc i)) ≡ some t
      → event_field p.what.kind t ≡ read_back (x.fired p.entity p.member)

-- ---- where a name stands

-- the length and the offset in an answer
abbrev pub name_length : ℕ → ℕ
name_length answer = answer / 256 % 256

abbrev pub name_offset : ℕ → ℕ
name_offset answer = answer / 65536

-- "An entity's name .. is a part of the bench text, empty if there is none or the text is refused": the part that the answer tells, or 0
pub record Locates (text : List ℕ) (number answer : ℕ) : Type 0 where
  -- the low 8 bits, where other calls have a refusal's number, are 0
  pub low_bits : number_of answer ≡ 0
  pub within : name_offset answer + name_length answer ≤ length text
  pub is : take (name_length answer) (drop (name_offset answer) text) ≡ entity_name text number
  pub empty : (answer ≡ 0) ↔ NoEntity text number
