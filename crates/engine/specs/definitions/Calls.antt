-- The public calls as functions of the lent bytes: the answer, and every lent byte after the call. The answer of a call that is lent memory to
-- write has document 01's number in its low 8 bits, 0 for acceptance, and above them the offset of a refusal of a text or the length of a written
-- row or sheet. The two others refuse nothing: one answers with the class of a byte, one with where the name of an entity stands in a text.
use Rattle.std.specs.Prelude.{ℕ, ◌+◌, ◌*◌, ◌%◌, ◌≡◌, List, ◌++◌, Bool, true, false, ◌||◌, ltb, length, drop}
use Rattle.std.proofs.Math.Option.{Option, none, some}
use Rattle.text.specs.definitions.Syntax.{File}
use Rattle.text.specs.definitions.ByteClass.{byte_class}
use Rattle.checking.specs.declared.names.Span.{Span}
use Rattle.checking.specs.definitions.Verdict.{Verdict, verdict, verdict_answer}
use Rattle.checking.specs.definitions.EntitySpan.{entity_span}
use Rattle.cycles.specs.definitions.Row.{MOST_ROW_BYTES, row_header}
use Rattle.senders.specs.definitions.Sender.{State, is_sender}
use Rattle.senders.specs.definitions.Answer.{Answer, refused, accepted}
use Rattle.senders.specs.definitions.Line.{Accepted, new, resent, its_line, line}
use Rattle.senders.specs.definitions.Follow.{fresh}
use Rattle.senders.specs.inner_contracts.TotalFollow.{follow}
use Rattle.senders.specs.definitions.Row.{sender_row}
use Rattle.senders.specs.definitions.Fingerprint.{fingerprint}
use Rattle.senders.specs.definitions.StateImage.{STATE, state_of, with_state}
use Rattle.days.specs.definitions.DaySheet.{sheet_if_state, sheet_size}
use Rattle.engine.specs.definitions.BenchImage.{BENCH, with_bench, bench_of, text_in}

-- the stated size of memory for a row
abbrev pub ROW : ℕ
ROW = MOST_ROW_BYTES

-- memory with a row written to it: "Bytes past a written row .. stay"
unfoldable pub with_row : List ℕ → List ℕ → List ℕ
with_row r m = r ++ drop (length r) m

abbrev pub row_answer : List ℕ → ℕ
row_answer r = 256 * length r

-- the fingerprint of the text that a bench's memory holds: a state belongs to its bench's text
unfoldable pub fingerprint_of : List ℕ → ℕ
unfolding fingerprint text_in
fingerprint_of bench = fingerprint (text_in bench)

-- check: the text lent, and memory for a bench
pub record AfterCheck : Type 0 where
  pub answer : ℕ
  pub bench : List ℕ

unfoldable pub checked : Verdict → List ℕ → List ℕ → AfterCheck
unfolding verdict_answer with_bench
checked (Verdict.refused_at code at) text bench = record { answer = verdict_answer (Verdict.refused_at code at); bench = bench }
checked (Verdict.accepted f) text bench = record { answer = verdict_answer (Verdict.accepted f); bench = with_bench text bench }

unfoldable pub check_call : List ℕ → List ℕ → AfterCheck
unfolding checked verdict
check_call text bench = elim (ltb (length bench) BENCH) [
  | true ↦ record { answer = 31; bench = bench }
  | false ↦ checked (verdict text) text bench
]

-- fresh: a bench, and memory for a state
pub record AfterFresh : Type 0 where
  pub answer : ℕ
  pub state : List ℕ

unfoldable pub freshened : ℕ → Option File → List ℕ → AfterFresh
unfolding with_state fresh
freshened print none state = record { answer = 32; state = state }
freshened print (some f) state = record { answer = 0; state = with_state print f (fresh f) state }

unfoldable pub fresh_call : List ℕ → List ℕ → AfterFresh
unfolding freshened fingerprint_of bench_of
fresh_call bench state = elim (ltb (length bench) BENCH || ltb (length state) STATE) [
  | true ↦ record { answer = 31; state = state }
  | false ↦ freshened (fingerprint_of bench) (bench_of bench) state
]

-- line: a bench, a state, a header, a record, and memory for a row
pub record AfterLine : Type 0 where
  pub answer : ℕ
  pub state : List ℕ
  pub row : List ℕ

unfoldable pub line_refused : ℕ → List ℕ → List ℕ → AfterLine
line_refused code state r = record { answer = code; state = state; row = r }

-- the memory of the state after an accepted line: "then it is resent, the state stays"
unfoldable pub followed : ℕ → File → State → Accepted → List ℕ → List ℕ
unfolding with_state follow
followed print f s (resent l) state = state
followed print f s (new l) state = with_state print f (follow f s (new l)) state

-- its row is its sender's: "a resent line gives that sender's row, even after lines of others"
unfoldable pub line_row : File → State → Accepted → List ℕ
unfolding sender_row follow its_line
line_row f s a = sender_row f (follow f s a) (its_line a).sender

unfoldable pub line_accepted : ℕ → File → State → Accepted → List ℕ → List ℕ → AfterLine
unfolding followed with_row line_row
line_accepted print f s a state r =
    record { answer = row_answer (line_row f s a); state = followed print f s a state; row = with_row (line_row f s a) r }

unfoldable pub line_answered : ℕ → File → State → Answer Accepted → List ℕ → List ℕ → AfterLine
unfolding line_refused line_accepted
line_answered print f s (refused code) state r = line_refused code state r
line_answered print f s (accepted a) state r = line_accepted print f s a state r

unfoldable pub line_in_state : ℕ → File → Option State → List ℕ → List ℕ → List ℕ → List ℕ → AfterLine
unfolding line_refused line_answered line
line_in_state print f none state names values r = line_refused 33 state r
line_in_state print f (some s) state names values r = line_answered print f s (line f s names values) state r

unfoldable pub line_on_bench : ℕ → Option File → List ℕ → List ℕ → List ℕ → List ℕ → AfterLine
unfolding line_refused line_in_state state_of
line_on_bench print none state names values r = line_refused 32 state r
line_on_bench print (some f) state names values r = line_in_state print f (state_of print f state) state names values r

unfoldable pub line_call : List ℕ → List ℕ → List ℕ → List ℕ → List ℕ → AfterLine
unfolding line_refused line_on_bench fingerprint_of bench_of
line_call bench state names values r = elim (ltb (length bench) BENCH || ltb (length state) STATE || ltb (length r) ROW) [
  | true ↦ line_refused 31 state r
  | false ↦ line_on_bench (fingerprint_of bench) (bench_of bench) state names values r
]

-- header and row: a bench, for a row a state and a sender too, and memory for a row
pub record AfterRow : Type 0 where
  pub answer : ℕ
  pub row : List ℕ

unfoldable pub row_written : List ℕ → List ℕ → AfterRow
unfolding with_row
row_written written r = record { answer = row_answer written; row = with_row written r }

unfoldable pub header_on_bench : Option File → List ℕ → AfterRow
unfolding row_written row_header
header_on_bench none r = record { answer = 32; row = r }
header_on_bench (some f) r = row_written (row_header f) r

unfoldable pub header_call : List ℕ → List ℕ → AfterRow
unfolding header_on_bench bench_of
header_call bench r = elim (ltb (length bench) BENCH || ltb (length r) ROW) [
  | true ↦ record { answer = 31; row = r }
  | false ↦ header_on_bench (bench_of bench) r
]

-- 43, after 33: "an ill-formed sender"
unfoldable pub row_if_named : Bool → File → State → List ℕ → List ℕ → AfterRow
unfolding row_written sender_row
row_if_named false f s sender r = record { answer = 43; row = r }
row_if_named true f s sender r = row_written (sender_row f s sender) r

unfoldable pub row_in_state : File → Option State → List ℕ → List ℕ → AfterRow
unfolding row_if_named is_sender
row_in_state f none sender r = record { answer = 33; row = r }
row_in_state f (some s) sender r = row_if_named (is_sender sender) f s sender r

unfoldable pub row_on_bench : ℕ → Option File → List ℕ → List ℕ → List ℕ → AfterRow
unfolding row_in_state state_of
row_on_bench print none state sender r = record { answer = 32; row = r }
row_on_bench print (some f) state sender r = row_in_state f (state_of print f state) sender r

unfoldable pub row_call : List ℕ → List ℕ → List ℕ → List ℕ → AfterRow
unfolding row_on_bench fingerprint_of bench_of
row_call bench state sender r = elim (ltb (length bench) BENCH || ltb (length state) STATE || ltb (length r) ROW) [
  | true ↦ record { answer = 31; row = r }
  | false ↦ row_on_bench (fingerprint_of bench) (bench_of bench) state sender r
]

-- sheet: a bench, a state, a text of readings, the chosen cells, and memory for a sheet
pub record AfterSheet : Type 0 where
  pub answer : ℕ
  pub sheet : List ℕ

-- an answer of 64 bits has 56 above the number, so many lengths: more than any machine's memory, but not more than any list's
abbrev pub LENGTHS : ℕ
LENGTHS = 72057594037927936

abbrev pub length_answer : ℕ → ℕ
length_answer n = 256 * (n % LENGTHS)

unfoldable pub sheet_answered : Answer (List ℕ) → List ℕ → AfterSheet
unfolding with_row
sheet_answered (refused code) m = record { answer = code; sheet = m }
sheet_answered (accepted bytes) m = record { answer = length_answer (length bytes); sheet = with_row bytes m }

unfoldable pub sheet_on_bench : ℕ → Option File → List ℕ → List ℕ → List ℕ → List ℕ → AfterSheet
unfolding sheet_answered sheet_if_state state_of
sheet_on_bench print none state readings cells m = record { answer = 32; sheet = m }
sheet_on_bench print (some f) state readings cells m = sheet_answered (sheet_if_state f (state_of print f state) readings cells) m

unfoldable pub sheet_call : List ℕ → List ℕ → List ℕ → List ℕ → List ℕ → AfterSheet
unfolding sheet_on_bench fingerprint_of bench_of sheet_size
sheet_call bench state readings cells m = elim (ltb (length bench) BENCH || ltb (length state) STATE || ltb (length m) (sheet_size readings)) [
  | true ↦ record { answer = 31; sheet = m }
  | false ↦ sheet_on_bench (fingerprint_of bench) (bench_of bench) state readings cells m
]

-- entity name: a text lent, and a number; the length of the name stands above the low 8 bits, which are 0, and its offset above 8 more
abbrev pub span_answer : Span → ℕ
span_answer s = 256 * s.length + 65536 * s.at

-- ---- the contracts: what a call answers, and the memory that it leaves, on all input

abbrev pub CheckContract : (text bench new_bench : List ℕ) → ℕ → Type 0
CheckContract text bench new_bench r = record { answer = r; bench = new_bench } ≡ check_call text bench

abbrev pub FreshContract : (bench state new_state : List ℕ) → ℕ → Type 0
FreshContract bench state new_state r = record { answer = r; state = new_state } ≡ fresh_call bench state

abbrev pub LineContract : (bench state names values row new_state new_row : List ℕ) → ℕ → Type 0
LineContract bench state names values row new_state new_row r =
    record { answer = r; state = new_state; row = new_row } ≡ line_call bench state names values row

abbrev pub HeaderContract : (bench row new_row : List ℕ) → ℕ → Type 0
HeaderContract bench row new_row r = record { answer = r; row = new_row } ≡ header_call bench row

abbrev pub RowContract : (bench state sender row new_row : List ℕ) → ℕ → Type 0
RowContract bench state sender row new_row r = record { answer = r; row = new_row } ≡ row_call bench state sender row

abbrev pub SheetContract : (bench state readings cells sheet new_sheet : List ℕ) → ℕ → Type 0
SheetContract bench state readings cells sheet new_sheet r =
    record { answer = r; sheet = new_sheet } ≡ sheet_call bench state readings cells sheet

-- "let a call give the class of a byte" (document 02, order 4): no memory is lent, nothing is refused, and the answer is the class itself
abbrev pub ClassContract : (byte : ℕ) → ℕ → Type 0
ClassContract byte r = r ≡ byte_class byte

-- "An entity's name, found by its number (from 0, file order), is a part of the bench text, empty if there is none or the text is refused": no memory
-- is lent to be written, nothing is refused, and the answer says where that part stands
abbrev pub EntityContract : (text : List ℕ) (number : ℕ) → ℕ → Type 0
EntityContract text number r = r ≡ span_answer (entity_span text number)
