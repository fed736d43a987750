-- Runs: "a list of cycle calls, refused ones included, from a fresh state of one accepted bench file".
use Rattle.std.specs.Prelude.{ℕ, ◌/◌, ◌%◌, ◌≤◌, List, [], ◌∷◌, ◌++◌, Bool, true, false, ltb, eqb, length, take}
use Rattle.std.proofs.Math.Option.{Option, some}
use Rattle.text.specs.definitions.Syntax.{File}
use Rattle.cycles.specs.definitions.Outcome.{Outcome, running, proceed}
use Rattle.cycles.specs.definitions.Record.{inputs_of}
use Rattle.senders.specs.definitions.Sender.{State, Line}
use Rattle.senders.specs.definitions.Answer.{Answer, refused, accepted}
use Rattle.senders.specs.definitions.Line.{Reading, reading, line_of, Accepted, its_line, line}
use Rattle.senders.specs.definitions.Follow.{ref_follow}
use Rattle.senders.specs.definitions.Row.{sender_row}
use Rattle.senders.specs.definitions.StateImage.{STATE, state_of}
use Rattle.engine.specs.definitions.BenchImage.{BENCH}
use Rattle.engine.specs.definitions.Calls.{ROW, with_row, row_answer, AfterLine, line_call, CheckContract, FreshContract, LineContract}

-- what is lent to one call beside bench and state: "whatever else is lent may be any bytes"
pub record Request : Type 0 where
  pub names : List ℕ
  pub values : List ℕ
  pub row : List ℕ

-- how a run begins: a check of the text, and a fresh state, as their contracts allow them, in memory of the stated sizes at least;
-- bench and state as they are left
pub record RunStart (text bench state : List ℕ) : Type 0 where
  pub lent_bench : List ℕ
  pub lent_state : List ℕ
  pub bench_size : BENCH ≤ length lent_bench
  pub state_size : STATE ≤ length lent_state
  pub check_answer : ℕ
  pub fresh_answer : ℕ
  pub is_checked : CheckContract text lent_bench bench check_answer
  pub is_fresh : FreshContract bench lent_state state fresh_answer

-- a run: calls as the contract of the line call allows them. "Each gets bench and state as the last call left them"
pub data Run (bench : List ℕ) : List ℕ → List Request → List AfterLine → Type 0 where
  ends : {state : List ℕ} → Run bench state [] []
  goes_on : {state : List ℕ} {q : Request} {qs : List Request} {r : AfterLine} {rs : List AfterLine}
      → LineContract bench state q.names q.values q.row r.state r.row r.answer → Run bench r.state qs rs
      → Run bench state (q ∷ qs) (r ∷ rs)

-- the one such list: what the calls give and leave, each from the memory that the one before it left
unfoldable pub replies : List ℕ → List ℕ → List Request → List AfterLine
unfolding line_call
replies bench state [] = []
replies bench state (q ∷ qs) =
    let r = line_call bench state q.names q.values q.row in
    r ∷ replies bench r.state qs

-- what a call shows: its answer, the state that its memory stands for, the row's memory
pub record Sight : Type 0 where
  pub answer : ℕ
  pub state : Option State
  pub row : List ℕ

-- by the fingerprint of the bench's text
unfoldable pub sight : ℕ → File → AfterLine → Sight
unfolding state_of
sight print f r = record { answer = r.answer; state = state_of print f r.state; row = r.row }

-- "whether and how the table refuses a call follows from that call and the machine's state before it"
unfoldable pub machine_answer : File → State → Request → Answer Accepted
unfolding line
machine_answer f s q = elim (ltb (length q.row) ROW) [ true ↦ refused 31 | false ↦ line f s q.names q.values ]

unfoldable pub refused_sight : ℕ → State → Request → Sight
refused_sight code s q = record { answer = code; state = some s; row = q.row }

-- a sender's row, of the state after its line
unfoldable pub accepted_sight : File → State → List ℕ → Request → Sight
unfolding sender_row with_row
accepted_sight f s sender q =
    record { answer = row_answer (sender_row f s sender); state = some s; row = with_row (sender_row f s sender) q.row }

-- one call, and then the others from the state after it: "A refused line isn't given to it; a resent one starts no cycle"
unfoldable pub ref_answered : File → State → Request → Answer Accepted → (State → Outcome (List Sight)) → Outcome (List Sight)
unfolding proceed ref_follow its_line refused_sight accepted_sight
ref_answered f s q (refused code) others = proceed (others s) λ rest. running (refused_sight code s q ∷ rest)
ref_answered f s q (accepted a) others =
    proceed (ref_follow f s a) λ t. proceed (others t) λ rest. running (accepted_sight f t (its_line a).sender q ∷ rest)

-- the reference machine over the same requests
unfoldable pub ref_run : File → State → List Request → Outcome (List Sight)
unfolding ref_answered machine_answer
ref_run f s [] = running []
ref_run f s (q ∷ qs) = ref_answered f s q (machine_answer f s q) (λ t. ref_run f t qs)

-- the row that a call gave: as many bytes of its memory as the answer says
unfoldable pub given : ℕ → List ℕ → List ℕ
given answer m = take (answer / 256) m

unfoldable pub given_by : AfterLine → List ℕ
unfolding given
given_by r = given r.answer r.row

-- an accepted line of a run, the memory of the state before it, and what the call answered and left
pub record Taken : Type 0 where
  pub line : Line
  pub before : List ℕ
  pub reply : AfterLine

-- what header and record say; of an accepted line they always say something
unfoldable pub said_line : Answer Reading → Line
unfolding line_of inputs_of
said_line (refused code) = record { sender = []; number = 0; inputs = inputs_of [] }
said_line (accepted r) = line_of r

unfoldable pub taken_if : Bool → Line → List ℕ → AfterLine → List Taken
taken_if false l before r = []
taken_if true l before r = record { line = l; before = before; reply = r } ∷ []

-- the line of a call, with this memory of the state before it, if its answer has the number 0
unfoldable pub taken_by : File → List ℕ → Request → AfterLine → List Taken
unfolding taken_if said_line reading
taken_by f state q r = taken_if (eqb (r.answer % 256) 0) (said_line (reading f q.names q.values)) state r

-- the accepted lines of a run from this memory of the state
unfoldable pub taken_lines : File → List ℕ → List Request → List AfterLine → List Taken
unfolding taken_by
taken_lines f state [] rs = []
taken_lines f state (q ∷ qs) [] = []
taken_lines f state (q ∷ qs) (r ∷ rs) = taken_by f state q r ++ taken_lines f r.state qs rs
