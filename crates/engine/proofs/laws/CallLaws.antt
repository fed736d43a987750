-- One call of a run, where the memory lent to it stands for a bench and a state: what it gives and leaves, by the machine's answer.
use Prim.Native.Nat.{ℕ, ◌/◌, ◌%◌, ◌≤◌}
use native.Mathlib.Omega.{arith}
use mathlib.Core.Path.{◌≡◌, refl, ap, ◌∙◌}
use mathlib.Core.Bool.{Bool, true, false}
use mathlib.Core.List.{List}
use mathlib.Core.Option.{some}
use lib.Dec.{ltb, eqb}
use lib.ListN.{length, take, drop}
use lib.Seq.{take-append_seam}
use borrow.Author.Tests.{le-ltb}
use Rattle.text.specs.definitions.Syntax.{File}
use Rattle.checking.specs.definitions.Verdict.{Verdict, verdict}
use Rattle.cycles.specs.definitions.Outcome.{running}
use Rattle.senders.specs.definitions.Sender.{State}
use Rattle.senders.specs.definitions.Answer.{Answer, refused, accepted}
use Rattle.senders.specs.definitions.Line.{Accepted, new, resent, line}
use Rattle.senders.specs.definitions.Follow.{fresh, ref_follow}
use Rattle.senders.specs.inner_contracts.TotalFollow.{follow}
use Rattle.senders.specs.definitions.Fingerprint.{fingerprint}
use Rattle.senders.specs.definitions.StateImage.{STATE, state_of, with_state}
use Rattle.senders.specs.definitions.SoundState.{SoundState}
use Rattle.senders.proofs.laws.AnswerLaws.{HasNumber, line_number}
use Rattle.engine.specs.definitions.BenchImage.{BENCH, with_bench, bench_of}
use Rattle.engine.specs.definitions.Calls.{
  ROW,
  with_row,
  row_answer,
  fingerprint_of,
  AfterCheck,
  checked,
  check_call,
  AfterFresh,
  freshened,
  fresh_call,
  AfterLine,
  line_row,
  line_answered,
  line_call,
}
use Rattle.engine.specs.definitions.Runs.{Request, sight, machine_answer}
use Rattle.engine.proofs.laws.Replies.{start_bench, start_state}

-- memory that stands for a bench file whose text has that fingerprint, and memory that stands for a sound state of it
pub record StandsFor (print : ℕ) (f : File) (bench state : List ℕ) (s : State) : Type 0 where
  pub bench_size : BENCH ≤ length bench
  pub bench_is : bench_of bench ≡ some f
  pub print_is : fingerprint_of bench ≡ print
  pub state_size : STATE ≤ length state
  pub state_is : state_of print f state ≡ some s
  pub sound_is : SoundState f s

-- where both stand, a call gives what the machine answers
pub call_answered : (print : ℕ) (f : File) (b m : List ℕ) (s : State) → StandsFor print f b m s → (q : Request)
    → line_call b m q.names q.values q.row ≡ line_answered print f s (machine_answer f s q) m q.row
unfolding line_call machine_answer
call_answered print f b m s st q = go (ltb (length q.row) ROW) refl
  where
    go : (t : Bool) → ltb (length q.row) ROW ≡ t
        → line_call b m q.names q.values q.row ≡ line_answered print f s (machine_answer f s q) m q.row
    go true e = rw (le-ltb (length b) BENCH st.bench_size, le-ltb (length m) STATE st.state_size, e, line_call, machine_answer)
    go false e =
        rw (le-ltb (length b) BENCH st.bench_size, le-ltb (length m) STATE st.state_size, e, line_call, machine_answer)
        (rw (st.bench_is, st.print_is, st.state_is))

-- what a call gives: its answer, the row's memory, and memory that stands for the state after it
pub record Gives (print : ℕ) (f : File) (bench : List ℕ) (t : State) (answer : ℕ) (row : List ℕ) (r : AfterLine) : Type 0 where
  pub answer_is : r.answer ≡ answer
  pub row_is : r.row ≡ row
  pub stands : StandsFor print f bench r.state t

pub gives_sight : (print : ℕ) (f : File) (b : List ℕ) (t : State) (n : ℕ) (w : List ℕ) (r : AfterLine) → Gives print f b t n w r
    → sight print f r ≡ record { answer = n; state = some t; row = w }
unfolding sight
gives_sight print f b t n w r h = rw (h.answer_is, h.row_is, h.stands.state_is)

-- a line that is sent again leaves the memory of the state
abbrev pub Stays : Accepted → List ℕ → List ℕ → Type 0
Stays (new l) before after = Unit {0}
Stays (resent l) before after = after ≡ before

-- what the call of an accepted line gives, by the state before it and that state's memory: the reference machine is not stuck
pub record Accepts (print : ℕ) (f : File) (bench memory : List ℕ) (s : State) (q : Request) (r : AfterLine) (a : Accepted) : Type 0 where
  pub gives : Gives print f bench (follow f s a) (row_answer (line_row f s a)) (with_row (line_row f s a) q.row) r
  pub runs : ref_follow f s a ≡ running (follow f s a)
  pub stays : Stays a memory r.state

-- by the machine's answer: a refusal leaves the state, an accepted line follows it
abbrev pub Answered : ℕ → File → List ℕ → List ℕ → State → Request → AfterLine → Answer Accepted → Type 0
Answered print f b m s q r (refused code) = Gives print f b s code q.row r
Answered print f b m s q r (accepted a) = Accepts print f b m s q r a

-- the row that was written is found by the answer
pub given_read : (g m : List ℕ) → take (row_answer g / 256) (with_row g m) ≡ g
unfolding with_row
given_read g m = let e : row_answer g / 256 ≡ length g = omega arith in rw e (take-append_seam g (drop (length g) m))

pub answer_line : (f : File) (s : State) (q : Request) {a : Accepted} → machine_answer f s q ≡ accepted a → line f s q.names q.values ≡ accepted a
unfolding machine_answer
answer_line f s q {a} h = go (ltb (length q.row) ROW) refl
  where
    go : (t : Bool) → ltb (length q.row) ROW ≡ t → line f s q.names q.values ≡ accepted a
    go true e = let g : refused 31 ≡ accepted a = rw (e, machine_answer) at h in let z : ◌≡◌ {A = ℕ} 0 1 = cc in absurd (omega arith)
    go false e = rw (e, machine_answer) at h

pub answer_number : (f : File) (s : State) (q : Request) → HasNumber (machine_answer f s q)
unfolding machine_answer
answer_number f s q = go (ltb (length q.row) ROW) refl
  where
    go : (t : Bool) → ltb (length q.row) ROW ≡ t → HasNumber (machine_answer f s q)
    go true e = rw (e, machine_answer)
    go false e = rw (e, machine_answer) (line_number f s q.names q.values)

-- the answer to an accepted line has the number 0
pub row_accepts : (r : List ℕ) → eqb (row_answer r % 256) 0 ≡ true
row_accepts r = let e : row_answer r % 256 ≡ 0 = omega arith in rw e

-- the memory from which a run starts
check_accepted : (text : List ℕ) (f : File) → verdict text ≡ Verdict.accepted f → (bench : List ℕ) → BENCH ≤ length bench
    → check_call text bench ≡ checked (Verdict.accepted f) text bench
unfolding check_call
check_accepted text f v bench h = rw (le-ltb (length bench) BENCH h, check_call) (rw v)

pub start_bench_is : (text : List ℕ) (f : File) → verdict text ≡ Verdict.accepted f → (bench : List ℕ) → BENCH ≤ length bench
    → start_bench text bench ≡ with_bench text bench
unfolding start_bench checked
start_bench_is text f v bench h = ap (λ (r : AfterCheck). r.bench) (check_accepted text f v bench h)

fresh_accepted : (f : File) (bench state : List ℕ) → BENCH ≤ length bench → bench_of bench ≡ some f → STATE ≤ length state
    → fresh_call bench state ≡ freshened (fingerprint_of bench) (some f) state
unfolding fresh_call
fresh_accepted f bench state h e g = rw (le-ltb (length bench) BENCH h, le-ltb (length state) STATE g, fresh_call) (rw e)

pub start_state_is : (text : List ℕ) (f : File) (bench state : List ℕ) → BENCH ≤ length (start_bench text bench)
    → bench_of (start_bench text bench) ≡ some f → fingerprint_of (start_bench text bench) ≡ fingerprint text → STATE ≤ length state
    → start_state text bench state ≡ with_state (fingerprint text) f (fresh f) state
unfolding start_state freshened
start_state_is text f bench state h e p g =
    ap (λ (r : AfterFresh). r.state) (fresh_accepted f (start_bench text bench) state h e g)
    ∙ ap (λ (k : ℕ). with_state k f (fresh f) state) p
