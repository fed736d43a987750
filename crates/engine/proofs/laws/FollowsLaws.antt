-- What accepted calls leave and give, and how a row reads back.
use Prim.Native.Nat.{ℕ, ◌%◌, ◌/◌, ◌≤◌}
use native.Mathlib.Omega.{arith}
use mathlib.Core.Logic.{◌↔◌}
use mathlib.Core.Path.{◌≡◌, refl, sym, ap, ap₂, ◌∙◌, subst}
use mathlib.Core.Bool.{Bool, true, false}
use mathlib.Core.List.{List}
use mathlib.Core.Option.{Option, none, some}
use lib.ListN.{length, take}
use borrow.Author.Tests.{le-ltb, eqb-false}
use Rattle.text.specs.definitions.Syntax.{File}
use Rattle.checking.specs.definitions.Verdict.{Verdict, verdict}
use Rattle.checking.proofs.laws.VerdictLaws.{accepted_verdict}
use Rattle.checking.proofs.laws.AcceptedLaws.{within_counts}
use Rattle.cycles.specs.definitions.Row.{row_header}
use Rattle.senders.specs.definitions.Sender.{State, is_sender, kept}
use Rattle.senders.specs.definitions.Answer.{Answer, refused, accepted}
use Rattle.senders.specs.definitions.Line.{Accepted}
use Rattle.senders.specs.inner_contracts.TotalFollow.{follow}
use Rattle.senders.specs.definitions.Row.{sender_row}
use Rattle.senders.specs.definitions.StateImage.{STATE, state_of}
use Rattle.senders.proofs.laws.AnswerLaws.{HasNumber}
use Rattle.senders.proofs.laws.StateLaws.{state_decoded_sound}
use Rattle.senders.proofs.laws.RowReads as Rows
use Rattle.engine.specs.definitions.BenchImage.{BENCH, bench_of}
use Rattle.engine.specs.definitions.Calls.{
  ROW,
  fingerprint_of,
  AfterFresh,
  freshened,
  fresh_call,
  AfterLine,
  line_refused,
  line_row,
  line_in_state,
  line_on_bench,
  line_call,
  AfterRow,
  row_written,
  header_on_bench,
  header_call,
  row_if_named,
  row_in_state,
  row_on_bench,
  row_call,
  FreshContract,
  LineContract,
  HeaderContract,
  RowContract,
}
use Rattle.engine.specs.definitions.Runs.{Request, machine_answer, given, given_by}
use Rattle.engine.specs.definitions.DemandOne.{number_of}
use Rattle.engine.specs.definitions.DemandTwo.{BenchLent, RowLent, LineLent, Freshens, Follows, Names, Shows, ReadsBack}
use Rattle.engine.proofs.laws.BenchLaws.{bench_accepted, print_of_below}
use Rattle.engine.proofs.laws.CallLaws.{StandsFor, Answered, answer_line, answer_number, given_read}
use Rattle.engine.proofs.laws.NumberLaws.{row_accepted}
use Rattle.engine.proofs.laws.RunLaws.{call_gives}
use Rattle.engine.proofs.theorems.ImageRoundTrip.{image_round_trip}

-- memory of the stated sizes that stands for a bench and a state of it is sound
stands : (bench state : List ℕ) (f : File) (s : State) → BENCH ≤ length bench → STATE ≤ length state → bench_of bench ≡ some f
    → state_of (fingerprint_of bench) f state ≡ some s → StandsFor (fingerprint_of bench) f bench state s
stands bench state f s h g b e =
    let t = bench_accepted bench b in
    record {
      bench_size = h;
      bench_is = b;
      print_is = refl;
      state_size = g;
      state_is = e;
      sound_is = state_decoded_sound f (within_counts f (accepted_verdict t.text t.is_accepted)) (fingerprint_of bench) state s e;
    }

-- no refusal has the number 0
pub not_zero : (code : ℕ) {n : ℕ} → n ≡ code → number_of n ≡ 0 → (number_of code ≡ 0 → ⊥) → ⊥
not_zero code e h never = never (ap number_of (sym e) ∙ h)

-- ---- the line call

module _ (bench state names values row : List ℕ) (h : BENCH ≤ length bench) (g : STATE ≤ length state) (w : ROW ≤ length row) where
  abbrev request : Request
  request = record { names = names; values = values; row = row }

  abbrev reply : AfterLine
  reply = line_call bench state names values row

  abbrev print : ℕ
  print = fingerprint_of bench

  answered : (f : File) → bench_of bench ≡ some f → (s : State) → state_of print f state ≡ some s
      → Answered print f bench state s request reply (machine_answer f s request)
  answered f b s e =
      let t = bench_accepted bench b in
      call_gives print (print_of_below bench) f (accepted_verdict t.text t.is_accepted) bench state s (stands bench state f s h g b e) request

  by_answer : (f : File) → bench_of bench ≡ some f → (s : State) → state_of print f state ≡ some s → number_of reply.answer ≡ 0
      → (a : Answer Accepted) → machine_answer f s request ≡ a → HasNumber a → Answered print f bench state s request reply a
      → Follows bench state names values reply
  unfolding given_by given line_row
  by_answer f b s e z (refused code) q n k =
      let y : code % 256 ≡ 0 = ap number_of (sym k.answer_is) ∙ z in absurd (eqb-false (code % 256) 0 n y)
  by_answer f b s e z (accepted a) q n k = record {
    file = f;
    before = s;
    taken = a;
    after = follow f s a;
    is_bench = b;
    is_state = e;
    is_taken = answer_line f s request q;
    runs = k.runs;
    leaves = k.gives.stands.state_is;
    fires = ap₂ (λ (n : ℕ) (m : List ℕ). take (n / 256) m) k.gives.answer_is k.gives.row_is ∙ given_read (line_row f s a) row;
  }

  on_bench : reply ≡ line_on_bench print (bench_of bench) state names values row
  unfolding line_call
  on_bench = rw (le-ltb (length bench) BENCH h, le-ltb (length state) STATE g, le-ltb (length row) ROW w, line_call)

  by_state : number_of reply.answer ≡ 0 → (f : File) → bench_of bench ≡ some f → (o : Option State) → state_of print f state ≡ o
      → Follows bench state names values reply
  unfolding line_on_bench line_in_state line_refused
  by_state z f b none e =
      let i : reply ≡ line_refused 33 state row =
      on_bench
      ∙ ap (λ (o : Option File). line_on_bench print o state names values row) b
      ∙ ap (λ (o : Option State). line_in_state print f o state names values row) e in
      absurd (not_zero 33 (ap (λ (x : AfterLine). x.answer) i) z (λ n. omega arith))
  by_state z f b (some s) e = by_answer f b s e z (machine_answer f s request) refl (answer_number f s request) (answered f b s e)

  by_bench : number_of reply.answer ≡ 0 → (o : Option File) → bench_of bench ≡ o → Follows bench state names values reply
  unfolding line_on_bench line_refused
  by_bench z none e =
      let i : reply ≡ line_refused 32 state row = on_bench ∙ ap (λ (o : Option File). line_on_bench print o state names values row) e in
      absurd (not_zero 32 (ap (λ (x : AfterLine). x.answer) i) z (λ n. omega arith))
  by_bench z (some f) e = by_state z f e (state_of print f state) refl

  taken_answer : LineLent bench state names values → number_of reply.answer ≡ 0
  unfolding machine_answer
  taken_answer k =
      let q : machine_answer k.file k.before request ≡ accepted k.taken = rw (le-ltb (length row) ROW w, machine_answer) k.is_taken in
      let i : Answered print k.file bench state k.before request reply (accepted k.taken) =
      subst (Answered print k.file bench state k.before request reply) q (answered k.file k.is_bench k.before k.is_state) in
      ap number_of i.gives.answer_is ∙ row_accepted (line_row k.file k.before k.taken)

pub line_follows : (bench state names values row new_state new_row : List ℕ) (r : ℕ) → LineContract bench state names values row new_state new_row r
    → BENCH ≤ length bench → STATE ≤ length state → ROW ≤ length row
    → ((number_of r ≡ 0) ↔ LineLent bench state names values)
    × (number_of r ≡ 0 → Follows bench state names values (record { answer = r; state = new_state; row = new_row }))
line_follows bench state names values row new_state new_row r c h g w =
    let go : number_of (line_call bench state names values row).answer ≡ 0 → Follows bench state names values (line_call bench state names values row) =
    λ z. by_bench bench state names values row h g w z (bench_of bench) refl in
    subst
    (λ (x : AfterLine). ((number_of x.answer ≡ 0) ↔ LineLent bench state names values) × (number_of x.answer ≡ 0 → Follows bench state names values x))
    (sym c) (
      (
        λ z.
            let k = go z in
            record { file = k.file; before = k.before; taken = k.taken; is_bench = k.is_bench; is_state = k.is_state; is_taken = k.is_taken },
        taken_answer bench state names values row h g w,
      ),
      go,
    )

-- ---- the fresh state

fresh_is : (bench state : List ℕ) → BENCH ≤ length bench → STATE ≤ length state → fresh_call bench state ≡ freshened (fingerprint_of bench) (bench_of bench) state
unfolding fresh_call
fresh_is bench state h g = rw (le-ltb (length bench) BENCH h, le-ltb (length state) STATE g, fresh_call)

pub fresh_freshens : (bench state new_state : List ℕ) (r : ℕ) → FreshContract bench state new_state r
    → BENCH ≤ length bench → STATE ≤ length state
    → ((number_of r ≡ 0) ↔ BenchLent bench) × (number_of r ≡ 0 → Freshens bench new_state)
unfolding freshened
fresh_freshens bench state new_state r c h g =
    let i : record { answer = r; state = new_state } ≡ freshened (fingerprint_of bench) (bench_of bench) state = c ∙ fresh_is bench state h g in (
      (
        λ z. let k = by_bench z (bench_of bench) refl in record { file = k.file; is_bench = k.is_bench },
        λ k. ap number_of (ap (λ (x : AfterFresh). x.answer) (i ∙ ap (λ (o : Option File). freshened (fingerprint_of bench) o state) k.is_bench)),
      ),
      λ z. by_bench z (bench_of bench) refl,
    )
  where
    by_bench : number_of r ≡ 0 → (o : Option File) → bench_of bench ≡ o → Freshens bench new_state
    by_bench z none e =
        let i : record { answer = r; state = new_state } ≡ freshened (fingerprint_of bench) none state =
        c ∙ fresh_is bench state h g ∙ ap (λ (o : Option File). freshened (fingerprint_of bench) o state) e in
        absurd (not_zero 32 (ap (λ (x : AfterFresh). x.answer) i) z (λ n. omega arith))
    by_bench z (some f) e = record {
      file = f;
      is_bench = e;
      leaves = ap (λ (x : AfterFresh). state_of (fingerprint_of bench) f x.state) c ∙ image_round_trip.fresh bench state f h g e;
    }

-- ---- rows

written_given : (g m : List ℕ) → given (row_written g m).answer (row_written g m).row ≡ g
unfolding given row_written
written_given g m = given_read g m

header_is : (bench row : List ℕ) → BENCH ≤ length bench → ROW ≤ length row → header_call bench row ≡ header_on_bench (bench_of bench) row
unfolding header_call
header_is bench row h w = rw (le-ltb (length bench) BENCH h, le-ltb (length row) ROW w, header_call)

module _ (bench row : List ℕ) (h : BENCH ≤ length bench) (w : ROW ≤ length row) where
  names_by : (x : AfterRow) → x ≡ header_on_bench (bench_of bench) row → number_of x.answer ≡ 0 → (o : Option File) → bench_of bench ≡ o
      → Names bench x.answer x.row
  unfolding header_on_bench
  names_by x c z none e =
      let i : x ≡ header_on_bench none row = c ∙ ap (λ (o : Option File). header_on_bench o row) e in
      absurd (not_zero 32 (ap (λ (y : AfterRow). y.answer) i) z (λ n. omega arith))
  names_by x c z (some f) e =
      let i : x ≡ header_on_bench (some f) row = c ∙ ap (λ (o : Option File). header_on_bench o row) e in
      record { file = f; is_bench = e; gives = ap (λ (y : AfterRow). given y.answer y.row) i ∙ written_given (row_header f) row }

  named_answer : (x : AfterRow) → x ≡ header_on_bench (bench_of bench) row → BenchLent bench → number_of x.answer ≡ 0
  unfolding header_on_bench row_written
  named_answer x c k =
      let i : x ≡ header_on_bench (some k.file) row = c ∙ ap (λ (o : Option File). header_on_bench o row) k.is_bench in
      ap (λ (y : AfterRow). number_of y.answer) i ∙ row_accepted (row_header k.file)

pub header_names : (bench row new_row : List ℕ) (r : ℕ) → HeaderContract bench row new_row r
    → BENCH ≤ length bench → ROW ≤ length row
    → ((number_of r ≡ 0) ↔ BenchLent bench) × (number_of r ≡ 0 → Names bench r new_row)
header_names bench row new_row r c h w =
    let x : AfterRow = record { answer = r; row = new_row } in
    let i : x ≡ header_on_bench (bench_of bench) row = c ∙ header_is bench row h w in
    let go : number_of r ≡ 0 → Names bench r new_row = λ z. names_by bench row h w x i z (bench_of bench) refl in
    ((λ z. let k = go z in record { file = k.file; is_bench = k.is_bench }, λ k. named_answer bench row h w x i k), go)

row_is : (bench state sender row : List ℕ) → BENCH ≤ length bench → STATE ≤ length state → ROW ≤ length row
    → row_call bench state sender row ≡ row_on_bench (fingerprint_of bench) (bench_of bench) state sender row
unfolding row_call
row_is bench state sender row h g w = rw (le-ltb (length bench) BENCH h, le-ltb (length state) STATE g, le-ltb (length row) ROW w, row_call)

-- an accepted call gave a row for what it was lent
pub record RowGiven (bench state sender : List ℕ) (x : AfterRow) : Type 0 where
  pub lent : RowLent bench state sender
  pub shows : Shows bench state sender x.answer x.row

module _ (bench state sender row : List ℕ) (x : AfterRow) (c : x ≡ row_on_bench (fingerprint_of bench) (bench_of bench) state sender row) where
  in_state : (f : File) → bench_of bench ≡ some f → (o : Option State) → state_of (fingerprint_of bench) f state ≡ o → x ≡ row_in_state f o sender row
  unfolding row_on_bench
  in_state f b o e =
      c
      ∙ ap (λ (p : Option File). row_on_bench (fingerprint_of bench) p state sender row) b
      ∙ ap (λ (p : Option State). row_in_state f p sender row) e

  named : (f : File) → bench_of bench ≡ some f → (s : State) → state_of (fingerprint_of bench) f state ≡ some s → (t : Bool) → is_sender sender ≡ t
      → x ≡ row_if_named t f s sender row
  unfolding row_in_state
  named f b s e t n = in_state f b (some s) e ∙ ap (λ (t : Bool). row_if_named t f s sender row) n

  given_named : number_of x.answer ≡ 0 → (f : File) → bench_of bench ≡ some f → (s : State) → state_of (fingerprint_of bench) f state ≡ some s
      → (t : Bool) → is_sender sender ≡ t → RowGiven bench state sender x
  unfolding row_if_named
  given_named z f b s e false n = absurd (not_zero 43 (ap (λ (y : AfterRow). y.answer) (named f b s e false n)) z (λ n. omega arith))
  given_named z f b s e true n = record {
    lent = record { lent = record { file = f; before = s; is_bench = b; is_state = e }; is_named = n };
    shows = record {
      file = f;
      shown = s;
      is_bench = b;
      is_state = e;
      gives = ap (λ (y : AfterRow). given y.answer y.row) (named f b s e true n) ∙ written_given (sender_row f s sender) row;
    };
  }

  given_in : number_of x.answer ≡ 0 → (f : File) → bench_of bench ≡ some f → (o : Option State) → state_of (fingerprint_of bench) f state ≡ o
      → RowGiven bench state sender x
  unfolding row_in_state
  given_in z f b none e = absurd (not_zero 33 (ap (λ (y : AfterRow). y.answer) (in_state f b none e)) z (λ n. omega arith))
  given_in z f b (some s) e = given_named z f b s e (is_sender sender) refl

  given_on : number_of x.answer ≡ 0 → (o : Option File) → bench_of bench ≡ o → RowGiven bench state sender x
  unfolding row_on_bench
  given_on z none b =
      let i : x ≡ row_on_bench (fingerprint_of bench) none state sender row =
      c ∙ ap (λ (o : Option File). row_on_bench (fingerprint_of bench) o state sender row) b in
      absurd (not_zero 32 (ap (λ (y : AfterRow). y.answer) i) z (λ n. omega arith))
  given_on z (some f) b = given_in z f b (state_of (fingerprint_of bench) f state) refl

  shown_answer : RowLent bench state sender → number_of x.answer ≡ 0
  unfolding row_if_named row_written
  shown_answer k =
      let l = k.lent in
      ap (λ (y : AfterRow). number_of y.answer) (named l.file l.is_bench l.before l.is_state true k.is_named)
      ∙ row_accepted (sender_row l.file l.before sender)

pub row_shows : (bench state sender row new_row : List ℕ) (r : ℕ) → RowContract bench state sender row new_row r
    → BENCH ≤ length bench → STATE ≤ length state → ROW ≤ length row
    → ((number_of r ≡ 0) ↔ RowLent bench state sender) × (number_of r ≡ 0 → Shows bench state sender r new_row)
row_shows bench state sender row new_row r c h g w =
    let x : AfterRow = record { answer = r; row = new_row } in
    let i : x ≡ row_on_bench (fingerprint_of bench) (bench_of bench) state sender row = c ∙ row_is bench state sender row h g w in
    let go : number_of r ≡ 0 → RowGiven bench state sender x = λ z. given_on bench state sender row x i z (bench_of bench) refl in
    ((λ z. (go z).lent, shown_answer bench state sender row x i), λ z. (go z).shows)

-- ---- a row

pub row_reads_back : (text : List ℕ) (f : File) → verdict text ≡ Verdict.accepted f → (print : ℕ) (m : List ℕ) (s : State) → state_of print f m ≡ some s
    → (sender : List ℕ) → is_sender sender ≡ true → ReadsBack f (kept sender s.senders) (sender_row f s sender)
unfolding sender_row
row_reads_back text f v print m s e sender n =
    let so = state_decoded_sound f (within_counts f (accepted_verdict text v)) print m s e in
    let x = kept sender s.senders in
    let r = Rows.row_reads_back f x (Rows.kept_sound_row f sender (rw n tt) s.senders so.senders) in
    record { count = r.count; sender = r.sender; number = r.number; fired = r.fired }
