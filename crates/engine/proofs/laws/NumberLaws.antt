-- The numbers that the calls answer, and that a refusal leaves what was lent.
use Prim.Native.Nat.{ℕ, ◌+◌, ◌*◌, ◌<◌}
use native.Mathlib.Omega.{arith}
use mathlib.Core.Path.{◌≡◌, refl, sym, subst}
use mathlib.Core.Bool.{Bool, true, false, ◌||◌}
use mathlib.Core.List.{List, [], ◌∷◌}
use mathlib.Core.Option.{Option, none, some}
use lib.Dec.{ltb, lit<}
use lib.ListN.{length}
use Rattle.text.specs.definitions.Syntax.{File}
use Rattle.checking.specs.definitions.Verdict.{Verdict, verdict, verdict_answer}
use Rattle.checking.proofs.laws.FaultCodes.{RefusedByCode, verdict_code}
use Rattle.cycles.specs.definitions.Row.{row_header}
use Rattle.cycles.specs.definitions.ClosedSet.{Among, here, there}
use Rattle.senders.specs.definitions.Sender.{State, is_sender}
use Rattle.senders.specs.definitions.Answer.{Answer, refused, accepted}
use Rattle.senders.specs.definitions.Line.{Accepted, line}
use Rattle.senders.specs.definitions.Row.{sender_row}
use Rattle.senders.specs.definitions.StateImage.{STATE, state_of}
use Rattle.senders.proofs.laws.AnswerLaws.{RefusedByNumber, line_refused_by}
use Rattle.engine.specs.definitions.BenchImage.{BENCH, bench_of}
use Rattle.engine.specs.definitions.Calls.{
  ROW,
  row_answer,
  fingerprint_of,
  AfterCheck,
  checked,
  check_call,
  AfterFresh,
  freshened,
  fresh_call,
  AfterLine,
  line_refused,
  line_row,
  line_accepted,
  line_answered,
  line_in_state,
  line_on_bench,
  line_call,
  AfterRow,
  row_written,
  header_on_bench,
  header_call,
  row_if_named,
  row_in_state,
  row_on_bench,
  row_call,
  CheckContract,
  FreshContract,
  LineContract,
  HeaderContract,
  RowContract,
}
use Rattle.engine.specs.definitions.DemandOne.{number_of, CHECK_NUMBERS, FRESH_NUMBERS, LINE_NUMBERS, HEADER_NUMBERS, ROW_NUMBERS, ListedAnswer}

-- ---- refusal and acceptance

module _ {numbers : List ℕ} {lent : List (List ℕ)} where
  pub refusal : (answer : ℕ) → Among (number_of answer) numbers → ListedAnswer numbers answer lent lent
  refusal answer a = record { number = a; as_lent = λ h. refl }

  pub acceptance : {left : List (List ℕ)} (answer : ℕ) → number_of answer ≡ 0 → Among 0 numbers → ListedAnswer numbers answer lent left
  acceptance answer e a = record { number = rw e a; as_lent = λ h. absurd (h e) }

-- what stands above the number does not count
pub above_number : (n : ℕ) → number_of (256 * n) ≡ 0
above_number n = omega arith

pub row_accepted : (r : List ℕ) → number_of (row_answer r) ≡ 0
row_accepted r = above_number (length r)

-- a code of the table: its number is itself
abbrev Listed : List ℕ → ℕ → Type 0
Listed numbers code = (code < 256) × Among code numbers

with_offset : (code at : ℕ) → code < 256 → number_of (code + 256 * at) ≡ code
with_offset code at h = omega arith

-- ---- check

abbrev CHECK : ℕ → Type 0
CHECK = Listed CHECK_NUMBERS

verdict_listed : (text : List ℕ) → RefusedByCode CHECK (verdict text)
verdict_listed =
    verdict_code CHECK (lit< tt, there (there here)) (lit< tt, there (there (there here))) (lit< tt, there (there (there (there here))))
    (lit< tt, there (there (there (there (there here))))) (lit< tt, there (there (there (there (there (there here))))))
    (lit< tt, there (there (there (there (there (there (there here)))))))
    (lit< tt, there (there (there (there (there (there (there (there here))))))))
    (lit< tt, there (there (there (there (there (there (there (there (there here)))))))))
    (lit< tt, there (there (there (there (there (there (there (there (there (there here))))))))))

check_call_numbered : (text bench : List ℕ) → ListedAnswer CHECK_NUMBERS (check_call text bench).answer (bench ∷ []) ((check_call text bench).bench ∷ [])
unfolding check_call checked verdict_answer
check_call_numbered text bench = by_size (ltb (length bench) BENCH)
  where
    by_verdict : (v : Verdict) → RefusedByCode CHECK v
        → ListedAnswer CHECK_NUMBERS (checked v text bench).answer (bench ∷ []) ((checked v text bench).bench ∷ [])
    by_verdict (Verdict.accepted f) h = acceptance 0 refl here
    by_verdict (Verdict.refused_at code at) h = refusal (code + 256 * at) (rw (with_offset code at h.0) h.1)

    call : Bool → AfterCheck
    call b = elim b [ true ↦ record { answer = 31; bench = bench } | false ↦ checked (verdict text) text bench ]

    by_size : (b : Bool) → ListedAnswer CHECK_NUMBERS (call b).answer (bench ∷ []) ((call b).bench ∷ [])
    by_size true = refusal 31 (there here)
    by_size false = by_verdict (verdict text) (verdict_listed text)

pub check_numbered : (text bench new_bench : List ℕ) (r : ℕ) → CheckContract text bench new_bench r
    → ListedAnswer CHECK_NUMBERS r (bench ∷ []) (new_bench ∷ [])
check_numbered text bench new_bench r c =
    subst (λ (x : AfterCheck). ListedAnswer CHECK_NUMBERS x.answer (bench ∷ []) (x.bench ∷ [])) (sym c) (check_call_numbered text bench)

-- ---- fresh

fresh_call_numbered : (bench state : List ℕ) → ListedAnswer FRESH_NUMBERS (fresh_call bench state).answer (state ∷ []) ((fresh_call bench state).state ∷ [])
unfolding fresh_call freshened
fresh_call_numbered bench state = by_size (ltb (length bench) BENCH || ltb (length state) STATE)
  where
    by_bench : (o : Option File)
        → ListedAnswer FRESH_NUMBERS (freshened (fingerprint_of bench) o state).answer (state ∷ []) ((freshened (fingerprint_of bench) o state).state ∷ [])
    by_bench none = refusal 32 (there (there here))
    by_bench (some f) = acceptance 0 refl here

    call : Bool → AfterFresh
    call b = elim b [ true ↦ record { answer = 31; state = state } | false ↦ freshened (fingerprint_of bench) (bench_of bench) state ]

    by_size : (b : Bool) → ListedAnswer FRESH_NUMBERS (call b).answer (state ∷ []) ((call b).state ∷ [])
    by_size true = refusal 31 (there here)
    by_size false = by_bench (bench_of bench)

pub fresh_numbered : (bench state new_state : List ℕ) (r : ℕ) → FreshContract bench state new_state r
    → ListedAnswer FRESH_NUMBERS r (state ∷ []) (new_state ∷ [])
fresh_numbered bench state new_state r c =
    subst (λ (x : AfterFresh). ListedAnswer FRESH_NUMBERS x.answer (state ∷ []) (x.state ∷ [])) (sym c) (fresh_call_numbered bench state)

-- ---- line

abbrev LINE : ℕ → Type 0
LINE = Listed LINE_NUMBERS

line_listed : (f : File) (s : State) (names values : List ℕ) → RefusedByNumber LINE (line f s names values)
line_listed =
    line_refused_by LINE (lit< tt, there (there (there (there (there here))))) (lit< tt, there (there (there (there here))))
    (lit< tt, there (there (there (there (there (there (there (there here))))))))
    (lit< tt, there (there (there (there (there (there (there (there (there here)))))))))
    (lit< tt, there (there (there (there (there (there (there (there (there (there here))))))))))
    (lit< tt, there (there (there (there (there (there (there here)))))))
    (lit< tt, there (there (there (there (there (there here))))))

abbrev LineNumbered : List ℕ → List ℕ → AfterLine → Type 0
LineNumbered state row x = ListedAnswer LINE_NUMBERS x.answer (state ∷ row ∷ []) (x.state ∷ x.row ∷ [])

line_call_numbered : (bench state names values row : List ℕ) → LineNumbered state row (line_call bench state names values row)
unfolding line_call line_on_bench line_in_state line_answered line_refused line_accepted
line_call_numbered bench state names values row = by_size (ltb (length bench) BENCH || ltb (length state) STATE || ltb (length row) ROW)
  where
    print : ℕ
    print = fingerprint_of bench

    by_line : (f : File) (s : State) (a : Answer Accepted) → RefusedByNumber LINE a → LineNumbered state row (line_answered print f s a state row)
    by_line f s (refused code) h = let e : number_of code ≡ code = let l = h.0 in omega arith in refusal code (rw e h.1)
    by_line f s (accepted a) h = acceptance (row_answer (line_row f s a)) (row_accepted (line_row f s a)) here

    by_state : (f : File) (o : Option State) → LineNumbered state row (line_in_state print f o state names values row)
    by_state f none = refusal 33 (there (there (there here)))
    by_state f (some s) = by_line f s (line f s names values) (line_listed f s names values)

    by_bench : (o : Option File) → LineNumbered state row (line_on_bench print o state names values row)
    by_bench none = refusal 32 (there (there here))
    by_bench (some f) = by_state f (state_of print f state)

    call : Bool → AfterLine
    call b = elim b [ true ↦ line_refused 31 state row | false ↦ line_on_bench print (bench_of bench) state names values row ]

    by_size : (b : Bool) → LineNumbered state row (call b)
    by_size true = refusal 31 (there here)
    by_size false = by_bench (bench_of bench)

pub line_numbered : (bench state names values row new_state new_row : List ℕ) (r : ℕ) → LineContract bench state names values row new_state new_row r
    → ListedAnswer LINE_NUMBERS r (state ∷ row ∷ []) (new_state ∷ new_row ∷ [])
line_numbered bench state names values row new_state new_row r c = subst (LineNumbered state row) (sym c) (line_call_numbered bench state names values row)

-- ---- header and row

abbrev RowNumbered : List ℕ → List ℕ → AfterRow → Type 0
RowNumbered numbers row x = ListedAnswer numbers x.answer (row ∷ []) (x.row ∷ [])

header_call_numbered : (bench row : List ℕ) → RowNumbered HEADER_NUMBERS row (header_call bench row)
unfolding header_call header_on_bench row_written
header_call_numbered bench row = by_size (ltb (length bench) BENCH || ltb (length row) ROW)
  where
    by_bench : (o : Option File) → RowNumbered HEADER_NUMBERS row (header_on_bench o row)
    by_bench none = refusal 32 (there (there here))
    by_bench (some f) = acceptance (row_answer (row_header f)) (row_accepted (row_header f)) here

    call : Bool → AfterRow
    call b = elim b [ true ↦ record { answer = 31; row = row } | false ↦ header_on_bench (bench_of bench) row ]

    by_size : (b : Bool) → RowNumbered HEADER_NUMBERS row (call b)
    by_size true = refusal 31 (there here)
    by_size false = by_bench (bench_of bench)

pub header_numbered : (bench row new_row : List ℕ) (r : ℕ) → HeaderContract bench row new_row r → ListedAnswer HEADER_NUMBERS r (row ∷ []) (new_row ∷ [])
header_numbered bench row new_row r c = subst (RowNumbered HEADER_NUMBERS row) (sym c) (header_call_numbered bench row)

row_call_numbered : (bench state sender row : List ℕ) → RowNumbered ROW_NUMBERS row (row_call bench state sender row)
unfolding row_call row_on_bench row_in_state row_if_named row_written
row_call_numbered bench state sender row = by_size (ltb (length bench) BENCH || ltb (length state) STATE || ltb (length row) ROW)
  where
    print : ℕ
    print = fingerprint_of bench

    by_name : (f : File) (s : State) (b : Bool) → RowNumbered ROW_NUMBERS row (row_if_named b f s sender row)
    by_name f s false = refusal 43 (there (there (there (there here))))
    by_name f s true = acceptance (row_answer (sender_row f s sender)) (row_accepted (sender_row f s sender)) here

    by_state : (f : File) (o : Option State) → RowNumbered ROW_NUMBERS row (row_in_state f o sender row)
    by_state f none = refusal 33 (there (there (there here)))
    by_state f (some s) = by_name f s (is_sender sender)

    by_bench : (o : Option File) → RowNumbered ROW_NUMBERS row (row_on_bench print o state sender row)
    by_bench none = refusal 32 (there (there here))
    by_bench (some f) = by_state f (state_of print f state)

    call : Bool → AfterRow
    call b = elim b [ true ↦ record { answer = 31; row = row } | false ↦ row_on_bench print (bench_of bench) state sender row ]

    by_size : (b : Bool) → RowNumbered ROW_NUMBERS row (call b)
    by_size true = refusal 31 (there here)
    by_size false = by_bench (bench_of bench)

pub row_numbered : (bench state sender row new_row : List ℕ) (r : ℕ) → RowContract bench state sender row new_row r
    → ListedAnswer ROW_NUMBERS r (row ∷ []) (new_row ∷ [])
row_numbered bench state sender row new_row r c = subst (RowNumbered ROW_NUMBERS row) (sym c) (row_call_numbered bench state sender row)
