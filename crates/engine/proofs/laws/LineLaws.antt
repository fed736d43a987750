-- A line on a checked bench in memory: what its parts say of it.
use Prim.Native.Nat.{ℕ, ◌*◌, ◌%◌, ◌≤◌, ◌<◌}
use native.Mathlib.Omega.{arith}
use mathlib.Core.Path.{◌≡◌, refl, sym, ap, ◌∙◌, subst}
use mathlib.Core.Bool.{Bool, true, false}
use mathlib.Core.List.{List}
use mathlib.Core.Option.{Option, none, some}
use lib.ListN.{length, take, get_elem?}
use lib.Seq.{take-append_seam}
use Rattle.text.specs.definitions.Syntax.{File}
use Rattle.checking.specs.definitions.Verdict.{accepted_file}
use Rattle.checking.specs.inner_contracts.CheckedBench.{CheckedBench}
use Rattle.checking.proofs.laws.VerdictLaws.{accepted_is_file}
use Rattle.cycles.specs.definitions.Header.{Column, header}
use Rattle.cycles.specs.inner_contracts.HeaderReads as Columns
use Rattle.cycles.specs.inner_contracts.HeaderReads.{MOST_COLUMNS, HeaderIs, backwards}
use Rattle.cycles.specs.inner_contracts.RowMemory.{InFront}
use Rattle.cycles.specs.inner_contracts.TotalMachine.{cycle}
use Rattle.senders.specs.declared.turn.LineError.{LineError}
use Rattle.senders.specs.inner_contracts.Judging.{Judged}
use Rattle.senders.specs.inner_contracts.Judging.{code_of as line_code}
use Rattle.senders.specs.inner_contracts.Judging.{Refused as Refuses, New, Resent}
use Rattle.senders.specs.definitions.Sender.{Sender, State, kept}
use Rattle.senders.specs.definitions.Answer.{Answer, refused, accepted, or_refused, if_accepted}
use Rattle.senders.specs.definitions.Line.{addressed, Accepted, new, resent, its_line, line}
use Rattle.senders.specs.definitions.Follow.{entry, next_state}
use Rattle.senders.specs.inner_contracts.TotalFollow.{follow}
use Rattle.senders.specs.definitions.Row.{row, sender_row}
use Rattle.senders.specs.definitions.Turns.{state_after}
use Rattle.senders.specs.definitions.Fingerprint.{fingerprint}
use Rattle.senders.specs.definitions.StateImage.{decode, is_state, state_of}
use Rattle.senders.specs.inner_contracts.SenderMemory.{place, StateTest}
use Rattle.senders.specs.inner_contracts.Judging.{judgement}
use Rattle.senders.specs.inner_contracts.Advancing.{ResolvedBench, state_memory, Advanced}
use Rattle.senders.specs.inner_contracts.RowMemory.{PlaceShown}
use Rattle.senders.proofs.laws.AnswerLaws.{InTurn, line_read}
use Rattle.senders.proofs.laws.SenderLaws.{kept_there, there_self, kept_self}
use Rattle.senders.proofs.laws.StateLaws.{state_decoded, no_state}
use Rattle.senders.proofs.laws.StandsLaws.{fingerprint_below, memory_stands}
use Rattle.std.specs.Prelude.{Result, Ok, Err}
use Rattle.std.specs.Result.{IsErrAnd}
use Rattle.engine.specs.declared.refusal.Refusal.{Refusal}
use Rattle.engine.specs.declared.refusal.Refusal.TheVariants.{NoState, Header, Line}
use Rattle.engine.specs.definitions.Calls.{length_answer, with_row, AfterLine, line_refused, followed, line_row, line_accepted, line_answered, line_in_state, line_on_bench}
use Rattle.engine.specs.inner_contracts.LineMemory.{
  after_line,
  line_in_memory,
  InState,
  NoHeader,
  ColumnsOf,
  HeaderRead,
  LineTold,
  LineTaken,
  RecordTaken,
}

-- an error that `?` carries on
pub told_err : {T E : Type 0} {r : Result T E} {e : E} → IsErrAnd r (λ x. x ≡ e) → r ≡ Err e
told_err {r = Ok x} h = elim h [ ]
told_err {r = Err x} h = ap Err h

-- ---- what a judgement says of a state's answer

judged_refused : (xs : List Sender) (a : Answer Accepted) {code : ℕ} → judgement xs a ≡ Refuses code → a ≡ refused code
unfolding judgement
judged_refused xs (refused c) h = cc
judged_refused xs (accepted (new l)) h = let z : ◌≡◌ {A = ℕ} 0 1 = cc in absurd (omega arith)
judged_refused xs (accepted (resent l)) h = let z : ◌≡◌ {A = ℕ} 0 1 = cc in absurd (omega arith)

-- a line is accepted whose sender has that place
abbrev Placed : List Sender → Answer Accepted → ℕ → Type 0
Placed xs a at = (b : Accepted) × (a ≡ accepted b) × (at ≡ place (its_line b).sender xs)

judged_resent : (xs : List Sender) (a : Answer Accepted) {at : ℕ} → judgement xs a ≡ Resent at → Placed xs a at
unfolding judgement its_line
judged_resent xs (refused c) h = let z : ◌≡◌ {A = ℕ} 0 1 = cc in absurd (omega arith)
judged_resent xs (accepted (new l)) h = let z : ◌≡◌ {A = ℕ} 0 1 = cc in absurd (omega arith)
judged_resent xs (accepted (resent l)) h = (resent l, refl, cc)

judged_new : (xs : List Sender) (a : Answer Accepted) {at n : ℕ} → judgement xs a ≡ New at n → Placed xs a at
unfolding judgement its_line
judged_new xs (refused c) h = let z : ◌≡◌ {A = ℕ} 0 1 = cc in absurd (omega arith)
judged_new xs (accepted (new l)) h = (new l, refl, cc)
judged_new xs (accepted (resent l)) h = let z : ◌≡◌ {A = ℕ} 0 1 = cc in absurd (omega arith)

-- ---- the memory that an accepted line leaves

-- what is kept of its sender stands at that place
placed_after : (f : File) (s : State) (a : Accepted) → InTurn f s a
    → get_elem? (follow f s a).senders (place (its_line a).sender s.senders) ≡ some (kept (its_line a).sender (follow f s a).senders)
unfolding follow its_line next_state entry
placed_after f s (resent l) t = kept_there l.sender s.senders t.known
placed_after f s (new l) t =
    let x = entry f l (cycle f s.stores l.inputs).now in there_self x s.senders ∙ ap some (sym (kept_self x s.senders))

memory_followed : (print : ℕ) (f : File) (s : State) (a : Accepted) (m : List ℕ) → state_memory print f s (accepted a) m ≡ followed print f s a m
unfolding state_memory followed
memory_followed print f s (resent l) m = refl
memory_followed print f s (new l) m = refl

-- ---- a record under a header

-- above a number stands the whole length of a row
pub length_told : {n : ℕ} → n ≤ 32768 → length_answer n ≡ 256 * n
length_told {n} h = let e : n % 72057594037927936 ≡ n = omega arith in ap (λ (k : ℕ). 256 * k) e

-- the answer of the state in memory to a line
line_answers : (text : List ℕ) (f : File) (s : State) (m names values w : List ℕ) {a : Answer Accepted} → state_of (fingerprint text) f m ≡ some s
    → line f s names values ≡ a → line_in_memory text f m names values w ≡ line_answered (fingerprint text) f s a m w
unfolding line_in_state
line_answers text f s m names values w is q = rw (is, q)

-- a row that is shown is that of an accepted line
row_shown : (print : ℕ) (f : File) (s : State) (a : Accepted) (m : List ℕ) {before after : List ℕ} {r : ℕ}
    → InFront (row f (kept (its_line a).sender (follow f s a).senders)) before after r
    → r ≤ 32768
    → after_line (Ok r) (followed print f s a m) after ≡ line_accepted print f s a m before
unfolding line_accepted line_row sender_row with_row
row_shown print f s a m i short = rw (length_told short, i.is, i.count)

-- .. and stands at the memory's front
row_in_front : (f : File) (s : State) (a : Accepted) {before after : List ℕ} {r : ℕ}
    → InFront (row f (kept (its_line a).sender (follow f s a).senders)) before after r → take r after ≡ line_row f s a
unfolding line_row sender_row
row_in_front f s a i = rw (i.is, i.count) (take-append_seam (row f (kept (its_line a).sender (follow f s a).senders)) _)

same_file : {f g : File} → some f ≡ some g → f ≡ g
same_file h = cc

-- a state that stands in memory and a line leave what the definition says
line_taken : {text classes offsets lengths literals d refs scopes : List ℕ} (b : ResolvedBench text classes offsets lengths literals d refs scopes)
    (s : State) (names values : List ℕ) {state w new_state new_row : List ℕ} {r : Result ℕ Refusal}
    → state_of (fingerprint text) b.checked.bench.file state ≡ some s
    → LineTold b.checked.bench.file s names values new_row r
    → after_line r new_state new_row ≡ line_in_memory text b.checked.bench.file state names values w
    → LineTaken text b.checked.bench.file s names values state w new_state new_row r
unfolding line_in_state line_answered line_refused line_accepted state_memory
line_taken {text} b s names values {state} {w} {new_state} {new_row} {r} is told q = record {
  answered = q;
  told = told;
  stands = ap (state_of print f) (go (line f s names values) refl (rw is at q)) ∙ memory_stands b print (fingerprint_below text) state s is names values;
}
  where
    f : File
    f = b.checked.bench.file

    print : ℕ
    print = fingerprint text

    go : (a : Answer Accepted) → line f s names values ≡ a
        → after_line r new_state new_row ≡ line_answered print f s (line f s names values) state w
        → new_state ≡ state_memory print f s (line f s names values) state
    go (refused code) e p = ap (λ (x : AfterLine). x.state) p ∙ rw e refl
    go (accepted a) e p = ap (λ (x : AfterLine). x.state) p ∙ rw e (sym (memory_followed print f s a state))

module _ {text classes offsets lengths literals d refs scopes : List ℕ} (b : ResolvedBench text classes offsets lengths literals d refs scopes) where
  abbrev its_file : File
  its_file = b.checked.bench.file

  -- what is said of the file that the columns stand for is said of the text's file
  on_file : (P : File → Type 0) → P its_file → (f : File) → accepted_file text ≡ some f → P f
  on_file P p f h = subst P (same_file (sym (accepted_is_file text b.checked.accepts) ∙ h)) p

  -- ---- a header

  module _ {names columns : List ℕ} {count : ℕ} (reads : Columns.HeaderRead text classes offsets lengths d names columns count) where
    pub no_header : MOST_COLUMNS < count → NoHeader text names
    no_header more = on_file (λ f. header f names ≡ none) (go (header its_file names) refl (reads.is b.checked.bench b.checked.few))
      where
        go : (o : Option (List Column)) → header its_file names ≡ o → HeaderIs (header its_file names) count columns → header its_file names ≡ none
        go none e i = e
        go (some cs) e i = let j : HeaderIs (some cs) count columns = rw e at i in absurd (omega (arith, j.0))

    pub header_read : count ≤ MOST_COLUMNS → HeaderRead text names columns count
    header_read few = record {
      few = few;
      known = λ k h. reads.known k h few;
      is = on_file (λ f. ColumnsOf f names columns count) (go (header its_file names) refl (reads.is b.checked.bench b.checked.few));
    }
      where
        go : (o : Option (List Column)) → header its_file names ≡ o → HeaderIs (header its_file names) count columns → ColumnsOf its_file names columns count
        go none e i = let j : HeaderIs none count columns = rw e at i in absurd (omega (arith, j))
        go (some cs) e i = let j : HeaderIs (some cs) count columns = rw e at i in record { columns_of = cs; header_is = e; numbers_are = j.1 }

  -- ---- a record

  module _ {columns : List ℕ} {count : ℕ} {values state w new_state : List ℕ} {j : Judged}
      (advances : Advanced classes literals d refs scopes columns count values state new_state j) where
    pub record_refused : {error : LineError} → j ≡ Refuses (line_code error) → RecordTaken text columns count values state w new_state w (Err (Line error))
    unfolding line_in_state line_answered line_refused state_memory
    record_refused {error} q = record {
      short = tt;
      is = on_file (λ f. (s : State) → state_of (fingerprint text) f state ≡ some s → (names : List ℕ) → ColumnsOf f names columns count
          → LineTaken text f s names values state w new_state w (Err (Line error)))
          (λ s is names c.
          let f = its_file in
          let print = fingerprint text in
          let moves = advances.is text offsets lengths b print s is names c.columns_of c.header_is c.numbers_are in
          let i = judged_refused s.senders _ (sym moves.judged ∙ q) in
          let left : new_state ≡ state = moves.left ∙ ap (λ (a : Answer Accepted). state_memory print f s a state) i in
          line_taken b s names values is i (ap (λ (m : List ℕ). after_line (Err (Line error)) m w) left ∙ sym (line_answers text f s state names values w is i)));
    }

    module _ {at r : ℕ} {new_row : List ℕ} (shows : PlaceShown classes d new_state at w new_row r) where
      -- the state after an accepted line stands in memory, so the row that is shown is its sender's
      record_row : ((xs : List Sender) (a : Answer Accepted) → judgement xs a ≡ j → Placed xs a at)
          → RecordTaken text columns count values state w new_state new_row (Ok r)
      unfolding line_in_state line_answered state_after
      record_row accepts = record {
        short = shows.short;
        is = on_file (λ f. (s : State) → state_of (fingerprint text) f state ≡ some s → (names : List ℕ) → ColumnsOf f names columns count
            → LineTaken text f s names values state w new_state new_row (Ok r))
            (λ s is names c.
            let f = its_file in
            let print = fingerprint text in
            let moves = advances.is text offsets lengths b print s is names c.columns_of c.header_is c.numbers_are in
            let (a, i, p) = accepts s.senders _ (sym moves.judged) in
            let left : new_state ≡ followed print f s a state =
            moves.left ∙ ap (λ (o : Answer Accepted). state_memory print f s o state) i ∙ memory_followed print f s a state in
            let stands : state_of print f new_state ≡ some (follow f s a) =
            ap (state_of print f) moves.left
            ∙ memory_stands b print (fingerprint_below text) state s is names values
            ∙ ap (λ (o : Answer Accepted). some (state_after f s o)) i in
            let there = ap (get_elem? (follow f s a).senders) p ∙ placed_after f s a (line_read f s names values i).turn in
            let shown = shows.is text offsets lengths b.checked.bench b.checked.few print (follow f s a) stands _ there in
            line_taken b s names values is (a, i, row_in_front f s a shown)
            (ap (λ (m : List ℕ). after_line (Ok r) m new_row) left
            ∙ row_shown print f s a state shown shows.short
            ∙ sym (line_answers text f s state names values w is i)));
      }

      pub record_resent : j ≡ Resent at → RecordTaken text columns count values state w new_state new_row (Ok r)
      record_resent q = record_row (λ xs a e. judged_resent xs a (e ∙ q))

      pub record_new : {n : ℕ} → j ≡ New at n → RecordTaken text columns count values state w new_state new_row (Ok r)
      record_new q = record_row (λ xs a e. judged_new xs a (e ∙ q))

-- .. under a header that has the first of the columns that are lent
pub record_of_header : {text taken columns values state w new_state new_row : List ℕ} {count : ℕ} {r : Result ℕ Refusal}
    → length taken ≡ count → backwards count taken ≡ backwards count columns
    → RecordTaken text taken (length taken) values state w new_state new_row r → RecordTaken text columns count values state w new_state new_row r
record_of_header {taken = taken} size same t = record {
  short = t.short;
  is = λ f a s e names c. t.is f a s e names (record {
    columns_of = c.columns_of;
    header_is = c.header_is;
    numbers_are = c.numbers_are ∙ sym same ∙ ap (λ (k : ℕ). backwards k taken) (sym size);
  });
}

-- ---- a header and a record

-- what the test of memory says
pub state_told : {text classes d state : List ℕ} {print : ℕ} {is t : Bool} → print ≡ fingerprint text → StateTest print classes d state is → is ≡ t
    → {offsets lengths literals : List ℕ} (b : CheckedBench text classes offsets lengths literals d)
    → is_state (fingerprint text) b.bench.file state ≡ t
state_told {text} {state = state} p tests q {offsets} {lengths} b =
    ap (λ (k : ℕ). is_state k b.bench.file state) (sym p) ∙ sym (tests.is text offsets lengths b.bench b.few) ∙ q

pub checked_in_state : {text classes offsets lengths literals d state : List ℕ} (b : CheckedBench text classes offsets lengths literals d)
    {print : ℕ} {is t : Bool} → print ≡ fingerprint text → StateTest print classes d state is → is ≡ t → InState text state t
checked_in_state {text} b p tests q = record {
  file = b.bench.file;
  accepted = accepted_is_file text b.accepts;
  told = state_told p tests q b;
}

pub in_state : {text classes offsets lengths literals d refs scopes state : List ℕ} (b : ResolvedBench text classes offsets lengths literals d refs scopes)
    {print : ℕ} {is t : Bool} → print ≡ fingerprint text → StateTest print classes d state is → is ≡ t → InState text state t
in_state b = checked_in_state b.checked

-- on memory that is no state, and on one that is: under no header, and under one
pub line_no_state : {text state : List ℕ} → InState text state false → (names values w : List ℕ)
    → after_line (Err NoState) state w ≡ line_on_bench (fingerprint text) (accepted_file text) state names values w
unfolding line_on_bench line_in_state line_refused
line_no_state {text} {state} i names values w = rw (i.accepted, no_state (fingerprint text) i.file state i.told)

module _ {text state : List ℕ} (i : InState text state true) where
  state_is : state_of (fingerprint text) i.file state ≡ some (decode i.file state)
  state_is = state_decoded (fingerprint text) i.file state i.told

  pub line_no_header : (names : List ℕ) → NoHeader text names → (values w : List ℕ)
      → after_line (Err Header) state w ≡ line_on_bench (fingerprint text) (accepted_file text) state names values w
  unfolding line_on_bench line_in_state line_answered line_refused line if_accepted addressed or_refused
  line_no_header names n values w = rw (i.accepted, state_is, n i.file i.accepted)

  pub line_of_record : {names columns : List ℕ} {count : ℕ} → HeaderRead text names columns count
      → {values w new_state new_row : List ℕ} {r : Result ℕ Refusal} → RecordTaken text columns count values state w new_state new_row r
      → after_line r new_state new_row ≡ line_on_bench (fingerprint text) (accepted_file text) state names values w
  unfolding line_on_bench
  line_of_record {names} h t = rw i.accepted (t.is i.file i.accepted _ state_is names (h.is i.file i.accepted)).answered
