-- A call on a text: what the parts that serve it say of it.
use Prim.Native.Nat.{ℕ, ◌-◌, ◌*◌, ◌≤◌, ◌<◌}
use native.Mathlib.Omega.{arith}
use mathlib.Core.Path.{◌≡◌, refl, sym, ap, ◌∙◌, subst}
use mathlib.Core.Bool.{Bool, true, false, ◌||◌}
use mathlib.Core.List.{List, []}
use mathlib.Core.Option.{none, some}
use lib.Dec.{leb, ltb}
use lib.ListN.{length, take, drop, length-take}
use borrow.Author.Tests.{le-leb, le-ltb, lt-ltb}
use Rattle.values.specs.definitions.Bytes.{word_at}
use Rattle.text.specs.inner_contracts.TokenTable.{TokenColumns, lacks_rows}
use Rattle.checking.specs.declared.faults.Fault.{Fault}
use Rattle.checking.specs.declared.check.CheckError.TheVariants as errors
use Rattle.checking.specs.inner_contracts.FoundFaults.{fault_code}
use Rattle.checking.specs.definitions.Verdict.{Verdict, verdict, verdict_answer, file_of, accepted_file, MOST_BYTES}
use mathlib.Core.Logic.{◌⊎◌, inl, inr}
use Rattle.checking.proofs.laws.CheckLaws.{room_for_all}
use Rattle.checking.proofs.laws.VerdictLaws.{accepted_length as text-length, accepted_is_file}
use Rattle.checking.specs.inner_contracts.CheckedBench.{CheckedBench, Checked, Accepts, Says, has_room, Checks}
use Rattle.reads.specs.inner_contracts.RulesResolved.{RulesResolved}
use Rattle.cycles.specs.inner_contracts.RowMemory.{HeaderPut}
use Rattle.cycles.proofs.laws.RowPuts.{short_names}
use Rattle.senders.specs.definitions.Sender.{MOST_NAME_BYTES, is_sender}
use Rattle.senders.specs.definitions.Answer.{Answer, refused, accepted}
use Rattle.senders.specs.definitions.Fingerprint.{fingerprint}
use Rattle.senders.specs.definitions.StateImage.{state_of}
use Rattle.senders.specs.inner_contracts.SenderMemory.{StateTest}
use Rattle.senders.specs.inner_contracts.RowMemory.{Shown, FreshStatePut}
use Rattle.senders.proofs.laws.SenderLaws.{name_short}
use Rattle.senders.proofs.laws.StateLaws.{state_decoded, no_state}
use Rattle.days.specs.declared.sheet.SheetError.{SheetError}
use Rattle.days.specs.inner_contracts.SheetMemory.{sheeted_as, code_of as sheet_code}
use Rattle.days.specs.definitions.DaySheet.{sheet_if_state}
use Rattle.days.specs.inner_contracts.SheetMemory.{SheetIs, SheetPut}
use Rattle.std.specs.Prelude.{Result, Ok, Err}
use Rattle.engine.specs.declared.refusal.Refusal.{Refusal}
use Rattle.engine.specs.declared.refusal.Refusal.TheVariants as refused_as
use Rattle.engine.specs.inner_contracts.Refusals.{answer_of}
use Rattle.engine.specs.definitions.BenchImage.{with_bench, bench_of, text_in}
use Rattle.engine.specs.definitions.Calls.{
  ROW,
  with_row,
  AfterLine,
  AfterSheet,
  checked,
  freshened,
  line_refused,
  line_on_bench,
  row_written,
  header_on_bench,
  row_on_bench,
  row_in_state,
  row_if_named,
  sheet_answered,
  sheet_on_bench,
  length_answer,
}
use Rattle.engine.proofs.laws.LineLaws.{state_told, length_told}
use Rattle.engine.specs.inner_contracts.Serving.{served_check, served_fresh, served_line, served_row, served_sheet}
use Rattle.engine.specs.inner_contracts.Benches.{Stands}
use Rattle.senders.specs.inner_contracts.Advancing.{ResolvedBench}
use Rattle.cycles.specs.inner_contracts.ReadSets.{SCOPES_BYTES}
use Rattle.text.specs.definitions.Answers.{refusal_answer as placed}

-- ---- a sender

pub sender_short : (name : List ℕ) {is : Bool} → is ≡ is_sender name → is ≡ true → length name ≤ MOST_NAME_BYTES
sender_short name e h = name_short name (rw (sym e ∙ h) tt)

-- ---- the check's answer

pub accepted_says : {text d : List ℕ} {u : TokenColumns} {r : Checked} {n : ℕ} → r ≡ Ok n → Says text u d r → Accepts text u d n
accepted_says {text} {d} {u} e s = subst (Says text u d) e s

pub refused_says : (text d : List ℕ) (u : TokenColumns) {r : Checked} {f : Fault} → r ≡ Err (errors.Refused f) → Says text u d r
    → verdict text ≡ Verdict.refused_at (fault_code f.kind) f.at
refused_says text d u e s = subst (Says text u d) e s

-- ---- a sheet

-- what is put says of the call
abbrev pub sheeted : Result ℕ SheetError → Result ℕ Refusal
sheeted (Err error) = Err (refused_as.Sheet error)
sheeted (Ok n) = Ok n

sheet_said : (a : Answer (List ℕ)) (m : List ℕ) {new : List ℕ} (t : Result ℕ SheetError) → SheetIs a m new (sheeted_as t)
    → record { answer = answer_of (sheeted t); sheet = new } ≡ sheet_answered a m
unfolding sheet_answered with_row
sheet_said (refused code) m (Err error) (e, i) = let z : code ≡ sheet_code error = cc in rw (z, i)
sheet_said (refused code) m (Ok n) (e, i) = let z : ◌≡◌ {A = ℕ} 0 1 = cc in absurd (omega arith)
sheet_said (accepted bytes) m (Ok n) (e, i) = let z : n ≡ length bytes = cc in rw (z, i.is)
sheet_said (accepted bytes) m (Err error) (e, i) = let z : ◌≡◌ {A = ℕ} 0 1 = cc in absurd (omega arith)

-- ---- an accepted text

accepted_is : {text classes offsets lengths literals d : List ℕ} (c : CheckedBench text classes offsets lengths literals d)
    → accepted_file text ≡ some c.bench.file
accepted_is {text} c = accepted_is_file text c.accepts

-- room for the columns of a text, and what stands in it
pub stands_short : {text classes offsets lengths literals d refs scopes : List ℕ} → Stands text classes offsets lengths literals d refs scopes
    → length text ≤ MOST_BYTES
stands_short {text} s = text-length text s.checked.accepts

pub rules_stand : {text classes offsets lengths literals d refs scopes new_refs new_scopes : List ℕ}
    → Stands text classes offsets lengths literals d refs scopes
    → RulesResolved text classes offsets lengths d refs scopes new_refs new_scopes
    → ResolvedBench text classes offsets lengths literals d new_refs new_scopes
rules_stand s r = record { checked = s.checked; references = r.references; scopes_are = r.scopes_are; reads_are = r.reads_are }

module _ {text classes offsets lengths literals d : List ℕ} (c : CheckedBench text classes offsets lengths literals d) where
  pub header_is : {row new : List ℕ} {n : ℕ} → HeaderPut text classes offsets lengths d row new n
      → record { answer = length_answer n; row = new } ≡ header_on_bench (accepted_file text) row
  unfolding header_on_bench row_written with_row
  header_is p =
      let s = short_names c.lexed c.bench.columns in
      let i = p.is c.bench c.few s in
      rw (accepted_is c, length_told (p.short c.bench c.few s), i.is, i.count)

  pub header_short : {row new : List ℕ} {n : ℕ} → HeaderPut text classes offsets lengths d row new n → n ≤ ROW
  header_short p = p.short c.bench c.few (short_names c.lexed c.bench.columns)

module _ {text classes offsets lengths literals d refs scopes : List ℕ} (stands : Stands text classes offsets lengths literals d refs scopes) where
  c : CheckedBench text classes offsets lengths literals d
  c = stands.checked

  pub image_is : (out : List ℕ) {new : List ℕ} → new ≡ with_bench text out → record { answer = 0; bench = new } ≡ checked (verdict text) text out
  unfolding checked verdict_answer
  image_is out e = rw (c.accepts, e)

  pub fresh_is : {print : ℕ} {state new : List ℕ} → print ≡ fingerprint text → FreshStatePut text classes offsets lengths literals d print state new
      → record { answer = 0; state = new } ≡ freshened (fingerprint text) (accepted_file text) state
  unfolding freshened
  fresh_is e p = rw (accepted_is c, ← e, p.is c.bench c.few c.valued)

  module _ {print : ℕ} (p : print ≡ fingerprint text) {shown : List ℕ} {is : Bool} (tests : StateTest print classes d shown is) where
    pub row_of_no_state : is ≡ false → (sender row : List ℕ)
        → record { answer = 33; row = row } ≡ row_on_bench (fingerprint text) (accepted_file text) shown sender row
    unfolding row_on_bench row_in_state
    row_of_no_state q sender row = rw (accepted_is c, no_state (fingerprint text) c.bench.file shown (state_told p tests q c))

    pub row_of_no_sender : is ≡ true → (sender row : List ℕ) → is_sender sender ≡ false
        → record { answer = 43; row = row } ≡ row_on_bench (fingerprint text) (accepted_file text) shown sender row
    unfolding row_on_bench row_in_state row_if_named
    row_of_no_sender q sender row n = rw (accepted_is c, state_decoded (fingerprint text) c.bench.file shown (state_told p tests q c), n)

    pub row_is : is ≡ true → {sender row new : List ℕ} {n : ℕ} → is_sender sender ≡ true → Shown classes d shown sender row new n
        → record { answer = length_answer n; row = new } ≡ row_on_bench (fingerprint text) (accepted_file text) shown sender row
    unfolding row_on_bench row_in_state row_if_named row_written with_row
    row_is q n shows =
        let o = state_decoded (fingerprint text) c.bench.file shown (state_told p tests q c) in
        let i = shows.is text offsets lengths c.bench c.few (fingerprint text) _ o in
        rw (accepted_is c, o, n, length_told shows.short, i.is, i.count)

module _ {text classes offsets lengths literals d refs scopes : List ℕ} (b : ResolvedBench text classes offsets lengths literals d refs scopes) where
  pub sheet_is : {state readings cells out new : List ℕ} {t k : Result ℕ SheetError}
      → SheetPut text classes offsets lengths literals d refs scopes state readings cells out new (sheeted_as t) → t ≡ k
      → record { answer = answer_of (sheeted k); sheet = new } ≡ sheet_on_bench (fingerprint text) (accepted_file text) state readings cells out
  unfolding sheet_on_bench
  sheet_is {state} {readings} {cells} {out} {new} {t} puts e =
      let f = b.checked.bench.file in
      rw (accepted_is b.checked, ← e) (sheet_said (sheet_if_state f (state_of (fingerprint text) f state) readings cells) out t (puts.is b))

-- ---- a refused text

module _ (text : List ℕ) {code at : ℕ} (v : verdict text ≡ Verdict.refused_at code at) where
  pub check_refused : (state out : List ℕ) → record { answer = placed code at; state = state; out = out } ≡ served_check (checked (verdict text) text out) state
  unfolding checked verdict_answer
  check_refused state out = rw v

  pub no_file : accepted_file text ≡ none
  unfolding accepted_file file_of
  no_file = rw v

  pub fresh_refused : (state out : List ℕ) → record { answer = 32; state = state; out = out }
      ≡ served_fresh (freshened (fingerprint text) (accepted_file text) state) out
  unfolding freshened
  fresh_refused state out = rw no_file

  pub line_refuses : (names values state out : List ℕ) → record { answer = 32; state = state; out = out }
      ≡ served_line (line_on_bench (fingerprint text) (accepted_file text) state names values out)
  unfolding line_on_bench line_refused
  line_refuses names values state out = rw no_file

  pub header_refused : (state out : List ℕ) → record { answer = 32; state = state; out = out } ≡ served_row (header_on_bench (accepted_file text) out) state
  unfolding header_on_bench
  header_refused state out = rw no_file

  pub row_refused : (shown sender state out : List ℕ) → record { answer = 32; state = state; out = out }
      ≡ served_row (row_on_bench (fingerprint text) (accepted_file text) shown sender out) state
  unfolding row_on_bench
  row_refused shown sender state out = rw no_file

  pub sheet_refused : (shown readings cells state out : List ℕ) → record { answer = 32; state = state; out = out }
      ≡ served_sheet (sheet_on_bench (fingerprint text) (accepted_file text) shown readings cells out) state
  unfolding sheet_on_bench
  sheet_refused shown readings cells state out = rw no_file

-- ---- the bench image

-- memory whose length is too great holds no text, and no check accepts that
pub text_accepted : (m : List ℕ) → accepted_file (text_in m) ≡ bench_of m
unfolding text_in bench_of
text_accepted m = go (leb (word_at 4 m 0) MOST_BYTES)
  where
    go : (b : Bool) → accepted_file (elim b [ true ↦ take (word_at 4 m 0) (drop 4 m) | false ↦ [] ])
        ≡ elim b [ true ↦ accepted_file (take (word_at 4 m 0) (drop 4 m)) | false ↦ none ]
    go true = refl
    go false = refl

-- ---- a text, by the check's answer

module _ {text d e : List ℕ} {t u : TokenColumns} {r : Checked} (checks : Checks text t u d e r) where
  pub text_refused : {f : Fault} → r ≡ Err (errors.Refused f) → verdict text ≡ Verdict.refused_at (fault_code f.kind) f.at
  text_refused q = refused_says text e u q checks.says

  module _ {n : ℕ} (q : r ≡ Ok n) where
    accepts : Accepts text u e n
    accepts = accepted_says q checks.says

    pub accepted_rows : n ≤ length u.classes
    accepted_rows = accepts.rows.0

    pub accepted_length : length text ≤ MOST_BYTES
    accepted_length = text-length text accepts.stands.accepts

    pub text_stands : {refs scopes : List ℕ} → length u.classes ≤ length refs → SCOPES_BYTES ≤ length scopes
        → Stands text (take n u.classes) u.offsets u.lengths u.values e refs scopes
    text_stands h g = record { checked = accepts.stands; room = let m = length-take n u.classes in rw m (omega arith); scopes_room = g }

    -- the first rows, as code lends them
    pub rows_fit : {most : ℕ} → length t.classes ≤ most → length (take (n - 0) u.classes) ≤ most
    rows_fit h =
        let k = checks.classes_kept in
        let m = length-take (n - 0) u.classes in
        rw m (omega arith)

or_true : (b : Bool) → (b || true) ≡ true
or_true true = refl
or_true false = refl

-- a row for each byte of a text is enough
pub enough_room : (text : List ℕ) (t : TokenColumns) (d : List ℕ) → length text ≤ length t.classes → length text ≤ length t.offsets
    → length text ≤ length t.lengths → length text ≤ length t.values → 355 ≤ length d → has_room text t d ≡ true
unfolding has_room lacks_rows
enough_room text t d a b c e f =
    rw (
      le-leb 355 (length d) f,
      le-ltb (length t.classes) (length text) a,
      le-ltb (length t.offsets) (length text) b,
      le-ltb (length t.lengths) (length text) c,
      le-ltb (length t.values) (length text) e,
    )
    (or_true (ltb MOST_BYTES (length text)))

-- a text that is too long is told apart before any column is
room_if_long : (text : List ℕ) (t : TokenColumns) (d : List ℕ) → MOST_BYTES < length text → 355 ≤ length d → has_room text t d ≡ true
unfolding has_room
room_if_long text t d h f = rw (le-leb 355 (length d) f, lt-ltb MOST_BYTES (length text) h) refl

-- room for a text of n bytes, or for any text, or for one that is too long whatever the room
pub room_enough : (text : List ℕ) (t : TokenColumns) (d : List ℕ) {n : ℕ} → (length text ≤ n) ⊎ ((MOST_BYTES ≤ n) ⊎ (MOST_BYTES < length text)) → n ≤ length t.classes
    → n ≤ length t.offsets → n ≤ length t.lengths → n ≤ length t.values → 355 ≤ length d → has_room text t d ≡ true
room_enough text t d (inl h) a b c e f = enough_room text t d (omega arith) (omega arith) (omega arith) (omega arith) f
room_enough text t d (inr (inl h)) a b c e f = room_for_all text t d (omega arith) (omega arith) (omega arith) (omega arith) f
room_enough text t d (inr (inr h)) a b c e f = room_if_long text t d h f
