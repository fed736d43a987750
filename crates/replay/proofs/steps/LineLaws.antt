-- What a line prints stands at the buffer's front: its row, or its refusal.
use Prim.Native.Nat.{ℕ, ◌+◌, ◌*◌, ◌≤◌, ◌<◌}
use native.Mathlib.Numerals.{add-one}
use native.Mathlib.Omega.{arith}
use mathlib.Core.Path.{◌≡◌, refl, sym, ap, ◌∙◌, subst}
use mathlib.Core.List.{List, [], ◌∷◌, ◌++◌, append_assoc}
use lib.ListN.{length, take, drop, set, length-append}
use lib.Seq.{take_at, take-suc-set, take-append_seam}
use Rattle.values.specs.definitions.Forms.{decimal}
use Rattle.values.proofs.laws.ByteLaws.{overwritten_parts}
use Rattle.values.specs.inner_contracts.Puts.{Put}
use Rattle.values.proofs.laws.PutLaws.{put_next, put_same}
use Rattle.values.proofs.laws.FormLaws.{decimal_most}
use Rattle.text.specs.definitions.Syntax.{File}
use Rattle.checking.specs.definitions.Verdict.{accepted_file}
use Rattle.cycles.specs.definitions.Readings.{PartOfLine}
use Rattle.cycles.specs.definitions.Row.{row_header}
use Rattle.cycles.specs.inner_contracts.HeaderReads.{MOST_COLUMNS, NO_COLUMN}
use Rattle.senders.specs.definitions.Sender.{State}
use Rattle.senders.specs.definitions.Line.{line}
use Rattle.senders.specs.definitions.Turns.{state_after}
use Rattle.std.specs.Prelude.{Result, Ok, Err, get_or, IfOk, MatchResult}
use Rattle.engine.specs.definitions.Calls.{ROW, length_answer, line_row, header_on_bench, row_written, with_row, AfterRow}
use Rattle.engine.specs.declared.refusal.Refusal.{Refusal}
use Rattle.engine.specs.inner_contracts.Refusals.{code_of}
use Rattle.engine.specs.inner_contracts.LineMemory.{HeaderRead, RecordTaken, LineTold}
use Rattle.engine.proofs.laws.LineLaws.{length_told}
use Rattle.replay.specs.definitions.Replay.{REFUSED, refusal, bench_refusal, row_for}
use Rattle.replay.specs.inner_contracts.Awaiting.{Awaits, names_row, awaited_under, prints, awaited_after, Memory, StandsAt, Stood}
use Rattle.replay.specs.inner_contracts.Awaiting.Awaits.{names, values, nothing}
use Rattle.replay.specs.inner_contracts.Feeding.{ROOM, Takes, LinePut, LinePutOn, ended_row, Ended, HeaderTaken, NamesRefused}
use Rattle.replay.specs.declared.Stage.{Stage}
use Rattle.replay.specs.declared.Stage.TheVariants.{Names, Values, Closed}

-- ---- refusals

-- bytes that are put at the front
pub printed : (out : List ℕ) {x o2 : List ℕ} {n : ℕ} → Put x out 0 o2 n → length x ≤ length out → take n o2 ≡ x
printed out {x} a h = rw (a.is, a.end, overwritten_parts out 0 x (omega (arith, h))) (take_at x (drop (0 + length x) out) (0 + length x) (omega arith))

pub refusal_most : (code : ℕ) → length (refusal code) ≤ 18
unfolding refusal
refusal_most code = let h = decimal_most code in simp length-append (omega arith)

pub refusal_put : (out : List ℕ) (code : ℕ) {o2 o3 : List ℕ} {word end : ℕ} → Put REFUSED out 0 o2 word
    → Put (decimal code) o2 word o3 end → Put (refusal code) out 0 o3 end
unfolding refusal
refusal_put out code a b = put_next a b

pub bench_refusal_put : (out : List ℕ) (code at : ℕ) {o1 o2 o3 o4 : List ℕ} {word space end r : ℕ} → Put (refusal code) out 0 o1 word
    → Put (32 ∷ []) o1 word o2 space → Put (decimal at) o2 space o3 end → Put (10 ∷ []) o3 end o4 r
    → Put (bench_refusal code at ++ 10 ∷ []) out 0 o4 r
unfolding bench_refusal
bench_refusal_put out code at a b c d =
    put_same (put_next (put_next (put_next a b) c) d)
    (ap (λ (t : List ℕ). t ++ 10 ∷ []) (append_assoc (refusal code) (32 ∷ []) (decimal at)))

-- ---- a row is ended, or its refusal

pub row_ended : (out : List ℕ) {row : Result ℕ Refusal} {n : ℕ} → IfOk row (λ n. n ≤ ROW) → row ≡ Ok n → ROOM ≤ length out → Ended row out (set out n 10) (n + 1)
row_ended out {n = n} i e room =
    let short : n ≤ ROW = rw e at i in
    rw e (record { short = omega arith; is = ap (λ (k : ℕ). take k (set out n 10)) (add-one n) ∙ take-suc-set out n 10 (omega arith) })

pub refusal_ended : (out : List ℕ) {row : Result ℕ Refusal} (why : Refusal) {code : ℕ} → row ≡ Err why → code ≡ code_of why → ROOM ≤ length out
    → {o2 o3 : List ℕ} {end r : ℕ} → Put (refusal code) out 0 o2 end → Put (10 ∷ []) o2 end o3 r → Ended row out o3 r
refusal_ended out why {code} e i room a b =
    let all = put_next a b in
    let k = refusal_most code in
    let l = length-append (refusal code) (10 ∷ []) in
    rw e (record { short = let z = all.end in omega arith; is = printed out all (omega arith) ∙ ap (λ (x : ℕ). refusal x ++ 10 ∷ []) i })

-- ---- a line of names

pub header_taken : {text line : List ℕ} {count : ℕ} {columns : List ℕ} (before : List ℕ) {row : List ℕ} {n : ℕ} → HeaderRead text line columns count
    → record { answer = length_answer n; row = row } ≡ header_on_bench (accepted_file text) before → n ≤ ROW
    → HeaderTaken text line (Values count) columns row n
unfolding header_on_bench row_written with_row
header_taken {text} {count = count} before {row} {n} h e short = record {
  count = count;
  stage_is = refl;
  header_is = h;
  short = short;
  row_is = λ f i.
      let w : record { answer = length_answer n; row = row } ≡ row_written (row_header f) before = rw i at e in
      let l : 256 * n ≡ 256 * length (row_header f) = sym (length_told short) ∙ ap (λ (x : AfterRow). x.answer) w in
      let k : n ≡ length (row_header f) = omega arith in
      let r : row ≡ with_row (row_header f) before = ap (λ (x : AfterRow). x.row) w in
      rw (k, r) (take-append_seam (row_header f) _);
}

-- memory after a line, and what is known of it before
abbrev after : Memory → Stage → List ℕ → List ℕ → Memory
after m stage columns state = record { text = m.text; stage = stage; columns = columns; waiting = []; state = state }

module _ (m : Memory) (part : PartOfLine m.waiting) {out : List ℕ} {r : ℕ} where
  module _ (at : m.stage ≡ Names) {stage : Stage} {columns row : List ℕ} where
    names_refused : {why : Refusal} → NamesRefused m.text m.waiting stage why → Ended (Err why) row out r → LinePut m (after m stage columns m.state) out r
    unfolding prints names_row awaited_after awaited_under
    names_refused {why} n e = record {
      short = e.short;
      part = part;
      none_waits = refl;
      is = λ a s. go m.stage at a s;
    }
      where
        go : (st : Stage) → st ≡ Names → (a : Awaits) → StandsAt m.text a st m.columns m.state
            → Takes m a (after m stage columns m.state) out r
        go Names h (names f) q =
            let i = n.no_header f q.accepted in
            record { printed = rw i (e.is ∙ rw n.why_is refl); stands = rw (i, n.stage_is) tt }
        go Names h (values _ _ _) q = elim q [ ]
        go Names h nothing q = elim q [ ]
        go (Values count) h a q = let z : ◌≡◌ {A = ℕ} 0 1 = cc in absurd (omega arith)
        go Closed h a q = let z : ◌≡◌ {A = ℕ} 0 1 = cc in absurd (omega arith)

    names_taken : {n : ℕ} → HeaderTaken m.text m.waiting stage columns row n → Ended (Ok n) row out r → LinePut m (after m stage columns m.state) out r
    unfolding prints names_row awaited_after awaited_under
    names_taken {n} t e = record {
      short = e.short;
      part = part;
      none_waits = refl;
      is = λ a s. go m.stage at a s;
    }
      where
        go : (st : Stage) → st ≡ Names → (a : Awaits) → StandsAt m.text a st m.columns m.state
            → Takes m a (after m stage columns m.state) out r
        go Names h (names f) q =
            let c = t.header_is.is f q.accepted in
            record {
              printed = rw c.header_is (e.is ∙ ap (λ (x : List ℕ). x ++ 10 ∷ []) (t.row_is f q.accepted));
              stands = rw (c.header_is, t.stage_is) (record { accepted = q.accepted; state_is = q.state_is; header_is = t.header_is });
            }
        go Names h (values _ _ _) q = elim q [ ]
        go Names h nothing q = elim q [ ]
        go (Values count) h a q = let z : ◌≡◌ {A = ℕ} 0 1 = cc in absurd (omega arith)
        go Closed h a q = let z : ◌≡◌ {A = ℕ} 0 1 = cc in absurd (omega arith)

    pub names_put : {names : Result ℕ Refusal} → MatchResult names (HeaderTaken m.text m.waiting stage columns row) (NamesRefused m.text m.waiting stage)
        → Ended names row out r → LinePut m (after m stage columns m.state) out r
    names_put {names = Ok n} t e = names_taken t e
    names_put {names = Err why} t e = names_refused t e

    -- .. on one bench
    pub names_put_on : {names : Result ℕ Refusal}
        → MatchResult names (HeaderTaken m.text m.waiting stage columns row) (NamesRefused m.text m.waiting stage)
        → Ended names row out r → LinePutOn m (after m stage columns m.state) out r
    names_put_on t e = record { same = refl; put = names_put t e }

  -- ---- a line of values

  pub values_put : {count : ℕ} → m.stage ≡ Values count → {new_state before row : List ℕ} {taken : Result ℕ Refusal}
      → RecordTaken m.text m.columns count m.waiting m.state before new_state row taken
      → Ended taken row out r → LinePut m (after m m.stage m.columns new_state) out r
  unfolding prints awaited_after row_for state_after line_row
  values_put {count} at {new_state} {before} {row} {taken} t e = record {
    short = e.short;
    part = part;
    none_waits = refl;
    is = λ a s. go m.stage at a s;
  }
    where
      shown : (f : File) (s : State) (ns : List ℕ) (w : Result ℕ Refusal) → LineTold f s ns m.waiting row w
          → ended_row w row ≡ row_for f (line f s ns m.waiting) (state_after f s (line f s ns m.waiting)) ++ 10 ∷ []
      shown f s ns (Err why) i = rw i refl
      shown f s ns (Ok n) (a, i, q) = rw (i, q) refl

      go : (st : Stage) → st ≡ Values count → (a : Awaits) → StandsAt m.text a st m.columns m.state
          → Takes m a (after m st m.columns new_state) out r
      go (Values k) h (values f ns s) q =
          let same : k ≡ count = cc in
          let h2 = subst (λ (x : ℕ). HeaderRead m.text ns m.columns x) same q.header_is in
          let i = t.is f q.accepted s q.state_is ns (h2.is f q.accepted) in
          record {
            printed = e.is ∙ shown f s ns taken i.told;
            stands = record { accepted = q.accepted; state_is = i.stands; header_is = q.header_is };
          }
      go (Values k) h (names _) q = elim q [ ]
      go (Values k) h nothing q = elim q [ ]
      go Names h a q = let z : ◌≡◌ {A = ℕ} 0 1 = cc in absurd (omega arith)
      go Closed h a q = let z : ◌≡◌ {A = ℕ} 0 1 = cc in absurd (omega arith)

  -- .. on one bench
  pub values_put_on : {count : ℕ} → m.stage ≡ Values count → {new_state before row : List ℕ} {taken : Result ℕ Refusal}
      → RecordTaken m.text m.columns count m.waiting m.state before new_state row taken
      → Ended taken row out r → LinePutOn m (after m m.stage m.columns new_state) out r
  values_put_on at t e = record { same = refl; put = values_put at t e }

-- ---- nothing is awaited

pub nothing_put : (m : Memory) (part : PartOfLine m.waiting) (out : List ℕ) → m.stage ≡ Closed → LinePut m (after m m.stage m.columns m.state) out 0
unfolding prints awaited_after
nothing_put m part out at = record {
  short = omega arith;
  part = part;
  none_waits = refl;
  is = λ a s. go m.stage at a s;
}
  where
    go : (st : Stage) → st ≡ Closed → (a : Awaits) → StandsAt m.text a st m.columns m.state → Takes m a (after m st m.columns m.state) out 0
    go Closed h nothing q = record { printed = refl; stands = tt }
    go Closed h (names _) q = elim q [ ]
    go Closed h (values _ _ _) q = elim q [ ]
    go Names h a q = let z : ◌≡◌ {A = ℕ} 0 1 = cc in absurd (omega arith)
    go (Values k) h a q = let z : ◌≡◌ {A = ℕ} 0 1 = cc in absurd (omega arith)

-- .. on one bench
pub nothing_put_on : (m : Memory) (part : PartOfLine m.waiting) (out : List ℕ) → m.stage ≡ Closed
    → LinePutOn m (after m m.stage m.columns m.state) out 0
nothing_put_on m part out at = record { same = refl; put = nothing_put m part out at }

-- ---- what is known of memory

-- what the engine asks of the columns
pub values_known : (m : Memory) {count : ℕ} → m.stage ≡ Values count → Stood m → MOST_COLUMNS ≤ length m.columns
    → (count ≤ length m.columns) × ((k : ℕ) → k < count → get_or m.columns k 0 < NO_COLUMN)
values_known m {count} at s h = go m.stage at s.awaits s.stands
  where
    go : (st : Stage) → st ≡ Values count → (a : Awaits) → StandsAt m.text a st m.columns m.state
        → (count ≤ length m.columns) × ((k : ℕ) → k < count → get_or m.columns k 0 < NO_COLUMN)
    go (Values k) e (values f ns t) q =
        let same : k ≡ count = cc in
        let r = subst (λ (x : ℕ). HeaderRead m.text ns m.columns x) same q.header_is in
        (omega (arith, r.few), r.known)
    go (Values k) e (names _) q = elim q [ ]
    go (Values k) e nothing q = elim q [ ]
    go Names e a q = let z : ◌≡◌ {A = ℕ} 0 1 = cc in absurd (omega arith)
    go Closed e a q = let z : ◌≡◌ {A = ℕ} 0 1 = cc in absurd (omega arith)

-- after a line memory stands for what is awaited then
pub still_stood : {m n : Memory} {out : List ℕ} {r : ℕ} → Stood m → LinePut m n out r → Stood n
still_stood s p = record {
  awaits = _;
  stands = (p.is s.awaits s.stands).stands;
  part = rw p.none_waits tt;
}
