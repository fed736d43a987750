-- A record on a state in memory: what its parts say of it, and the memory that it leaves.
use Prim.Native.Nat.{ℕ, ◌*◌}
use mathlib.Core.Path.{◌≡◌, refl, sym, ap, ap₂, ◌∙◌}
use mathlib.Core.Bool.{Bool, true, false}
use mathlib.Core.List.{List}
use mathlib.Core.Option.{some}
use lib.Dec.{eqb}
use lib.ListN.{length, get_or, drop}
use borrow.Author.Tests.{eq-eqb, ne_eqb}
use Rattle.text.specs.definitions.Syntax.{File}
use Rattle.checking.specs.inner_contracts.DirectoryReads.{Few}
use Rattle.cycles.specs.definitions.Spots.{every}
use Rattle.cycles.specs.definitions.Header.{Column, header}
use Rattle.cycles.specs.definitions.Record.{Sent, record_of, Input, inputs_in, inputs_of, takes_input}
use Rattle.cycles.specs.definitions.Planes.{entity_count, decode_store, decode_stores, each}
use Rattle.cycles.proofs.laws.PlaneTestLaws.{behind, behind_all}
use Rattle.cycles.proofs.laws.SoundLine.{header_sound, inputs_sound}
use Rattle.senders.specs.inner_contracts.Judging.{Refused, New, Resent}
use Rattle.senders.specs.definitions.Sender.{State, Line, kept}
use Rattle.senders.specs.definitions.Answer.{Answer, refused, accepted}
use Rattle.senders.specs.definitions.Line.{Accepted, new, resent, Reading, line_of, is_resent, in_turn, judged, line_in}
use Rattle.senders.specs.definitions.StateImage.{state_of, with_state, decode}
use Rattle.senders.specs.inner_contracts.TotalFollow.{follow}
use Rattle.senders.specs.inner_contracts.SenderMemory.{place}
use Rattle.senders.specs.inner_contracts.Judging.{judgement, takes_cell, InputsStand}
use Rattle.senders.specs.inner_contracts.Advancing.{ResolvedBench, state_memory, Moves, LastRead, ResentRead, Followed, reading_with, Settled}
use Rattle.senders.proofs.laws.TakesLaws.{said_apart, takes_each, cells_tested}
use Rattle.senders.proofs.laws.StateLaws.{is_decoded}

-- ---- what a judgement says, and the memory that is left

module _ (print : ℕ) (f : File) (s : State) (m : List ℕ) where
  pub moves_refused : {a : Answer Accepted} {code : ℕ} → a ≡ refused code → Moves print f s a m m (Refused code)
  unfolding judgement state_memory
  moves_refused e = rw e (record { judged = refl; left = refl })

  pub moves_resent : {a : Answer Accepted} (l : Line) {at : ℕ} → a ≡ accepted (resent l) → at ≡ place l.sender s.senders → Moves print f s a m m (Resent at)
  unfolding judgement state_memory
  moves_resent l e q = rw e (record { judged = ap Resent q; left = refl })

  pub moves_new : {a : Answer Accepted} {new_m : List ℕ} (l : Line) {at number : ℕ} → a ≡ accepted (new l) → at ≡ place l.sender s.senders
      → number ≡ l.number → new_m ≡ with_state print f (follow f s (new l)) m → Moves print f s a m new_m (New at number)
  unfolding judgement state_memory
  moves_new l e q n c = rw e (record { judged = ap₂ New q n; left = c })

-- ---- a reading in a state, test by test

module _ (f : File) (s : State) (rd : Reading) where
  pub in_resent : is_resent f s (line_of rd) ≡ true → line_in f s rd ≡ accepted (resent (line_of rd))
  unfolding line_in judged
  in_resent e = rw e

  module _ (e : is_resent f s (line_of rd) ≡ false) where
    pub in_absent : every (takes_input s.stores.now (inputs_of rd.inputs)) rd.inputs ≡ false → line_in f s rd ≡ refused 23
    unfolding line_in judged line_of
    in_absent t = rw (e, t)

    module _ (t : every (takes_input s.stores.now (inputs_of rd.inputs)) rd.inputs ≡ true) where
      pub in_out_of_turn : in_turn (kept rd.sender s.senders).last rd.number ≡ false → line_in f s rd ≡ refused 24
      unfolding line_in judged line_of
      in_out_of_turn u = rw (e, t, u)

      module _ (u : in_turn (kept rd.sender s.senders).last rd.number ≡ true) where
        pub in_other : eqb rd.number (kept rd.sender s.senders).last ≡ true → line_in f s rd ≡ refused 25
        unfolding line_in judged line_of
        in_other v = rw (e, t, u, v)

        pub in_new : eqb rd.number (kept rd.sender s.senders).last ≡ false → line_in f s rd ≡ accepted (new (line_of rd))
        unfolding line_in judged line_of
        in_new v = rw (e, t, u, v)

-- ---- a line that is read

-- the store now stands behind the head
now_in : (print : ℕ) (f : File) (m : List ℕ) {s : State} → state_of print f m ≡ some s → s.stores.now ≡ decode_store (entity_count f) (drop 5 m)
unfolding decode decode_stores
now_in print f m h = ap (λ (t : State). t.stores.now) (is_decoded print f m h)

-- the test of its cells in memory is that of its inputs
takes_memory : (print : ℕ) (f : File) → Few f → (state : List ℕ) {s : State} → state_of print f state ≡ some s
    → (names values : List ℕ) {cs : List Column} → header f names ≡ some cs → {x : Sent} → record_of (length cs) values ≡ some x
    → {is : List Input} → inputs_in cs x.texts ≡ some is → {flags cells : List ℕ} → InputsStand f flags cells (inputs_of is)
    → each (takes_cell (behind 5 state) flags cells) 0 (12 * entity_count f) ≡ every (takes_input s.stores.now (inputs_of is)) is
takes_memory print f few state h names values {cs} p {x} r {is} i stand =
    rw (behind_all 5 state, now_in print f state h)
    (cells_tested f (drop 5 state) (inputs_of is) stand
    ∙ sym (takes_each f few (decode_store (entity_count f) (drop 5 state)) is (said_apart f few names values p r i)
    (inputs_sound f cs x.texts (header_sound f names p) i)))

-- what the test of its cells in memory says
told_taken : {text classes offsets lengths literals d refs scopes flags cells : List ℕ} (state : List ℕ)
    (b : ResolvedBench text classes offsets lengths literals d refs scopes) {count : ℕ} → count ≡ get_or d 1 0
    → {takes : Bool} → takes ≡ each (takes_cell (behind 5 state) flags cells) 0 (12 * count)
    → (print : ℕ) (s : State) → state_of print b.checked.bench.file state ≡ some s
    → (names values : List ℕ) {cs : List Column} → header b.checked.bench.file names ≡ some cs
    → {x : Sent} → record_of (length cs) values ≡ some x → {is : List Input} → inputs_in cs x.texts ≡ some is
    → InputsStand b.checked.bench.file flags cells (inputs_of is) → takes ≡ every (takes_input s.stores.now (inputs_of is)) is
told_taken {flags = flags} {cells} state b counted tested print s h names values p r i stand =
    let f = b.checked.bench.file in
    tested ∙ ap (λ (k : ℕ). each (takes_cell (behind 5 state) flags cells) 0 (12 * k)) (counted ∙ b.checked.bench.directory.entities)
    ∙ takes_memory print f b.checked.few state h names values p r i stand

module _ {classes literals d refs scopes name : List ℕ} {at number : ℕ} {flags cells state : List ℕ} {again : Bool}
    (resends : ResentRead classes d state at number flags cells again) where
  -- what the test for resent says of the line
  told_resent : {text offsets lengths : List ℕ} (b : ResolvedBench text classes offsets lengths literals d refs scopes)
      → (print : ℕ) (s : State) → state_of print b.checked.bench.file state ≡ some s
      → (x : Sent) (is : List Input) → x.sender ≡ name → x.number ≡ number → at ≡ place name s.senders
      → InputsStand b.checked.bench.file flags cells (inputs_of is) → again ≡ is_resent b.checked.bench.file s (line_of (reading_with x is))
  unfolding line_of
  told_resent {text} {offsets} {lengths} b print s h x is n m q stand =
      resends.is text offsets lengths b.checked.bench b.checked.few print s h (line_of (reading_with x is))
      (q ∙ ap (λ (k : List ℕ). place k s.senders) (sym n)) m stand

  pub settled_resent : again ≡ true → Settled classes literals d refs scopes name at number flags cells state state (Resent at)
  unfolding line_of
  settled_resent t = record {
    is = λ text offsets lengths b print s h names values cs p x r is i n m q stand.
        let f = b.checked.bench.file in
        let e = told_resent b print s h x is n m q stand in
        moves_resent print f s state (line_of (reading_with x is)) (in_resent f s (reading_with x is) (sym e ∙ t)) (q ∙ ap (λ (k : List ℕ). place k s.senders) (sym n));
  }

  module _ (t : again ≡ false) {count : ℕ} (counted : count ≡ get_or d 1 0) {takes : Bool}
      (tested : takes ≡ each (takes_cell (behind 5 state) flags cells) 0 (12 * count)) where
    pub settled_absent : takes ≡ false → Settled classes literals d refs scopes name at number flags cells state state (Refused 23)
    settled_absent u = record {
      is = λ text offsets lengths b print s h names values cs p x r is i n m q stand.
          let f = b.checked.bench.file in
          let e = told_resent b print s h x is n m q stand in
          let g = told_taken state b counted tested print s h names values p r i stand in
          moves_refused print f s state (in_absent f s (reading_with x is) (sym e ∙ t) (sym g ∙ u));
    }

    module _ (u : takes ≡ true) {last : ℕ} (lasts : LastRead state count at last) where
      told_last : {text offsets lengths : List ℕ} (b : ResolvedBench text classes offsets lengths literals d refs scopes)
          → (print : ℕ) (s : State) → state_of print b.checked.bench.file state ≡ some s
          → (x : Sent) → x.sender ≡ name → at ≡ place name s.senders → last ≡ (kept x.sender s.senders).last
      told_last b print s h x n q =
          let f = b.checked.bench.file in
          lasts.is f (sym (counted ∙ b.checked.bench.directory.entities)) print s h name q
          ∙ ap (λ (k : List ℕ). (kept k s.senders).last) (sym n)

      module _ {turn : Bool} (turns : turn ≡ in_turn last number) where
        pub settled_out_of_turn : turn ≡ false → Settled classes literals d refs scopes name at number flags cells state state (Refused 24)
        settled_out_of_turn v = record {
          is = λ text offsets lengths b print s h names values cs p x r is i n m q stand.
              let f = b.checked.bench.file in
              let e = told_resent b print s h x is n m q stand in
              let g = told_taken state b counted tested print s h names values p r i stand in
              let l = told_last b print s h x n q in
              moves_refused print f s state (in_out_of_turn f s (reading_with x is) (sym e ∙ t) (sym g ∙ u) (ap₂ in_turn (sym l) m ∙ sym turns ∙ v));
        }

        module _ (v : turn ≡ true) where
          pub settled_other : number ≡ last → Settled classes literals d refs scopes name at number flags cells state state (Refused 25)
          settled_other w = record {
            is = λ text offsets lengths b print s h names values cs p x r is i n m q stand.
                let f = b.checked.bench.file in
                let e = told_resent b print s h x is n m q stand in
                let g = told_taken state b counted tested print s h names values p r i stand in
                let l = told_last b print s h x n q in
                moves_refused print f s state
                (in_other f s (reading_with x is) (sym e ∙ t) (sym g ∙ u) (ap₂ in_turn (sym l) m ∙ sym turns ∙ v)
                (eq-eqb x.number (kept x.sender s.senders).last (m ∙ w ∙ l)));
          }

          pub settled_new : (number ≡ last → ⊥) → {short : ℕ} → short ≡ number → {new_state : List ℕ}
              → Followed classes literals d refs scopes name at short flags cells state new_state
              → Settled classes literals d refs scopes name at number flags cells state new_state (New at short)
          unfolding line_of
          settled_new w {short} z follows = record {
            is = λ text offsets lengths b print s h names values cs p x r is i n m q stand.
                let f = b.checked.bench.file in
                let e = told_resent b print s h x is n m q stand in
                let g = told_taken state b counted tested print s h names values p r i stand in
                let l = told_last b print s h x n q in
                let k = line_of (reading_with x is) in
                moves_new print f s state k
                (in_new f s (reading_with x is) (sym e ∙ t) (sym g ∙ u) (ap₂ in_turn (sym l) m ∙ sym turns ∙ v)
                (ne_eqb x.number (kept x.sender s.senders).last (λ same. w (sym m ∙ same ∙ sym l))))
                (q ∙ ap (λ (c : List ℕ). place c s.senders) (sym n)) (z ∙ sym m)
                (follows.is text offsets lengths b print s h k n (m ∙ sym z) q stand);
          }

-- a line that does not move the state on
pub ruleset settled_early = (settled_resent, settled_absent, settled_out_of_turn, settled_other)
