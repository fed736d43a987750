-- The reference machine beside a whole run, two runs on a closed set, and a line sent again.
use Prim.Native.Nat.{ℕ, ◌/◌, ◌%◌, ◌≤◌, ◌<◌}
use native.Mathlib.Omega.{arith}
use mathlib.Core.Path.{◌≡◌, refl, sym, ap, ap₂, ◌∙◌, subst}
use mathlib.Core.Bool.{true}
use mathlib.Core.List.{List, [], ◌∷◌, ◌++◌, map}
use mathlib.Core.Option.{some}
use lib.Dec.{T, eqb}
use lib.ListN.{length, take}
use Rattle.values.specs.declared.Value.{Value}
use Rattle.values.specs.definitions.Forms.{decimal, printed}
use Rattle.text.specs.definitions.Syntax.{File}
use Rattle.text.proofs.laws.ListLaws.{some_injective}
use Rattle.checking.specs.definitions.Verdict.{Verdict, file_verdict, verdict}
use Rattle.checking.proofs.laws.VerdictLaws.{accepted_length, accepted_verdict, accepted_is_file}
use Rattle.checking.proofs.laws.AcceptedLaws.{within_counts}
use Rattle.cycles.specs.definitions.Outcome.{running, proceed}
use Rattle.cycles.specs.definitions.Store.{Store}
use Rattle.cycles.specs.definitions.ClosedSet.{Closed}
use Rattle.cycles.proofs.laws.Agreement.{StoresAgree}
use Rattle.senders.specs.definitions.Sender.{Sender, State, Line, is_sender, kept}
use Rattle.senders.specs.definitions.Answer.{Answer, refused, accepted}
use Rattle.senders.specs.definitions.Line.{Accepted, new, resent, its_line, is_resent}
use Rattle.senders.specs.definitions.Follow.{ref_follow, fresh, ref_fresh}
use Rattle.senders.specs.inner_contracts.TotalFollow.{follow}
use Rattle.senders.specs.definitions.Row.{row, sender_row}
use Rattle.senders.specs.definitions.Fingerprint.{fingerprint}
use Rattle.senders.specs.definitions.StateImage.{STATE, state_of}
use Rattle.senders.specs.definitions.SoundState.{SoundState}
use Rattle.senders.proofs.laws.AnswerLaws.{HasNumber, InTurn, resent_turn, line_read}
use Rattle.senders.proofs.laws.SenderLaws.{kept_name}
use Rattle.senders.proofs.laws.Apart.{LinesAgree, KeptAgree, StatesAgree, same_state, follow_apart}
use Rattle.senders.proofs.laws.Again as Again
use Rattle.senders.proofs.laws.StateLaws.{state_written, state_written_length}
use Rattle.senders.proofs.laws.StandsLaws.{fingerprint_below}
use Rattle.senders.proofs.laws.RowReads.{fired_text, row_sender, row_number, row_field}
use Rattle.senders.proofs.laws.SoundLine.{accepted_line_sound}
use Rattle.senders.proofs.laws.SoundFollow.{follow_sound, fresh_sound}
use Rattle.senders.proofs.theorems.AcceptedSound.{accepted_fresh}
use Rattle.engine.specs.definitions.BenchImage.{BENCH, bench_of}
use Rattle.engine.specs.definitions.Calls.{
  with_row,
  row_answer,
  fingerprint_of,
  AfterLine,
  followed,
  line_row,
  line_accepted,
  line_answered,
  line_call,
}
use Rattle.engine.specs.definitions.Runs.{
  Request,
  RunStart,
  Run,
  replies,
  sight,
  machine_answer,
  ref_answered,
  ref_run,
  given,
  given_by,
  Taken,
  said_line,
  taken_if,
  taken_by,
  taken_lines,
}
use Rattle.engine.specs.definitions.DemandTwo.{Resent, AllSentBefore}
use Rattle.engine.specs.definitions.DemandThree.{SameStores, SameLines, SameRows, SameValues, SideBySide}
use Rattle.engine.proofs.laws.Replies.{run_replies, start_bench, start_state, begins_bench, begins_state}
use Rattle.engine.proofs.laws.BenchLaws.{bench_written, bench_length, print_written}
use Rattle.engine.proofs.laws.CallLaws.{
  StandsFor,
  call_answered,
  gives_sight,
  Stays,
  Accepts,
  Answered,
  answer_line,
  answer_number,
  row_accepts,
  given_read,
  start_bench_is,
  start_state_is,
}

-- an accepted line of a run beside the machine's state before it
pub record Step (print : ℕ) (f : File) (s : State) (a : Accepted) (x : Taken) : Type 0 where
  pub line : its_line a ≡ x.line
  pub turn : InTurn f s a
  pub named : T (is_sender (its_line a).sender)
  pub earlier : state_of print f x.before ≡ some s
  pub state : state_of print f x.reply.state ≡ some (follow f s a)
  pub stays : Stays a x.before x.reply.state
  pub given : given_by x.reply ≡ line_row f s a

pub step_turn : (print : ℕ) (f : File) (s : State) (a : Accepted) (x : Taken) → Step print f s a x → InTurn f s a
step_turn print f s a x i = i.turn

-- the accepted lines of a run, and the machine over them
abbrev pub Chain : ℕ → File → State → List Taken → Type 0
Chain print f s xs = Again.Chain f (Step print f) (step_turn print f) s xs

-- ---- two runs on a closed set

same_stores : (S : ℕ → Type 0) → {s t : Store} → StoresAgree S s t → SameStores S s t
same_stores S g = record { presence = g.presence; cells = g.cells }

-- rows of senders of whom the same is kept on the set
same_rows : (f : File) (S : ℕ → Type 0) (x y : Sender) → KeptAgree S x y → T (is_sender x.name) → SameRows f S (row f x) (row f y)
same_rows f S x y g n =
    let m : T (is_sender y.name) = subst (λ (n : List ℕ). T (is_sender n)) g.name n in
    record {
      sender = record { text = x.name; one_is = row_sender f x n; other_is = row_sender f y m ∙ ap (λ (n : List ℕ). some n) (sym g.name) };
      number = record {
        text = decimal x.last;
        one_is = row_number f x n;
        other_is = row_number f y m ∙ ap (λ (n : ℕ). some (decimal n)) (sym g.last);
      };
      fired = λ i p h e. record {
        text = fired_text x p;
        one_is = row_field f x n i p h;
        other_is = row_field f y m i p h ∙ ap (λ (v : Value). some (printed v)) (sym (g.fired p.entity p.member e));
      };
    }

lines_agree : (S : ℕ → Type 0) {k l : Line} → SameLines S k l → LinesAgree S k l
lines_agree S h = record { sender = h.sender; number = h.number; inputs = record { presence = h.presence; given = h.given } }

-- the rows that two such lines give
given_agree : (f : File) (S : ℕ → Type 0) (s t : State) (a b : Accepted) → (its_line a).sender ≡ (its_line b).sender → T (is_sender (its_line a).sender)
    → StatesAgree S (follow f s a) (follow f t b) → SameRows f S (line_row f s a) (line_row f t b)
unfolding line_row sender_row
given_agree f S s t a b e n u =
    let k = (its_line a).sender in
    let x = kept k (follow f s a).senders in
    let v : KeptAgree S x (kept (its_line b).sender (follow f t b).senders) =
    subst (λ (m : List ℕ). KeptAgree S x (kept m (follow f t b).senders)) e (u.senders k) in
    same_rows f S x (kept (its_line b).sender (follow f t b).senders) v (rw (kept_name k (follow f s a).senders) n)

-- two such chains over lines that agree on the set
chains_agree : (print : ℕ) (f : File) (S : ℕ → Type 0) → Closed f S → (xs ys : List Taken) (s t : State) → Chain print f s xs → Chain print f t ys
    → StatesAgree S s t → SideBySide (λ x y. SameLines S x.line y.line) xs ys → SideBySide (SameValues print f S) xs ys
chains_agree print f S c [] [] s t p q g h = tt
chains_agree print f S c [] (y ∷ ys) s t p q g h = h
chains_agree print f S c (x ∷ xs) [] s t p q g h = h
chains_agree print f S c (x ∷ xs) (y ∷ ys) s t (a, i, p) (b, j, q) g h =
    let k : SameLines S (its_line a) (its_line b) = rw (i.line, j.line) h.0 in
    let u = follow_apart f S c s t a b g (lines_agree S k) i.turn j.turn in (
      record {
        one = follow f s a;
        other = follow f t b;
        one_is = i.state;
        other_is = j.state;
        now = same_stores S u.stores.now;
        previous = same_stores S u.stores.previous;
        fired = rw (i.given, j.given) (given_agree f S s t a b k.sender i.named u);
      },
      chains_agree print f S c xs ys (follow f s a) (follow f t b) p q u h.1,
    )

-- ---- a line sent again

module _ (print : ℕ) (f : File) where
  memory_stays : (a : Accepted) (l : Line) {before after : List ℕ} → a ≡ resent l → Stays a before after → after ≡ before
  memory_stays a l {before} {after} e h = subst (λ (b : Accepted). Stays b before after) e h

  chain_resent : (xs : List Taken) (s : State) → Chain print f s xs → Resent xs
  unfolding line_row
  chain_resent [] s c = tt
  chain_resent (x ∷ xs) s (a, i, c) = (
    λ y m p q.
        let l = Again.later_lines f (Step print f) (step_turn print f) s a i.turn xs c y m in
        let j = l.step in
        let n : (its_line a).sender ≡ (its_line l.taken).sender =
        ap (λ (k : Line). k.sender) i.line ∙ p ∙ ap (λ (k : Line). k.sender) (sym j.line) in
        let k : (its_line a).number ≡ (its_line l.taken).number =
        ap (λ (k : Line). k.number) i.line ∙ q ∙ ap (λ (k : Line). k.number) (sym j.line) in
        let g = l.again n k in
        record { stays = memory_stays l.taken (its_line l.taken) g.is_resent j.stays; again = j.given ∙ g.again ∙ sym i.given },
    chain_resent xs (follow f s a) c,
  )

  -- a line that the state before it holds for resent is one
  no_new : (s t : State) (l k : Line) → InTurn f s (new l) → l ≡ k → some t ≡ some s → is_resent f t k ≡ true → ⊥
  no_new s t l k n e d h =
      let r = resent_turn f s l (rw (e, sym (some_injective d)) h) in
      let a = n.next in
      let b = r.last in
      omega arith

  sent_before : (ps : List Taken) (s : State) (xs : List Taken) (c : Chain print f s xs) → Again.AllTold f (Step print f) (step_turn print f) ps s xs c
      → AllSentBefore print f ps xs
  unfolding its_line
  sent_before ps s [] c h = tt
  sent_before ps s (x ∷ xs) (new l, i, c) (h, later) =
      (λ t d r. absurd (no_new s t l x.line i.turn i.line (sym d ∙ i.earlier) r), sent_before (x ∷ ps) (follow f s (new l)) xs c later)
  sent_before ps s (x ∷ xs) (resent l, i, c) (h, later) = (
    λ t d r. record {
      one = h.one;
      inside = h.inside;
      sender = ap (λ (k : Line). k.sender) (sym h.step.line) ∙ h.sender ∙ ap (λ (k : Line). k.sender) i.line;
      number = ap (λ (k : Line). k.number) (sym h.step.line) ∙ h.number ∙ ap (λ (k : Line). k.number) i.line;
    },
    sent_before (x ∷ ps) (follow f s (resent l)) xs c later,
  )

-- ---- the machine beside a run

module _ (print : ℕ) (below : print < 4294967296) (f : File) (ok : file_verdict f ≡ Verdict.accepted f) (b : List ℕ) where
  accepts : (m : List ℕ) (s : State) (q : Request) (a : Accepted) → StandsFor print f b m s → SoundState f (follow f s a)
      → ref_follow f s a ≡ running (follow f s a) → Accepts print f b m s q (line_accepted print f s a m q.row) a
  unfolding line_accepted followed follow
  accepts m s q (resent l) st so r = record { gives = record { answer_is = refl; row_is = refl; stands = st }; runs = r; stays = refl }
  accepts m s q (new l) st so r = record {
    gives = record {
      answer_is = refl;
      row_is = refl;
      stands = record {
        bench_size = st.bench_size;
        bench_is = st.bench_is;
        print_is = st.print_is;
        state_size = rw (state_written_length f (within_counts f ok) print (follow f s (new l)) so m st.state_size) st.state_size;
        state_is = state_written f (within_counts f ok) print below (follow f s (new l)) so m;
        sound_is = so;
      };
    };
    runs = r;
    stays = tt;
  }

  pub call_gives : (m : List ℕ) (s : State) → StandsFor print f b m s → (q : Request)
      → Answered print f b m s q (line_call b m q.names q.values q.row) (machine_answer f s q)
  unfolding line_answered
  call_gives m s st q = rw (call_answered print f b m s st q) (go (machine_answer f s q) refl)
    where
      go : (a : Answer Accepted) → machine_answer f s q ≡ a → Answered print f b m s q (line_answered print f s a m q.row) a
      go (refused code) e = record { answer_is = refl; row_is = refl; stands = st }
      go (accepted a) e =
          let i = accepted_line_sound f s q.names q.values a (answer_line f s q e) in
          let t = follow_sound f ok s st.sound_is a i in
          accepts m s q a st t.1 t.0

  -- the reference machine beside a run
  replies_stay : (qs : List Request) (m : List ℕ) (s : State) → StandsFor print f b m s → ref_run f s qs ≡ running (map (sight print f) (replies b m qs))
  unfolding ref_run replies
  replies_stay [] m s st = refl
  replies_stay (q ∷ qs) m s st =
      let r = line_call b m q.names q.values q.row in
      go r (machine_answer f s q) (call_gives m s st q) (λ t. replies_stay qs r.state t)
    where
      go : (r : AfterLine) (a : Answer Accepted) → Answered print f b m s q r a
          → ((t : State) → StandsFor print f b r.state t → ref_run f t qs ≡ running (map (sight print f) (replies b r.state qs)))
          → ref_answered f s q a (λ t. ref_run f t qs) ≡ running (sight print f r ∷ map (sight print f) (replies b r.state qs))
      go r (refused code) h later = rw (later s h.stands, gives_sight print f b s code q.row r h)
      go r (accepted a) h later =
          let t = follow f s a in
          rw (h.runs, later t h.gives.stands, gives_sight print f b t (row_answer (line_row f s a)) (with_row (line_row f s a) q.row) r h.gives)

  -- the accepted lines of a run
  replies_chain : (qs : List Request) (m : List ℕ) (s : State) → StandsFor print f b m s → Chain print f s (taken_lines f m qs (replies b m qs))
  unfolding taken_lines taken_by replies taken_if said_line given_by given
  replies_chain [] m s st = tt
  replies_chain (q ∷ qs) m s st =
      let r = line_call b m q.names q.values q.row in
      go r (machine_answer f s q) refl (answer_number f s q) (call_gives m s st q) (λ t. replies_chain qs r.state t)
    where
      go : (r : AfterLine) (a : Answer Accepted) → machine_answer f s q ≡ a → HasNumber a → Answered print f b m s q r a
          → ((t : State) → StandsFor print f b r.state t → Chain print f t (taken_lines f r.state qs (replies b r.state qs)))
          → Chain print f s (taken_by f m q r ++ taken_lines f r.state qs (replies b r.state qs))
      go r (refused code) e n h later = rw (h.answer_is, n) (later s h.stands)
      go r (accepted a) e n h later =
          let t = line_read f s q.names q.values (answer_line f s q e) in
          let g = line_row f s a in
          let z : eqb (r.answer % 256) 0 ≡ true = rw h.gives.answer_is (row_accepts g) in
          rw (z, t.is_read, t.is_line) (
            a,
            record {
              line = refl;
              turn = t.turn;
              named = rw t.named tt;
              earlier = st.state_is;
              state = h.gives.stands.state_is;
              stays = h.stays;
              given = ap₂ (λ (k : ℕ) (x : List ℕ). take (k / 256) x) h.gives.answer_is h.gives.row_is ∙ given_read g q.row;
            },
            later (follow f s a) h.gives.stands,
          )

-- the memory from which a run starts stands for the file and its fresh state
start_stands : (text : List ℕ) (f : File) → verdict text ≡ Verdict.accepted f → (bench state : List ℕ) → BENCH ≤ length bench → STATE ≤ length state
    → StandsFor (fingerprint text) f (start_bench text bench) (start_state text bench state) (fresh f)
start_stands text f v bench state h g =
    let ok = accepted_verdict text v in
    let e = start_bench_is text f v bench h in
    let size : BENCH ≤ length (start_bench text bench) = rw (e, bench_length text bench h (accepted_length text v)) h in
    let is : bench_of (start_bench text bench) ≡ some f = rw (e, bench_written text bench (accepted_length text v)) (accepted_is_file text v) in
    let print : fingerprint_of (start_bench text bench) ≡ fingerprint text = ap fingerprint_of e ∙ print_written text bench (accepted_length text v) in
    let d = start_state_is text f bench state size is print g in
    record {
      bench_size = size;
      bench_is = is;
      print_is = print;
      state_size = rw (d, state_written_length f (within_counts f ok) (fingerprint text) (fresh f) (fresh_sound text f v) state g) g;
      state_is = rw d (state_written f (within_counts f ok) (fingerprint text) (fingerprint_below text) (fresh f) (fresh_sound text f v) state);
      sound_is = fresh_sound text f v;
    }

-- ---- runs as their contracts allow them

module _ (text : List ℕ) (f : File) (v : verdict text ≡ Verdict.accepted f) where
  abbrev ok : file_verdict f ≡ Verdict.accepted f
  ok = accepted_verdict text v

  module _ {bench state : List ℕ} (b : RunStart text bench state) where
    pub started : StandsFor (fingerprint text) f bench state (fresh f)
    started =
        rw (begins_bench b, begins_state b)
        (start_stands text f v b.lent_bench b.lent_state b.bench_size b.state_size)

    chain : {qs : List Request} {rs : List AfterLine} → Run bench state qs rs → Chain (fingerprint text) f (fresh f) (taken_lines f state qs rs)
    chain {qs} run = rw (run_replies run) (replies_chain (fingerprint text) (fingerprint_below text) f ok bench qs state (fresh f) started)

  pub run_stays : (bench state : List ℕ) → RunStart text bench state → (qs : List Request) (rs : List AfterLine) → Run bench state qs rs
      → proceed (ref_fresh f) (λ s. ref_run f s qs) ≡ running (map (sight (fingerprint text) f) rs)
  unfolding proceed
  run_stays bench state b qs rs run =
      rw ((accepted_fresh text f v).0, run_replies run)
      (replies_stay (fingerprint text) (fingerprint_below text) f ok bench qs state (fresh f) (started b))

  pub runs_apart : (S : ℕ → Type 0) → Closed f S → (bench state bench' state' : List ℕ) → RunStart text bench state → RunStart text bench' state'
      → (qs qs' : List Request) (rs rs' : List AfterLine) → Run bench state qs rs → Run bench' state' qs' rs'
      → SideBySide (λ x y. SameLines S x.line y.line) (taken_lines f state qs rs) (taken_lines f state' qs' rs')
      → SideBySide (SameValues (fingerprint text) f S) (taken_lines f state qs rs) (taken_lines f state' qs' rs')
  runs_apart S c bench state bench' state' b b' qs qs' rs rs' run run' =
      chains_agree (fingerprint text) f S c (taken_lines f state qs rs) (taken_lines f state' qs' rs') (fresh f) (fresh f) (chain b run) (chain b' run')
      (same_state S (fresh f))

  pub run_resent : (bench state : List ℕ) → RunStart text bench state → (qs : List Request) (rs : List AfterLine) → Run bench state qs rs
      → Resent (taken_lines f state qs rs)
  run_resent bench state b qs rs run = chain_resent (fingerprint text) f (taken_lines f state qs rs) (fresh f) (chain b run)

  pub run_sent_before : (bench state : List ℕ) → RunStart text bench state → (qs : List Request) (rs : List AfterLine) → Run bench state qs rs
      → AllSentBefore (fingerprint text) f [] (taken_lines f state qs rs)
  run_sent_before bench state b qs rs run =
      let xs = taken_lines f state qs rs in
      let c = chain b run in
      sent_before (fingerprint text) f [] (fresh f) xs c (Again.all_told_fresh f (Step (fingerprint text) f) (step_turn (fingerprint text) f) xs c)
