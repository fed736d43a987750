-- The set of the rules that a line tries: what the parts of the code say of it.
use Prim.Native.Nat.{ℕ, ◌+◌, ◌-◌, ◌*◌, ◌^◌, ◌≤◌, ◌<◌}
use native.Mathlib.Omega.{arith}
use mathlib.Core.Path.{◌≡◌, sym, ap, ◌∙◌, subst}
use mathlib.Core.Bool.{Bool, true, false, not}
use mathlib.Core.List.{List, ◌++◌}
use mathlib.Core.Logic.{◌⊎◌, inl, inr}
use mathlib.Core.Option.{some}
use lib.ListN.{length, get_or, take, drop, length-drop}
use lib.Seq.{drop-drop}
use borrow.Author.Tests.{lt-ltb, le-ltb}
use Rattle.values.specs.definitions.Bytes.{low_first, overwritten}
use Rattle.values.proofs.laws.ByteLaws.{overwritten_parts}
use Rattle.text.specs.definitions.Syntax.{Rule, File}
use Rattle.checking.specs.definitions.Verdict.{verdict, refused_at, file_of, accepted_file}
use Rattle.checking.proofs.laws.VerdictLaws.{accepted_is_file}
use Rattle.cycles.specs.definitions.Quiescence.{is_quiescent}
use Rattle.cycles.specs.definitions.Planes.{entity_count, decode_stores}
use Rattle.cycles.specs.inner_contracts.Evaluation.{Stored}
use Rattle.cycles.specs.inner_contracts.AllRules.{RulesGiven, RulesTried}
use Rattle.cycles.proofs.laws.PlaneTestLaws.{behind, behind_all}
use Rattle.cycles.proofs.laws.StoredLaws.{decoded_stored}
use Rattle.cycles.specs.declared.rules.Rules.{Rules}
use Rattle.senders.specs.definitions.Fingerprint.{fingerprint}
use Rattle.senders.specs.definitions.StateImage.{STATE, decode, is_state}
use Rattle.senders.specs.inner_contracts.Advancing.{ResolvedBench}
use Rattle.senders.proofs.laws.StateLaws.{state_decoded, no_state}
use Rattle.engine.specs.definitions.BenchImage.{BENCH, text_in}
use Rattle.engine.specs.definitions.Calls.{fingerprint_of}
use Rattle.engine.specs.inner_contracts.Benches.{RulesLent}
use Rattle.engine.specs.inner_contracts.LineMemory.{InState}
use Rattle.engine.proofs.laws.ServingLaws.{text_accepted}
use Rattle.probe.specs.definitions.Tried.{seen_before, tried_set, tried_written, tried_between, tried_on_bench, tried_call}
use Rattle.probe.specs.inner_contracts.TriedMemory.{TriedBetween, tried_in_text}
use Rattle.probe.proofs.laws.BitsLaws.{bits_told}

-- ---- the set

-- what a state image keeps as its previous store, as code lends it
previous_stored : (f : File) (m : List ℕ) → entity_count f ≤ 32 → STATE ≤ length m
    → Stored (entity_count f) (behind (5 + 109 * entity_count f) m) (behind (5 + 109 * entity_count f + entity_count f) m) (seen_before (decode f m))
unfolding decode decode_stores
previous_stored f m few big =
    let n = entity_count f in
    let k = length-drop (5 + 109 * n) m in
    rw (behind_all (5 + 109 * n) m, behind_all (5 + 109 * n + n) m, ← drop-drop n (5 + 109 * n) m, drop-drop (109 * n) 5 m)
    (decoded_stored n (drop (5 + 109 * n) m) (omega arith))

module _ {d scopes before after : List ℕ} {n r : ℕ} (e : n ≡ get_or d 1 0) where
  pub no_bench_stands : 32 < n → TriedBetween d scopes before after r
  no_bench_stands h = record {
    is = λ text classes offsets lengths literals refs b.
        let q = b.checked.bench.directory.entities in
        absurd (omega (arith, b.checked.few.entities));
  }

  pub set_found : n ≤ 32 → STATE ≤ length before → STATE ≤ length after → r < 2 ^ 64
      → RulesTried d scopes (behind (5 + 109 * n) after) (behind (5 + 109 * n + n) after) (behind (5 + 109 * n) before) (behind (5 + 109 * n + n) before) r
      → TriedBetween d scopes before after r
  unfolding tried_set
  set_found few big_before big_after l tried = record {
    is = λ text classes offsets lengths literals refs b.
        let f = b.checked.bench.file in
        let z : n ≡ entity_count f = e ∙ b.checked.bench.directory.entities in
        let t = subst (λ (j : ℕ). RulesTried d scopes (behind (5 + 109 * j) after) (behind (5 + 109 * j + j) after) (behind (5 + 109 * j) before)
        (behind (5 + 109 * j + j) before) r) z tried in
        let now = seen_before (decode f after) in
        let previous = seen_before (decode f before) in
        let g : RulesGiven text classes offsets lengths literals d refs scopes (behind (5 + 109 * entity_count f) after)
        (behind (5 + 109 * entity_count f + entity_count f) after) (behind (5 + 109 * entity_count f) before)
        (behind (5 + 109 * entity_count f + entity_count f) before) = record {
          checked = b.checked;
          references = b.references;
          scopes_are = b.scopes_are;
          reads_are = b.reads_are;
          now = now;
          previous = previous;
          now_stored = previous_stored f after (omega arith) big_after;
          previous_stored = previous_stored f before (omega arith) big_before;
        } in
        bits_told (λ (q : Rule). not (is_quiescent f now previous q)) 64 f.rules r l (t.is text classes offsets lengths literals refs g)
        (t.none text classes offsets lengths literals refs g);
  }

-- ---- an accepted text

module _ {text before : List ℕ} where
  pub none_before : InState text before false → (after tried : List ℕ) → record { answer = 33; tried = tried } ≡ tried_in_text text before after tried
  unfolding tried_on_bench tried_between
  none_before i after tried = rw (i.accepted, no_state (fingerprint text) i.file before i.told)

  module _ (i : InState text before true) {after : List ℕ} where
    same_file : {is : Bool} (j : InState text after is) → j.file ≡ i.file
    same_file j = let z = sym j.accepted ∙ i.accepted in cc

    told_after : {is : Bool} (j : InState text after is) → is_state (fingerprint text) i.file after ≡ is
    told_after {is} j = subst (λ (f : File). is_state (fingerprint text) f after ≡ is) (same_file j) j.told

    pub none_after : InState text after false → (tried : List ℕ) → record { answer = 33; tried = tried } ≡ tried_in_text text before after tried
    unfolding tried_on_bench tried_between
    none_after j tried =
        rw (i.accepted, state_decoded (fingerprint text) i.file before i.told, no_state (fingerprint text) i.file after (told_after j))

    pub set_put : InState text after true → {rules : Rules} → RulesLent text rules → {set : ℕ}
        → TriedBetween rules.columns.d.now rules.scopes.now before after set
        → (tried : List ℕ) {new : List ℕ} → 8 ≤ length tried → new ≡ overwritten tried 0 (low_first 8 set)
        → record { answer = 0; tried = new } ≡ tried_in_text text before after tried
    unfolding tried_on_bench tried_between tried_written
    set_put j {rules} lent {set} found tried {new} room e =
        let b = lent.resolved in
        let is_file : accepted_file text ≡ some b.checked.bench.file =
        subst (λ (t : List ℕ). accepted_file t ≡ some b.checked.bench.file) lent.text_is (accepted_is_file _ b.checked.accepts) in
        let same : b.checked.bench.file ≡ i.file = let z = sym is_file ∙ i.accepted in cc in
        let s = subst (λ (f : File). set ≡ tried_set f (seen_before (decode f after)) (seen_before (decode f before))) same
        (found.is _ _ _ _ _ _ b) in
        rw (
          i.accepted,
          state_decoded (fingerprint text) i.file before i.told,
          state_decoded (fingerprint text) i.file after (told_after j),
        )
        (ap (λ (m : List ℕ). record { answer = 0; tried = m })
        (e ∙ overwritten_parts tried 0 (low_first 8 set) room ∙ ap (λ (k : ℕ). low_first 8 k ++ drop 8 tried) s))

-- the rules of a bench are those of its text
pub lent_of : {bench text : List ℕ} {rules : Rules} → bench ≡ text → RulesLent bench rules → RulesLent text rules
lent_of e lent = record { text_is = lent.text_is ∙ e; resolved = lent.resolved }

-- one of the two is none
pub not_both : {text before after : List ℕ} → (InState text before false) ⊎ ((InState text before true) × InState text after false)
    → (tried : List ℕ) → record { answer = 33; tried = tried } ≡ tried_in_text text before after tried
not_both (inl i) tried = none_before i _ tried
not_both (inr (i, j)) tried = none_after i j tried

-- ---- a text that is refused

pub text_refused : (text : List ℕ) {code at : ℕ} → verdict text ≡ refused_at code at → (before after tried : List ℕ)
    → record { answer = 32; tried = tried } ≡ tried_in_text text before after tried
unfolding tried_on_bench accepted_file file_of
text_refused text v before after tried = rw v

-- ---- the lent memory

module _ (bench before after tried : List ℕ) where
  abbrev Short : Type 0
  Short = record { answer = 31; tried = tried } ≡ tried_call bench before after tried

  pub short_bench : length bench < BENCH → Short
  unfolding tried_call
  short_bench h = rw (lt-ltb (length bench) BENCH h, tried_call)

  module _ (b : BENCH ≤ length bench) where
    pub short_before : length before < STATE → Short
    unfolding tried_call
    short_before h = rw (le-ltb (length bench) BENCH b, lt-ltb (length before) STATE h, tried_call)

    module _ (s : STATE ≤ length before) where
      pub short_after : length after < STATE → Short
      unfolding tried_call
      short_after h = rw (le-ltb (length bench) BENCH b, le-ltb (length before) STATE s, lt-ltb (length after) STATE h, tried_call)

      module _ (a : STATE ≤ length after) where
        pub short_set : length tried < 8 → Short
        unfolding tried_call
        short_set h =
            rw (
              le-ltb (length bench) BENCH b,
              le-ltb (length before) STATE s,
              le-ltb (length after) STATE a,
              lt-ltb (length tried) 8 h,
              tried_call,
            )

        pub set_shown : 8 ≤ length tried → {text new : List ℕ} {r : ℕ} → text ≡ text_in bench
            → record { answer = r; tried = new } ≡ tried_in_text text before after tried
            → record { answer = r; tried = new } ≡ tried_call bench before after tried
        unfolding tried_call fingerprint_of
        set_shown h t e =
            rw (
              le-ltb (length bench) BENCH b,
              le-ltb (length before) STATE s,
              le-ltb (length after) STATE a,
              le-ltb (length tried) 8 h,
              tried_call,
              ← text_accepted bench,
              ← t,
            ) e
