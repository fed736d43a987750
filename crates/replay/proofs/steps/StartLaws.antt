-- The start: a bench that is refused, and one that is accepted with its fresh state.
use Prim.Native.Nat.{ℕ, ◌≤◌}
use native.Mathlib.Omega.{arith}
use mathlib.Core.Path.{◌≡◌, refl, ap}
use mathlib.Core.List.{List, [], ◌∷◌, ◌++◌}
use mathlib.Core.Option.{Option, none, some}
use lib.ListN.{length, length-append}
use Rattle.text.specs.definitions.Syntax.{File}
use Rattle.checking.specs.definitions.Verdict.{Verdict, verdict, accepted_file}
use Rattle.checking.proofs.laws.VerdictLaws.{accepted_verdict, file_is_accepted}
use Rattle.checking.proofs.laws.AcceptedLaws.{within_counts}
use Rattle.values.specs.inner_contracts.Puts.{Put}
use Rattle.values.proofs.laws.FormLaws.{decimal_most}
use Rattle.senders.specs.definitions.Follow.{fresh}
use Rattle.senders.specs.definitions.Fingerprint.{fingerprint}
use Rattle.senders.specs.definitions.StateImage.{with_state}
use Rattle.senders.proofs.laws.SoundFollow.{fresh_sound}
use Rattle.senders.proofs.laws.StateLaws.{state_written}
use Rattle.senders.proofs.laws.StandsLaws.{fingerprint_below}
use Rattle.engine.specs.definitions.Calls.{AfterFresh, freshened}
use Rattle.replay.specs.definitions.Replay.{bench_refusal}
use Rattle.replay.specs.inner_contracts.Awaiting.{opening, awaited_first, AtNames, Memory, Stood}
use Rattle.replay.specs.inner_contracts.Awaiting.Awaits.{names}
use Rattle.replay.specs.inner_contracts.Feeding.{ROOM, Started, StartedOn, BenchRefused}
use Rattle.replay.specs.declared.Stage.TheVariants.{Names}
use Rattle.replay.proofs.steps.LineLaws.{printed, refusal_most}

bench_refusal_most : (code at : ℕ) → length (bench_refusal code at ++ 10 ∷ []) ≤ 30
unfolding bench_refusal
bench_refusal_most code at =
    let a = refusal_most code in
    let b = decimal_most at in
    simp length-append (omega arith)

pub bench_refused : {text out o2 : List ℕ} {code at end : ℕ} → verdict text ≡ Verdict.refused_at code at → ROOM ≤ length out
    → Put (bench_refusal code at ++ 10 ∷ []) out 0 o2 end → BenchRefused text o2 end
unfolding opening awaited_first
bench_refused {out = out} {code = code} {at = at} v room p =
    let k = bench_refusal_most code at in
    record { fits = let z = p.end in omega arith; opened = rw v (printed out p (omega arith)); closes = rw v }

-- a state that is fresh stands in memory
pub record FreshBench (text state : List ℕ) : Type 0 where
  pub file : File
  pub at_names : AtNames text file state

pub fresh_bench : {text : List ℕ} (before : List ℕ) {state : List ℕ} → record { answer = 0; state = state } ≡ freshened (fingerprint text) (accepted_file text) before
    → FreshBench text state
unfolding freshened
fresh_bench {text} before {state} e = go (accepted_file text) refl
  where
    go : (o : Option File) → accepted_file text ≡ o → FreshBench text state
    go none i =
        let w : record { answer = 0; state = state } ≡ freshened (fingerprint text) none before = rw i at e in
        let z : 0 ≡ 32 = ap (λ (x : AfterFresh). x.answer) w in
        absurd (omega (arith, z))
    go (some f) i =
        let w : record { answer = 0; state = state } ≡ freshened (fingerprint text) (some f) before = rw i at e in
        let s : state ≡ with_state (fingerprint text) f (fresh f) before = ap (λ (x : AfterFresh). x.state) w in
        let v = file_is_accepted text i in
        let counts = within_counts f (accepted_verdict text v) in
        record {
          file = f;
          at_names = record {
            accepted = i;
            state_is = rw s (state_written f counts (fingerprint text) (fingerprint_below text) (fresh f) (fresh_sound text f v) before);
          };
        }

abbrev first : (text columns state : List ℕ) → Memory
first text columns state = record { text = text; stage = Names; columns = columns; waiting = []; state = state }

module _ {text resolved state : List ℕ} (same : resolved ≡ text) (b : FreshBench text state) (columns : List ℕ) where
  pub first_stood : Stood (first resolved columns state)
  first_stood = rw same (record { awaits = names b.file; stands = b.at_names; part = tt })

  pub started : Started text (first resolved columns state)
  unfolding opening awaited_first
  started =
      let v = file_is_accepted text b.at_names.accepted in
      rw same (record { none_waits = refl; opened = rw v; stands = rw v b.at_names })

  -- .. of its text
  pub started_on : StartedOn text (first resolved columns state)
  started_on = record { text_is = same; started = started }
