-- A run of bytes that pass a test is the longest one.
use Prim.Native.Nat.{ℕ, zero, suc, ◌+◌, ◌-◌, ◌<◌, ◌≤◌}
use mathlib.Core.Path.{◌≡◌, refl, sym, ◌∙◌}
use mathlib.Core.List.{List}
use mathlib.Core.Bool.{Bool, true, false}
use native.Mathlib.Omega.{arith}
use lib.Dec.{ltb, eqb}
use lib.ListN.{length, get_or, drop}
use borrow.Author.Tests.{ltb-true, ltb-false, eqb-true, eqb-false}
use Rattle.text.specs.definitions.Bytes.{run}
use Rattle.text.specs.inner_contracts.TokenTable.{RunTo, EndsRun}
use Rattle.text.proofs.laws.RunLaws.{run_past, run_stop, run_step}

-- from one offset of a text to another all bytes pass
pub record Running (text : List ℕ) (passes : ℕ → Bool → Type 0) (at end : ℕ) : Type 0 where
  pub onward : at ≤ end
  pub within : end ≤ length text
  pub all : (i : ℕ) → at ≤ i → i < end → passes (get_or text i 0) true

module _ {text : List ℕ} {passes : ℕ → Bool → Type 0} {at : ℕ} where
  pub running_start : at ≤ length text → Running text passes at at
  running_start h = record { onward = omega arith; within = h; all = λ i l m. absurd (omega arith) }

  pub runs_further : {end : ℕ} → Running text passes at end → end < length text → passes (get_or text end 0) true → Running text passes at (end + 1)
  runs_further {end} r h p = record { onward = omega (arith, r.onward); within = omega arith; all = λ i l m. go i l m (eqb i end) refl }
    where
      go : (i : ℕ) → at ≤ i → i < end + 1 → (b : Bool) → eqb i end ≡ b → passes (get_or text i 0) true
      go i l m true e = rw (eqb-true i end e) p
      go i l m false e = let n = eqb-false i end e in r.all i l (omega arith)

  pub run_stops : {end : ℕ} → Running text passes at end → passes (get_or text end 0) false → RunTo text passes at end
  run_stops r p = record { onward = r.onward; within = r.within; all = r.all; stops = λ h. p }

  pub run_whole : {end : ℕ} → Running text passes at end → end ≡ length text → RunTo text passes at (length text)
  run_whole r e = record {
    onward = omega (arith, r.onward);
    within = omega arith;
    all = λ i l m. r.all i l (omega arith);
    stops = λ h. absurd (omega arith);
  }

pub run_ends : {text : List ℕ} {passes : ℕ → Bool → Type 0} {at end : ℕ} (test : ℕ → Bool) → RunTo text passes at end
    → ((i : ℕ) → i < length text → passes (get_or text i 0) true → test (get_or text i 0) ≡ true)
    → ((i : ℕ) → i < length text → passes (get_or text i 0) false → test (get_or text i 0) ≡ false) → EndsRun test text at end
run_ends {text} {passes} {at} {end} test r y n = (sym (go (end - at) at (omega (arith, r.onward)) (omega arith)), r.within)
  where
    go : (k i : ℕ) → i + k ≡ end → at ≤ i → i + length (run test (drop i text)) ≡ end
    go zero i e l = by (ltb end (length text)) refl
      where
        by : (b : Bool) → ltb end (length text) ≡ b → i + length (run test (drop i text)) ≡ end
        by true f =
            let h = ltb-true end (length text) f in
            let k : i ≡ end = omega arith in
            rw k (sym (run_stop test text end h (n end h (r.stops h))))
        by false f =
            let h = ltb-false end (length text) f in
            let k : i ≡ end = omega arith in
            rw k (sym (run_past test text end h))
    go (suc k) i e l =
        let h : i < end = omega arith in
        let inside : i < length text = omega (arith, r.within) in
        sym (run_step test text i inside (y i inside (r.all i l h))) ∙ go k (i + 1) (omega arith) (omega arith)
