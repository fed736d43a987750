-- A run's steps, one after another.
use Prim.Native.Nat.{ℕ, ◌-◌, ◌≤◌, ◌<◌}
use native.Mathlib.Omega.{arith}
use mathlib.Core.Path.{◌≡◌, refl, sym, ◌∙◌, subst}
use mathlib.Core.Bool.{Bool, true, false}
use mathlib.Core.List.{List, [], ◌∷◌, ◌++◌, append_assoc}
use lib.Dec.{leb}
use lib.ListN.{length, take, drop, length-drop}
use lib.Seq.{take_all}
use borrow.Author.Tests.{leb-true, leb-false}
use Rattle.replay.specs.inner_contracts.Awaiting.{Memory}
use Rattle.replay.specs.inner_contracts.Feeding.{ROOM, Fed, FedOn}
use Rattle.replay.specs.definitions.InChunks.{Writes, WritesOn}
use Rattle.replay.specs.definitions.InChunks.Writes.{feeds, reads}
use Rattle.replay.specs.declared.Progress.{Progress}
use Rattle.runner.specs.inner_contracts.Passing.{Passed, FilePassed, PassedOn, FilePassedOn}

-- ---- whatever runs are spoken of: what is written from here on

module _ (W : Memory → List ℕ → List (List ℕ) → List ℕ → Type 0) where
  -- .. where a part of the rest is fed, which code lends so
  fed_goes : {m n n2 : Memory} {chunk rest : List ℕ} (printed part : List ℕ) (taken : ℕ)
      → ((later : List (List ℕ)) (all : List ℕ) → W n rest later all → W m chunk later (printed ++ all))
      → ((later : List (List ℕ)) (all : List ℕ) → W n2 (drop taken rest) later all → W n rest later (part ++ all))
      → (later : List (List ℕ)) (all : List ℕ) → W n2 (take (length rest - taken) (drop taken rest)) later all
      → W m chunk later ((printed ++ part) ++ all)
  fed_goes {m} {n} {n2} {chunk} {rest} printed part taken goes feed later all w =
      let d = length-drop taken rest in
      let all_of = take_all (length rest - taken) (drop taken rest) (omega arith) in
      subst (W m chunk later) (sym (append_assoc printed part all))
      (goes later (part ++ all) (feed later all (subst (λ (l : List ℕ). W n2 l later all) all_of w)))

  -- .. where one more chunk is read and fed whole
  file_goes : {m n n2 : Memory} (chunks : List (List ℕ)) {chunk : List ℕ} (printed more : List ℕ)
      → ((later : List (List ℕ)) (all : List ℕ) → W n [] later all → W m [] (chunks ++ later) (printed ++ all))
      → ((later : List (List ℕ)) (all : List ℕ) → W n chunk later all → W n [] (chunk ∷ later) all)
      → ((later : List (List ℕ)) (all : List ℕ) → W n2 [] later all → W n chunk later (more ++ all))
      → (later : List (List ℕ)) (all : List ℕ) → W n2 [] later all → W m [] ((chunks ++ chunk ∷ []) ++ later) ((printed ++ more) ++ all)
  file_goes {m} chunks {chunk} printed more goes read feed later all w =
      let a = goes (chunk ∷ later) (more ++ all) (read later (more ++ all) (feed later all w)) in
      let b = subst (W m [] (chunks ++ chunk ∷ later)) (sym (append_assoc printed more all)) a in
      subst (λ (x : List (List ℕ)). W m [] x ((printed ++ more) ++ all)) (sym (append_assoc chunks (chunk ∷ []) later)) b

-- ---- the steps

module _ (m : Memory) (chunk : List ℕ) where
  pub passed_none : Passed m chunk [] m chunk
  passed_none = record { printed = []; goes = λ later all w. w }

  -- a part of the chunk is fed, the rest as code lends it
  pub passed_fed : {n n2 : Memory} {rest out : List ℕ} {r : Progress} → Passed m chunk [] n rest → Fed n rest n2 out r
      → Passed m chunk [] n2 (take (length rest - r.taken) (drop r.taken rest))
  passed_fed {out = out} {r = r} p f =
      record { printed = p.printed ++ take r.used out; goes = fed_goes Writes p.printed (take r.used out) r.taken p.goes (λ later all w. feeds f w) }

  -- all of it is
  pub passed_all : {n : Memory} (rest : List ℕ) → length rest ≡ 0 → Passed m chunk [] n rest → Passed m chunk [] n []
  passed_all [] h p = p
  passed_all (b ∷ rest) h p = absurd (omega arith)

pub file_none : (m : Memory) → FilePassed m m
file_none m = record { chunks = []; passed = passed_none m [] }

-- one more chunk is read and fed whole
pub file_more : {m n n2 : Memory} (chunk : List ℕ) → FilePassed m n → Passed n chunk [] n2 [] → FilePassed m n2
file_more chunk f p = record {
  chunks = f.chunks ++ chunk ∷ [];
  passed = record {
    printed = f.passed.printed ++ p.printed;
    goes = file_goes Writes f.chunks f.passed.printed p.printed f.passed.goes (λ later all w. reads w) p.goes;
  };
}

-- a step with an empty buffer goes on
pub goes_on : {m n : Memory} {chunk out : List ℕ} {r : Progress} → Fed m chunk n out r → 0 < length chunk → ROOM ≤ length out → 0 < r.taken
goes_on {r = r} f h room = go (leb r.taken 0) refl
  where
    go : (b : Bool) → leb r.taken 0 ≡ b → 0 < r.taken
    go true e =
        let n = leb-true r.taken 0 e in
        let none : r.taken ≡ 0 = omega arith in
        let u = f.fed.still none in
        let z = f.stops (omega arith) in
        absurd (omega arith)
    go false e = leb-false r.taken 0 e

-- ---- on one bench

module _ (m : Memory) (chunk : List ℕ) where
  pub passed_none_on : PassedOn m chunk [] m chunk
  passed_none_on = record { same = refl; printed = []; goes = λ later all w. w; goes_on_bench = λ later all w. w }

  pub passed_fed_on : {n n2 : Memory} {rest out : List ℕ} {r : Progress} → PassedOn m chunk [] n rest → FedOn n rest n2 out r
      → PassedOn m chunk [] n2 (take (length rest - r.taken) (drop r.taken rest))
  passed_fed_on {out = out} {r = r} p f = record {
    same = f.same ∙ p.same;
    printed = p.printed ++ take r.used out;
    goes = fed_goes Writes p.printed (take r.used out) r.taken p.goes (λ later all w. feeds f.fed w);
    goes_on_bench = fed_goes WritesOn p.printed (take r.used out) r.taken p.goes_on_bench (λ later all w. WritesOn.feeds f w);
  }

  pub passed_all_on : {n : Memory} (rest : List ℕ) → length rest ≡ 0 → PassedOn m chunk [] n rest → PassedOn m chunk [] n []
  passed_all_on [] h p = p
  passed_all_on (b ∷ rest) h p = absurd (omega arith)

pub file_none_on : (m : Memory) → FilePassedOn m m
file_none_on m = record { chunks = []; passed = passed_none_on m [] }

pub file_more_on : {m n n2 : Memory} (chunk : List ℕ) → FilePassedOn m n → PassedOn n chunk [] n2 [] → FilePassedOn m n2
file_more_on chunk f p = record {
  chunks = f.chunks ++ chunk ∷ [];
  passed = record {
    same = p.same ∙ f.passed.same;
    printed = f.passed.printed ++ p.printed;
    goes = file_goes Writes f.chunks f.passed.printed p.printed f.passed.goes (λ later all w. reads w) p.goes;
    goes_on_bench = file_goes WritesOn f.chunks f.passed.printed p.printed f.passed.goes_on_bench (λ later all w. WritesOn.reads w) p.goes_on_bench;
  };
}
