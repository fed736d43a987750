-- The check accepts exactly the texts that are admitted.
use Prim.Native.Nat.{ℕ, ◌≤◌, ◌<◌}
use native.Mathlib.Omega.{arith}
use mathlib.Core.Path.{◌≡◌, refl, sym, ap, ◌∙◌, subst}
use mathlib.Core.Logic.{◌↔◌}
use mathlib.Core.List.{List}
use lib.Dec.{lit<}
use lib.ListN.{length}
use borrow.Author.Tests.{le-ltb}
use Rattle.checking.specs.definitions.Verdict.{Verdict, verdict, verdict_answer}
use Rattle.checking.specs.definitions.Admitted.{Admitted}
use Rattle.checking.proofs.laws.FaultCodes.{RefusedByCode, verdict_code}
use Rattle.checking.proofs.theorems.AdmittedLaws.{accepted_admitted, admitted_accepted}
use Rattle.engine.specs.definitions.BenchImage.{BENCH}
use Rattle.engine.specs.definitions.Calls.{AfterCheck, checked, check_call, CheckContract}
use Rattle.engine.specs.definitions.DemandOne.{number_of}
use Rattle.engine.specs.definitions.DemandTwo.{Checks}
use Rattle.engine.proofs.laws.LeavesLaws.{check_leaves}

-- a code that is no acceptance
abbrev SomeCode : ℕ → Type 0
SomeCode code = (code < 256) × (0 < code)

some_code : (text : List ℕ) → RefusedByCode SomeCode (verdict text)
some_code =
    verdict_code SomeCode (lit< tt, lit< tt) (lit< tt, lit< tt) (lit< tt, lit< tt) (lit< tt, lit< tt) (lit< tt, lit< tt) (lit< tt, lit< tt)
    (lit< tt, lit< tt) (lit< tt, lit< tt) (lit< tt, lit< tt)

check_answer : (text bench : List ℕ) → BENCH ≤ length bench → (check_call text bench).answer ≡ verdict_answer (verdict text)
unfolding check_call checked
check_answer text bench h = rw (le-ltb (length bench) BENCH h, check_call) (go (verdict text))
  where
    go : (v : Verdict) → (checked v text bench).answer ≡ verdict_answer v
    go (Verdict.accepted f) = refl
    go (Verdict.refused_at code at) = refl

accepts_admitted : (text : List ℕ) (v : Verdict) → verdict text ≡ v → RefusedByCode SomeCode v → number_of (verdict_answer v) ≡ 0 → Admitted text
unfolding verdict_answer
accepts_admitted text (Verdict.accepted f) e p h = accepted_admitted text f e
accepts_admitted text (Verdict.refused_at code at) e p h = let l = p.0 in let z = p.1 in absurd (omega arith)

accepts_checks : (text bench : List ℕ) → BENCH ≤ length bench → (v : Verdict) → verdict text ≡ v → RefusedByCode SomeCode v
    → number_of (verdict_answer v) ≡ 0 → Checks text (check_call text bench).bench
unfolding verdict_answer
accepts_checks text bench h (Verdict.accepted f) e p z = record { file = f; is_file = e; leaves = check_leaves text bench e h }
accepts_checks text bench h (Verdict.refused_at code at) e p z = let l = p.0 in let k = p.1 in absurd (omega arith)

pub check_admits : (text bench new_bench : List ℕ) (r : ℕ) → CheckContract text bench new_bench r → BENCH ≤ length bench
    → ((number_of r ≡ 0) ↔ Admitted text) × (number_of r ≡ 0 → Checks text new_bench)
unfolding verdict_answer
check_admits text bench new_bench r c h =
    let e : r ≡ verdict_answer (verdict text) = ap (λ (x : AfterCheck). x.answer) c ∙ check_answer text bench h in
    let b : (check_call text bench).bench ≡ new_bench = ap (λ (x : AfterCheck). x.bench) (sym c) in (
      (
        λ n. accepts_admitted text (verdict text) refl (some_code text) (ap number_of (sym e) ∙ n),
        λ a. let (f, v) = admitted_accepted text a in ap number_of (e ∙ ap verdict_answer v),
      ),
      λ n. subst (Checks text) b (accepts_checks text bench h (verdict text) refl (some_code text) (ap number_of (sym e) ∙ n)),
    )
