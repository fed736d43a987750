-- The scan for the priorities: what it finds so far, with what is still to be found, stays the same; of a grammatical file's columns it finds the
-- faults of its priorities.
use Prim.Native.Nat.{ℕ, zero, suc, ◌+◌, ◌-◌, ◌≤◌, ◌<◌}
use native.Mathlib.Nat.{sub-zero}
use native.Mathlib.Numerals.{add-one}
use native.Mathlib.Omega.{arith}
use mathlib.Core.Path.{◌≡◌, refl, sym, ap, ap₂, ◌∙◌}
use mathlib.Core.Bool.{cond}
use mathlib.Core.List.{List, [], ◌++◌, flat_map, append-nil}
use mathlib.Core.Option.{Option, none, some}
use lib.Dec.{leb, eqb}
use lib.ListN.{length, get_or}
use borrow.Author.Tests.{ne_eqb}
use Rattle.text.specs.definitions.Tokens.{Token, RANK}
use Rattle.text.specs.definitions.Syntax.{Priority, Rule}
use Rattle.text.proofs.laws.LanguageLaws.{is}
use Rattle.text.proofs.laws.ListLaws.{flatMap_flatMap}
use Rattle.text.proofs.laws.SpotLaws.{Spots, over, skip, spot, spots_le}
use Rattle.text.proofs.laws.RuleMarks.{PriorityAt}
use Rattle.text.proofs.laws.FlatLaws.{priority_listed, file_marks, file_priorities}
use Rattle.checking.specs.definitions.Faults.{fault_unless, earliest}
use Rattle.checking.specs.definitions.PriorityFaults.{MOST_PRIORITY, number_faults, given_faults, priority_faults}
use Rattle.checking.specs.inner_contracts.FoundFaults.{Found, found_as, merged}
use Rattle.checking.specs.inner_contracts.CountChecked.{ClassesOf, OffsetsOf}
use Rattle.checking.specs.inner_contracts.CheckedBench.{ValuesOf}
use Rattle.checking.specs.inner_contracts.PriorityScan.{number_fault_at, priority_scan, PriorityChecked}
use Rattle.checking.proofs.laws.FaultLaws.{merged_none_right}
use Rattle.checking.proofs.steps.CountScanLaws.{WithRest, found_part}

-- ---- the loop

module _ (classes offsets values : List ℕ) (end : ℕ) where
  pub record Prioritizing (i : ℕ) (found : Found) : Type 0 where
    pub rest : WithRest (earliest (priority_scan classes offsets values end 0)) found (priority_scan classes offsets values (end - i) i)

  pub prioritizing_starts : {found : Found} → found_as found ≡ none → Prioritizing 0 found
  unfolding merged
  prioritizing_starts e = record { rest = rw (e, sub-zero end) }

  priority_turned : (i : ℕ) → i < end → priority_scan classes offsets values (end - i) i
      ≡ cond (eqb (get_or classes i 0) RANK) (number_fault_at offsets values (i + 1)) [] ++ priority_scan classes offsets values (end - (i + 1)) (i + 1)
  unfolding priority_scan
  priority_turned i l = let e : end - i ≡ suc (end - suc i) = omega arith in rw (add-one i, e)

  module _ {i : ℕ} {found : Found} (h : Prioritizing i found) (l : i < end) {class : ℕ} (k : class ≡ get_or classes i 0) where
    pub priority_turn : {now : Found} → class ≡ RANK → found_as now ≡ merged (found_as found) (earliest (number_fault_at offsets values (i + 1)))
        → Prioritizing (i + 1) now
    priority_turn {now} e q = record {
      rest = found_part found now _ (number_fault_at offsets values (i + 1)) _ (priority_turned i l ∙ rw (← k, e)) h.rest q;
    }

    pub priority_pass : (class ≡ RANK → ⊥) → Prioritizing (i + 1) found
    priority_pass n =
        let s : priority_scan classes offsets values (end - i) i ≡ priority_scan classes offsets values (end - (i + 1)) (i + 1) =
        priority_turned i l ∙ rw (← k, ne_eqb class RANK n) in
        record { rest = rw s at h.rest }

  pub prioritizing_ends : {i : ℕ} {found : Found} → Prioritizing i found → end ≤ i → found_as found ≡ earliest (priority_scan classes offsets values end 0)
  unfolding priority_scan earliest
  prioritizing_ends {i} {found} h l =
      let e : end - i ≡ 0 = omega arith in
      sym (merged_none_right (found_as found)) ∙ (rw e at h.rest)

-- ---- the columns of a file

module _ {classes offsets : List ℕ} (values : List ℕ) {ts : List Token} (w : ClassesOf classes ts) (o : OffsetsOf offsets ts) (v : ValuesOf values ts) where
  number_there : (p : ℕ) (k : Priority) → PriorityAt ts p k → number_fault_at offsets values (suc p) ≡ number_faults k
  unfolding number_fault_at number_faults
  number_there p k a =
      ap₂ (λ n x. fault_unless (leb n MOST_PRIORITY) 44 x) (sym (v (suc p) a.number a.stands) ∙ a.value)
      (sym (o.offset (suc p) a.number a.stands) ∙ a.offset)

  priority_scanned : {p q : ℕ} {ks : List Priority} → Spots ts (is RANK) (PriorityAt ts) p q ks → (n : ℕ) → p + n ≡ q
      → priority_scan classes offsets values n p ≡ flat_map number_faults ks
  unfolding priority_scan flat_map
  priority_scanned (over {p = p}) n e = let z : n ≡ 0 = omega arith in rw z
  priority_scanned (skip t s c h) zero e = absurd (omega (arith, spots_le h))
  priority_scanned (skip {p = p} t s c h) (suc n) e = rw (← w.class p t s, c) (priority_scanned h n (omega arith))
  priority_scanned (spot t s c a h) zero e = absurd (omega (arith, spots_le h))
  priority_scanned (spot {p = p} {x = k} t s c a h) (suc n) e = rw (← w.class p t s, c, number_there p k a, priority_scanned h n (omega arith))

-- the priorities of the rules, one after another
priorities_listed : (rs : List Rule) → flat_map number_faults (flat_map (λ r. priority_listed r.priority) rs) ≡ flat_map (λ r. given_faults r.priority) rs
unfolding given_faults priority_listed flat_map
priorities_listed rs = flatMap_flatMap number_faults (λ r. priority_listed r.priority) (λ r. given_faults r.priority) (λ r. go r.priority) rs
  where
    go : (o : Option Priority) → flat_map number_faults (priority_listed o) ≡ given_faults o
    go none = refl
    go (some k) = append-nil (number_faults k)

pub priority_checked : (classes offsets values : List ℕ) {r : Found} → found_as r ≡ earliest (priority_scan classes offsets values (length classes) 0)
    → PriorityChecked classes offsets values r
unfolding priority_faults
priority_checked classes offsets values e = record {
  found = λ ts f w o v reads.
      let spots = file_priorities (file_marks ts f (length ts) reads) in
      let size = w.count in
      e ∙ ap earliest (priority_scanned values w o v spots (length classes) (omega arith) ∙ priorities_listed f.rules);
}

-- the turns of the scan
pub ruleset priority_turns = (priority_turn, priority_pass, prioritizing_ends, priority_checked)
