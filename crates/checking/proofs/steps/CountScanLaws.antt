-- One turn of a scan for the counts: what is found so far, with what is still to be found, stays the same.
use Prim.Native.Nat.{ℕ, zero, suc, ◌+◌, ◌-◌, ◌≤◌, ◌<◌}
use native.Mathlib.Nat.{sub-zero}
use native.Mathlib.Numerals.{add-one}
use native.Mathlib.Omega.{arith}
use mathlib.Core.Path.{◌≡◌, refl, sym, ap, ◌∙◌}
use mathlib.Core.List.{List, [], ◌∷◌, ◌++◌}
use mathlib.Core.Option.{Option, none, some}
use lib.ListN.{get_or}
use lib.Seq.{drop-nil}
use borrow.Author.Tests.{ne_eqb, le-leb, lt-leb}
use Rattle.text.specs.definitions.Tokens.{INTERFACE, ATTRIBUTE, EVENT, ACTION, ENTITY, WHEN, COLON}
use Rattle.checking.specs.definitions.Faults.{Fault, fault, earlier, earliest}
use Rattle.checking.specs.inner_contracts.FoundFaults.{Found, found_as, merged}
use Rattle.checking.specs.definitions.CountFaults.{beyond}
use Rattle.checking.specs.inner_contracts.CountScan.{
  DeclaredSort,
  an_interface,
  a_member,
  an_entity,
  none_declared,
  declared_count,
  declared_step,
  declared_scan,
  RuledSort,
  a_rule,
  a_variable,
  a_clause,
  a_call,
  none_ruled,
  ruled_count,
  ruled_step,
  ruled_scan,
  past,
}
use Rattle.checking.proofs.laws.FaultLaws.{merged_none_right, merged_assoc, earliest_append}

-- what is found, and what the rest has
abbrev pub WithRest : Option Fault → Found → List Fault → Type 0
WithRest all found rest = merged (found_as found) (earliest rest) ≡ all

-- the first part of the rest is found too
pub found_part : {all : Option Fault} (found now : Found) (scan part rest : List Fault) → scan ≡ part ++ rest → WithRest all found scan
    → found_as now ≡ merged (found_as found) (earliest part) → WithRest all now rest
found_part found now scan part rest e h q =
    rw q (merged_assoc (found_as found) (earliest part) (earliest rest)
    ∙ ap (merged (found_as found)) (sym (earliest_append part rest) ∙ ap earliest (sym e))
    ∙ h)

-- an item where some may still come, and where none may
module _ (offsets : List ℕ) (left i : ℕ) where
  pub past_none : 0 < left → none ≡ earliest (past offsets left i)
  unfolding past earliest
  past_none l = go left l
    where
      go : (n : ℕ) → 0 < n → none ≡ earliest (beyond n (get_or offsets i 0 ∷ []))
      go zero l = absurd (omega arith)
      go (suc n) l = rw (drop-nil n)

  pub past_one : {at : ℕ} → left ≤ 0 → at ≡ get_or offsets i 0 → some (fault 14 at) ≡ earliest (past offsets left i)
  unfolding past earliest earlier
  past_one l e = let z : left ≡ 0 = omega arith in rw (e, z)

-- ---- before `rules`

module _ (c : ℕ) where
  member_count : ATTRIBUTE ≤ c → c ≤ ACTION → declared_count c ≡ a_member
  unfolding declared_count
  member_count low high = rw (ne_eqb c INTERFACE (omega arith), le-leb ATTRIBUTE c low, le-leb c ACTION high, declared_count)

  -- by the tests in their order
  pub none_below : (c ≡ INTERFACE → ⊥) → c < ATTRIBUTE → declared_count c ≡ none_declared
  unfolding declared_count
  none_below n l = rw (ne_eqb c INTERFACE n, lt-leb ATTRIBUTE c l, ne_eqb c ENTITY (omega arith), declared_count)

  pub none_above : ACTION < c → (c ≡ ENTITY → ⊥) → declared_count c ≡ none_declared
  unfolding declared_count
  none_above l n = rw (ne_eqb c INTERFACE (omega arith), le-leb ATTRIBUTE c (omega arith), lt-leb c ACTION l, ne_eqb c ENTITY n, declared_count)

module _ (classes offsets : List ℕ) (end : ℕ) where
  -- so many interfaces, members, entities may still come
  pub record Declaring (i a b c : ℕ) (found : Found) : Type 0 where
    pub rest : WithRest (earliest (declared_scan classes offsets end 0 16 12 32)) found (declared_scan classes offsets (end - i) i a b c)

  pub declaring_starts : {found : Found} → found_as found ≡ none → Declaring 0 16 12 32 found
  unfolding merged
  declaring_starts e = record { rest = rw (e, sub-zero end) }

  declared_turn : (i a b c : ℕ) → i < end → declared_scan classes offsets (end - i) i a b c
      ≡ declared_step offsets (declared_count (get_or classes i 0)) i a b c (declared_scan classes offsets (end - (i + 1)) (i + 1))
  unfolding declared_scan
  declared_turn i a b c l = let e : end - i ≡ suc (end - suc i) = omega arith in rw (add-one i, e)

  module _ {i a b c : ℕ} {found : Found} (h : Declaring i a b c found) (l : i < end) {class : ℕ} (k : class ≡ get_or classes i 0) where
    turned : (d : DeclaredSort) → declared_count class ≡ d
        → declared_scan classes offsets (end - i) i a b c ≡ declared_step offsets d i a b c (declared_scan classes offsets (end - (i + 1)) (i + 1))
    turned d e = declared_turn i a b c l ∙ rw (← k, e)

    -- one item more: of what may still come, these are left
    item_turn : (d : DeclaredSort) → declared_count class ≡ d → (now : Found) (left a' b' c' : ℕ)
        → ((rest : ℕ → ℕ → ℕ → List Fault) → declared_step offsets d i a b c rest ≡ past offsets left i ++ rest a' b' c')
        → found_as now ≡ merged (found_as found) (earliest (past offsets left i)) → Declaring (i + 1) a' b' c' now
    item_turn d e now left a' b' c' s q = record {
      rest = found_part found now _ (past offsets left i) _ (turned d e ∙ s (declared_scan classes offsets (end - (i + 1)) (i + 1))) h.rest q;
    }

    module _ {now : Found} {left : ℕ} where
      pub interface_turn : class ≡ INTERFACE → found_as now ≡ merged (found_as found) (earliest (past offsets a i)) → left ≡ a - 1
          → Declaring (i + 1) left 12 c now
      unfolding declared_step declared_count
      interface_turn e q m = rw m (item_turn an_interface (rw e) now a (a - 1) 12 c (λ r. refl) q)

      pub member_turn : ATTRIBUTE ≤ class → class ≤ ACTION → found_as now ≡ merged (found_as found) (earliest (past offsets b i)) → left ≡ b - 1
          → Declaring (i + 1) a left c now
      unfolding declared_step
      member_turn low high q m = rw m (item_turn a_member (member_count class low high) now b a (b - 1) c (λ r. refl) q)

      pub entity_turn : class ≡ ENTITY → found_as now ≡ merged (found_as found) (earliest (past offsets c i)) → left ≡ c - 1
          → Declaring (i + 1) a b left now
      unfolding declared_step declared_count
      entity_turn e q m = rw m (item_turn an_entity (rw e) now c a b (c - 1) (λ r. refl) q)

    pub declared_pass : declared_count class ≡ none_declared → Declaring (i + 1) a b c found
    unfolding declared_step
    declared_pass e = record { rest = rw (turned none_declared e) at h.rest }

  pub declaring_ends : {i a b c : ℕ} {found : Found} → Declaring i a b c found → end ≤ i
      → found_as found ≡ earliest (declared_scan classes offsets end 0 16 12 32)
  unfolding declared_scan earliest
  declaring_ends {i} {found = found} h l =
      let e : end - i ≡ 0 = omega arith in
      sym (merged_none_right (found_as found)) ∙ (rw e at h.rest)

-- ---- after `rules`

module _ (c : ℕ) where
  pub none_ruled_of : (c ≡ WHEN → ⊥) → (c ≡ COLON → ⊥) → (c ≡ EVENT → ⊥) → (c ≡ ACTION → ⊥) → ruled_count c ≡ none_ruled
  unfolding ruled_count
  none_ruled_of w v e a = rw (ne_eqb c WHEN w, ne_eqb c COLON v, ne_eqb c EVENT e, ne_eqb c ACTION a, ruled_count)

module _ (classes offsets : List ℕ) (end from : ℕ) where
  -- so many rules, and variables, clauses and calls of the last, may still come
  pub record Ruling (i a b c d : ℕ) (found : Found) : Type 0 where
    pub rest : WithRest (earliest (ruled_scan classes offsets (end - from) from 64 3 8 8)) found (ruled_scan classes offsets (end - i) i a b c d)

  pub ruling_starts : {found : Found} → found_as found ≡ none → Ruling from 64 3 8 8 found
  unfolding merged
  ruling_starts e = record { rest = rw e }

  ruled_turn : (i a b c d : ℕ) → i < end → ruled_scan classes offsets (end - i) i a b c d
      ≡ ruled_step offsets (ruled_count (get_or classes i 0)) i a b c d (ruled_scan classes offsets (end - (i + 1)) (i + 1))
  unfolding ruled_scan
  ruled_turn i a b c d l = let e : end - i ≡ suc (end - suc i) = omega arith in rw (add-one i, e)

  module _ {i a b c d : ℕ} {found : Found} (h : Ruling i a b c d found) (l : i < end) {class : ℕ} (k : class ≡ get_or classes i 0) where
    ruled_by : (x : RuledSort) → ruled_count class ≡ x
        → ruled_scan classes offsets (end - i) i a b c d ≡ ruled_step offsets x i a b c d (ruled_scan classes offsets (end - (i + 1)) (i + 1))
    ruled_by x e = ruled_turn i a b c d l ∙ rw (← k, e)

    -- one item more: of what may still come, these are left
    ruled_item_turn : (x : RuledSort) → ruled_count class ≡ x → (now : Found) (left at a' b' c' d' : ℕ)
        → ((rest : ℕ → ℕ → ℕ → ℕ → List Fault) → ruled_step offsets x i a b c d rest ≡ past offsets left at ++ rest a' b' c' d')
        → found_as now ≡ merged (found_as found) (earliest (past offsets left at)) → Ruling (i + 1) a' b' c' d' now
    ruled_item_turn x e now left at a' b' c' d' s q =
        record { rest = found_part found now _ (past offsets left at) _ (ruled_by x e ∙ s (ruled_scan classes offsets (end - (i + 1)) (i + 1))) h.rest q }

    module _ {now : Found} {left : ℕ} where
      pub rule_turn : class ≡ WHEN → found_as now ≡ merged (found_as found) (earliest (past offsets a i)) → left ≡ a - 1 → Ruling (i + 1) left 3 8 8 now
      unfolding ruled_step ruled_count
      rule_turn e q m = rw m (ruled_item_turn a_rule (rw e) now a i (a - 1) 3 8 8 (λ r. refl) q)

      pub variable_turn : (at : ℕ) → at ≡ i - 1 → class ≡ COLON → found_as now ≡ merged (found_as found) (earliest (past offsets b at)) → left ≡ b - 1
          → Ruling (i + 1) a left c d now
      unfolding ruled_step ruled_count
      variable_turn at p e q m = rw m (ruled_item_turn a_variable (rw e) now b (i - 1) a (b - 1) c d (λ r. refl) (rw p at q))

      pub clause_turn : class ≡ EVENT → found_as now ≡ merged (found_as found) (earliest (past offsets c i)) → left ≡ c - 1
          → Ruling (i + 1) a b left d now
      unfolding ruled_step ruled_count
      clause_turn e q m = rw m (ruled_item_turn a_clause (rw e) now c i a b (c - 1) d (λ r. refl) q)

      pub call_turn : class ≡ ACTION → found_as now ≡ merged (found_as found) (earliest (past offsets d i)) → left ≡ d - 1 → Ruling (i + 1) a b c left now
      unfolding ruled_step ruled_count
      call_turn e q m = rw m (ruled_item_turn a_call (rw e) now d i a b c (d - 1) (λ r. refl) q)

    pub ruled_pass : ruled_count class ≡ none_ruled → Ruling (i + 1) a b c d found
    unfolding ruled_step
    ruled_pass e = record { rest = rw (ruled_by none_ruled e) at h.rest }

  pub ruling_ends : {i a b c d : ℕ} {found : Found} → Ruling i a b c d found → end ≤ i
      → found_as found ≡ earliest (ruled_scan classes offsets (end - from) from 64 3 8 8)
  unfolding ruled_scan earliest
  ruling_ends {i} {found = found} h l =
      let e : end - i ≡ 0 = omega arith in
      sym (merged_none_right (found_as found)) ∙ (rw e at h.rest)

-- the turns of the scan before `rules`
pub ruleset declared_turns = (interface_turn, member_turn, entity_turn, declared_pass, declaring_ends, none_below, none_above)

-- and after it
pub ruleset ruled_turns = (rule_turn, variable_turn, clause_turn, call_turn, ruled_pass, ruling_ends, none_ruled_of)
