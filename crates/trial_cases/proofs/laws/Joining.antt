-- A clause `value = X` of the reference machine, at an entity that joins, and in two cycles one after the other.
use Prim.Native.Nat.{ℕ}
use mathlib.Core.Path.{◌≡◌, refl, sym, ap, ap₂, ◌∙◌}
use mathlib.Core.Bool.{Bool, true, false, not, ◌&&◌, and-true, and-false}
use mathlib.Core.Option.{Option, none, some}
use native.Mathlib.Omega.{arith}
use Rattle.values.specs.declared.Value.{Value}
use Rattle.values.specs.declared.Value.TheVariants.{Unset}
use Rattle.values.specs.definitions.Value.{equal}
use Rattle.values.specs.definitions.Fitting.{kinds_fit, value_kind}
use Rattle.text.specs.definitions.Syntax.{Expression, equals, Clause}
use Rattle.text.proofs.laws.ListLaws.{some_injective}
use Rattle.checking.specs.definitions.Scope.{is_event}
use Rattle.cycles.specs.definitions.Outcome.{Outcome, stuck, running, proceed, with_found, run_if}
use Rattle.cycles.specs.definitions.Store.{Store}
use Rattle.cycles.specs.definitions.Spots.{Spot, Spots}
use Rattle.cycles.specs.definitions.Reference.{read_spot, ref_equal, ref_value, with_sort, ref_filter, ref_test, ref_clause}

-- ---- what has a result ran through its parts

module _ {A : Type 0} where
  running_injective : {a b : A} → running a ≡ running b → a ≡ b
  running_injective h = cc

  stuck_running : {a : A} → stuck ≡ running a → ⊥
  stuck_running h = let z : ◌≡◌ {A = ℕ} 0 1 = cc in omega arith

  if_ran : (t : Bool) (o : Outcome A) {a : A} → run_if t o ≡ running a → o ≡ running a
  unfolding run_if
  if_ran true o h = h
  if_ran false o h = absurd (stuck_running h)

module _ {A B : Type 0} where
  proceed_ran : (o : Outcome A) (next : A → Outcome B) {b : B} → proceed o next ≡ running b → (a : A) × (o ≡ running a) × (next a ≡ running b)
  unfolding proceed
  proceed_ran stuck next h = absurd (stuck_running h)
  proceed_ran (running a) next h = (a, refl, h)

  found_ran : (o : Option A) (next : A → Outcome B) {b : B} → with_found o next ≡ running b → (a : A) × (o ≡ some a) × (next a ≡ running b)
  unfolding with_found
  found_ran none next h = absurd (stuck_running h)
  found_ran (some a) next h = (a, refl, h)

equal_ran : (a b : Value) {r : Bool} → ref_equal a b ≡ running r → r ≡ equal a b
unfolding ref_equal
equal_ran a b h = sym (running_injective (if_ran (kinds_fit (value_kind a) (value_kind b)) (running (equal a b)) h))

-- ---- a clause `value = X` that ran

module _ (sp : Spots) (x : Expression) (now previous : Store) where
  pub record TestRan (p : Spot) (r : Bool) : Type 0 where
    pub value_now : Value
    pub value_before : Value
    pub runs_now : ref_value sp now x ≡ running value_now
    pub runs_before : ref_value sp previous x ≡ running value_before
    pub result : r ≡ (equal (read_spot now p) value_now && not (equal (read_spot previous p) value_before))

  test_ran : (p : Spot) (at : ℕ) {r : Bool} → ref_test sp now previous p (equals at x) ≡ running r → TestRan p r
  unfolding ref_test
  test_ran p at h =
      let (v, e, h₁) = proceed_ran (ref_value sp now x) _ h in
      let (w, f, h₂) = proceed_ran (ref_value sp previous x) _ h₁ in
      let (i, g, h₃) = proceed_ran (ref_equal (read_spot now p) v) _ h₂ in
      let (j, k, h₄) = proceed_ran (ref_equal (read_spot previous p) w) _ h₃ in
      record {
        value_now = v;
        value_before = w;
        runs_now = e;
        runs_before = f;
        result = sym (running_injective h₄) ∙ ap₂ (λ i j. i && not j) (equal_ran (read_spot now p) v g) (equal_ran (read_spot previous p) w k);
      }

  pub record ClauseRan (c : Clause) (r : Bool) : Type 0 where
    pub spot : Spot
    pub filter : Bool
    pub tested : Bool
    pub found : sp c.target.name.bytes c.event.bytes ≡ some spot
    pub runs_filter : ref_filter sp now c.target c.filter ≡ running filter
    pub test : TestRan spot tested
    pub result : r ≡ (now.present spot.entity && (filter && tested))

  clause_ran : (c : Clause) (at : ℕ) → c.test ≡ equals at x → {r : Bool} → ref_clause sp now previous c ≡ running r → ClauseRan c r
  unfolding ref_clause with_sort
  clause_ran c at is h =
      let (p, e, h₁) = found_ran (sp c.target.name.bytes c.event.bytes) _ h in
      let (i, f, h₂) = proceed_ran (ref_filter sp now c.target c.filter) _ (if_ran (is_event p.what.sort) _ h₁) in
      let (j, g, h₃) = proceed_ran (ref_test sp now previous p c.test) _ h₂ in
      record {
        spot = p;
        filter = i;
        tested = j;
        found = e;
        runs_filter = f;
        test = test_ran p at (ap (ref_test sp now previous p) (sym is) ∙ g);
        result = sym (running_injective h₃);
      }

-- ---- at an entity that joins

read_unset : (s : Store) (p : Spot) → s.present p.entity ≡ false → read_spot s p ≡ Unset
unfolding read_spot
read_unset s p h = rw h

module _ (sp : Spots) (c : Clause) (at : ℕ) (x : Expression) (is : c.test ≡ equals at x) where
  pub clause_on_joining : (now previous : Store) (p : Spot) → sp c.target.name.bytes c.event.bytes ≡ some p
      → previous.present p.entity ≡ false → (filter : Bool) → ref_filter sp now c.target c.filter ≡ running filter
      → (v : Value) → ref_value sp now x ≡ running v → (r : Bool) → ref_clause sp now previous c ≡ running r
      → r ≡ (now.present p.entity && (filter && equal (read_spot now p) v))
  clause_on_joining now previous p found absent filter ef v ev r h =
      let t = clause_ran sp x now previous c at is h in
      let same : t.spot ≡ p = some_injective (sym t.found ∙ found) in
      t.result
      ∙ ap₂ ◌&&◌ (ap (λ q. now.present q.entity) same)
      (ap₂ ◌&&◌ (running_injective (sym t.runs_filter ∙ ef))
      (t.test.result ∙ only_now t.spot t.test.value_now t.test.value_before same (running_injective (sym t.test.runs_now ∙ ev))))
    where
      only_now : (q : Spot) (u w : Value) → q ≡ p → u ≡ v → (equal (read_spot now q) u && not (equal (read_spot previous q) w)) ≡ equal (read_spot now p) v
      only_now q u w es eu = rw (es, eu, read_unset previous p absent) (and-true (equal (read_spot now p) v))

  -- ---- in two cycles

  third_holds : (a b c d : Bool) → (a && (b && (c && d))) ≡ true → c ≡ true
  third_holds a b true d h = refl
  third_holds true true false d h = h
  third_holds true false false d h = h
  third_holds false b false d h = h

  pub clause_once : (next now previous : Store) → ref_clause sp now previous c ≡ running true → (r : Bool) → ref_clause sp next now c ≡ running r → r ≡ false
  clause_once next now previous h r g =
      let t = clause_ran sp x now previous c at is h in
      let u = clause_ran sp x next now c at is g in
      let held : equal (read_spot now t.spot) t.test.value_now ≡ true =
      third_holds (now.present t.spot.entity) t.filter _ _
      (sym (t.result ∙ ap (λ b. now.present t.spot.entity && (t.filter && b)) t.test.result)) in
      u.result
      ∙ ap (λ b. next.present u.spot.entity && (u.filter && b))
      (u.test.result ∙ was_equal t.spot u.spot t.test.value_now u.test.value_before (some_injective (sym u.found ∙ t.found))
      (running_injective (sym u.test.runs_before ∙ t.test.runs_now)) held (equal (read_spot next u.spot) u.test.value_now))
      ∙ ap (λ b. next.present u.spot.entity && b) (and-false u.filter)
      ∙ and-false (next.present u.spot.entity)
    where
      was_equal : (p q : Spot) (v w : Value) → q ≡ p → w ≡ v → equal (read_spot now p) v ≡ true → (b : Bool) → (b && not (equal (read_spot now q) w)) ≡ false
      was_equal p q v w es ew e b = rw (es, ew, e) (and-false b)
