-- The guards of a condition, by a walk over its tokens: one law for each place where the walk returns, and two for its loop.
use Prim.Native.Nat.{ℕ, ◌+◌}
use mathlib.Core.Path.{◌≡◌, refl, sym, ap, ◌∙◌}
use mathlib.Core.List.{List}
use mathlib.Core.Bool.{false, ◌&&◌, and-false}
use mathlib.Core.Option.{Option}
use mathlib.Core.Logic.{inl}
use native.Mathlib.Omega.{arith}
use lib.ListN.{length, get_or}
use Rattle.values.specs.definitions.Value.{equal}
use Rattle.text.specs.definitions.Tokens.{NAME, WITH, CHANGED, AND, ROUND_OPEN}
use Rattle.text.specs.definitions.Syntax.{Expression, Target, Filter, Clause, clause}
use Rattle.text.specs.definitions.Readers.{Parser, joined}
use Rattle.text.specs.definitions.Grammar.{
  name_of,
  expression_reader,
  filter_reader,
  clause_reader,
  both_at,
  is_and,
  atom_reader,
  conjunction_reader,
}
use Rattle.text.specs.definitions.Syntax.{OPENERS}
use Rattle.text.specs.inner_contracts.Walks.{nth_token, Rows, Stands, Steps, Walks, Looping, Ends}
use Rattle.text.proofs.laws.WalkLaws.{walk_then, walk_stops, chain_turns}
use Rattle.text.proofs.laws.ConditionWalks.{filter_none, filter_some, test_changed, test_equals, clause_walk, atom_clause, conjunction_begins}
use Rattle.cycles.specs.definitions.Store.{Store}
use Rattle.cycles.specs.definitions.Spots.{Spots}
use Rattle.cycles.specs.inner_contracts.TotalMachine.{value_at, is_present_at, value, filter_holds, test_holds, holds}
use Rattle.cycles.specs.inner_contracts.Evaluation.{Targeted, all_rows, TargetWalk}
use Rattle.cycles.specs.inner_contracts.GuardKinds.{
  Covered,
  Names,
  source,
  attribute,
  spot_named,
  Part,
  equals_now,
  differs_before,
  changes,
  group,
}
use Rattle.cycles.specs.declared.guards.Guard.{Guard}
use Rattle.cycles.specs.declared.guards.GuardKind.TheVariants.{EqualNow, UnequalBefore, Changes, Holds}
use Rattle.cycles.specs.inner_contracts.Finding.{Growth, PartPut, ConditionGuards, FilterGuardsWalk, TestGuardsWalk, ConditionGuardsWalk}
use Rattle.cycles.proofs.steps.EvaluationLaws.{target_named}
use Rattle.cycles.proofs.steps.ConditionValues.{and_joins}
use Rattle.cycles.proofs.steps.GuardPuts.{covered_more, extends_same, extends_put, extends_then, extends_whole}

-- ---- expressions and filters

-- what is read there, whatever level covers it
pub part_walk : {classes : List ℕ} (refs : List ℕ) {A : Type 0} {r : Parser A} {at next : ℕ} → Ends classes r at next
    → Walks (all_rows classes) (λ w a (u : Unit {0}). (level : ℕ) → Covered refs level at next → Part r w refs level at a) r at tt next
part_walk refs h = walk_then (λ w a l k y level c. record {
  used = y.used;
  reads = y.reads;
  from = l;
  before = omega (arith, y.ends);
  covered = rw y.ends at c;
}) h

-- `with` attribute `=` expression, after a target whose name is token number n
pub record FilterPart {classes : List ℕ} (refs : List ℕ) (n at name inside next : ℕ) (w : Rows classes) (f : Option Filter) (u : Unit {0}) : Type 0 where
  pub word : Stands w at WITH
  pub follows : name ≡ at + 1
  pub named : Stands w (at + 1) NAME
  pub x : Expression
  pub part : (level : ℕ) → Covered refs level inside next → Part (expression_reader OPENERS) w refs level inside x
  pub holding : (sp : Spots) (s : Store) (t : Target) → t.name.bytes ≡ (nth_token w.tokens n).bytes
      → filter_holds sp s t f ≡ equal (value_at s (spot_named w sp n name)) (value sp s x)

module _ {classes refs : List ℕ} {at class : ℕ} (is : class ≡ get_or classes at 0) where
  pub filter_part : class ≡ WITH → (n : ℕ) {name j inside next : ℕ} → Steps (length classes) at name → Steps (length classes) name j
      → Steps (length classes) j inside → Ends classes (expression_reader OPENERS) inside next
      → Walks (all_rows classes) (FilterPart refs n at name inside next) (filter_reader OPENERS) at tt next
  unfolding filter_holds name_of
  filter_part q n s t u h = filter_some OPENERS (sym is ∙ q) s t u (part_walk refs h) λ w a p₁ p₂ p₃ y.
      let d = s.steps p₁.inside in
      record { word = p₁; follows = d; named = rw d at p₂; x = a; part = y; holding = λ sp st t e. rw e }

  pub filter_no_guard : (class ≡ WITH → ⊥) → {n : ℕ} {guards : List Guard}
      → FilterGuardsWalk classes refs n at (record { before = guards; after = guards }) at
  filter_no_guard n = filter_none OPENERS (λ q. n (is ∙ q)) (λ w. record { filters = λ t e names. extends_same refl })

  pub filter_a_guard : class ≡ WITH → {n name j inside next : ℕ} {g : Growth} → Steps (length classes) at name → Steps (length classes) name j
      → Steps (length classes) j inside → Ends classes (expression_reader OPENERS) inside next → PartPut refs EqualNow n name inside next g
      → FilterGuardsWalk classes refs n at g next
  filter_a_guard q {n} s t u h put = walk_then (λ w f l k y. record {
    filters = λ t e names. extends_put put
        (equals_now refl (rw y.follows (names y.word y.named)) put.own put.within
        (y.part put.inner (put.inside))
        (λ sp now previous z. y.holding sp now t e ∙ z));
  }) (filter_part q n s t u h)

  -- ---- tests

  pub test_changed_guard : class ≡ CHANGED → {n m i j next : ℕ} {g : Growth} → Steps (length classes) at next → PartPut refs Changes n m i j g
      → TestGuardsWalk classes refs n m at g next
  unfolding test_holds
  test_changed_guard q s put = test_changed OPENERS (sym is ∙ q) s λ w. record {
    tests = λ names. extends_put put (changes refl names put.own (λ sp now previous z. z));
  }

  pub test_equals_guards : (class ≡ CHANGED → ⊥) → {n m inside next : ℕ} {a b c : List Guard} → Steps (length classes) at inside
      → Ends classes (expression_reader OPENERS) inside next
      → PartPut refs EqualNow n m inside next (record { before = a; after = b })
      → PartPut refs UnequalBefore n m inside next (record { before = b; after = c })
      → TestGuardsWalk classes refs n m at (record { before = a; after = c }) next
  unfolding test_holds
  test_equals_guards q s h first second = test_equals OPENERS (λ z. q (is ∙ z)) s (part_walk refs h) λ w x p y. record {
    tests = λ names. extends_then
        (extends_put first (equals_now refl names first.own first.within (y first.inner first.inside)
        (λ sp now previous z. rw z)))
        (extends_put second (differs_before refl names second.own second.within (y second.inner second.inside)
        (λ sp now previous z. rw z (and-false (equal (value_at now (spot_named w sp _ _)) (value sp now x))))));
  }

-- ---- clauses

module _ (sp : Spots) (now previous : Store) (c : Clause) where
  clause_filter_fails : filter_holds sp now c.target c.filter ≡ false → holds sp now previous (clause c) ≡ false
  unfolding holds
  clause_filter_fails e = rw e (and-false (is_present_at now (sp c.target.name.bytes c.event.bytes)))

  clause_test_fails : test_holds sp now previous (sp c.target.name.bytes c.event.bytes) c.test ≡ false
      → holds sp now previous (clause c) ≡ false
  unfolding holds
  clause_test_fails e =
      rw (e, and-false (filter_holds sp now c.target c.filter)) (and-false (is_present_at now (sp c.target.name.bytes c.event.bytes)))

module _ {classes refs : List ℕ} {at : ℕ} where
  pub clause_guards_are : {name from owner i j o next : ℕ} {a b c : List Guard} → Steps (length classes) at name
      → Steps (length classes) name from → Steps (length classes) from owner → TargetWalk classes owner i
      → FilterGuardsWalk classes refs owner i (record { before = a; after = b }) j → Steps (length classes) j o
      → TestGuardsWalk classes refs owner name o (record { before = b; after = c }) next
      → ConditionGuardsWalk classes refs (clause_reader OPENERS) at (record { before = a; after = c }) next
  unfolding name_of
  clause_guards_are {name} {from} {owner} {i} s₁ s₂ s₃ h f s₄ t = clause_walk OPENERS s₁ s₂ s₃ h f s₄ t λ w t f x p₁ p₂ p₃ q y z.
      let d₁ = s₁.steps p₁.inside in
      let d₂ = s₂.steps p₂.inside in
      let d₃ = s₃.steps p₃.inside in
      let shape : Targeted w (from + 1) i = rw d₃ at q.shape in
      let event : Names w owner name =
      rw (d₃, d₂, d₁) (source p₁ (rw d₁ at p₂) (rw (d₂, d₁) at p₃) (rw (d₃, d₂, d₁) at (target_named q.shape))) in
      extends_then
      (extends_whole (λ sp now previous e. clause_filter_fails sp now previous _ e)
      (y.filters t q.named (λ word named. rw d₃ (attribute (inl p₃) shape word named))))
      (extends_whole (λ sp now previous e. clause_test_fails sp now previous _
      (ap (λ b. test_holds sp now previous (sp b (nth_token w.tokens name).bytes) x) q.named ∙ e))
      (z.tests event))

  -- ---- conjunctions

  pub atom_guards_clause : {class : ℕ} → class ≡ get_or classes at 0 → (class ≡ ROUND_OPEN → ⊥) → {g : Growth} {next : ℕ}
      → ConditionGuardsWalk classes refs (clause_reader OPENERS) at g next → ConditionGuardsWalk classes refs (atom_reader OPENERS) at g next
  atom_guards_clause is n h = atom_clause OPENERS (λ z. omega arith) (λ q. n (is ∙ q)) h

  pub atom_guards_group : {n m next : ℕ} {g : Growth} → Ends classes (atom_reader OPENERS) at next → PartPut refs Holds n m at next g
      → ConditionGuardsWalk classes refs (atom_reader OPENERS) at g next
  atom_guards_group h put =
      walk_then (λ w a l k y. extends_put put (group refl (y put.level (covered_more put.within put.inside)) (λ sp now previous e. e)))
      (part_walk refs h)

abbrev pub ConjunctsLoop : List ℕ → List ℕ → ℕ → Growth → ℕ → Type 0
ConjunctsLoop classes refs at g i =
    Looping (all_rows classes) (ConditionGuards refs) (conjunction_reader OPENERS) is_and (joined (atom_reader OPENERS) both_at) at g i

module _ {classes refs : List ℕ} {at : ℕ} where
  pub conjuncts_begin : {g : Growth} {i : ℕ} → ConditionGuardsWalk classes refs (atom_reader OPENERS) at g i → ConjunctsLoop classes refs at g i
  conjuncts_begin h = conjunction_begins OPENERS h

  module _ {i class : ℕ} (is : class ≡ get_or classes i 0) where
    pub conjuncts_stop : {g : Growth} → ConjunctsLoop classes refs at g i → (class ≡ AND → ⊥)
        → ConditionGuardsWalk classes refs (conjunction_reader OPENERS) at g i
    conjuncts_stop h n =
        walk_stops (all_rows classes) (ConditionGuards refs) is_and (joined (atom_reader OPENERS) both_at) h
        (and_joins.no (get_or classes i 0) (λ q. n (is ∙ q)))

    pub conjunct_turns : {a b c : List Guard} → ConjunctsLoop classes refs at (record { before = a; after = b }) i
        → class ≡ AND → {j next : ℕ} → Steps (length classes) i j
        → ConditionGuardsWalk classes refs (atom_reader OPENERS) j (record { before = b; after = c }) next
        → ConjunctsLoop classes refs at (record { before = a; after = c }) next
    conjunct_turns g q s h =
        chain_turns (all_rows classes) (ConditionGuards refs) is_and both_at (atom_reader OPENERS) g
        (and_joins.no 0 (λ z. omega arith)) (ap is_and (sym is ∙ q) ∙ and_joins.yes) s h λ w x y p ex ey.
        let t = nth_token w.tokens i in
        extends_then
        (extends_whole (λ sp now previous e. and_joins.holding sp now previous t x y ∙ ap (λ b. b && holds sp now previous y) e) ex)
        (extends_whole (λ sp now previous e. and_joins.holding sp now previous t x y ∙ ap (λ b. holds sp now previous x && b) e
        ∙ and-false (holds sp now previous x)) ey)
