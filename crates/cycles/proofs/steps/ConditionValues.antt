-- Whether a condition holds, by a walk over its tokens: one law for each place where the walk returns, and two for its loops.
use Prim.Native.Nat.{ℕ, ◌-◌, ◌/◌, ◌%◌, ◌<◌}
use mathlib.Core.Path.{◌≡◌, refl, sym, ap, ap₂, ◌∙◌}
use mathlib.Core.List.{List}
use mathlib.Core.Bool.{Bool, true, false, not, ◌&&◌, ◌||◌}
use mathlib.Core.Logic.{inl}
use native.Mathlib.Omega.{arith}
use lib.Dec.{ltb, eqb}
use lib.ListN.{length, get_or}
use borrow.Author.Tests.{ne_eqb}
use Rattle.values.specs.declared.Value.{Value}
use Rattle.values.specs.definitions.Value.{equal, differ}
use Rattle.text.specs.definitions.Tokens.{Token, WITH, CHANGED, AND, OR, ROUND_OPEN, COLON}
use Rattle.text.specs.definitions.Syntax.{Condition}
use Rattle.text.specs.definitions.Readers.{Parser, joined}
use Rattle.text.specs.definitions.Grammar.{
  name_of,
  expression_reader,
  filter_reader,
  test_reader,
  clause_reader,
  both_at,
  either_at,
  is_and,
  is_or,
  atom_reader,
  condition_reader,
}
use Rattle.text.specs.inner_contracts.Walks.{nth_token, Steps}
use Rattle.text.proofs.laws.WalkLaws.{walk_in, walk_both, walk_stops, chain_turns}
use Rattle.text.proofs.laws.ConditionWalks.{
  target_bare,
  target_declares,
  filter_none,
  filter_some,
  test_changed,
  test_equals,
  clause_walk,
  atom_clause,
  atom_round,
}
use Rattle.cycles.specs.declared.evaluate.Binding.{Binding}
use Rattle.cycles.specs.definitions.Store.{Store}
use Rattle.cycles.specs.definitions.Spots.{Spots}
use Rattle.cycles.specs.inner_contracts.TotalMachine.{filter_holds, test_holds, holds}
use Rattle.cycles.specs.inner_contracts.Evaluation.{
  bound,
  Locates,
  bare,
  declares,
  InStore,
  InStores,
  CellRead,
  TargetWalk,
  ExpressionWalk,
  FilterWalk,
  in_stores_rows,
  TestWalk,
  ConditionYields,
  ConditionWalk,
  ConditionLoop,
}
use Rattle.cycles.proofs.steps.EvaluationLaws.{present_located, sourced_at, filtered_at, target_named}

-- tokens of class k, which passes the test, join conditions
pub record Joins (test : ℕ → Bool) (k : ℕ) (join : Token → Condition → Condition → Condition) (op : Bool → Bool → Bool) : Type 0 where
  pub some_class : 0 < k
  pub yes : test k ≡ true
  pub no : (c : ℕ) → (c ≡ k → ⊥) → test c ≡ false
  pub holding : (sp : Spots) (now previous : Store) (t : Token) (x y : Condition)
      → holds sp now previous (join t x y) ≡ op (holds sp now previous x) (holds sp now previous y)

pub and_joins : Joins is_and AND both_at ◌&&◌
unfolding is_and both_at holds
and_joins = record { some_class = omega arith; yes = refl; no = λ c n. ne_eqb c AND n; holding = λ sp now previous t x y. refl }

pub or_joins : Joins is_or OR either_at ◌||◌
unfolding is_or either_at holds
or_joins = record { some_class = omega arith; yes = refl; no = λ c n. ne_eqb c OR n; holding = λ sp now previous t x y. refl }

-- `d && f` and `d || f`, by whether f was asked
pub and_asked : {d f g : Bool} → d ≡ true → g ≡ f → g ≡ (d && f)
and_asked {f = f} e q = q ∙ ap (λ d. d && f) (sym e)

pub and_not_asked : {d g : Bool} (f : Bool) → d ≡ false → g ≡ d → g ≡ (d && f)
and_not_asked f e q = q ∙ e ∙ ap (λ d. d && f) (sym e)

pub or_asked : {d f g : Bool} → d ≡ false → g ≡ f → g ≡ (d || f)
or_asked {f = f} e q = q ∙ ap (λ d. d || f) (sym e)

pub or_not_asked : {d g : Bool} (f : Bool) → d ≡ true → g ≡ d → g ≡ (d || f)
or_not_asked f e q = q ∙ e ∙ ap (λ d. d || f) (sym e)

pub and_assoc : (d f t : Bool) → ((d && f) && t) ≡ (d && (f && t))
and_assoc true f t = refl
and_assoc false f t = refl

-- ---- targets

module _ {classes : List ℕ} {at colon class : ℕ} (s : Steps (length classes) at colon) (is : class ≡ get_or classes colon 0) where
  pub target_is_bare : (class ≡ COLON → ⊥) → TargetWalk classes at colon
  unfolding name_of
  target_is_bare n = target_bare s (λ q. n (is ∙ q)) (λ w p. record { shape = rw (s.steps p.inside) (bare p); named = refl })

  pub target_is_declared : class ≡ COLON → {i next : ℕ} → Steps (length classes) colon i → Steps (length classes) i next → TargetWalk classes at next
  unfolding name_of
  target_is_declared q {i} {next} t u = target_declares s (sym is ∙ q) t u λ w p₁ p₂ p₃.
      let a = s.steps p₁.inside in
      let c = t.steps p₂.inside in
      let d = u.steps p₃.inside in
      record { shape = rw (d, c, a) (declares p₁ (rw a at p₂) (rw (c, a) at p₃)); named = refl }

-- ---- filters

module _ {classes values refs : List ℕ} {b : Binding} {flags cells : List ℕ} {at class e : ℕ} (left : ℕ) (is : class ≡ get_or classes at 0) where
  pub filter_is_none : (class ≡ WITH → ⊥) → FilterWalk classes values refs b flags cells e (filter_reader left) at true at
  unfolding filter_holds
  filter_is_none n = filter_none left (λ q. n (is ∙ q)) (λ c. record { filters = λ t o. refl })

  pub filter_is_some : class ≡ WITH → {name j inside m next : ℕ} {u x : Value} {v : Bool} → Steps (length classes) at name → Steps (length classes) name j
      → Steps (length classes) j inside → m ≡ get_or refs name 0 / 256 → CellRead flags cells e m u
      → ExpressionWalk classes values refs b flags cells (expression_reader left) inside x next → v ≡ equal u x
      → FilterWalk classes values refs b flags cells e (filter_reader left) at v next
  unfolding filter_holds name_of
  filter_is_some q {name} {j} {inside} {m} {next} {u} {x} {v} s t w em k h ev = filter_some left (sym is ∙ q) s t w h λ c a p₁ p₂ p₃ y. record {
    filters = λ g o.
        let d = s.steps p₁.inside in
        let l = o.owns p₁ (rw d at p₂) in
        ev ∙ ap₂ equal (k.reads c.rule.count c.store (c.rule.spots g.name.bytes (nth_token c.rule.rows.tokens name).bytes) c.stored
        (rw (em, d) l)) y;
  }

-- ---- tests

module _ {classes values refs : List ℕ} {b : Binding} {flags cells previous_flags previous_cells : List ℕ} where
  abbrev pub in_now : InStores classes values refs b flags cells previous_flags previous_cells → InStore classes values refs b flags cells
  in_now c = record { rule = c.rule; store = c.now; stored = c.now_stored }

  abbrev pub in_previous : InStores classes values refs b flags cells previous_flags previous_cells
      → InStore classes values refs b previous_flags previous_cells
  in_previous c = record { rule = c.rule; store = c.previous; stored = c.previous_stored }

  module _ {at class e m : ℕ} {x : Value} (left : ℕ) (is : class ≡ get_or classes at 0) (k : CellRead flags cells e m x) where
    pub test_is_changed : class ≡ CHANGED → {next : ℕ} {y : Value} {v : Bool} → CellRead previous_flags previous_cells e m y
        → Steps (length classes) at next → v ≡ differ x y
        → TestWalk classes values refs b flags cells previous_flags previous_cells e m (test_reader left) at v next
    unfolding test_holds
    test_is_changed q l s ev = test_changed left (sym is ∙ q) s λ c. record {
      tests = λ p h. ev ∙ ap₂ differ (k.reads c.rule.count c.now p c.now_stored h)
          (l.reads c.rule.count c.previous p c.previous_stored h);
    }

    module _ (n : class ≡ CHANGED → ⊥) {i next : ℕ} {z : Value} {d : Bool} (s : Steps (length classes) at i)
        (h : ExpressionWalk classes values refs b flags cells (expression_reader left) i z next) (ed : d ≡ equal x z) where
      -- whatever the values in the store before
      pub test_is_unequal : d ≡ false → TestWalk classes values refs b flags cells previous_flags previous_cells e m (test_reader left) at d next
      unfolding test_holds
      test_is_unequal q = test_equals left (λ q. n (is ∙ q)) s (walk_in in_now h) λ c a p u. record {
        tests = λ o j. q ∙ ap₂ ◌&&◌ (sym q ∙ ed ∙ ap₂ equal (k.reads c.rule.count c.now o c.now_stored j) u) refl;
      }

      pub test_is_equals : d ≡ true → {other : ℕ} {y w : Value} {f v : Bool} → CellRead previous_flags previous_cells e m y
          → ExpressionWalk classes values refs b previous_flags previous_cells (expression_reader left) i w other → f ≡ equal y w → v ≡ not f
          → TestWalk classes values refs b flags cells previous_flags previous_cells e m (test_reader left) at v next
      unfolding test_holds
      test_is_equals q l g ef ev =
          test_equals left (λ q. n (is ∙ q)) s (walk_both (walk_in in_now h) (walk_in in_previous g)) λ c a p u. record {
            tests = λ o j. ev ∙ ap₂ (λ d f. d && not f)
                (sym q ∙ ed ∙ ap₂ equal (k.reads c.rule.count c.now o c.now_stored j) u.0)
                (ef ∙ ap₂ equal (l.reads c.rule.count c.previous o c.previous_stored j) u.1);
          }

  -- ---- clauses

  module _ {at : ℕ} (left : ℕ) where
    pub clause_is : {name from owner i j o next r e m : ℕ} {f t g d v : Bool} → Steps (length classes) at name → Steps (length classes) name from
        → Steps (length classes) from owner → TargetWalk classes owner i → r ≡ get_or refs owner 0 % 256 → e ≡ bound b r → m ≡ get_or refs name 0 / 256
        → FilterWalk classes values refs b flags cells e (filter_reader left) i f j → Steps (length classes) j o
        → TestWalk classes values refs b flags cells previous_flags previous_cells e m (test_reader left) o t next
        → d ≡ (ltb m 12 && eqb (get_or flags e 0) 1) → g ≡ (d && f) → v ≡ (g && t)
        → ConditionWalk classes values refs b flags cells previous_flags previous_cells (clause_reader left) at v next
    unfolding holds name_of
    clause_is {name} {from} {owner} {i} {e = e} {m = m} {f = f} {t = t} {d = d} s₁ s₂ s₃ h er ee em k s₄ l ed eg ev =
        clause_walk left s₁ s₂ s₃ (walk_in (in_stores_rows classes values refs b flags cells previous_flags previous_cells) h) (walk_in in_now k) s₄ l
        λ c target filter x p₁ p₂ p₃ q y z.
        let ew = ee ∙ ap (bound b) er in
        let located : Locates c.rule.count (c.rule.spots target.name.bytes (nth_token c.rule.rows.tokens name).bytes) e m =
        rw (q.named, ew, em) (sourced_at c.rule s₁ s₂ s₃ p₁ p₂ p₃ (target_named q.shape)) in
        ev ∙ ap (λ g. g && t) eg ∙ and_assoc d f t ∙ ap₂ (λ d g. d && g) (ed ∙ present_located c.now_stored located)
        (ap₂ (λ f t. f && t)
        (y.filters target (record { owns = λ u w. filtered_at c.rule (inl p₃) (s₃.steps p₃.inside) q.shape q.named ew u w }))
        (z.tests _ located))

    -- ---- conditions

    module _ {class : ℕ} (z : left ≡ 0 → ⊥) (is : class ≡ get_or classes at 0) where
      pub atom_is_clause : (class ≡ ROUND_OPEN → ⊥) → {v : Bool} {next : ℕ}
          → ConditionWalk classes values refs b flags cells previous_flags previous_cells (clause_reader left) at v next
          → ConditionWalk classes values refs b flags cells previous_flags previous_cells (atom_reader left) at v next
      atom_is_clause n h = atom_clause left z (λ q. n (is ∙ q)) h

      pub atom_inside : class ≡ ROUND_OPEN → {i n next : ℕ} {v : Bool} → Steps (length classes) at i
          → ConditionWalk classes values refs b flags cells previous_flags previous_cells (condition_reader (left - 1)) i v n → Steps (length classes) n next
          → ConditionWalk classes values refs b flags cells previous_flags previous_cells (atom_reader left) at v next
      atom_inside q s h u = atom_round left z (sym is ∙ q) s h u (λ c a y. y)

  -- `and` between atoms, and `or` between conjunctions
  module _ {test : ℕ → Bool} {k : ℕ} {join : Token → Condition → Condition → Condition} {op : Bool → Bool → Bool} (joins : Joins test k join op)
      (item : Parser Condition) {whole : Parser Condition} {at : ℕ} {v : Bool} {i c : ℕ}
      (g : ConditionLoop classes values refs b flags cells previous_flags previous_cells whole test (joined item join) at v i)
      (ec : c ≡ get_or classes i 0) where
    pub conditions_stop : (c ≡ k → ⊥) → ConditionWalk classes values refs b flags cells previous_flags previous_cells whole at v i
    conditions_stop n =
        walk_stops (in_stores_rows classes values refs b flags cells previous_flags previous_cells)
        (ConditionYields classes values refs b flags cells previous_flags previous_cells) test (joined item join) g
        (joins.no (get_or classes i 0) (λ q. n (ec ∙ q)))

    pub condition_turns : c ≡ k → {j n : ℕ} {x u : Bool} → Steps (length classes) i j
        → ConditionWalk classes values refs b flags cells previous_flags previous_cells item j x n → u ≡ op v x
        → ConditionLoop classes values refs b flags cells previous_flags previous_cells whole test (joined item join) at u n
    condition_turns e s h eu =
        chain_turns (in_stores_rows classes values refs b flags cells previous_flags previous_cells)
        (ConditionYields classes values refs b flags cells previous_flags previous_cells) test join item g
        (joins.no 0 (λ q. omega (arith, joins.some_class))) (ap test (sym ec ∙ e) ∙ joins.yes) s h λ d x y p ex ey.
        eu ∙ ap₂ op ex ey ∙ sym (joins.holding d.rule.spots d.now d.previous (nth_token d.rule.rows.tokens i) x y)
