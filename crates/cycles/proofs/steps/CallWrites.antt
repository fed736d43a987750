-- The writes of calls and of a rule, by a walk over their tokens: one law for each place where the walk returns, and three for its loop.
use Prim.Native.Nat.{ℕ, ◌+◌, ◌/◌, ◌%◌, ◌<◌, ◌≤◌}
use mathlib.Core.Path.{subst, ◌≡◌, refl, sym, ap, ap₂, ◌∙◌}
use mathlib.Core.List.{List, [], ◌∷◌, ◌++◌, flat_map, append-nil, append_assoc}
use mathlib.Core.Bool.{Bool, true, false, ◌&&◌}
use mathlib.Core.Logic.{inr}
use mathlib.Core.Option.{Option}
use native.Mathlib.Omega.{arith}
use lib.Dec.{ltb, eqb}
use lib.ListN.{length, get_or, drop}
use borrow.Author.Tests.{eqb-true, eqb-false}
use Rattle.values.specs.declared.Value.{Value}
use Rattle.values.specs.definitions.Value.{is_set}
use Rattle.text.specs.definitions.Tokens.{Token, NAME, ACTION, TRIGGER, ON, END, ROUND_OPEN, ROUND_CLOSE, COMMA, RANK}
use Rattle.text.specs.definitions.Syntax.{Expression, Target, Filter, Condition, Call, Priority, Rule, priority_given, priority_of}
use Rattle.text.specs.definitions.Readers.{Parse, read, unfit_after, Parser, give, expect, and_then, added, many}
use Rattle.text.specs.definitions.Grammar.{
  name_of,
  expression_reader,
  target_reader,
  filter_reader,
  condition_reader,
  call_reader,
  call_after,
  priority_reader,
  rule_after,
}
use Rattle.text.specs.definitions.Syntax.{OPENERS}
use Rattle.text.specs.inner_contracts.Walks.{no_token, nth_token, Rows, Stands, Steps, Means, meant, vain, MeansAt, Looping, Ends}
use Rattle.text.proofs.laws.SpotLaws.{and_then_parts}
use Rattle.text.proofs.laws.TreeLaws.{Makes, give_makes, expect_makes, any_makes, and_then_makes}
use Rattle.text.proofs.laws.WalkLaws.{getElem?_inside, stands, next_steps, give_means, expect_means, then_means, walk_then, walk_in, walk_yields, many_begins, many_turns, many_stops}
use Rattle.text.proofs.laws.ConditionWalks.{priority_none, priority_some, rule_walk}
use Rattle.cycles.specs.declared.evaluate.Binding.{Binding}
use Rattle.cycles.specs.inner_contracts.TotalMachine.{value, filter_holds, call_writes, binding_writes}
use Rattle.checking.specs.definitions.PriorityFaults.{MOST_PRIORITY}
use Rattle.checking.specs.inner_contracts.CheckedBench.{ValuesOf}
use Rattle.cycles.specs.definitions.Reference.{written_if}
use Rattle.cycles.specs.inner_contracts.Evaluation.{
  bound,
  Locates,
  InStore,
  puts,
  Put,
  PriorityRead,
  TargetWalk,
  in_store_rows,
  in_stores_rows,
  ExpressionWalk,
  FilterWalk,
  CallYields,
  CallWalk,
  CallsYields,
  CallsWalk,
  ConditionWalk,
  RulePuts,
}
use Rattle.cycles.proofs.steps.EvaluationLaws.{puts_append, present_located, called_at, filtered_at, target_named}
use Rattle.cycles.proofs.steps.ConditionValues.{and_assoc, in_now}
use Rattle.cycles.proofs.steps.AvoidLaws.{expression_no_on}

-- ---- one call

abbrev call_of : Token → Token → Token → Expression → Target → Option Filter → Call
call_of start name opener a t f = record { at = start.at; action = name_of name; open_at = opener.at; parameter = a; target = t; filter = f }

-- what was read yields what follows from its being read, too
means_with : {classes : List ℕ} (w : Rows classes) {A R : Type 0} {yields : A → R → Type 0} {v : R} {next at : ℕ} (has : A → Type 0) (r : Parser A)
    → MeansAt w yields r at v next → ((a : A) (n : ℕ) → r (drop at w.tokens) ≡ read a n → next ≡ at + n → has a)
    → MeansAt w (λ (a : A) (v : R). yields a v × has a) r at v next
means_with w {A} {R} {yields} {v} {next} {at} has r m f = go (r (drop at w.tokens)) refl m
  where
    go : (p : Parse A) → r (drop at w.tokens) ≡ p → Means w.high yields v next at p → Means w.high (λ (a : A) (v : R). yields a v × has a) v next at p
    go (read a n) e (meant y q) = meant (λ k. (y k, f a n e q)) q
    go (unfit_after n) e vain = vain

-- the `on` at number k is the first after an `action` at number i, if the expression between p and q has none
first_on : (classes : List ℕ) {i n o p q k : ℕ} → n ≡ i + 1 → o ≡ n + 1 → p ≡ o + 1 → k ≡ q + 1
    → get_or classes n 0 ≡ NAME → get_or classes o 0 ≡ ROUND_OPEN → ((j : ℕ) → p ≤ j → j < q → get_or classes j 0 ≡ ON → ⊥) → get_or classes q 0 ≡ ROUND_CLOSE
    → (j : ℕ) → i < j → j < k → get_or classes j 0 ≡ ON → ⊥
first_on classes {i} {n} {o} {p} {q} {k} a b c d en eo inside eq j g h z = by_name (eqb j n) refl
  where
    other : {m : ℕ} (x : ℕ) → j ≡ m → get_or classes m 0 ≡ x → x ≡ ON
    other x e f = sym f ∙ ap (λ m. get_or classes m 0) (sym e) ∙ z

    by_close : (t : Bool) → eqb j q ≡ t → (j ≡ n → ⊥) → (j ≡ o → ⊥) → ⊥
    by_close true e u v = let y = other ROUND_CLOSE (eqb-true j q e) eq in omega arith
    by_close false e u v = let y = eqb-false j q e in inside j (omega arith) (omega arith) z

    by_open : (t : Bool) → eqb j o ≡ t → (j ≡ n → ⊥) → ⊥
    by_open true e u = let y = other ROUND_OPEN (eqb-true j o e) eo in omega arith
    by_open false e u = by_close (eqb j q) refl u (eqb-false j o e)

    by_name : (t : Bool) → eqb j n ≡ t → ⊥
    by_name true e = let y = other NAME (eqb-true j n e) en in omega arith
    by_name false e = by_open (eqb j o) refl (eqb-false j n e)

module _ {classes values refs : List ℕ} {b : Binding} {flags cells : List ℕ} {priority : ℕ} {area after : List ℕ} where
  made_is : (c : InStore classes values refs b flags cells) (k : Call) {e m : ℕ} {v : Value} {d f g h made : Bool}
      → Locates c.rule.count (c.rule.spots k.target.name.bytes k.action.bytes) e m
      → v ≡ value c.rule.spots c.store k.parameter → f ≡ filter_holds c.rule.spots c.store k.target k.filter
      → d ≡ (ltb m 12 && eqb (get_or flags e 0) 1) → g ≡ is_set v → h ≡ (f && g) → made ≡ (d && h) → Put area made priority e m v after
      → after ≡ puts area (call_writes c.rule.spots c.store priority k)
  unfolding call_writes
  made_is c k l ev ef ed eg eh em put =
      let p = c.rule.spots k.target.name.bytes k.action.bytes in
      put.written c.rule.count p c.rule.few l
      ∙ ap (puts area) (ap₂ (λ d v. written_if d p priority v)
      (em ∙ ap₂ ◌&&◌ (ed ∙ present_located c.stored l) (eh ∙ ap₂ ◌&&◌ ef (eg ∙ ap is_set ev))) ev)

  pub call_is : {at name opener i j on owner k next r e m : ℕ} {v : Value} {d f g made : Bool}
      → Steps (length classes) at name → Steps (length classes) name opener → Steps (length classes) opener i
      → ExpressionWalk classes values refs b flags cells (expression_reader OPENERS) i v j → Steps (length classes) j on
      → Steps (length classes) on owner → r ≡ get_or refs owner 0 % 256 → e ≡ bound b r → TargetWalk classes owner k
      → FilterWalk classes values refs b flags cells e (filter_reader OPENERS) k f next
      → d ≡ (ltb m 12 && eqb (get_or flags e 0) 1) → g ≡ (d && f) → made ≡ (g && is_set v) → m ≡ get_or refs name 0 / 256 → Put area made priority e m v after
      → CallWalk classes values refs b flags cells priority area call_reader at after next
  unfolding call_reader call_writes name_of
  call_is {at} {name} {opener} {i} {j} {on} {owner} {k} {next} {r} {e} {m} {v} {d = d} {f = held} {made = made} s₁ s₂ s₃ x s₄ s₅ er ee t f ed eg em eref put = record {
    onward = omega (arith, s₁.onward, s₂.onward, s₃.onward, x.onward, s₄.onward, s₅.onward, t.onward, f.onward);
    means = λ c l.
        expect_means c.rule.rows _ ACTION _ s₁ λ h₁ e₁.
        expect_means c.rule.rows _ NAME _ s₂ λ h₂ e₂.
        expect_means c.rule.rows _ ROUND_OPEN _ s₃ λ h₃ e₃.
        then_means c.rule.rows _ (expression_reader OPENERS) _
        (means_with c.rule.rows (λ a. (n : ℕ) → i ≤ n → n < j → get_or classes n 0 ≡ ON → ⊥) (expression_reader OPENERS)
        (x.means c (omega (arith, s₁.onward, s₂.onward, s₃.onward)))
        (λ a n q u z p w. expression_no_on c.rule.rows OPENERS i q z p (omega arith))) λ a y.
        expect_means c.rule.rows _ ROUND_CLOSE _ s₄ λ h₄ e₄.
        expect_means c.rule.rows _ ON _ s₅ λ h₅ e₅.
        then_means c.rule.rows _ target_reader _
        (t.means c.rule.rows (omega (arith, s₁.onward, s₂.onward, s₃.onward, x.onward, s₄.onward, s₅.onward))) λ u q.
        then_means c.rule.rows _ (filter_reader OPENERS) _
        (f.means c (omega (arith, s₁.onward, s₂.onward, s₃.onward, x.onward, s₄.onward, s₅.onward, t.onward))) λ p z.
        give_means c.rule.rows _ _ (λ w.
        let ew = ee ∙ ap (bound b) er in
        let placed = q (omega (arith, f.onward)) in
        let inner = y (omega (arith, s₄.onward, s₅.onward, t.onward, f.onward)) in
        let start : Stands c.rule.rows at ACTION =
        stands l (omega arith) h₁ e₁ s₁ (omega (arith, s₂.onward, s₃.onward, x.onward, s₄.onward, s₅.onward, t.onward, f.onward)) w in
        let named : Stands c.rule.rows name NAME =
        stands l (omega (arith, s₁.onward)) h₂ e₂ s₂ (omega (arith, s₃.onward, x.onward, s₄.onward, s₅.onward, t.onward, f.onward)) w in
        let word : Stands c.rule.rows on ON =
        stands l (omega (arith, s₁.onward, s₂.onward, s₃.onward, x.onward, s₄.onward)) h₅ e₅ s₅ (omega (arith, t.onward, f.onward)) w in
        let later : at < on = omega (arith, s₁.steps h₁, s₂.onward, s₃.onward, x.onward, s₄.onward) in
        let located : Locates c.rule.count (c.rule.spots u.name.bytes (nth_token c.rule.rows.tokens name).bytes) e m =
        rw (placed.named, ew, eref)
        (called_at c.rule s₁ s₅ start named word (target_named placed.shape) later
        (first_on classes (s₁.steps h₁) (s₂.steps h₂) (s₃.steps h₃) (s₄.steps h₄) e₂ e₃ inner.1 e₄)) in
        let tokens = c.rule.rows.tokens in
        made_is c (call_of (nth_token tokens at) (nth_token tokens name) (nth_token tokens opener) a u p) located inner.0 ((z w).filters u (record {
          owns = λ g o. filtered_at c.rule (inr word) (s₅.steps h₅) placed.shape placed.named ew g o;
        })) ed refl refl (em ∙ ap (λ g. g && is_set v) eg ∙ and_assoc d held (is_set v)) put) refl;
  }

-- ---- further calls

flatMap_more : {A B : Type 0} (f : A → List B) (xs : List A) (a : A) → flat_map f (xs ++ a ∷ []) ≡ flat_map f xs ++ f a
unfolding flat_map
flatMap_more f [] a = append-nil (f a)
flatMap_more f (x ∷ xs) a = ap (λ l. f x ++ l) (flatMap_more f xs a) ∙ sym (append_assoc (f x) (flat_map f xs) (f a))

abbrev pub CallsLoop : List ℕ → List ℕ → List ℕ → Binding → List ℕ → List ℕ → (priority : ℕ) → List ℕ → ℕ → List ℕ → ℕ → Type 0
CallsLoop classes values refs b flags cells priority area at v i =
    Looping (in_store_rows classes values refs b flags cells) (CallsYields classes values refs b flags cells priority area) (many COMMA call_after) (λ d. eqb d COMMA)
    (added call_after) at v i

module _ {classes values refs : List ℕ} {b : Binding} {flags cells : List ℕ} (priority : ℕ) (area : List ℕ) {at : ℕ} where
  pub calls_begin : CallsLoop classes values refs b flags cells priority area at area at
  unfolding flat_map puts
  calls_begin =
      many_begins (in_store_rows classes values refs b flags cells) (CallYields classes values refs b flags cells priority area)
      (CallsYields classes values refs b flags cells priority area) COMMA call_after at (λ c. refl)

  module _ {v : List ℕ} {i class : ℕ} (g : CallsLoop classes values refs b flags cells priority area at v i) (is : class ≡ get_or classes i 0) where
    pub calls_stop : (class ≡ COMMA → ⊥) → CallsWalk classes values refs b flags cells priority area (many COMMA call_after) at v i
    calls_stop n =
        many_stops (in_store_rows classes values refs b flags cells) (CallYields classes values refs b flags cells priority area)
        (CallsYields classes values refs b flags cells priority area) COMMA call_after g (λ q. n (is ∙ q))

    pub call_turns : class ≡ COMMA → {j n : ℕ} {u : List ℕ} → Steps (length classes) i j → CallWalk classes values refs b flags cells priority v call_reader j u n
        → CallsLoop classes values refs b flags cells priority area at u n
    unfolding call_after
    call_turns q s h =
        many_turns (in_store_rows classes values refs b flags cells) (CallYields classes values refs b flags cells priority v)
        (CallsYields classes values refs b flags cells priority area) COMMA call_after g (omega arith) (sym is ∙ q) s h.onward
        (λ c l. h.means c (omega (arith, s.onward)))
        (λ c xs a p y z. z ∙ ap (λ l. puts l (call_writes c.rule.spots c.store priority a)) y
        ∙ sym (puts_append area (flat_map (call_writes c.rule.spots c.store priority) xs) (call_writes c.rule.spots c.store priority a))
        ∙ ap (puts area) (sym (flatMap_more (call_writes c.rule.spots c.store priority) xs a)))

-- ---- a rule

-- what comes in a rule after its priority, and after its condition
abbrev after_condition : Token → Option Priority → Condition → Parser Rule
after_condition start d a =
    expect TRIGGER λ t. and_then call_reader λ first. and_then (many COMMA call_after) λ others.
    expect END λ u. give (record { at = start.at; priority = d; condition = a; calls = first ∷ others })

abbrev after_priority : Token → Option Priority → Parser Rule
after_priority start d = and_then (condition_reader OPENERS) (after_condition start d)

parts_kept : (start : Token) (d : Option Priority) (a : Condition) → Makes (λ t. Unit {0}) (after_condition start d a) (λ r. (r.priority ≡ d) × (r.condition ≡ a))
parts_kept start d a = expect_makes _ TRIGGER _ λ t p. and_then_makes _ _ (any_makes _ call_reader) λ x q.
    and_then_makes _ _ (any_makes _ (many COMMA call_after)) λ xs s. expect_makes _ END _ λ u w. give_makes _ _ (refl, refl)

-- a rule that was read begins with its priority and its condition
pub rule_begins : (ts : List Token) (p : ℕ) (start : Token) {r : Rule} {n : ℕ} → rule_after start (drop p ts) ≡ read r n
    → (j : ℕ) × (priority_reader (drop p ts) ≡ read r.priority j) × (k : ℕ) × (condition_reader OPENERS (drop (p + j) ts) ≡ read r.condition k) × (j + k ≤ n)
unfolding rule_after
rule_begins ts p start {r} {n} h =
    let (d, j, e, i, f, s) = and_then_parts ts p priority_reader (after_priority start) r n h in
    let (a, k, g, l, q, t) = and_then_parts ts (p + j) (condition_reader OPENERS) (after_condition start d) r i f in
    let (x, y) = (parts_kept start d a).makes (drop (p + j + k) ts) (λ t z. tt) r l q in
    (j, e ∙ ap (λ o. read o j) (sym x), k, g ∙ ap (λ c. read c k) (sym y), omega arith)

-- ---- its priority

-- rows with the values of their tokens
abbrev ValuedRows : List ℕ → List ℕ → Type 0
ValuedRows classes values = (w : Rows classes) × ValuesOf values w.tokens

module _ {classes : List ℕ} (values : List ℕ) {at : ℕ} where
  pub priority_unsaid : {class : ℕ} → class ≡ get_or classes at 0 → (class ≡ RANK → ⊥) → PriorityRead classes values at 0
  unfolding priority_given
  priority_unsaid is n = record {
    within = omega arith;
    is = λ w v l k used e h few.
        (walk_yields (priority_none {rows = λ (w : Rows classes). w} {yields = λ w k (u : ℕ). u ≡ priority_given k} {v = 0} (λ q. n (is ∙ q)) (λ w. refl)) w l e).0
        (omega arith);
  }

  module _ {class i n : ℕ} (is : class ≡ get_or classes at 0) (said : class ≡ RANK) (s : Steps (length classes) at i) (number : n ≡ get_or values i 0) where
    number_read : (w : Rows classes) → ValuesOf values w.tokens → w.low ≤ at → (k : Option Priority) (used : ℕ)
        → priority_reader (drop at w.tokens) ≡ read k used → at + used ≤ w.high → n ≡ priority_given k
    unfolding priority_given
    number_read w v l k used e h =
        let whole = priority_some {rows = λ (c : ValuedRows classes values). c.0} {yields = λ c k (u : ℕ). u ≡ priority_given k} {v = n} (sym is ∙ said) s (next_steps i)
        (λ c t. number ∙ sym (value_there c.0 c.1 t.inside)) in
        let (y, d) = walk_yields whole (w, v) l e in
        y (omega arith)
      where
        value_there : (w : Rows classes) → ValuesOf values w.tokens → i < length classes → (nth_token w.tokens i).value ≡ get_or values i 0
        value_there w v h =
            let z = w.count in
            v i (nth_token w.tokens i) (getElem?_inside w.tokens i no_token (omega arith))

    pub priority_said : n ≤ MOST_PRIORITY → PriorityRead classes values at n
    priority_said m = record { within = m; is = λ w v l k used e h few. number_read w v l k used e h }

    -- which no checked file has
    pub priority_above : MOST_PRIORITY < n → PriorityRead classes values at 0
    priority_above m = record { within = omega arith; is = λ w v l k used e h few. let q = number_read w v l k used e h in absurd (omega arith) }

-- ---- all of it

module _ {classes values refs : List ℕ} {b : Binding} {flags cells previous_flags previous_cells : List ℕ} {at o n : ℕ} {v : Bool} {area : List ℕ}
    (d : Ends classes priority_reader at o)
    (h : ConditionWalk classes values refs b flags cells previous_flags previous_cells (condition_reader OPENERS) o v n) where
  pub rule_idle : v ≡ false → RulePuts classes values refs b flags cells previous_flags previous_cells at area area
  unfolding binding_writes puts
  rule_idle e = record {
    writes = λ c l start r m q k few.
        let ts = c.rule.rows.tokens in
        let (j, p, i, g, s) = rule_begins ts at start q in
        let z = (walk_yields d c.rule.rows l p).1 in
        let there : condition_reader OPENERS (drop o ts) ≡ read r.condition i = rw z g in
        let (y, f) = walk_yields h c (omega arith) there in
        rw (sym (y (omega arith)) ∙ e);
  }

  pub rule_fires : v ≡ true → {priority : ℕ} → PriorityRead classes values at priority → {m p q : ℕ} {first after : List ℕ} → Steps (length classes) n m
      → CallWalk classes values refs b flags cells priority area call_reader m first p
      → CallsWalk classes values refs b flags cells priority first (many COMMA call_after) p after q
      → RulePuts classes values refs b flags cells previous_flags previous_cells at area after
  unfolding binding_writes priority_of flat_map
  rule_fires e {priority} prioritized {q = q} {after = after} s g k = record {
    writes = λ c l start r m f o few.
        let said = walk_then {other = λ c x u. priority_given x ≤ MOST_PRIORITY → u ≡ priority_given x} {u = priority}
        (λ c x l high y few. prioritized.is c.rule.rows c.rule.value l x y.used y.reads (let z = y.ends in omega arith) few)
        (walk_in (in_stores_rows classes values refs b flags cells previous_flags previous_cells) d) in
        let whole = rule_walk {yields = λ c r u. priority_of r ≤ MOST_PRIORITY → u ≡ puts area (binding_writes c.rule.spots c.now c.previous r)}
        {v = after} start said h s (walk_in in_now g) (walk_in in_now k) (next_steps q)
        (λ c x a y ys ex ea ey eys few. rw (← ea, e)
        (subst (λ (p : ℕ). after ≡ puts area (call_writes c.rule.spots c.now p y ++ flat_map (call_writes c.rule.spots c.now p) ys)) (ex few)
        (eys ∙ ap (λ l. puts l (flat_map (call_writes c.rule.spots c.now priority) ys)) ey
        ∙ sym (puts_append area (call_writes c.rule.spots c.now priority y) (flat_map (call_writes c.rule.spots c.now priority) ys))))) in
        let (y, d) = walk_yields whole c l f in
        y (omega arith) few;
  }
