-- The guards of a rule: those of its condition, where no `or` divides it, and that of its only call.
use Prim.Native.Nat.{ℕ, ◌+◌, ◌≤◌}
use mathlib.Core.Path.{◌≡◌, refl, ap, ◌∙◌}
use mathlib.Core.List.{List, [], ◌∷◌, flat_map}
use mathlib.Core.Bool.{Bool, true, false, and-false}
use mathlib.Core.Logic.{inr}
use native.Mathlib.Omega.{arith}
use lib.ListN.{length, get_or, drop}
use Rattle.std.proofs.lemmas.List.Elements.{All-nil}
use Rattle.text.specs.definitions.Tokens.{Token, NAME, ACTION, WITH, ON, OR, ROUND_OPEN, ROUND_CLOSE, COMMA}
use Rattle.text.specs.definitions.Syntax.{Condition, Call, Rule, priority_of}
use Rattle.text.specs.definitions.Readers.{read, joined, many}
use Rattle.text.specs.definitions.Syntax.{OPENERS}
use Rattle.text.specs.definitions.Grammar.{
  expression_reader,
  target_reader,
  filter_reader,
  either_at,
  is_or,
  conjunction_reader,
  condition_reader,
  priority_reader,
  call_reader,
  call_after,
  rule_after,
}
use Rattle.text.specs.inner_contracts.Walks.{Rows, Stands, Steps, Walks, Ends}
use Rattle.text.proofs.laws.WalkLaws.{
  stands,
  next_steps,
  give_means,
  expect_means,
  then_means,
  walk_yields,
  walk_then,
  walk_both,
  walk_stops,
  many_begins,
  many_stops,
}
use Rattle.text.proofs.laws.ConditionWalks.{condition_begins, rule_walk}
use Rattle.cycles.specs.definitions.Store.{Store}
use Rattle.cycles.specs.definitions.Spots.{Spots}
use Rattle.cycles.specs.inner_contracts.TotalMachine.{is_present_at, filter_holds, holds, call_writes, writes_if, binding_writes}
use Rattle.cycles.specs.inner_contracts.Evaluation.{Targeted, all_rows, TargetWalk}
use Rattle.cycles.specs.declared.guards.Guard.{Guard}
use Rattle.cycles.specs.declared.guards.GuardKind.TheVariants.{EqualNow}
use Rattle.cycles.specs.inner_contracts.GuardKinds.{Names, attribute, Silences, equals_now, Guarded, GuardsFound}
use Rattle.cycles.specs.inner_contracts.Finding.{
  Growth,
  PartPut,
  ConditionGuards,
  CallGuards,
  ConditionGuardsWalk,
  CallGuarded,
  no_guard,
  only_call,
}
use Rattle.cycles.proofs.steps.ConditionValues.{or_joins}
use Rattle.cycles.proofs.steps.CallWrites.{rule_begins}
use Rattle.cycles.proofs.steps.GuardPuts.{extends_put}
use Rattle.cycles.proofs.steps.GuardWalks.{FilterPart, filter_part}

-- ---- what silences a rule

writes_none : (b : Bool) → writes_if b [] ≡ []
unfolding writes_if
writes_none true = refl
writes_none false = refl

condition_fails : (r : Rule) (sp : Spots) (now previous : Store) → holds sp now previous r.condition ≡ false → binding_writes sp now previous r ≡ []
unfolding binding_writes
condition_fails r sp now previous e = rw e

module _ (sp : Spots) (now previous : Store) where
  filter_fails : (k : Call) → filter_holds sp now k.target k.filter ≡ false → (priority : ℕ) → call_writes sp now priority k ≡ []
  unfolding call_writes
  filter_fails k e priority =
      let p = sp k.target.name.bytes k.action.bytes in
      rw (e, and-false (is_present_at now p))

  only_call_fails : (r : Rule) (k : Call) → r.calls ≡ k ∷ [] → ((priority : ℕ) → call_writes sp now priority k ≡ []) → binding_writes sp now previous r ≡ []
  unfolding binding_writes flat_map
  only_call_fails r k ec e =
      ap (λ (ks : List Call). writes_if (holds sp now previous r.condition) (flat_map (call_writes sp now (priority_of r)) ks)) ec
      ∙ rw (e (priority_of r)) (writes_none (holds sp now previous r.condition))

-- ---- a call

module _ {classes refs : List ℕ} {at : ℕ} where
  pub call_a_guard : {name opener i j on owner k class attr p inside next after : ℕ} {g : Growth}
      → Steps (length classes) at name → Steps (length classes) name opener → Steps (length classes) opener i
      → Ends classes (expression_reader OPENERS) i j → Steps (length classes) j on → Steps (length classes) on owner → TargetWalk classes owner k
      → class ≡ get_or classes k 0 → class ≡ WITH → Steps (length classes) k attr → Steps (length classes) attr p → Steps (length classes) p inside
      → Ends classes (expression_reader OPENERS) inside next → after ≡ get_or classes next 0 → (after ≡ COMMA → ⊥)
      → PartPut refs EqualNow owner attr inside next g → CallGuarded classes refs at g
  unfolding call_reader
  call_a_guard {on = on} {owner = owner} {k = k} {attr = attr} {inside = inside} {next = next} s₁ s₂ s₃ x s₄ s₅ t is q s₆ s₇ s₈ y ia na put =
      let f : Walks (all_rows classes) (FilterPart refs owner k attr inside next) (filter_reader OPENERS) k tt next =
      filter_part is q owner s₆ s₇ s₈ y in
      only_call (λ z. na (ia ∙ z)) (record {
        onward = omega (arith, s₁.onward, s₂.onward, s₃.onward, x.onward, s₄.onward, s₅.onward, t.onward, f.onward);
        means = λ w l.
            expect_means w _ ACTION _ s₁ λ h₁ e₁.
            expect_means w _ NAME _ s₂ λ h₂ e₂.
            expect_means w _ ROUND_OPEN _ s₃ λ h₃ e₃.
            then_means w _ (expression_reader OPENERS) _ (x.means w (omega (arith, s₁.onward, s₂.onward, s₃.onward))) λ a b.
            expect_means w _ ROUND_CLOSE _ s₄ λ h₄ e₄.
            expect_means w _ ON _ s₅ λ h₅ e₅.
            then_means w _ target_reader _
            (t.means w (omega (arith, s₁.onward, s₂.onward, s₃.onward, x.onward, s₄.onward, s₅.onward))) λ u v.
            then_means w _ (filter_reader OPENERS) _
            (f.means w (omega (arith, s₁.onward, s₂.onward, s₃.onward, x.onward, s₄.onward, s₅.onward, t.onward))) λ g z.
            give_means w _ _ (λ h.
            let placed = v (omega (arith, f.onward)) in
            let part = z h in
            let d = s₅.steps h₅ in
            let word : Stands w on ON =
            stands l (omega (arith, s₁.onward, s₂.onward, s₃.onward, x.onward, s₄.onward)) h₅ e₅ s₅ (omega (arith, t.onward, f.onward)) h in
            let shape : Targeted w (on + 1) k = rw d at placed.shape in
            let names : Names w owner attr = rw (d, part.follows) (attribute (inr word) shape part.word part.named) in
            extends_put put (equals_now refl names put.own put.within (part.part put.inner put.inside)
            (λ sp now previous e. filter_fails sp now previous _ (part.holding sp now u placed.named ∙ e)))) refl;
      })

-- ---- a rule

-- where there were guards of the rule, there are
abbrev Grown : {classes : List ℕ} → List ℕ → Growth → Rows classes → Rule → Unit {0} → Type 0
Grown refs g w r u =
    Guarded w refs (λ sp now previous. binding_writes sp now previous r ≡ []) g.before
    → Guarded w refs (λ sp now previous. binding_writes sp now previous r ≡ []) g.after

module _ {classes refs : List ℕ} {at : ℕ} where
  module _ {o next m : ℕ} {g : Growth} (d : Ends classes priority_reader at o) (s : Steps (length classes) next m) where
    call_extends : CallGuarded classes refs m g → Walks (all_rows classes) (λ w (a : Condition) (u : Unit {0}). Unit {0}) (condition_reader OPENERS) o tt next
        → (w : Rows classes) → w.low ≤ at → (start : Token) (r : Rule) (used : ℕ) → rule_after start (drop at w.tokens) ≡ read r used
        → at + used ≤ w.high → Grown refs g w r tt
    call_extends (no_guard q) c w l start r used e k all = rw q all
    call_extends (only_call {next = p} n h) c w l start r used e k all =
        let others : Walks (all_rows classes) (λ w (ks : List Call) (u : Unit {0}). ks ≡ []) (many COMMA call_after) p tt p =
        many_stops (all_rows classes) (CallGuards refs) (λ w ks u. ks ≡ []) COMMA call_after
        (many_begins (all_rows classes) (CallGuards refs) (λ w ks u. ks ≡ []) COMMA call_after p (λ w. refl)) n in
        let whole = rule_walk {yields = Grown refs g} {v = tt} start d c s h others (next_steps p)
        (λ w n a b bs f u x y. x.extends _ (λ sp now previous q. only_call_fails sp now previous _ b (ap (λ bs. b ∷ bs) y) q)) in
        let (y, d) = walk_yields whole w l e in
        y (omega arith) all

  pub guards_are : {o next m other class : ℕ} {a b c d : List Guard} → a ≡ [] → Ends classes priority_reader at o
      → ConditionGuardsWalk classes refs (conjunction_reader OPENERS) o (record { before = a; after = b }) next
      → class ≡ get_or classes next 0 → (class ≡ OR → ⊥) → Steps (length classes) next m
      → CallGuarded classes refs m (record { before = b; after = c })
      → ConditionGuardsWalk classes refs (conjunction_reader OPENERS) o (record { before = c; after = d }) other
      → GuardsFound classes refs at d
  guards_are {o} {next} cleared f h is n s call g =
      let whole =
      walk_stops (all_rows classes) (λ w a p. ConditionGuards refs w a p.0 × ConditionGuards refs w a p.1) is_or
      (joined (conjunction_reader OPENERS) either_at) (condition_begins OPENERS (walk_both h g)) (or_joins.no (get_or classes next 0) (λ q. n (is ∙ q))) in
      record {
        found = λ w l start r used e k.
            let (x, a, z, b, q) = rule_begins w.tokens at start e in
            let t = (walk_yields f w l a).1 in
            let there : condition_reader OPENERS (drop o w.tokens) ≡ read r.condition z = rw t b in
            let (y, d) = walk_yields whole w (omega arith) there in
            let both = y (omega arith) in
            both.1.extends r (condition_fails r)
            (call_extends f s call (walk_then (λ w a l k y. tt) whole) w l start r used e k
            (both.0.extends r (condition_fails r) (rw cleared (All-nil (Silences w refs (λ sp now previous. binding_writes sp now previous r ≡ []))))));
      }
