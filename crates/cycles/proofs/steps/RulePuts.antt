-- Rules in memory: those of a set put what they write, one after another, and those that are tried are such a set.
use Prim.Native.Nat.{ℕ, suc, ◌+◌, ◌≤◌, ◌<◌}
use native.Mathlib.Numerals.{add-one}
use native.Mathlib.Omega.{arith}
use mathlib.Core.Path.{◌≡◌, refl, sym, ap, ◌∙◌}
use mathlib.Core.Bool.{Bool, true, false, not}
use mathlib.Core.List.{List, [], ◌∷◌, flat_map}
use mathlib.Core.Option.{some}
use lib.ListN.{get_or, get_elem?, drop, drop_of_length-le}
use Rattle.text.specs.definitions.Syntax.{Rule}
use Rattle.text.proofs.laws.ListLaws.{none_some}
use Rattle.text.proofs.laws.SpotLaws.{stands_drop}
use Rattle.checking.proofs.laws.DirectoryLaws.{number_inside}
use Rattle.cell_sets.specs.definitions.Sets.{has_bit}
use Rattle.cell_sets.proofs.laws.BitLaws.{has_bit_zero}
use Rattle.cycles.specs.declared.evaluate.Binding.{Binding}
use Rattle.cycles.specs.definitions.Quiescence.{item_unless, is_quiescent, tried_rules}
use Rattle.cycles.specs.inner_contracts.TotalMachine.{rule_writes}
use Rattle.cycles.specs.inner_contracts.Evaluation.{puts}
use Rattle.cycles.specs.inner_contracts.AllRules.{RulesGiven, rules_in, RulesTried, BindingsPut, SetPut, RulesPut}
use Rattle.cycles.proofs.steps.EvaluationLaws.{puts_append}

-- ---- the rules of a set

none_in : (k : ℕ) (rs : List Rule) → rules_in 0 k rs ≡ []
unfolding rules_in
none_in k [] = refl
none_in k (r ∷ rs) = rw (has_bit_zero k) (none_in (suc k) rs)

-- where a set has exactly the rules that are not quiescent
in_tried : (set : ℕ) (rests : Rule → Bool) (k : ℕ) (rs : List Rule) → ((j : ℕ) (r : Rule) → get_elem? rs j ≡ some r → has_bit set (k + j) ≡ not (rests r))
    → rules_in set k rs ≡ flat_map (λ r. item_unless (rests r) r) rs
unfolding rules_in flat_map item_unless
in_tried set rests k [] h = refl
in_tried set rests k (r ∷ rs) h = go (rests r) refl (in_tried set rests (suc k) rs (λ j q g. rw (shifted j) (h (suc j) q g)))
  where
    shifted : (j : ℕ) → suc k + j ≡ k + suc j
    shifted j = omega arith

    first : has_bit set k ≡ not (rests r)
    first = let z : k + 0 ≡ k = omega arith in ap (has_bit set) (sym z) ∙ h 0 r refl

    go : (b : Bool) → rests r ≡ b → rules_in set (suc k) rs ≡ flat_map (λ r. item_unless (rests r) r) rs
        → rules_in set k (r ∷ rs) ≡ flat_map (λ r. item_unless (rests r) r) (r ∷ rs)
    go true e i = rw (first, e) i
    go false e i = rw (first, e) (ap (λ l. r ∷ l) i)

-- ---- in memory

module _ (classes values d refs scopes flags cells previous_flags previous_cells : List ℕ) where
  -- the rules before number k have had their turns
  pub record RulesLeft (set : ℕ) (area : List ℕ) (k : ℕ) (after : List ℕ) : Type 0 where
    pub left : (text offsets lengths : List ℕ)
        (g : RulesGiven text classes offsets lengths values d refs scopes flags cells previous_flags previous_cells)
        → puts after (flat_map (rule_writes g.checked.bench.file g.now g.previous) (rules_in set k (drop k g.checked.bench.file.rules)))
        ≡ puts area (flat_map (rule_writes g.checked.bench.file g.now g.previous) (rules_in set 0 g.checked.bench.file.rules))

module _ {classes values d refs scopes flags cells previous_flags previous_cells : List ℕ} {area : List ℕ} {set : ℕ} where
  pub rules_begin : RulesLeft classes values d refs scopes flags cells previous_flags previous_cells set area 0 area
  rules_begin = record { left = λ text offsets lengths g. refl }

  -- no checked bench has so many rules
  pub rules_impossible : {n : ℕ} → n ≡ get_or d 2 0 → 64 < n → {after : List ℕ}
      → SetPut classes values d refs scopes flags cells previous_flags previous_cells area after set
  rules_impossible e h = record { writes = λ text offsets lengths g. absurd (omega (arith, g.checked.bench.directory.rules, g.checked.few_rules)) }

  -- nor so many entities
  pub entities_impossible : {n : ℕ} → n ≡ get_or d 1 0 → 32 < n → {after : List ℕ}
      → SetPut classes values d refs scopes flags cells previous_flags previous_cells area after set
  entities_impossible e h = record {
    writes = λ text offsets lengths g. absurd (omega (arith, g.checked.bench.directory.entities, g.checked.few.entities));
  }

  module _ {k : ℕ} {after : List ℕ} (rules : RulesLeft classes values d refs scopes flags cells previous_flags previous_cells set area k after)
      {n : ℕ} (i : n ≡ get_or d 2 0) where
    module _ (l : k < n) where
      next_rule : {text offsets lengths : List ℕ}
          (g : RulesGiven text classes offsets lengths values d refs scopes flags cells previous_flags previous_cells)
          → (r : Rule) × (get_elem? g.checked.bench.file.rules k ≡ some r)
      next_rule g = number_inside g.checked.bench.file.rules k (omega (arith, g.checked.bench.directory.rules))

      -- a rule that is not in the set is left out
      pub rule_skipped : {b : Bool} → b ≡ has_bit set k → b ≡ false
          → RulesLeft classes values d refs scopes flags cells previous_flags previous_cells set area (k + 1) after
      unfolding rules_in
      rule_skipped e q = record {
        left = λ text offsets lengths g.
            let (r, h) = next_rule g in
            rw (add-one k) (rw (stands_drop g.checked.bench.file.rules k h, sym e ∙ q) at (rules.left text offsets lengths g));
      }

      pub rule_turns : {b : Bool} → b ≡ has_bit set k → b ≡ true → {c : Binding} {next : List ℕ}
          → BindingsPut classes values d refs scopes flags cells previous_flags previous_cells k 0 c after next
          → RulesLeft classes values d refs scopes flags cells previous_flags previous_cells set area (k + 1) next
      unfolding rule_writes flat_map rules_in
      rule_turns e q {c} {next} p = record { left = λ text offsets lengths g. let (r, h) = next_rule g in one text offsets lengths g r h }
        where
          one : (text offsets lengths : List ℕ)
              (g : RulesGiven text classes offsets lengths values d refs scopes flags cells previous_flags previous_cells)
              (r : Rule) → get_elem? g.checked.bench.file.rules k ≡ some r
              → puts next (flat_map (rule_writes g.checked.bench.file g.now g.previous)
              (rules_in set (k + 1) (drop (k + 1) g.checked.bench.file.rules)))
              ≡ puts area (flat_map (rule_writes g.checked.bench.file g.now g.previous) (rules_in set 0 g.checked.bench.file.rules))
          one text offsets lengths g r h =
              let f = g.checked.bench.file in
              let later = flat_map (rule_writes f g.now g.previous) (rules_in set (suc k) (drop (suc k) f.rules)) in
              let z : next ≡ puts after (rule_writes f g.now g.previous r) =
              p.writes text offsets lengths g r h [] refl (omega arith) (λ v e q. absurd (none_some q)) (λ n v e s q. absurd (none_some q)) in
              rw (add-one k) (ap (λ area. puts area later) z ∙ sym (puts_append after (rule_writes f g.now g.previous r) later)
              ∙ (rw (stands_drop f.rules k h, sym e ∙ q) at (rules.left text offsets lengths g)))

    pub rules_end : n ≤ k → SetPut classes values d refs scopes flags cells previous_flags previous_cells area after set
    unfolding puts flat_map rules_in
    rules_end l = record {
      writes = λ text offsets lengths g.
          let e = drop_of_length-le g.checked.bench.file.rules {i = k} (omega (arith, g.checked.bench.directory.rules)) in
          rw e at (rules.left text offsets lengths g);
    }

-- ---- the rules that are tried

module _ {classes values d refs scopes flags cells previous_flags previous_cells : List ℕ} {area : List ℕ} {tried : ℕ} where
  -- the empty set: nothing is written
  pub none_tried : RulesTried d scopes flags cells previous_flags previous_cells tried → tried ≡ 0
      → RulesPut classes values d refs scopes flags cells previous_flags previous_cells area area tried
  unfolding puts flat_map
  none_tried t z = record {
    set_put = record {
      writes = λ text offsets lengths g.
          rw (z, none_in 0 g.checked.bench.file.rules);
    };
    tried_are = t;
  }

  -- what is written is what the rules write that are not quiescent
  pub tried_put : {after : List ℕ} → RulesPut classes values d refs scopes flags cells previous_flags previous_cells area after tried
      → (text offsets lengths : List ℕ) (g : RulesGiven text classes offsets lengths values d refs scopes flags cells previous_flags previous_cells)
      → after
      ≡ puts area (flat_map (rule_writes g.checked.bench.file g.now g.previous) (tried_rules g.checked.bench.file g.now g.previous))
  unfolding tried_rules
  tried_put p text offsets lengths g =
      let f = g.checked.bench.file in
      p.set_put.writes text offsets lengths g
      ∙ ap (λ rs. puts area (flat_map (rule_writes f g.now g.previous) rs))
      (in_tried tried (is_quiescent f g.now g.previous) 0 f.rules (λ j r h.
      let z : 0 + j ≡ j = omega arith in
      ap (has_bit tried) z ∙ p.tried_are.is text classes offsets lengths values refs g j r h))

-- what a loop over the rules of a set needs
pub ruleset rules_in_turn = (rules_begin, rules_impossible, entities_impossible, rule_skipped, rule_turns, rules_end)
