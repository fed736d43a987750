-- The value of an expression by a walk over its tokens: one law for each place where the walk returns, and two for its loops.
use Prim.Native.Nat.{ℕ, ◌-◌, ◌/◌, ◌%◌, ◌<◌, ◌≤◌}
use mathlib.Core.Path.{◌≡◌, refl, sym, ap, ◌∙◌}
use mathlib.Core.List.{List}
use mathlib.Core.Bool.{Bool, true, false, cond}
use Rattle.std.specs.Prelude.{Option, Some, None}
use lib.IntN.{pos}
use lib.Ieee.{binary64, of_int}
use lib.ListN.{length, get_or}
use Rattle.values.specs.declared.Value.{Value}
use Rattle.values.specs.declared.Value.TheVariants.{Truth}
use Rattle.values.specs.declared.Operator.{Operator}
use Rattle.values.specs.definitions.Value.{fitted, settled, operated, negated, as_real}
use Rattle.text.specs.definitions.Tokens.{NAME, WHOLE_NUMBER, REAL_NUMBER, TRUE, FALSE, REAL, ROUND_OPEN, MINUS}
use Rattle.text.specs.definitions.Syntax.{Expression}
use Rattle.text.specs.definitions.Readers.{Parser, halt, joined}
use Rattle.text.specs.definitions.Grammar.{name_of, operator_of, apply_at, is_factor_operator, is_term_operator, simple_or, factor_reader, expression_reader}
use Rattle.text.specs.inner_contracts.Walks.{nth_token, Steps}
use Rattle.std.proofs.lemmas.Option.{none-some, cond_some}
use Rattle.text.proofs.laws.WalkLaws.{row_class, walk_stops, chain_turns, turn_less}
use Rattle.text.proofs.laws.ExpressionWalks.{
  member_walk,
  leaf_member,
  leaf_true,
  leaf_false,
  leaf_whole,
  leaf_real,
  leaf_other,
  factor_leaf,
  factor_real,
  factor_round,
  factor_minus,
}
use Rattle.cycles.specs.declared.evaluate.Binding.{Binding}
use Rattle.cycles.specs.inner_contracts.TotalMachine.{value}
use Rattle.cycles.specs.inner_contracts.Evaluation.{bound, operator_if, CellRead, in_store_rows, ExpressionYields, ExpressionWalk, ExpressionLoop}
use Rattle.cycles.proofs.steps.EvaluationLaws.{number_at, dotted_at}

-- ---- what begins with no opener

-- `class` is what the walk found at number `at`
module _ {classes values refs : List ℕ} {b : Binding} {flags cells : List ℕ} {at class : ℕ} (is : class ≡ get_or classes at 0) where
  pub leaf_cell : class ≡ NAME → {dot name next : ℕ} {v : Value}
      → Steps (length classes) at dot → Steps (length classes) dot name → Steps (length classes) name next
      → CellRead flags cells (bound b (get_or refs at 0 % 256)) (get_or refs name 0 / 256) v
      → ExpressionWalk classes values refs b flags cells (simple_or halt) at v next
  unfolding value name_of
  leaf_cell q {name = name} s t u k =
      leaf_member (sym is ∙ q) (member_walk s t u λ c p₁ p₂ p₃.
      k.reads c.rule.count c.store (c.rule.spots (nth_token c.rule.rows.tokens at).bytes (nth_token c.rule.rows.tokens name).bytes)
      c.stored (dotted_at c.rule s t p₁ p₂ p₃))

  pub leaf_is_true : class ≡ TRUE → {next : ℕ} → Steps (length classes) at next
      → ExpressionWalk classes values refs b flags cells (simple_or halt) at (Truth true) next
  unfolding value
  leaf_is_true q s = leaf_true (sym is ∙ q) s (λ c. refl)

  pub leaf_is_false : class ≡ FALSE → {next : ℕ} → Steps (length classes) at next
      → ExpressionWalk classes values refs b flags cells (simple_or halt) at (Truth false) next
  unfolding value
  leaf_is_false q s = leaf_false (sym is ∙ q) s (λ c. refl)

  pub leaf_is_whole : class ≡ WHOLE_NUMBER → {next n : ℕ} {v : Value} → Steps (length classes) at next → n ≡ get_or values at 0 → v ≡ fitted (pos n)
      → ExpressionWalk classes values refs b flags cells (simple_or halt) at v next
  unfolding value
  leaf_is_whole q s en ev = leaf_whole (sym is ∙ q) s (λ c p. ev ∙ ap (λ n. fitted (pos n)) (en ∙ sym (number_at c.rule p)))

  pub leaf_is_real : class ≡ REAL_NUMBER → {next n : ℕ} {v : Value} → Steps (length classes) at next → n ≡ get_or values at 0
      → v ≡ settled (of_int binary64 (pos n)) → ExpressionWalk classes values refs b flags cells (simple_or halt) at v next
  unfolding value
  leaf_is_real q s en ev = leaf_real (sym is ∙ q) s (λ c p. ev ∙ ap (λ n. settled (of_int binary64 (pos n))) (en ∙ sym (number_at c.rule p)))

  pub leaf_is_other : (class ≡ NAME → ⊥) → (class ≡ TRUE → ⊥) → (class ≡ FALSE → ⊥) → (class ≡ WHOLE_NUMBER → ⊥) → (class ≡ REAL_NUMBER → ⊥) → {v : Value}
      → ExpressionWalk classes values refs b flags cells (simple_or halt) at v at
  leaf_is_other n t f w r = leaf_other (λ q. n (is ∙ q)) (λ q. t (is ∙ q)) (λ q. f (is ∙ q)) (λ q. w (is ∙ q)) (λ q. r (is ∙ q))

  -- ---- factors

  module _ (left : ℕ) where
    pub factor_no_opener : (class ≡ REAL → ⊥) → (class ≡ ROUND_OPEN → ⊥) → (class ≡ MINUS → ⊥) → {v : Value} {next : ℕ}
        → ExpressionWalk classes values refs b flags cells (simple_or halt) at v next
        → ExpressionWalk classes values refs b flags cells (factor_reader left) at v next
    factor_no_opener r o m h = factor_leaf left (λ q. r (is ∙ q)) (λ q. o (is ∙ q)) (λ q. m (is ∙ q)) h

    module _ (z : left ≡ 0 → ⊥) where
      pub factor_to_real : class ≡ REAL → {i j n next : ℕ} {x v : Value} → Steps (length classes) at i → Steps (length classes) i j
          → ExpressionWalk classes values refs b flags cells (expression_reader (left - 1)) j x n → v ≡ as_real x → Steps (length classes) n next
          → ExpressionWalk classes values refs b flags cells (factor_reader left) at v next
      unfolding value
      factor_to_real q s t h ev u = factor_real left z (sym is ∙ q) s t h u (λ c a p y. ev ∙ ap as_real y)

      pub factor_inside : class ≡ ROUND_OPEN → {i n next : ℕ} {v : Value} → Steps (length classes) at i
          → ExpressionWalk classes values refs b flags cells (expression_reader (left - 1)) i v n → Steps (length classes) n next
          → ExpressionWalk classes values refs b flags cells (factor_reader left) at v next
      factor_inside q s h u = factor_round left z (sym is ∙ q) s h u (λ c a y. y)

      pub factor_negated : class ≡ MINUS → {i n : ℕ} {x v : Value} → Steps (length classes) at i
          → ExpressionWalk classes values refs b flags cells (factor_reader (left - 1)) i x n → v ≡ negated x
          → ExpressionWalk classes values refs b flags cells (factor_reader left) at v n
      unfolding value
      factor_negated q s h ev = factor_minus left z (sym is ∙ q) s h (λ c a p y. ev ∙ ap negated y)

-- ---- operators between factors, and between terms

pub factor_operator_none : is_factor_operator 0 ≡ false
unfolding is_factor_operator
factor_operator_none = refl

pub term_operator_none : is_term_operator 0 ≡ false
unfolding is_term_operator
term_operator_none = refl

no_operator : (test : ℕ → Bool) (class : ℕ) → operator_if test class ≡ None → test class ≡ false
no_operator test class e = go (test class) e
  where
    go : (t : Bool) → cond t (Some (operator_of class)) None ≡ None → t ≡ false
    go true e = absurd (none-some (operator_of class) (sym e))
    go false e = refl

-- a turn goes on to a later token
pub operator_falls : (test : ℕ → Bool) → test 0 ≡ false → (classes : List ℕ) {i j n c : ℕ} {r : Option Operator} {o : Operator} → c ≡ get_or classes i 0
    → r ≡ operator_if test c → r ≡ Some o → Steps (length classes) i j → j ≤ n → length classes - n < length classes - i
operator_falls test z classes {c = c} {o = o} ec er e s later =
    turn_less test classes z (ap test (sym ec) ∙ (cond_some (test c) (operator_of c) o (sym er ∙ e)).0) s later refl

module _ {classes values refs : List ℕ} {b : Binding} {flags cells : List ℕ} (test : ℕ → Bool) (item : Parser Expression) where
  module _ {whole : Parser Expression} {at : ℕ} {v : Value} {i c : ℕ} {r : Option Operator}
      (g : ExpressionLoop classes values refs b flags cells whole test (joined item apply_at) at v i) (ec : c ≡ get_or classes i 0)
      (er : r ≡ operator_if test c) where
    pub operators_stop : r ≡ None → ExpressionWalk classes values refs b flags cells whole at v i
    operators_stop e =
        walk_stops (in_store_rows classes values refs b flags cells) (ExpressionYields classes values refs b flags cells) test (joined item apply_at) g
        (ap test (sym ec) ∙ no_operator test c (sym er ∙ e))

    pub operator_turns : test 0 ≡ false → {o : Operator} → r ≡ Some o → {j n : ℕ} {x u : Value}
        → Steps (length classes) i j → ExpressionWalk classes values refs b flags cells item j x n → u ≡ operated o v x
        → ExpressionLoop classes values refs b flags cells whole test (joined item apply_at) at u n
    unfolding value apply_at
    operator_turns z {o} e {j} {n} {x} {u} s h eu =
        let is = cond_some (test c) (operator_of c) o (sym er ∙ e) in
        let k : u ≡ operated (operator_of (get_or classes i 0)) v x = rw (← ec, is.1) eu in
        chain_turns (in_store_rows classes values refs b flags cells) (ExpressionYields classes values refs b flags cells) test apply_at item g z
        (ap test (sym ec) ∙ is.0) s h (λ c y w p ey ew.
        rw (row_class c.rule.rows i p.inside, ← ey, ← ew) k)
