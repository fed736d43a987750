-- Walks over expressions: one law for each place where such a walk returns, general in what it gives of an expression.
use Prim.Native.Nat.{ℕ, zero, suc, ◌-◌, ◌<◌, ◌≤◌}
use mathlib.Core.Path.{◌≡◌, refl, ap, ◌∙◌}
use mathlib.Core.List.{List, []}
use mathlib.Core.Bool.{Bool, true, false}
use native.Mathlib.Omega.{arith}
use lib.Dec.{ltb}
use lib.ListN.{length, get_or, drop}
use borrow.Author.Tests.{ne_eqb, ltb-true, ltb-false}
use Rattle.text.specs.definitions.Tokens.{
  Token,
  NAME,
  WHOLE_NUMBER,
  REAL_NUMBER,
  TRUE,
  FALSE,
  REAL,
  ROUND_OPEN,
  ROUND_CLOSE,
  DOT,
  PLUS,
  MINUS,
  TIMES,
  DIVIDE,
}
use Rattle.text.specs.definitions.Syntax.{truth, whole_number, real_number, Expression, literal, member, to_real, negate}
use Rattle.text.specs.definitions.Readers.{unfit_after, Parser, give, halt, expect, pick, next_is, if_next, and_then, joined}
use Rattle.text.specs.definitions.Grammar.{
  name_of,
  number_reader,
  apply_at,
  is_factor_operator,
  is_term_operator,
  term_of,
  expression_of,
  member_reader,
  simple_or,
  opener_reader,
  factor_reader,
  term_reader,
  expression_reader,
}
use Rattle.text.specs.inner_contracts.Walks.{nth_token, Rows, Stands, Steps, vain, MeansAt, Walks, Looping}
use Rattle.text.proofs.laws.ReaderLaws.{if_next_second}
use Rattle.text.proofs.laws.WalkLaws.{
  class_inside,
  stands,
  rows_end,
  give_means,
  next_is_other,
  expect_other,
  expect_means,
  next_yes,
  next_no,
  next_either,
  then_means,
  walk_same,
  walk_stops,
  chain_begins,
}

-- ---- what begins with no opener

leaf_nil : simple_or halt [] ≡ unfit_after 0
unfolding simple_or if_next pick next_is halt
leaf_nil = refl

module _ {C R : Type 0} {classes : List ℕ} {rows : C → Rows classes} {yields : C → Expression → R → Type 0} {at : ℕ} {v : R} where
  pub leaf_end : length classes ≤ at → Walks rows yields (simple_or halt) at v at
  leaf_end h = record { onward = omega arith; means = λ c l. rw (rows_end (rows c) at h, leaf_nil) vain }

  -- name `.` name
  pub member_walk : {dot m next : ℕ} → Steps (length classes) at dot → Steps (length classes) dot m → Steps (length classes) m next
      → ((c : C) → Stands (rows c) at NAME → Stands (rows c) dot DOT → Stands (rows c) m NAME
      → yields c (member (name_of (nth_token (rows c).tokens at)) (name_of (nth_token (rows c).tokens m))) v)
      → Walks rows yields member_reader at v next
  unfolding member_reader
  member_walk s t u y = record {
    onward = omega arith;
    means = λ c l.
        expect_means (rows c) (yields c) NAME _ s λ h₁ e₁.
        expect_means (rows c) (yields c) DOT _ t λ h₂ e₂.
        expect_means (rows c) (yields c) NAME _ u λ h₃ e₃.
        give_means (rows c) (yields c) _ (λ k. y c (stands l (omega arith) h₁ e₁ s (omega arith) k) (stands l (omega arith) h₂ e₂ t (omega arith) k)
        (stands l (omega arith) h₃ e₃ u (omega arith) k)) refl;
  }

  -- NAME is 0: no token need stand there
  pub leaf_member : {next : ℕ} → get_or classes at 0 ≡ NAME → Walks rows yields member_reader at v next → Walks rows yields (simple_or halt) at v next
  unfolding simple_or
  leaf_member {next} e m = record { onward = m.onward; means = λ c l. named c (m.means c l) (ltb at (length classes)) refl }
    where
      named : (c : C) → MeansAt (rows c) (yields c) member_reader at v next → (t : Bool) → ltb at (length classes) ≡ t
          → MeansAt (rows c) (yields c) (simple_or halt) at v next
      named c k true q = next_yes (rows c) (yields c) NAME _ _ (ltb-true at (length classes) q) e k
      named c k false q = rw (rows_end (rows c) at (ltb-false at (length classes) q), leaf_nil) vain

  pub leaf_true : {next : ℕ} → get_or classes at 0 ≡ TRUE → Steps (length classes) at next → ((c : C) → yields c (literal (truth true)) v)
      → Walks rows yields (simple_or halt) at v next
  unfolding simple_or
  leaf_true e s y = record {
    onward = s.onward;
    means = λ c l.
        next_no (rows c) (yields c) NAME _ _ (λ z. omega arith)
        (next_yes (rows c) (yields c) TRUE _ _ (class_inside classes at e (omega arith)) e
        (expect_means (rows c) (yields c) TRUE _ s λ h q.
        give_means (rows c) (yields c) _ (λ k. y c) refl));
  }

  pub leaf_false : {next : ℕ} → get_or classes at 0 ≡ FALSE → Steps (length classes) at next → ((c : C) → yields c (literal (truth false)) v)
      → Walks rows yields (simple_or halt) at v next
  unfolding simple_or
  leaf_false e s y = record {
    onward = s.onward;
    means = λ c l.
        next_no (rows c) (yields c) NAME _ _ (λ z. omega arith)
        (next_no (rows c) (yields c) TRUE _ _ (λ z. omega arith)
        (next_yes (rows c) (yields c) FALSE _ _ (class_inside classes at e (omega arith)) e
        (expect_means (rows c) (yields c) FALSE _ s λ h q.
        give_means (rows c) (yields c) _ (λ k. y c) refl)));
  }

  pub leaf_whole : {next : ℕ} → get_or classes at 0 ≡ WHOLE_NUMBER → Steps (length classes) at next
      → ((c : C) → Stands (rows c) at WHOLE_NUMBER → yields c (literal (whole_number false (nth_token (rows c).tokens at).value)) v)
      → Walks rows yields (simple_or halt) at v next
  unfolding simple_or number_reader
  leaf_whole e s y = record {
    onward = s.onward;
    means = λ c l.
        next_no (rows c) (yields c) NAME _ _ (λ z. omega arith)
        (next_no (rows c) (yields c) TRUE _ _ (λ z. omega arith)
        (next_no (rows c) (yields c) FALSE _ _ (λ z. omega arith)
        (next_yes (rows c) (yields c) WHOLE_NUMBER _ _ (class_inside classes at e (omega arith)) e
        (then_means (rows c) (yields c) (number_reader false) (λ a. give (literal a))
        (next_yes (rows c) (λ a r. yields c (literal a) r) WHOLE_NUMBER _ _ (class_inside classes at e (omega arith)) e
        (expect_means (rows c) _ WHOLE_NUMBER _ s λ h q.
        give_means (rows c) _ _ (λ k. y c (stands l (omega arith) h q s (omega arith) k)) refl))
        λ a r. give_means (rows c) (yields c) _ r refl))));
  }

  pub leaf_real : {next : ℕ} → get_or classes at 0 ≡ REAL_NUMBER → Steps (length classes) at next
      → ((c : C) → Stands (rows c) at REAL_NUMBER → yields c (literal (real_number false (nth_token (rows c).tokens at).value)) v)
      → Walks rows yields (simple_or halt) at v next
  unfolding simple_or number_reader
  leaf_real e s y = record {
    onward = s.onward;
    means = λ c l.
        next_no (rows c) (yields c) NAME _ _ (λ z. omega arith)
        (next_no (rows c) (yields c) TRUE _ _ (λ z. omega arith)
        (next_no (rows c) (yields c) FALSE _ _ (λ z. omega arith)
        (next_no (rows c) (yields c) WHOLE_NUMBER _ _ (λ z. omega arith)
        (next_yes (rows c) (yields c) REAL_NUMBER _ _ (class_inside classes at e (omega arith)) e
        (then_means (rows c) (yields c) (number_reader false) (λ a. give (literal a))
        (next_no (rows c) (λ a r. yields c (literal a) r) WHOLE_NUMBER _ _ (λ z. omega arith)
        (expect_means (rows c) _ REAL_NUMBER _ s λ h q.
        give_means (rows c) _ _ (λ k. y c (stands l (omega arith) h q s (omega arith) k)) refl))
        λ a r. give_means (rows c) (yields c) _ r refl)))));
  }

  -- a token of another class
  pub leaf_other : (get_or classes at 0 ≡ NAME → ⊥) → (get_or classes at 0 ≡ TRUE → ⊥) → (get_or classes at 0 ≡ FALSE → ⊥)
      → (get_or classes at 0 ≡ WHOLE_NUMBER → ⊥) → (get_or classes at 0 ≡ REAL_NUMBER → ⊥) → Walks rows yields (simple_or halt) at v at
  unfolding simple_or halt
  leaf_other n t f w r = record {
    onward = omega arith;
    means = λ c l.
        next_no (rows c) (yields c) NAME _ _ n
        (next_no (rows c) (yields c) TRUE _ _ t
        (next_no (rows c) (yields c) FALSE _ _ f
        (next_no (rows c) (yields c) WHOLE_NUMBER _ _ w
        (next_no (rows c) (yields c) REAL_NUMBER _ _ r vain))));
  }

  -- a token that is no name, where what is asked holds of every tree
  pub leaf_token : (get_or classes at 0 ≡ NAME → ⊥) → {next : ℕ} → Steps (length classes) at next → ((c : C) (a : Expression) → yields c a v)
      → Walks rows yields (simple_or halt) at v next
  unfolding simple_or number_reader halt
  leaf_token n {next} s y = record {
    onward = s.onward;
    means = λ c l.
        next_no (rows c) (yields c) NAME _ _ n
        (next_either (rows c) (yields c) TRUE _ _ (one c TRUE (literal (truth true)))
        (next_either (rows c) (yields c) FALSE _ _ (one c FALSE (literal (truth false)))
        (next_either (rows c) (yields c) WHOLE_NUMBER _ _ (number c)
        (next_either (rows c) (yields c) REAL_NUMBER _ _ (number c) vain))));
  }
    where
      one : (c : C) (class : ℕ) (a : Expression) → MeansAt (rows c) (yields c) (expect class λ t. give a) at v next
      one c class a = expect_means (rows c) (yields c) class _ s λ h q. give_means (rows c) (yields c) a (λ k. y c a) refl

      number : (c : C) → MeansAt (rows c) (yields c) (and_then (number_reader false) λ a. give (literal a)) at v next
      number c =
          then_means (rows c) (yields c) {Q = Unit {0}} {first = λ a u. Unit {0}} {x = tt} (number_reader false) (λ a. give (literal a))
          (next_either (rows c) (λ a u. Unit {0}) WHOLE_NUMBER _ _
          (expect_means (rows c) _ WHOLE_NUMBER _ s λ h q. give_means (rows c) _ _ (λ k. tt {0}) refl)
          (expect_means (rows c) _ REAL_NUMBER _ s λ h q. give_means (rows c) _ _ (λ k. tt {0}) refl))
          λ a r. give_means (rows c) (yields c) (literal a) (λ k. y c (literal a)) refl

-- ---- factors

if_next_alike : {A : Type 0} (c : ℕ) (q r s : Parser A) (ts : List Token) → r ts ≡ s ts → if_next c q r ts ≡ if_next c q s ts
unfolding if_next pick
if_next_alike {A} c q r s ts e = go (next_is c ts)
  where
    go : (b : Bool) → pick b q r ts ≡ pick b q s ts
    go true = refl
    go false = e

-- what may begin with an opener, by the openers left
unfoldable openers_left : ℕ → Parser Expression
openers_left zero = halt
openers_left (suc left) = opener_reader (factor_reader left)

factor_is : (left : ℕ) → factor_reader left ≡ simple_or (openers_left left)
unfolding factor_reader openers_left
factor_is zero = refl
factor_is (suc left) = refl

openers_are : (left : ℕ) → (left ≡ 0 → ⊥) → openers_left left ≡ opener_reader (factor_reader (left - 1))
unfolding openers_left
openers_are zero z = absurd (z refl)
openers_are (suc left) z = let k : left ≡ suc left - 1 = omega arith in ap (λ n. opener_reader (factor_reader n)) k

simple_same : (r s : Parser Expression) (ts : List Token) → r ts ≡ s ts → simple_or r ts ≡ simple_or s ts
unfolding simple_or
simple_same r s ts e =
    if_next_alike NAME _ _ _ ts (if_next_alike TRUE _ _ _ ts (if_next_alike FALSE _ _ _ ts
    (if_next_alike WHOLE_NUMBER _ _ _ ts (if_next_alike REAL_NUMBER _ r s ts e))))

opener_other : {classes : List ℕ} (w : Rows classes) (inside : Parser Expression) (at : ℕ) → (get_or classes at 0 ≡ REAL → ⊥)
    → (get_or classes at 0 ≡ ROUND_OPEN → ⊥) → (get_or classes at 0 ≡ MINUS → ⊥) → opener_reader inside (drop at w.tokens) ≡ unfit_after 0
unfolding opener_reader
opener_other w inside at r o m =
    if_next_second REAL _ _ (drop at w.tokens) (next_is_other w REAL at r)
    ∙ if_next_second ROUND_OPEN _ _ (drop at w.tokens) (next_is_other w ROUND_OPEN at o)
    ∙ expect_other w MINUS _ at m

module _ {C R : Type 0} {classes : List ℕ} {rows : C → Rows classes} {yields : C → Expression → R → Type 0} {at : ℕ} {v : R} (left : ℕ) where
  pub factor_closed : left ≡ 0 → {next : ℕ} → Walks rows yields (simple_or halt) at v next → Walks rows yields (factor_reader left) at v next
  unfolding openers_left
  factor_closed z h = walk_same (λ c. rw (factor_is left, z)) h

  -- a token that is no opener
  pub factor_leaf : (get_or classes at 0 ≡ REAL → ⊥) → (get_or classes at 0 ≡ ROUND_OPEN → ⊥) → (get_or classes at 0 ≡ MINUS → ⊥) → {next : ℕ}
      → Walks rows yields (simple_or halt) at v next → Walks rows yields (factor_reader left) at v next
  unfolding openers_left halt
  factor_leaf r o m h = walk_same (λ c. rw (factor_is left) (simple_same (openers_left left) halt (drop at (rows c).tokens) (no_opener c left))) h
    where
      no_opener : (c : C) (left : ℕ) → openers_left left (drop at (rows c).tokens) ≡ halt (drop at (rows c).tokens)
      no_opener c zero = refl
      no_opener c (suc left) = opener_other (rows c) (factor_reader left) at r o m

  module _ (z : left ≡ 0 → ⊥) where
    opener_means : 20 < get_or classes at 0 → {next : ℕ} → at ≤ next
        → ((c : C) → (rows c).low ≤ at → MeansAt (rows c) (yields c) (opener_reader (factor_reader (left - 1))) at v next)
        → Walks rows yields (factor_reader left) at v next
    unfolding simple_or
    opener_means h o m = record {
      onward = o;
      means = λ c l. rw (factor_is left, openers_are left z)
          (next_no (rows c) (yields c) NAME _ _ (λ q. omega arith)
          (next_no (rows c) (yields c) TRUE _ _ (λ q. omega arith)
          (next_no (rows c) (yields c) FALSE _ _ (λ q. omega arith)
          (next_no (rows c) (yields c) WHOLE_NUMBER _ _ (λ q. omega arith)
          (next_no (rows c) (yields c) REAL_NUMBER _ _ (λ q. omega arith) (m c l))))));
    }

    -- `real` `(` expression `)`
    pub factor_real : get_or classes at 0 ≡ REAL → {i j n next : ℕ} {x : R} → Steps (length classes) at i → Steps (length classes) i j
        → Walks rows yields (expression_reader (left - 1)) j x n → Steps (length classes) n next
        → ((c : C) (a : Expression) → Stands (rows c) at REAL → yields c a x → yields c (to_real (nth_token (rows c).tokens at).at a) v)
        → Walks rows yields (factor_reader left) at v next
    unfolding opener_reader expression_reader
    factor_real e s t h u y = opener_means (omega arith) (omega (arith, s.onward, t.onward, h.onward, u.onward)) λ c l.
        next_yes (rows c) (yields c) REAL _ _ (class_inside classes at e (omega arith)) e
        (expect_means (rows c) (yields c) REAL _ s λ h₁ e₁.
        expect_means (rows c) (yields c) ROUND_OPEN _ t λ h₂ e₂.
        then_means (rows c) (yields c) (expression_of (factor_reader (left - 1))) _ (h.means c (omega (arith, s.onward, t.onward))) λ a q.
        expect_means (rows c) (yields c) ROUND_CLOSE _ u λ h₃ e₃.
        give_means (rows c) (yields c) _ (λ k. y c a (stands l (omega arith) h₁ e₁ s (omega arith) k) (q (omega arith))) refl)

    -- `(` expression `)`
    pub factor_round : get_or classes at 0 ≡ ROUND_OPEN → {i n next : ℕ} {x : R} → Steps (length classes) at i
        → Walks rows yields (expression_reader (left - 1)) i x n → Steps (length classes) n next → ((c : C) (a : Expression) → yields c a x → yields c a v)
        → Walks rows yields (factor_reader left) at v next
    unfolding opener_reader expression_reader
    factor_round e s h u y = opener_means (omega arith) (omega (arith, s.onward, h.onward, u.onward)) λ c l.
        next_no (rows c) (yields c) REAL _ _ (λ q. omega arith)
        (next_yes (rows c) (yields c) ROUND_OPEN _ _ (class_inside classes at e (omega arith)) e
        (expect_means (rows c) (yields c) ROUND_OPEN _ s λ h₁ e₁.
        then_means (rows c) (yields c) (expression_of (factor_reader (left - 1))) _ (h.means c (omega (arith, s.onward))) λ a q.
        expect_means (rows c) (yields c) ROUND_CLOSE _ u λ h₃ e₃.
        give_means (rows c) (yields c) _ (λ k. y c a (q (omega (arith, u.onward)))) refl))

    -- `-` factor
    pub factor_minus : get_or classes at 0 ≡ MINUS → {i n : ℕ} {x : R} → Steps (length classes) at i → Walks rows yields (factor_reader (left - 1)) i x n
        → ((c : C) (a : Expression) → Stands (rows c) at MINUS → yields c a x → yields c (negate (nth_token (rows c).tokens at).at a) v)
        → Walks rows yields (factor_reader left) at v n
    unfolding opener_reader
    factor_minus e s h y = opener_means (omega arith) (omega (arith, s.onward, h.onward)) λ c l.
        next_no (rows c) (yields c) REAL _ _ (λ q. omega arith)
        (next_no (rows c) (yields c) ROUND_OPEN _ _ (λ q. omega arith)
        (expect_means (rows c) (yields c) MINUS _ s λ h₁ e₁.
        then_means (rows c) (yields c) (factor_reader (left - 1)) _ (h.means c (omega (arith, s.onward))) λ a q.
        give_means (rows c) (yields c) _ (λ k. y c a (stands l (omega arith) h₁ e₁ s h.onward k) (q k)) refl))

-- ---- chains of factors and of terms

module _ {C R : Type 0} {classes : List ℕ} {rows : C → Rows classes} {yields : C → Expression → R → Type 0} {at : ℕ} {v : R} {i : ℕ} (left : ℕ) where
  pub term_begins : Walks rows yields (factor_reader left) at v i
      → Looping rows yields (term_reader left) is_factor_operator (joined (factor_reader left) apply_at) at v i
  unfolding term_reader term_of
  term_begins h = chain_begins rows yields is_factor_operator apply_at (factor_reader left) h

  pub expression_begins : Walks rows yields (term_reader left) at v i
      → Looping rows yields (expression_reader left) is_term_operator (joined (term_reader left) apply_at) at v i
  unfolding expression_reader expression_of term_reader
  expression_begins h = chain_begins rows yields is_term_operator apply_at (term_reader left) h

-- ---- a leaf alone

-- the operators' classes are PLUS and more
no_operator : {c : ℕ} → c < PLUS → (is_factor_operator c ≡ false) × (is_term_operator c ≡ false)
unfolding is_factor_operator is_term_operator
no_operator {c} h = (
  rw (ne_eqb c TIMES (λ q. omega arith), ne_eqb c DIVIDE (λ q. omega arith)),
  rw (ne_eqb c PLUS (λ q. omega arith), ne_eqb c MINUS (λ q. omega arith)),
)

-- below the openers' classes, and before no operator: `class` is found at number `at`, and `after` at number `next`
pub leaf_alone : {C R : Type 0} {classes : List ℕ} {rows : C → Rows classes} {yields : C → Expression → R → Type 0} {at class after : ℕ} {v : R} {next : ℕ}
    (left : ℕ) → class ≡ get_or classes at 0 → class < REAL → Walks rows yields (simple_or halt) at v next → after ≡ get_or classes next 0 → after < PLUS
    → Walks rows yields (expression_reader left) at v next
leaf_alone {rows = rows} {yields = yields} left is l h e k =
    let n = no_operator (rw e at k) in
    walk_stops rows yields is_term_operator (joined (term_reader left) apply_at)
    (expression_begins left
    (walk_stops rows yields is_factor_operator (joined (factor_reader left) apply_at)
    (term_begins left (factor_leaf left (λ q. omega arith) (λ q. omega arith) (λ q. omega arith) h))
    n.0))
    n.1
