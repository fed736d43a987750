-- Walks over conditions, calls and rules: one law for each place where such a walk returns, general in what it gives of a tree.
use Prim.Native.Nat.{ℕ, zero, suc, ◌-◌}
use mathlib.Core.Path.{◌≡◌, refl, ap}
use mathlib.Core.List.{List, ◌∷◌}
use mathlib.Core.Option.{Option, none, some}
use native.Mathlib.Omega.{arith}
use lib.ListN.{length, get_or}
use Rattle.text.specs.definitions.Tokens.{
  Token,
  NAME,
  WHOLE_NUMBER,
  EVENT,
  ACTION,
  FROM,
  WITH,
  VALUE,
  CHANGED,
  TRIGGER,
  ON,
  END,
  ROUND_OPEN,
  ROUND_CLOSE,
  COLON,
  EQUALS,
  COMMA,
  RANK,
}
use Rattle.text.specs.definitions.Syntax.{Expression, Target, Filter, Test, changed, equals, Condition, clause, Call, Priority, Rule}
use Rattle.text.specs.definitions.Readers.{Parser, give, expect, if_next, and_then, joined, many}
use Rattle.text.specs.definitions.Grammar.{
  name_of,
  expression_reader,
  target_reader,
  filter_reader,
  test_reader,
  clause_reader,
  both_at,
  either_at,
  is_and,
  is_or,
  conjunction_of,
  condition_of,
  atom_reader,
  conjunction_reader,
  condition_reader,
  call_reader,
  call_after,
  priority_reader,
  rule_after,
}
use Rattle.text.specs.definitions.Syntax.{OPENERS}
use Rattle.text.specs.inner_contracts.Walks.{nth_token, Rows, Stands, Steps, Walks, Looping}
use Rattle.text.proofs.laws.WalkLaws.{class_inside, stands, give_means, expect_means, next_yes, next_no, then_means, chain_begins}

-- ---- targets

module _ {C R : Type 0} {classes : List ℕ} {rows : C → Rows classes} {yields : C → Target → R → Type 0} {at : ℕ} {v : R} where
  pub target_bare : {next : ℕ} → Steps (length classes) at next → (get_or classes next 0 ≡ COLON → ⊥)
      → ((c : C) → Stands (rows c) at NAME → yields c (record { name = name_of (nth_token (rows c).tokens at); declares = none }) v)
      → Walks rows yields target_reader at v next
  unfolding target_reader
  target_bare s n y = record {
    onward = s.onward;
    means = λ c l.
        expect_means (rows c) (yields c) NAME _ s λ h e.
        next_no (rows c) (yields c) COLON _ _ n
        (give_means (rows c) (yields c) _ (λ k. y c (stands l (omega arith) h e s (omega arith) k)) refl);
  }

  pub target_declares : {colon i next : ℕ} → Steps (length classes) at colon → get_or classes colon 0 ≡ COLON → Steps (length classes) colon i
      → Steps (length classes) i next
      → ((c : C) → Stands (rows c) at NAME → Stands (rows c) colon COLON → Stands (rows c) i NAME
      → yields c (record { name = name_of (nth_token (rows c).tokens at); declares = some (name_of (nth_token (rows c).tokens i)) }) v)
      → Walks rows yields target_reader at v next
  unfolding target_reader
  target_declares s e t u y = record {
    onward = omega (arith, s.onward, t.onward, u.onward);
    means = λ c l.
        expect_means (rows c) (yields c) NAME _ s λ h₁ e₁.
        next_yes (rows c) (yields c) COLON _ _ (class_inside classes _ e (omega arith)) e
        (expect_means (rows c) (yields c) COLON _ t λ h₂ e₂.
        expect_means (rows c) (yields c) NAME _ u λ h₃ e₃.
        give_means (rows c) (yields c) _
        (λ k. y c (stands l (omega arith) h₁ e₁ s (omega arith) k) (stands l (omega arith) h₂ e₂ t (omega arith) k)
        (stands l (omega arith) h₃ e₃ u (omega arith) k)) refl);
  }

-- ---- filters and tests

module _ {C R : Type 0} {classes : List ℕ} {rows : C → Rows classes} {yields : C → Option Filter → R → Type 0} {at : ℕ} {v : R} (left : ℕ) where
  pub filter_none : (get_or classes at 0 ≡ WITH → ⊥) → ((c : C) → yields c none v) → Walks rows yields (filter_reader left) at v at
  unfolding filter_reader
  filter_none n y = record {
    onward = omega arith;
    means = λ c l. next_no (rows c) (yields c) WITH _ _ n (give_means (rows c) (yields c) _ (λ k. y c) refl);
  }

  pub filter_some : {Q : Type 0} {inner : C → Expression → Q → Type 0} → get_or classes at 0 ≡ WITH → {i j m next : ℕ} {x : Q}
      → Steps (length classes) at i → Steps (length classes) i j
      → Steps (length classes) j m → Walks rows inner (expression_reader left) m x next
      → ((c : C) (a : Expression) → Stands (rows c) at WITH → Stands (rows c) i NAME → Stands (rows c) j EQUALS → inner c a x
      → yields c (some (record { attribute = name_of (nth_token (rows c).tokens i); equals_at = (nth_token (rows c).tokens j).at; expression = a })) v)
      → Walks rows yields (filter_reader left) at v next
  unfolding filter_reader
  filter_some e s t u h y = record {
    onward = omega (arith, s.onward, t.onward, u.onward, h.onward);
    means = λ c l.
        next_yes (rows c) (yields c) WITH _ _ (class_inside classes at e (omega arith)) e
        (expect_means (rows c) (yields c) WITH _ s λ h₁ e₁.
        expect_means (rows c) (yields c) NAME _ t λ h₂ e₂.
        expect_means (rows c) (yields c) EQUALS _ u λ h₃ e₃.
        then_means (rows c) (yields c) (expression_reader left) _ (h.means c (omega (arith, s.onward, t.onward, u.onward))) λ a q.
        give_means (rows c) (yields c) _
        (λ k. y c a (stands l (omega arith) h₁ e₁ s (omega arith) k) (stands l (omega arith) h₂ e₂ t (omega arith) k)
        (stands l (omega arith) h₃ e₃ u h.onward k) (q k)) refl);
  }

module _ {C R : Type 0} {classes : List ℕ} {rows : C → Rows classes} {yields : C → Test → R → Type 0} {at : ℕ} {v : R} (left : ℕ) where
  pub test_changed : get_or classes at 0 ≡ CHANGED → {next : ℕ} → Steps (length classes) at next → ((c : C) → yields c changed v)
      → Walks rows yields (test_reader left) at v next
  unfolding test_reader
  test_changed e s y = record {
    onward = s.onward;
    means = λ c l.
        next_yes (rows c) (yields c) CHANGED _ _ (class_inside classes at e (omega arith)) e
        (expect_means (rows c) (yields c) CHANGED _ s λ h q.
        give_means (rows c) (yields c) _ (λ k. y c) refl);
  }

  pub test_equals : {Q : Type 0} {inner : C → Expression → Q → Type 0} → (get_or classes at 0 ≡ CHANGED → ⊥) → {i next : ℕ} {x : Q}
      → Steps (length classes) at i → Walks rows inner (expression_reader left) i x next
      → ((c : C) (a : Expression) → Stands (rows c) at EQUALS → inner c a x → yields c (equals (nth_token (rows c).tokens at).at a) v)
      → Walks rows yields (test_reader left) at v next
  unfolding test_reader
  test_equals n s h y = record {
    onward = omega (arith, s.onward, h.onward);
    means = λ c l.
        next_no (rows c) (yields c) CHANGED _ _ n
        (expect_means (rows c) (yields c) EQUALS _ s λ h₁ e₁.
        then_means (rows c) (yields c) (expression_reader left) _ (h.means c (omega (arith, s.onward))) λ a q.
        give_means (rows c) (yields c) _ (λ k. y c a (stands l (omega arith) h₁ e₁ s h.onward k) (q k)) refl);
  }

-- ---- clauses

module _ {C P Q S R : Type 0} {classes : List ℕ} {rows : C → Rows classes} {place : C → Target → P → Type 0} {filtered : C → Option Filter → Q → Type 0}
    {tested : C → Test → S → Type 0} {yields : C → Condition → R → Type 0} {at : ℕ} {v : R} (left : ℕ) where
  pub clause_walk : {i j p n m o next : ℕ} {x : P} {y : Q} {z : S} → Steps (length classes) at i → Steps (length classes) i j → Steps (length classes) j p
      → Walks rows place target_reader p x n → Walks rows filtered (filter_reader left) n y m → Steps (length classes) m o
      → Walks rows tested (test_reader left) o z next
      → ((c : C) (t : Target) (f : Option Filter) (e : Test) → Stands (rows c) at EVENT → Stands (rows c) i NAME → Stands (rows c) j FROM
      → place c t x → filtered c f y → tested c e z
      → yields c (clause (record {
        at = (nth_token (rows c).tokens at).at;
        event = name_of (nth_token (rows c).tokens i);
        target = t;
        filter = f;
        test = e;
      })) v)
      → Walks rows yields (clause_reader left) at v next
  unfolding clause_reader
  clause_walk s t u h g w k y = record {
    onward = omega (arith, s.onward, t.onward, u.onward, h.onward, g.onward, w.onward, k.onward);
    means = λ c l.
        expect_means (rows c) (yields c) EVENT _ s λ h₁ e₁.
        expect_means (rows c) (yields c) NAME _ t λ h₂ e₂.
        expect_means (rows c) (yields c) FROM _ u λ h₃ e₃.
        then_means (rows c) (yields c) target_reader _ (h.means c (omega (arith, s.onward, t.onward, u.onward))) λ a q.
        then_means (rows c) (yields c) (filter_reader left) _ (g.means c (omega (arith, s.onward, t.onward, u.onward, h.onward))) λ f r.
        expect_means (rows c) (yields c) VALUE _ w λ h₄ e₄.
        then_means (rows c) (yields c) (test_reader left) _
        (k.means c (omega (arith, s.onward, t.onward, u.onward, h.onward, g.onward, w.onward))) λ d z.
        give_means (rows c) (yields c) _
        (λ b. y c a f d (stands l (omega arith) h₁ e₁ s (omega arith) b) (stands l (omega arith) h₂ e₂ t (omega arith) b)
        (stands l (omega arith) h₃ e₃ u (omega arith) b)
        (q (omega (arith, g.onward, w.onward, k.onward))) (r (omega (arith, w.onward, k.onward))) (z b)) refl;
  }

-- ---- conditions

atom_closed_is : (left : ℕ) → left ≡ 0 → atom_reader left ≡ clause_reader left
unfolding atom_reader
atom_closed_is zero z = refl
atom_closed_is (suc left) z = absurd (omega arith)

-- `(` condition `)`, whose atoms `inside` reads
unfoldable round_reader : Parser Condition → Parser Condition
round_reader inside = expect ROUND_OPEN λ o. and_then (condition_of inside) λ c. expect ROUND_CLOSE λ t. give c

atom_open_is : (left : ℕ) → (left ≡ 0 → ⊥) → atom_reader left ≡ if_next ROUND_OPEN (round_reader (atom_reader (left - 1))) (clause_reader left)
unfolding atom_reader round_reader
atom_open_is zero z = absurd (z refl)
atom_open_is (suc left) z =
    let k : left ≡ suc left - 1 = omega arith in
    ap (λ n. if_next ROUND_OPEN (round_reader (atom_reader n)) (clause_reader (suc left))) k

module _ {C R : Type 0} {classes : List ℕ} {rows : C → Rows classes} {yields : C → Condition → R → Type 0} {at : ℕ} {v : R} (left : ℕ) where
  pub atom_closed : left ≡ 0 → {next : ℕ} → Walks rows yields (clause_reader left) at v next → Walks rows yields (atom_reader left) at v next
  atom_closed z h = rw (atom_closed_is left z) h

  module _ (z : left ≡ 0 → ⊥) where
    pub atom_clause : (get_or classes at 0 ≡ ROUND_OPEN → ⊥) → {next : ℕ} → Walks rows yields (clause_reader left) at v next
        → Walks rows yields (atom_reader left) at v next
    atom_clause n h = record { onward = h.onward; means = λ c l. rw (atom_open_is left z) (next_no (rows c) (yields c) ROUND_OPEN _ _ n (h.means c l)) }

    pub atom_round : get_or classes at 0 ≡ ROUND_OPEN → {i n next : ℕ} {x : R} → Steps (length classes) at i
        → Walks rows yields (condition_reader (left - 1)) i x n → Steps (length classes) n next → ((c : C) (a : Condition) → yields c a x → yields c a v)
        → Walks rows yields (atom_reader left) at v next
    unfolding round_reader condition_reader
    atom_round e s h u y = record {
      onward = omega (arith, s.onward, h.onward, u.onward);
      means = λ c l. rw (atom_open_is left z)
          (next_yes (rows c) (yields c) ROUND_OPEN _ _ (class_inside classes at e (omega arith)) e
          (expect_means (rows c) (yields c) ROUND_OPEN _ s λ h₁ e₁.
          then_means (rows c) (yields c) (condition_of (atom_reader (left - 1))) _ (h.means c (omega (arith, s.onward))) λ a q.
          expect_means (rows c) (yields c) ROUND_CLOSE _ u λ h₂ e₂.
          give_means (rows c) (yields c) _ (λ k. y c a (q (omega (arith, u.onward)))) refl));
    }

  pub conjunction_begins : {i : ℕ} → Walks rows yields (atom_reader left) at v i
      → Looping rows yields (conjunction_reader left) is_and (joined (atom_reader left) both_at) at v i
  unfolding conjunction_reader conjunction_of
  conjunction_begins h = chain_begins rows yields is_and both_at (atom_reader left) h

  pub condition_begins : {i : ℕ} → Walks rows yields (conjunction_reader left) at v i
      → Looping rows yields (condition_reader left) is_or (joined (conjunction_reader left) either_at) at v i
  unfolding condition_reader condition_of conjunction_reader
  condition_begins h = chain_begins rows yields is_or either_at (conjunction_reader left) h

-- ---- calls and rules

module _ {C P Q S R : Type 0} {classes : List ℕ} {rows : C → Rows classes} {inner : C → Expression → P → Type 0} {place : C → Target → Q → Type 0}
    {filtered : C → Option Filter → S → Type 0} {yields : C → Call → R → Type 0} {at : ℕ} {v : R} where
  pub call_walk : {i j p n m o q next : ℕ} {x : P} {y : Q} {z : S} → Steps (length classes) at i → Steps (length classes) i j → Steps (length classes) j p
      → Walks rows inner (expression_reader OPENERS) p x n → Steps (length classes) n m → Steps (length classes) m o → Walks rows place target_reader o y q
      → Walks rows filtered (filter_reader OPENERS) q z next
      → ((c : C) (a : Expression) (t : Target) (f : Option Filter) → Stands (rows c) at ACTION → Stands (rows c) i NAME → Stands (rows c) j ROUND_OPEN
      → inner c a x → place c t y → filtered c f z
      → yields c (record {
        at = (nth_token (rows c).tokens at).at;
        action = name_of (nth_token (rows c).tokens i);
        open_at = (nth_token (rows c).tokens j).at;
        parameter = a;
        target = t;
        filter = f;
      }) v)
      → Walks rows yields call_reader at v next
  unfolding call_reader
  call_walk s t u h w b g k y = record {
    onward = omega (arith, s.onward, t.onward, u.onward, h.onward, w.onward, b.onward, g.onward, k.onward);
    means = λ c l.
        expect_means (rows c) (yields c) ACTION _ s λ h₁ e₁.
        expect_means (rows c) (yields c) NAME _ t λ h₂ e₂.
        expect_means (rows c) (yields c) ROUND_OPEN _ u λ h₃ e₃.
        then_means (rows c) (yields c) (expression_reader OPENERS) _ (h.means c (omega (arith, s.onward, t.onward, u.onward))) λ a q.
        expect_means (rows c) (yields c) ROUND_CLOSE _ w λ h₄ e₄.
        expect_means (rows c) (yields c) ON _ b λ h₅ e₅.
        then_means (rows c) (yields c) target_reader _
        (g.means c (omega (arith, s.onward, t.onward, u.onward, h.onward, w.onward, b.onward))) λ d r.
        then_means (rows c) (yields c) (filter_reader OPENERS) _
        (k.means c (omega (arith, s.onward, t.onward, u.onward, h.onward, w.onward, b.onward, g.onward))) λ f z.
        give_means (rows c) (yields c) _
        (λ e. y c a d f (stands l (omega arith) h₁ e₁ s (omega arith) e) (stands l (omega arith) h₂ e₂ t (omega arith) e)
        (stands l (omega arith) h₃ e₃ u (omega arith) e)
        (q (omega (arith, w.onward, b.onward, g.onward, k.onward))) (r (omega (arith, k.onward))) (z e)) refl;
  }

-- a rule's priority
module _ {C R : Type 0} {classes : List ℕ} {rows : C → Rows classes} {yields : C → Option Priority → R → Type 0} {at : ℕ} {v : R} where
  pub priority_none : (get_or classes at 0 ≡ RANK → ⊥) → ((c : C) → yields c none v) → Walks rows yields priority_reader at v at
  unfolding priority_reader
  priority_none n y = record {
    onward = omega arith;
    means = λ c l. next_no (rows c) (yields c) RANK _ _ n (give_means (rows c) (yields c) _ (λ k. y c) refl);
  }

  pub priority_some : get_or classes at 0 ≡ RANK → {i next : ℕ} → Steps (length classes) at i → Steps (length classes) i next
      → ((c : C) → Stands (rows c) i WHOLE_NUMBER
      → yields c (some (record { number = (nth_token (rows c).tokens i).value; at = (nth_token (rows c).tokens i).at })) v)
      → Walks rows yields priority_reader at v next
  unfolding priority_reader
  priority_some e s t y = record {
    onward = omega (arith, s.onward, t.onward);
    means = λ c l.
        next_yes (rows c) (yields c) RANK _ _ (class_inside classes at e (omega arith)) e
        (expect_means (rows c) (yields c) RANK _ s λ h₁ e₁.
        expect_means (rows c) (yields c) WHOLE_NUMBER _ t λ h₂ e₂.
        give_means (rows c) (yields c) _ (λ k. y c (stands l (omega arith) h₂ e₂ t (omega arith) k)) refl);
  }

-- after `when`
module _ {C O P Q S R : Type 0} {classes : List ℕ} {rows : C → Rows classes} {prioritized : C → Option Priority → O → Type 0} {conditional : C → Condition → P → Type 0}
    {called : C → Call → Q → Type 0} {others : C → List Call → S → Type 0} {yields : C → Rule → R → Type 0} {at : ℕ} {v : R} (start : Token) where
  pub rule_walk : {o n m p q next : ℕ} {w : O} {x : P} {y : Q} {z : S} → Walks rows prioritized priority_reader at w o
      → Walks rows conditional (condition_reader OPENERS) o x n → Steps (length classes) n m → Walks rows called call_reader m y p → Walks rows others (many COMMA call_after) p z q → Steps (length classes) q next
      → ((c : C) (d : Option Priority) (a : Condition) (b : Call) (bs : List Call) → prioritized c d w → conditional c a x → called c b y → others c bs z
      → yields c (record { at = start.at; priority = d; condition = a; calls = b ∷ bs }) v)
      → Walks rows yields (rule_after start) at v next
  unfolding rule_after
  rule_walk f h s g k u y = record {
    onward = omega (arith, f.onward, h.onward, s.onward, g.onward, k.onward, u.onward);
    means = λ c l.
        then_means (rows c) (yields c) priority_reader _ (f.means c l) λ d o.
        then_means (rows c) (yields c) (condition_reader OPENERS) _ (h.means c (omega (arith, f.onward))) λ a q.
        expect_means (rows c) (yields c) TRIGGER _ s λ h₁ e₁.
        then_means (rows c) (yields c) call_reader _ (g.means c (omega (arith, f.onward, h.onward, s.onward))) λ b r.
        then_means (rows c) (yields c) (many COMMA call_after) _ (k.means c (omega (arith, f.onward, h.onward, s.onward, g.onward))) λ bs z.
        expect_means (rows c) (yields c) END _ u λ h₂ e₂.
        give_means (rows c) (yields c) _
        (λ e. y c d a b bs (o (omega (arith, h.onward, s.onward, g.onward, k.onward, u.onward)))
        (q (omega (arith, s.onward, g.onward, k.onward, u.onward))) (r (omega (arith, k.onward, u.onward)))
        (z (omega (arith, u.onward)))) refl;
  }
