-- Rules by the classes of their tokens alone: which tokens begin a rule, a clause, a call, and which declare a variable.
use Prim.Native.Nat.{ℕ, zero, suc}
use native.Mathlib.Omega.{arith}
use mathlib.Core.Path.{◌≡◌, refl, ap, ◌∙◌}
use mathlib.Core.Bool.{Bool, true, false, ◌||◌}
use mathlib.Core.List.{List, [], ◌∷◌, ◌++◌, flat_map, append-nil}
use mathlib.Core.Option.{Option, none, some}
use lib.Dec.{eqb}
use lib.ListN.{get_elem?}
use borrow.Author.Tests.{eqb-true}
use Rattle.text.specs.definitions.Tokens.{
  Token,
  NAME,
  WHOLE_NUMBER,
  REAL_NUMBER,
  EVENT,
  ACTION,
  WHEN,
  WITH,
  CHANGED,
  AND,
  OR,
  TRUE,
  FALSE,
  REAL,
  ROUND_OPEN,
  COLON,
  COMMA,
  PLUS,
  MINUS,
  TIMES,
  DIVIDE,
  RANK,
}
use Rattle.text.specs.definitions.Syntax.{Name, Expression, Target, Clause, Condition, clause, both, either, Call, Priority, Rule}
use Rattle.text.specs.definitions.Readers.{Parser, expect, many}
use Rattle.text.specs.definitions.Grammar.{
  name_of,
  apply_at,
  is_factor_operator,
  is_term_operator,
  term_of,
  expression_of,
  member_reader,
  simple_or,
  opener_reader,
  factor_reader,
  expression_reader,
  target_reader,
  filter_reader,
  test_reader,
  clause_reader,
  both_at,
  either_at,
  is_and,
  is_or,
  conjunction_of,
  condition_of,
  atom_reader,
  condition_reader,
  call_reader,
  call_after,
  priority_reader,
  rule_after,
}
use Rattle.text.specs.definitions.Syntax.{OPENERS}
use Rattle.text.proofs.laws.SpotLaws.{
  Starts,
  Marks,
  give_marks,
  halt_marks,
  expect_skip,
  expect_spot,
  if_next_marks,
  and_then_marks,
  and_then_plain,
  chain_marks,
  many_marks,
}
use Rattle.text.proofs.laws.DeclarationMarks.{ClassAt, NameAt, FirstAt, is_leading, item_marks, number_plain}

-- ---- the marks

-- a rule that its reader reads after `when`
pub record RuleAt (ts : List Token) (p : ℕ) (r : Rule) : Type 0 where
  pub starts : Starts ts p WHEN rule_after r
  pub offset : starts.token.at ≡ r.at

-- the `:` between a variable's name and its interface's
pub record VariableAt (ts : List Token) (p : ℕ) (n i : Name) : Type 0 where
  pub colon : ClassAt ts p COLON
  pub before : ℕ
  pub is_before : suc before ≡ p
  pub name : NameAt ts before n
  pub interface : NameAt ts (suc p) i

-- `rank`, and its number after it
pub record PriorityAt (ts : List Token) (p : ℕ) (k : Priority) : Type 0 where
  pub word : ClassAt ts p RANK
  pub number : Token
  pub stands : get_elem? ts (suc p) ≡ some number
  pub value : number.value ≡ k.number
  pub offset : number.at ≡ k.at

-- what begins, or is declared, after `rules`
pub data Ruled : Type 0 where
  rule_mark : Rule → Ruled
  priority_mark : Priority → Ruled
  variable_mark : Name → Name → Ruled
  clause_mark : Clause → Ruled
  call_mark : Call → Ruled

abbrev pub RuledAt : List Token → ℕ → Ruled → Type 0
RuledAt ts p (rule_mark r) = RuleAt ts p r
RuledAt ts p (priority_mark k) = PriorityAt ts p k
RuledAt ts p (variable_mark n i) = VariableAt ts p n i
RuledAt ts p (clause_mark c) = FirstAt ts p EVENT c.at
RuledAt ts p (call_mark c) = FirstAt ts p ACTION c.at

unfoldable pub declared_marks : Name → Option Name → List Ruled
declared_marks n none = []
declared_marks n (some i) = variable_mark n i ∷ []

unfoldable pub target_marks : Target → List Ruled
unfolding declared_marks
target_marks t = declared_marks t.name t.declares

unfoldable pub condition_marks : Condition → List Ruled
unfolding target_marks
condition_marks (clause c) = clause_mark c ∷ target_marks c.target
condition_marks (both a b) = condition_marks a ++ condition_marks b
condition_marks (either a b) = condition_marks a ++ condition_marks b

unfoldable pub call_marks : Call → List Ruled
unfolding target_marks
call_marks c = call_mark c ∷ target_marks c.target

unfoldable pub priority_marks : Option Priority → List Ruled
priority_marks none = []
priority_marks (some k) = priority_mark k ∷ []

unfoldable pub rule_marks : Rule → List Ruled
unfolding priority_marks condition_marks call_marks flat_map
rule_marks r = priority_marks r.priority ++ (condition_marks r.condition ++ flat_map call_marks r.calls)

abbrev pub is_ruling : ℕ → Bool
is_ruling c = is_leading c || eqb c COLON

pub one_of_two : (f : ℕ → Bool) (a b c : ℕ) → f a ≡ false → f b ≡ false → eqb c a || eqb c b ≡ true → f c ≡ false
one_of_two f a b c p q h = go (eqb c a) refl (eqb c b) refl h
  where
    go : (x : Bool) → eqb c a ≡ x → (y : Bool) → eqb c b ≡ y → x || y ≡ true → f c ≡ false
    go true e y g h = ap f (eqb-true c a e) ∙ p
    go false e true g h = ap f (eqb-true c b g) ∙ q
    go false e false g h = let z : ◌≡◌ {A = ℕ} 0 1 = cc in absurd (omega arith)

module _ (ts : List Token) where
  -- no wanted token
  abbrev Plain : {A : Type 0} → Parser A → Type 0
  Plain r = (p : ℕ) → Marks ts is_ruling (RuledAt ts) p r (λ a xs. xs ≡ [])

  term_plain : (r : Parser Expression) → Plain r → Plain (term_of r)
  unfolding term_of is_factor_operator
  term_plain r f p = chain_marks is_factor_operator apply_at (λ e. []) (λ c. one_of_two is_ruling TIMES DIVIDE c refl refl) (λ t a b. refl) f

  expression_of_plain : (r : Parser Expression) → Plain r → Plain (expression_of r)
  unfolding expression_of is_term_operator
  expression_of_plain r f p =
      chain_marks is_term_operator apply_at (λ e. []) (λ c. one_of_two is_ruling PLUS MINUS c refl refl) (λ t a b. refl) (term_plain r f)

  simple_plain : (r : Parser Expression) → Plain r → Plain (simple_or r)
  unfolding simple_or member_reader
  simple_plain r f p =
      if_next_marks NAME (expect_skip refl λ n sn cn. expect_skip refl λ t s c. expect_skip refl λ m sm cm. give_marks _ refl)
      (if_next_marks TRUE (expect_skip refl λ t s c. give_marks _ refl)
      (if_next_marks FALSE (expect_skip refl λ t s c. give_marks _ refl)
      (if_next_marks WHOLE_NUMBER (and_then_plain (number_plain refl refl false) λ l q. give_marks _ refl)
      (if_next_marks REAL_NUMBER (and_then_plain (number_plain refl refl false) λ l q. give_marks _ refl)
      (f p)))))

  opener_plain : (r : Parser Expression) → Plain r → Plain (opener_reader r)
  unfolding opener_reader
  opener_plain r f p =
      if_next_marks REAL
      (expect_skip refl λ t s c.
      expect_skip refl λ o so co.
      and_then_plain (expression_of_plain r f _) λ e q.
      expect_skip refl λ u su cu.
      give_marks _ refl)
      (if_next_marks ROUND_OPEN
      (expect_skip refl λ o so co.
      and_then_plain (expression_of_plain r f _) λ e q.
      expect_skip refl λ u su cu.
      give_marks _ refl)
      (expect_skip refl λ m sm cm.
      and_then_plain (f _) λ e q.
      give_marks _ refl))

  factor_plain : (left : ℕ) → Plain (factor_reader left)
  unfolding factor_reader
  factor_plain zero = simple_plain _ (λ p. halt_marks)
  factor_plain (suc left) = simple_plain _ (opener_plain _ (factor_plain left))

  expression_plain : (left : ℕ) → Plain (expression_reader left)
  unfolding expression_reader
  expression_plain left = expression_of_plain _ (factor_plain left)

  filter_plain : (left : ℕ) → Plain (filter_reader left)
  unfolding filter_reader
  filter_plain left p =
      if_next_marks WITH
      (expect_skip refl λ t s c.
      expect_skip refl λ n sn cn.
      expect_skip refl λ e se ce.
      and_then_plain (expression_plain left _) λ x q.
      give_marks _ refl)
      (give_marks _ refl)

  test_plain : (left : ℕ) → Plain (test_reader left)
  unfolding test_reader
  test_plain left p =
      if_next_marks CHANGED (expect_skip refl λ t s c. give_marks _ refl)
      (expect_skip refl λ e se ce.
      and_then_plain (expression_plain left _) λ x q.
      give_marks _ refl)

  target_read : (p : ℕ) → Marks ts is_ruling (RuledAt ts) p target_reader (λ t xs. xs ≡ target_marks t)
  unfolding target_reader target_marks
  target_read p =
      expect_skip refl λ n sn cn.
      if_next_marks COLON
      (expect_spot refl λ t st ct.
      expect_skip refl λ i si ci.
      give_marks _ λ m r. (
        variable_mark (name_of n) (name_of i),
        record {
          colon = record { token = t; stands = st; class = ct };
          before = p;
          is_before = refl;
          name = record { token = n; stands = sn; is = refl };
          interface = record { token = i; stands = si; is = refl };
        },
        refl,
      ))
      (give_marks _ refl)

  clause_read : (left p : ℕ) → Marks ts is_ruling (RuledAt ts) p (clause_reader left) (λ c xs. xs ≡ condition_marks c)
  unfolding clause_reader condition_marks
  clause_read left p =
      expect_spot refl λ t st ct.
      expect_skip refl λ n sn cn.
      expect_skip refl λ u su cu.
      and_then_marks (target_read _) λ g xs h q.
      and_then_plain (filter_plain left _) λ f q.
      expect_skip refl λ v sv cv.
      and_then_plain (test_plain left _) λ x q.
      give_marks _ λ m r.
      let c : Clause = record { at = t.at; event = name_of n; target = g; filter = f; test = x } in
      (clause_mark c, record { token = t; stands = st; class = ct; offset = refl }, ap (λ l. clause_mark c ∷ l) (append-nil xs ∙ h))

  condition_of_read : (r : Parser Condition) → ((p : ℕ) → Marks ts is_ruling (RuledAt ts) p r (λ c xs. xs ≡ condition_marks c))
      → (p : ℕ) → Marks ts is_ruling (RuledAt ts) p (condition_of r) (λ c xs. xs ≡ condition_marks c)
  unfolding condition_of conjunction_of condition_marks is_and is_or both_at either_at
  condition_of_read r f p =
      chain_marks is_or either_at condition_marks (λ c e. ap is_ruling (eqb-true c OR e)) (λ t a b. refl) λ q.
      chain_marks is_and both_at condition_marks (λ c e. ap is_ruling (eqb-true c AND e)) (λ t a b. refl) f

  atom_read : (left p : ℕ) → Marks ts is_ruling (RuledAt ts) p (atom_reader left) (λ c xs. xs ≡ condition_marks c)
  unfolding atom_reader
  atom_read zero p = clause_read zero p
  atom_read (suc left) p =
      if_next_marks ROUND_OPEN
      (expect_skip refl λ o so co.
      and_then_marks (condition_of_read _ (atom_read left) _) λ c xs h q.
      expect_skip refl λ t st ct.
      give_marks _ (append-nil xs ∙ h))
      (clause_read (suc left) p)

  call_read : (p : ℕ) → Marks ts is_ruling (RuledAt ts) p call_reader (λ c xs. xs ≡ call_marks c)
  unfolding call_reader call_marks
  call_read p =
      expect_spot refl λ t st ct.
      expect_skip refl λ n sn cn.
      expect_skip refl λ o so co.
      and_then_plain (expression_plain OPENERS _) λ e q.
      expect_skip refl λ u su cu.
      expect_skip refl λ v sv cv.
      and_then_marks (target_read _) λ g xs h q.
      and_then_plain (filter_plain OPENERS _) λ f q.
      give_marks _ λ m r.
      let c : Call = record { at = t.at; action = name_of n; open_at = o.at; parameter = e; target = g; filter = f } in
      (call_mark c, record { token = t; stands = st; class = ct; offset = refl }, ap (λ l. call_mark c ∷ l) (append-nil xs ∙ h))

  call_after_read : (p : ℕ) → Marks ts is_ruling (RuledAt ts) p (expect COMMA call_after) (λ c xs. xs ≡ call_marks c)
  unfolding call_after
  call_after_read p = expect_skip refl λ t st ct. call_read _

  priority_read : (p : ℕ) → Marks ts is_ruling (RuledAt ts) p priority_reader (λ k xs. xs ≡ priority_marks k)
  unfolding priority_reader priority_marks
  priority_read p =
      if_next_marks RANK
      (expect_spot refl λ t st ct.
      expect_skip refl λ n sn cn.
      give_marks _ λ m r. (
        priority_mark (record { number = n.value; at = n.at }),
        record { word = record { token = t; stands = st; class = ct }; number = n; stands = sn; value = refl; offset = refl },
        refl,
      ))
      (give_marks _ refl)

  -- after `when`: its priority, variables, clauses and calls
  pub rule_after_marks : (t : Token) (p : ℕ) → Marks ts is_ruling (RuledAt ts) p (rule_after t) (λ r xs. (xs ≡ rule_marks r) × (t.at ≡ r.at))
  unfolding rule_after condition_reader rule_marks
  rule_after_marks t p =
      and_then_marks (priority_read _) λ k ws hw q₀.
      and_then_marks (condition_of_read _ (atom_read OPENERS) _) λ c xs hx q₁.
      expect_skip refl λ u su cu.
      and_then_marks (call_read _) λ first ys hy q₂.
      and_then_marks (many_marks COMMA call_after call_marks call_after_read) λ others zs hz q₃.
      expect_skip refl λ v sv cv.
      give_marks _ (rw (hw, hx, hy, hz) (ap (λ l. priority_marks k ++ (condition_marks c ++ (call_marks first ++ l))) (append-nil (flat_map call_marks others))), refl)

  pub rules_marks : (p : ℕ) → Marks ts is_ruling (RuledAt ts) p (many WHEN rule_after) (λ rs xs. xs ≡ flat_map (λ r. rule_mark r ∷ rule_marks r) rs)
  rules_marks p = many_marks WHEN rule_after (λ r. rule_mark r ∷ rule_marks r)
      (item_marks refl rule_mark rule_marks (λ t q r. t.at ≡ r.at) (λ q r s h. record { starts = s; offset = h }) rule_after_marks)
