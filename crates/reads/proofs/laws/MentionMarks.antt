-- The members that a rule's condition mentions by the classes of its tokens alone: `.`, `event` and `with` stand before each member's name, and the
-- first `action` stands after the condition.
use Prim.Native.Nat.{ℕ, zero, suc, ◌+◌, ◌<◌}
use native.Mathlib.Omega.{arith}
use mathlib.Core.Path.{◌≡◌, refl, sym, ap, ◌∙◌, subst}
use mathlib.Core.Bool.{Bool, true, false, ◌||◌}
use mathlib.Core.List.{List, [], ◌∷◌, ◌++◌, flat_map, append-nil, append_assoc}
use mathlib.Core.Option.{Option, none, some}
use lib.Dec.{eqb}
use lib.ListN.{drop, get_elem?}
use borrow.Author.Tests.{eqb-true}
use Rattle.text.specs.definitions.Tokens.{
  Token,
  NAME,
  WHOLE_NUMBER,
  REAL_NUMBER,
  EVENT,
  ACTION,
  FROM,
  WITH,
  CHANGED,
  TRIGGER,
  END,
  AND,
  OR,
  TRUE,
  FALSE,
  REAL,
  ROUND_OPEN,
  COLON,
  COMMA,
  DOT,
  PLUS,
  MINUS,
  TIMES,
  DIVIDE,
  RANK,
}
use Rattle.text.specs.definitions.Syntax.{Name, Expression, Target, Condition, Call, Priority, Rule, OPENERS}
use Rattle.text.specs.definitions.Readers.{Parser, read, give, expect, pick, next_is, if_next, and_then, many}
use Rattle.text.specs.definitions.Grammar.{
  name_of,
  apply_at,
  is_factor_operator,
  is_term_operator,
  term_of,
  expression_of,
  member_reader,
  simple_or,
  opener_reader,
  factor_reader,
  expression_reader,
  target_reader,
  filter_reader,
  test_reader,
  clause_reader,
  both_at,
  either_at,
  is_and,
  is_or,
  conjunction_of,
  condition_of,
  atom_reader,
  condition_reader,
  call_reader,
  call_after,
  priority_reader,
  rule_after,
}
use Rattle.text.proofs.laws.ListLaws.{flatMap_append}
use Rattle.text.proofs.laws.TreeLaws.{read_tree}
use Rattle.text.proofs.laws.SpotLaws.{
  Starts,
  Spots,
  spots_append,
  over,
  skip,
  Marks,
  read_count,
  expect_starts,
  and_then_parts,
  and_then_known,
  give_marks,
  halt_marks,
  expect_skip,
  expect_spot,
  if_next_marks,
  and_then_marks,
  and_then_plain,
  chain_marks,
}
use Rattle.text.proofs.laws.DeclarationMarks.{ClassAt, number_plain}
use Rattle.text.proofs.laws.RuleMarks.{one_of_two}
use Rattle.checking.specs.definitions.Scope.{clauses}
use Rattle.cycles.specs.definitions.Reads.{Mention, mentions_in, mentions_in_filter, mentions_in_test, mentions_in_clause, mentions}

-- ---- the marks

-- token number i is this name
pub record NameToken (ts : List Token) (i : ℕ) (n : Name) : Type 0 where
  pub token : Token
  pub stands : get_elem? ts i ≡ some token
  pub class : token.class ≡ NAME
  pub is : name_of token ≡ n

-- the token before a member's name, and those around it that say what it is a member of
pub data MentionAt (ts : List Token) : ℕ → Mention → Type 0 where
  -- name `.` member
  dotted : {i : ℕ} {n m : Name} → NameToken ts i n → ClassAt ts (suc i) DOT → NameToken ts (suc (suc i)) m
      → MentionAt ts (suc i) (record { owner = n; member = m })
  -- `event` member `from` name
  sourced : {i : ℕ} {n m : Name} → ClassAt ts i EVENT → NameToken ts (suc i) m → ClassAt ts (suc (suc i)) FROM → NameToken ts (suc (suc (suc i))) n
      → MentionAt ts i (record { owner = n; member = m })
  -- `from` name `with` member
  filtered : {i : ℕ} {n m : Name} → ClassAt ts i FROM → NameToken ts (suc i) n → ClassAt ts (suc (suc i)) WITH → NameToken ts (suc (suc (suc i))) m
      → MentionAt ts (suc (suc i)) (record { owner = n; member = m })
  -- `from` name `:` interface `with` member
  declared : {i : ℕ} {n f m : Name} → ClassAt ts i FROM → NameToken ts (suc i) n → ClassAt ts (suc (suc i)) COLON → NameToken ts (suc (suc (suc i))) f
      → ClassAt ts (suc (suc (suc (suc i)))) WITH → NameToken ts (suc (suc (suc (suc (suc i))))) m
      → MentionAt ts (suc (suc (suc (suc i)))) (record { owner = n; member = m })

-- the classes of these tokens, and of the one that ends a condition
abbrev pub is_reading : ℕ → Bool
is_reading c = eqb c DOT || (eqb c EVENT || (eqb c WITH || eqb c ACTION))

module _ (ts : List Token) where
  abbrev Mentions : {A : Type 0} → (A → List Mention) → Parser A → ℕ → Type 0
  Mentions out r p = Marks ts is_reading (MentionAt ts) p r (λ a xs. xs ≡ out a)

  -- ---- expressions

  term_read : (r : Parser Expression) → ((p : ℕ) → Mentions mentions_in r p) → (p : ℕ) → Mentions mentions_in (term_of r) p
  unfolding term_of is_factor_operator apply_at mentions_in
  term_read r f p = chain_marks is_factor_operator apply_at mentions_in (λ c. one_of_two is_reading TIMES DIVIDE c refl refl) (λ t a b. refl) f

  expression_of_read : (r : Parser Expression) → ((p : ℕ) → Mentions mentions_in r p) → (p : ℕ) → Mentions mentions_in (expression_of r) p
  unfolding expression_of is_term_operator apply_at mentions_in
  expression_of_read r f p =
      chain_marks is_term_operator apply_at mentions_in (λ c. one_of_two is_reading PLUS MINUS c refl refl) (λ t a b. refl) (term_read r f)

  simple_read : (r : Parser Expression) → ((p : ℕ) → Mentions mentions_in r p) → (p : ℕ) → Mentions mentions_in (simple_or r) p
  unfolding simple_or member_reader mentions_in
  simple_read r f p =
      if_next_marks NAME
      (expect_skip refl λ n sn cn.
      expect_spot refl λ t st ct.
      expect_skip refl λ m sm cm.
      give_marks _ λ k e. (
        record { owner = name_of n; member = name_of m },
        dotted (record { token = n; stands = sn; class = cn; is = refl }) (record { token = t; stands = st; class = ct })
            (record { token = m; stands = sm; class = cm; is = refl }),
        refl,
      ))
      (if_next_marks TRUE (expect_skip refl λ t s c. give_marks _ refl)
      (if_next_marks FALSE (expect_skip refl λ t s c. give_marks _ refl)
      (if_next_marks WHOLE_NUMBER (and_then_plain (number_plain refl refl false) λ l q. give_marks _ refl)
      (if_next_marks REAL_NUMBER (and_then_plain (number_plain refl refl false) λ l q. give_marks _ refl)
      (f p)))))

  opener_read : (r : Parser Expression) → ((p : ℕ) → Mentions mentions_in r p) → (p : ℕ) → Mentions mentions_in (opener_reader r) p
  unfolding opener_reader mentions_in
  opener_read r f p =
      if_next_marks REAL
      (expect_skip refl λ t s c.
      expect_skip refl λ o so co.
      and_then_marks (expression_of_read r f _) λ e xs h q.
      expect_skip refl λ u su cu.
      give_marks _ (append-nil xs ∙ h))
      (if_next_marks ROUND_OPEN
      (expect_skip refl λ o so co.
      and_then_marks (expression_of_read r f _) λ e xs h q.
      expect_skip refl λ u su cu.
      give_marks _ (append-nil xs ∙ h))
      (expect_skip refl λ m sm cm.
      and_then_marks (f _) λ e xs h q.
      give_marks _ (append-nil xs ∙ h)))

  factor_read : (left p : ℕ) → Mentions mentions_in (factor_reader left) p
  unfolding factor_reader
  factor_read zero = simple_read _ (λ p. halt_marks)
  factor_read (suc left) = simple_read _ (opener_read _ (factor_read left))

  expression_read : (left p : ℕ) → Mentions mentions_in (expression_reader left) p
  unfolding expression_reader
  expression_read left = expression_of_read _ (factor_read left)

  -- ---- clauses

  -- a target's tokens, from number p up to number q, without it
  data TargetAt : ℕ → ℕ → Target → Type 0 where
    bare : {p : ℕ} {n : Name} → NameToken ts p n → TargetAt p (suc p) (record { name = n; declares = none })
    declares : {p : ℕ} {n f : Name} → NameToken ts p n → ClassAt ts (suc p) COLON → NameToken ts (suc (suc p)) f
        → TargetAt p (suc (suc (suc p))) (record { name = n; declares = some f })

  target_plain : (p : ℕ) → Mentions (λ t. []) target_reader p
  unfolding target_reader
  target_plain p =
      expect_skip refl λ n sn cn.
      if_next_marks COLON
      (expect_skip refl λ t st ct.
      expect_skip refl λ i si ci.
      give_marks _ refl)
      (give_marks _ refl)

  target_at : (p : ℕ) (g : Target) (m : ℕ) → target_reader (drop p ts) ≡ read g m → TargetAt p (p + m) g
  unfolding target_reader if_next give
  target_at p g m e = named (expect_starts ts p NAME after g m e)
    where
      declaring : Token → Token → Token → Parser Target
      declaring n t i = give (record { name = name_of n; declares = some (name_of i) })

      plain : Token → Parser Target
      plain n = give (record { name = name_of n; declares = none })

      after : Token → Parser Target
      after n = if_next COLON (expect COLON λ t. expect NAME λ i. declaring n t i) (plain n)

      to : {q : ℕ} {h : Target} → h ≡ g → q ≡ p + m → TargetAt p q h → TargetAt p (p + m) g
      to {q} {h} i j a = subst (λ (x : Target). TargetAt p (p + m) x) i (subst (λ (k : ℕ). TargetAt p k h) j a)

      interface : (n t : Token) (k : ℕ) → NameToken ts p (name_of n) → ClassAt ts (suc p) COLON → suc (suc k) ≡ m
          → (s : Starts ts (suc (suc p)) NAME (declaring n t) g) × (suc s.used ≡ k) → TargetAt p (p + m) g
      interface n t k x c j (s, i) =
          let z : 0 ≡ s.used = read_count s.reads in
          to (read_tree s.reads) (omega arith) (declares x c (record { token = s.token; stands = s.stands; class = s.class; is = refl }))

      colon : (n : Token) (k : ℕ) → NameToken ts p (name_of n) → suc k ≡ m
          → (s : Starts ts (suc p) COLON (λ t. expect NAME λ i. declaring n t i) g) × (suc s.used ≡ k) → TargetAt p (p + m) g
      colon n k x j (s, i) =
          interface n s.token s.used x (record { token = s.token; stands = s.stands; class = s.class }) (omega arith)
          (expect_starts ts (suc (suc p)) NAME (declaring n s.token) g s.used s.reads)

      rest : (n : Token) (k : ℕ) → NameToken ts p (name_of n) → suc k ≡ m → (b : Bool)
          → pick b (expect COLON λ t. expect NAME λ i. declaring n t i) (plain n) (drop (suc p) ts) ≡ read g k → TargetAt p (p + m) g
      rest n k x j true e = colon n k x j (expect_starts ts (suc p) COLON (λ t. expect NAME λ i. declaring n t i) g k e)
      rest n k x j false e =
          let z : 0 ≡ k = read_count e in
          to (read_tree e) (omega arith) (bare x)

      named : (s : Starts ts p NAME after g) × (suc s.used ≡ m) → TargetAt p (p + m) g
      named (s, j) =
          rest s.token s.used (record { token = s.token; stands = s.stands; class = s.class; is = refl }) j (next_is COLON (drop (suc p) ts)) s.reads

  target_name : {p q : ℕ} {t : Target} → TargetAt p q t → NameToken ts p t.name
  target_name (bare n) = n
  target_name (declares n c f) = n

  filter_at : {p q : ℕ} {t : Target} {m : Name} → ClassAt ts p FROM → TargetAt (suc p) q t → ClassAt ts q WITH → NameToken ts (suc q) m
      → MentionAt ts q (record { owner = t.name; member = m })
  filter_at s (bare n) w a = filtered s n w a
  filter_at s (declares n c f) w a = declared s n c f w a

  filter_read : (left p q : ℕ) (t : Target) → ClassAt ts p FROM → TargetAt (suc p) q t → Mentions (mentions_in_filter t) (filter_reader left) q
  unfolding filter_reader mentions_in_filter
  filter_read left p q t from target =
      if_next_marks WITH
      (expect_spot refl λ w sw cw.
      expect_skip refl λ n sn cn.
      expect_skip refl λ e se ce.
      and_then_marks (expression_read left _) λ x xs h q₁.
      give_marks _ λ m r. (
        record { owner = t.name; member = name_of n },
        filter_at from target (record { token = w; stands = sw; class = cw }) (record { token = n; stands = sn; class = cn; is = refl }),
        ap (λ l. record { owner = t.name; member = name_of n } ∷ l) (append-nil xs ∙ h),
      ))
      (give_marks _ refl)

  test_read : (left p : ℕ) → Mentions mentions_in_test (test_reader left) p
  unfolding test_reader mentions_in_test
  test_read left p =
      if_next_marks CHANGED (expect_skip refl λ t s c. give_marks _ refl)
      (expect_skip refl λ e se ce.
      and_then_marks (expression_read left _) λ x xs h q.
      give_marks _ (append-nil xs ∙ h))

  -- ---- conditions

  abbrev condition_mentions : Condition → List Mention
  condition_mentions c = flat_map mentions_in_clause (clauses c)

  clause_read : (left p : ℕ) → Mentions condition_mentions (clause_reader left) p
  unfolding clause_reader clauses flat_map mentions_in_clause
  clause_read left p =
      expect_spot refl λ t st ct.
      expect_skip refl λ n sn cn.
      expect_skip refl λ u su cu.
      and_then_known (target_plain _) λ g m e.
      and_then_marks (filter_read left (suc (suc p)) _ g (record { token = u; stands = su; class = cu }) (target_at _ g m e)) λ f xs h q₁.
      expect_skip refl λ v sv cv.
      and_then_marks (test_read left _) λ x ys k q₂.
      give_marks _ λ j r. (
        record { owner = g.name; member = name_of n },
        sourced (record { token = t; stands = st; class = ct }) (record { token = n; stands = sn; class = cn; is = refl })
            (record { token = u; stands = su; class = cu }) (target_name (target_at _ g m e)),
        ap (λ l. record { owner = g.name; member = name_of n } ∷ l) (rw (h, k) (sym (append_assoc (mentions_in_filter g f) (mentions_in_test x) []))),
      )

  condition_of_read : (r : Parser Condition) → ((p : ℕ) → Mentions condition_mentions r p) → (p : ℕ) → Mentions condition_mentions (condition_of r) p
  unfolding condition_of conjunction_of clauses is_and is_or both_at either_at
  condition_of_read r f p =
      chain_marks is_or either_at condition_mentions (λ c e. ap is_reading (eqb-true c OR e)) (λ t a b. flatMap_append mentions_in_clause (clauses a) (clauses b)) λ q.
      chain_marks is_and both_at condition_mentions (λ c e. ap is_reading (eqb-true c AND e)) (λ t a b. flatMap_append mentions_in_clause (clauses a) (clauses b)) f

  atom_read : (left p : ℕ) → Mentions condition_mentions (atom_reader left) p
  unfolding atom_reader
  atom_read zero p = clause_read zero p
  atom_read (suc left) p =
      if_next_marks ROUND_OPEN
      (expect_skip refl λ o so co.
      and_then_marks (condition_of_read _ (atom_read left) _) λ c xs h q.
      expect_skip refl λ t st ct.
      give_marks _ (append-nil xs ∙ h))
      (clause_read (suc left) p)

  condition_read : (left p : ℕ) → Mentions condition_mentions (condition_reader left) p
  unfolding condition_reader
  condition_read left = condition_of_read _ (atom_read left)

  priority_plain : (p : ℕ) → Mentions (λ k. []) priority_reader p
  unfolding priority_reader
  priority_plain p =
      if_next_marks RANK
      (expect_skip refl λ t st ct.
      expect_skip refl λ n sn cn.
      give_marks _ refl)
      (give_marks _ refl)

  -- ---- rules

  -- the tokens from number p on begin with a condition, before number `end`, where an `action` stands
  pub record ConditionMarks (p : ℕ) (r : Rule) (n : ℕ) : Type 0 where
    pub end : ℕ
    pub marks : Spots ts is_reading (MentionAt ts) p end (mentions r)
    pub action : ClassAt ts end ACTION
    pub within : end < p + n

  -- what comes after a condition: `trigger`, and the first call
  abbrev calls_after : Token → Option Priority → Condition → Token → Call → Parser Rule
  calls_after t k c u first =
      and_then (many COMMA call_after) λ others. expect END λ v. give (record { at = t.at; priority = k; condition = c; calls = first ∷ others })

  abbrev trigger_after : Token → Option Priority → Condition → Token → Parser Rule
  trigger_after t k c u = and_then call_reader (calls_after t k c u)

  abbrev condition_after : Token → Option Priority → Condition → Parser Rule
  condition_after t k c = expect TRIGGER (trigger_after t k c)

  abbrev priority_after : Token → Option Priority → Parser Rule
  priority_after t k = and_then (condition_reader OPENERS) (condition_after t k)

  calls_tree : (t : Token) (k : Option Priority) (c : Condition) (u : Token) (first : Call) (p : ℕ) (r : Rule) (n : ℕ)
      → calls_after t k c u first (drop p ts) ≡ read r n → c ≡ r.condition
  unfolding give
  calls_tree t k c u first p r n e =
      let (others, m, d, j, g, i) = and_then_parts ts p (many COMMA call_after) _ r n e in
      let (s, h) = expect_starts ts (p + m) END _ r j g in
      ap (λ (x : Rule). x.condition) (read_tree s.reads)

  pub rule_condition_marks : (t : Token) (p : ℕ) (r : Rule) (n : ℕ) → rule_after t (drop p ts) ≡ read r n → ConditionMarks p r n
  unfolding rule_after call_reader mentions
  rule_condition_marks t p r n e =
      let (k, m₀, e₀, j₀, f₀, i₀) = and_then_parts ts p priority_reader (priority_after t) r n e in
      let (c, m₁, e₁, j₁, f₁, i₁) = and_then_parts ts (p + m₀) (condition_reader OPENERS) (condition_after t k) r j₀ f₀ in
      let (s, i₂) = expect_starts ts (p + m₀ + m₁) TRIGGER (trigger_after t k c) r j₁ f₁ in
      let (first, m₃, e₃, j₃, f₃, i₃) = and_then_parts ts (suc (p + m₀ + m₁)) call_reader (calls_after t k c s.token) r s.used s.reads in
      let (a, i₄) = expect_starts ts (suc (p + m₀ + m₁)) ACTION _ first m₃ e₃ in
      let (xs, q, h) = (priority_plain p).marks k m₀ e₀ in
      let (ys, v, l) = (condition_read OPENERS (p + m₀)).marks c m₁ e₁ in
      let trigger : Spots ts is_reading (MentionAt ts) (p + m₀ + m₁) (suc (p + m₀ + m₁)) [] =
      skip s.token s.stands (ap is_reading s.class) over in
      let all : xs ++ (ys ++ []) ≡ flat_map mentions_in_clause (clauses r.condition) =
      rw (h, l, calls_tree t k c s.token first (suc (p + m₀ + m₁) + m₃) r j₃ f₃) (append-nil (condition_mentions r.condition)) in
      record {
        end = suc (p + m₀ + m₁);
        marks = subst (λ (zs : List Mention). Spots ts is_reading (MentionAt ts) p (suc (p + m₀ + m₁)) zs) all (spots_append q (spots_append v trigger));
        action = record { token = a.token; stands = a.stands; class = a.class };
        within = omega arith;
      }
