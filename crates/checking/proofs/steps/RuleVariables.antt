-- The variables of a rule by the classes of its tokens: each `:` before the rule's `end` declares the name before it, and no other token does.
use Prim.Native.Nat.{ℕ, zero, suc, ◌+◌, ◌-◌, ◌≤◌, ◌<◌}
use native.Mathlib.Omega.{arith}
use mathlib.Core.Path.{◌≡◌, refl, sym, ap, ◌∙◌}
use mathlib.Core.Bool.{Bool, true, false, ◌||◌, false≢true}
use mathlib.Core.List.{List, [], ◌∷◌, ◌++◌, map, map-append, flat_map, append_assoc, append-nil}
use mathlib.Core.Option.{some}
use lib.Dec.{eqb, ltb}
use lib.ListN.{length, get_or, drop}
use lib.Seq.{drop-drop}
use borrow.Author.Tests.{eqb-true, eqb-false, ltb-true, ltb-false}
use Rattle.text.specs.definitions.Tokens.{
  Token,
  NAME,
  WHOLE_NUMBER,
  REAL_NUMBER,
  WITH,
  CHANGED,
  TRIGGER,
  END,
  TRUE,
  FALSE,
  REAL,
  ROUND_OPEN,
  COLON,
  COMMA,
  AND,
  OR,
  PLUS,
  MINUS,
  TIMES,
  DIVIDE,
  RANK,
}
use Rattle.text.specs.definitions.Syntax.{Name, Expression, Target, Clause, Condition, both, Call, Rule}
use Rattle.text.specs.definitions.Readers.{
  Parse,
  read,
  unfit_after,
  Parser,
  shift,
  give,
  halt,
  expect,
  expected,
  if_next,
  pick,
  next_is,
  and_then,
  continued,
  loop,
  joined,
  chain,
  added,
  many,
}
use Rattle.text.specs.definitions.Grammar.{
  name_of,
  number_reader,
  apply_at,
  is_factor_operator,
  is_term_operator,
  term_of,
  expression_of,
  member_reader,
  simple_or,
  opener_reader,
  factor_reader,
  expression_reader,
  target_reader,
  filter_reader,
  test_reader,
  clause_reader,
  both_at,
  either_at,
  is_and,
  is_or,
  conjunction_of,
  condition_of,
  atom_reader,
  condition_reader,
  call_reader,
  call_after,
  priority_reader,
  rule_after,
}
use Rattle.text.specs.definitions.Syntax.{OPENERS}
use Rattle.text.specs.inner_contracts.Walks.{nth_token, Rows}
use Rattle.text.proofs.laws.ListLaws.{flatMap_append}
use Rattle.text.proofs.laws.ReaderLaws.{loop_ends, loop_stops, loop_turns}
use Rattle.text.proofs.laws.WalkLaws.{class_inside, row_token, row_class, rows_end}
use Rattle.checking.specs.definitions.Scope.{Variable, declared_as, clauses, targets, variables}
use Rattle.checking.proofs.steps.RuleNames.{names_from, names_end, names_colon, names_other, Between, between_wider, names_before}

-- ---- what a reader has read

module _ {A : Type 0} where
  same_tree : {a b : A} {m n : ℕ} → read a m ≡ read b n → a ≡ b
  same_tree h = cc

  same_count : {a b : A} {m n : ℕ} → read a m ≡ read b n → m ≡ n
  same_count h = cc

  not_read : {a : A} {m n : ℕ} → unfit_after m ≡ read a n → ⊥
  not_read h = let z : ◌≡◌ {A = ℕ} 0 1 = cc in omega arith

  shifted_read : (k : ℕ) (p : Parse A) {a : A} {n : ℕ} → shift k p ≡ read a n → (m : ℕ) × (p ≡ read a m) × (n ≡ k + m)
  unfolding shift
  shifted_read k (read b m) h = (m, ap (λ x. read x m) (same_tree h), sym (same_count h))
  shifted_read k (unfit_after m) h = absurd (not_read h)

flatMap_map : {A B C : Type 0} (f : B → List C) (g : A → B) (xs : List A) → flat_map f (map g xs) ≡ flat_map (λ x. f (g x)) xs
unfolding flat_map
flatMap_map f g [] = refl
flatMap_map f g (x ∷ xs) = ap (λ l. f (g x) ++ l) (flatMap_map f g xs)

module _ {classes : List ℕ} (w : Rows classes) where
  -- the token after number q, and what was read from there on
  record TokenRead {A : Type 0} (q c : ℕ) (k : Token → Parser A) (a : A) (n : ℕ) : Type 0 where
    inside : q + 1 < length classes
    class : get_or classes (q + 1) 0 ≡ c
    used : ℕ
    reads : k (nth_token w.tokens (q + 1)) (drop (q + 1 + 1) w.tokens) ≡ read a used
    count : n ≡ 1 + used

  expect_read : {A : Type 0} (q c : ℕ) (k : Token → Parser A) {a : A} {n : ℕ} → expect c k (drop (q + 1) w.tokens) ≡ read a n → TokenRead q c k a n
  unfolding expect expected
  expect_read {A} q c k {a} {n} e = go (ltb (q + 1) (length classes)) refl
    where
      token : Token
      token = nth_token w.tokens (q + 1)

      shifted : q + 1 < length classes → token.class ≡ c → (m : ℕ) × (k token (drop (q + 1 + 1) w.tokens) ≡ read a m) × (n ≡ 1 + m) → TokenRead q c k a n
      shifted h t (m, p, i) = record { inside = h; class = sym (row_class w (q + 1) h) ∙ t; used = m; reads = p; count = i }

      test : (b : Bool) → eqb token.class c ≡ b → q + 1 < length classes → expected b (k token) (drop (q + 1 + 1) w.tokens) ≡ read a n
          → TokenRead q c k a n
      test true t h e = shifted h (eqb-true token.class c t) (shifted_read 1 (k token (drop (q + 1 + 1) w.tokens)) e)
      test false t h e = absurd (not_read e)

      go : (b : Bool) → ltb (q + 1) (length classes) ≡ b → TokenRead q c k a n
      go true t = let h = ltb-true (q + 1) (length classes) t in test (eqb token.class c) refl h (rw (row_token w (q + 1) h) at e)
      go false t = absurd (not_read (rw (rows_end w (q + 1) (ltb-false (q + 1) (length classes) t)) at e))

  -- what was read first after number q, and what then
  record TwoRead {A B : Type 0} (q : ℕ) (r : Parser B) (k : B → Parser A) (a : A) (n : ℕ) : Type 0 where
    first : B
    used : ℕ
    reads : r (drop (q + 1) w.tokens) ≡ read first used
    used_then : ℕ
    reads_then : k first (drop (q + used + 1) w.tokens) ≡ read a used_then
    count : n ≡ used + used_then

  then_read : {A B : Type 0} (q : ℕ) (r : Parser B) (k : B → Parser A) {a : A} {n : ℕ} → and_then r k (drop (q + 1) w.tokens) ≡ read a n → TwoRead q r k a n
  unfolding and_then continued
  then_read {A} {B} q r k {a} {n} e = go (r (drop (q + 1) w.tokens)) refl e
    where
      on : (b : B) (m : ℕ) → r (drop (q + 1) w.tokens) ≡ read b m → (j : ℕ) × (k b (drop m (drop (q + 1) w.tokens)) ≡ read a j) × (n ≡ m + j)
          → TwoRead q r k a n
      on b m t (j, p, i) =
          let l : q + 1 + m ≡ q + m + 1 = omega arith in
          record { first = b; used = m; reads = t; used_then = j; reads_then = rw (drop-drop m (q + 1) w.tokens, l) at p; count = i }

      go : (p : Parse B) → r (drop (q + 1) w.tokens) ≡ p → continued p (drop (q + 1) w.tokens) k ≡ read a n → TwoRead q r k a n
      go (unfit_after m) t e = absurd (not_read e)
      go (read b m) t e = on b m t (shifted_read m (k b (drop m (drop (q + 1) w.tokens))) e)

  -- the variable whose name is token number n
  abbrev pub variable_at : ℕ → Variable
  variable_at n = record { name = name_of (nth_token w.tokens n); interface = name_of (nth_token w.tokens (n + 1 + 1)) }

  -- those declared after token number q
  declared_after : ℕ → List Variable
  declared_after q = map variable_at (names_from classes q)

  -- a reader reads on after token number q: with those before it, the variables of its tree are those declared in it
  record Declares {A : Type 0} (rest : ℕ → List Variable) (before : List Variable) (q : ℕ) (r : Parser A) (vars : A → List Variable) : Type 0 where
    declares : (a : A) (n : ℕ) → r (drop (q + 1) w.tokens) ≡ read a n → before ++ declared_after q ≡ vars a ++ rest (q + n)

  module _ {A : Type 0} {rest : ℕ → List Variable} {before : List Variable} {q : ℕ} {vars : A → List Variable} where
    halt_declares : Declares rest before q halt vars
    unfolding halt
    halt_declares = record { declares = λ a n e. absurd (not_read e) }

    -- a token, if one is read
    token_declares : (c : ℕ) (k : Token → Parser A)
        → (q + 1 < length classes → get_or classes (q + 1) 0 ≡ c → (a : A) (m : ℕ) → k (nth_token w.tokens (q + 1)) (drop (q + 1 + 1) w.tokens) ≡ read a m
        → before ++ declared_after q ≡ vars a ++ rest (q + 1 + m))
        → Declares rest before q (expect c k) vars
    token_declares c k f = record { declares = λ a n e. go a n (expect_read q c k e) }
      where
        go : (a : A) (n : ℕ) → TokenRead q c k a n → before ++ declared_after q ≡ vars a ++ rest (q + n)
        go a n t = let j : q + n ≡ q + 1 + t.used = omega arith in rw j (f t.inside t.class a t.used t.reads)

    -- one that is neither `end` nor `:`
    expect_known : {c : ℕ} {k : Token → Parser A} → eqb c END ≡ false → eqb c COLON ≡ false
        → ((t : Token) → t.class ≡ c → t ≡ nth_token w.tokens (q + 1) → Declares rest before (q + 1) (k t) vars) → Declares rest before q (expect c k) vars
    unfolding declared_after
    expect_known {c} {k} x y h = token_declares c k λ i e a m p.
        rw (names_other classes q (sym e) (eqb-false c END x) (eqb-false c COLON y))
        ((h (nth_token w.tokens (q + 1)) (row_class w (q + 1) i ∙ e) refl).declares a m p)

    expect_declares : {c : ℕ} {k : Token → Parser A} → eqb c END ≡ false → eqb c COLON ≡ false
        → ((t : Token) → t.class ≡ c → Declares rest before (q + 1) (k t) vars) → Declares rest before q (expect c k) vars
    expect_declares x y h = expect_known x y λ t e d. h t e

    if_next_declares : (c : ℕ) {r s : Parser A} → Declares rest before q r vars → Declares rest before q s vars → Declares rest before q (if_next c r s) vars
    unfolding if_next pick
    if_next_declares c {r} {s} f g = record { declares = λ a n. go (next_is c (drop (q + 1) w.tokens)) a n }
      where
        go : (b : Bool) (a : A) (n : ℕ) → pick b r s (drop (q + 1) w.tokens) ≡ read a n → before ++ declared_after q ≡ vars a ++ rest (q + n)
        go true a n e = f.declares a n e
        go false a n e = g.declares a n e

    then_declares : {B : Type 0} {r : Parser B} {k : B → Parser A} {first : B → List Variable} → Declares declared_after before q r first
        → ((b : B) (m : ℕ) → Declares rest (first b) (q + m) (k b) vars) → Declares rest before q (and_then r k) vars
    then_declares {B} {r} {k} {first} f g = record { declares = λ a n e. go a n (then_read q r k e) }
      where
        go : (a : A) (n : ℕ) → TwoRead q r k a n → before ++ declared_after q ≡ vars a ++ rest (q + n)
        go a n t =
            let u : q + t.used + t.used_then ≡ q + n = omega arith in
            f.declares t.first t.used t.reads ∙ (g t.first t.used).declares a t.used_then t.reads_then ∙ ap (λ i. vars a ++ rest i) u

  give_declares : {A : Type 0} {before : List Variable} {q : ℕ} {vars : A → List Variable} (a : A) → before ≡ vars a
      → Declares declared_after before q (give a) vars
  unfolding give
  give_declares {q = q} {vars = vars} a h = record {
    declares = λ b n e.
        let z : q ≡ q + n = omega (arith, same_count e) in
        ap (λ l. l ++ declared_after q) (h ∙ ap vars (same_tree e)) ∙ ap (λ i. vars b ++ declared_after i) z;
  }

  -- a loop, whose steps begin with tokens that are neither `end` nor `:`
  module _ {A : Type 0} (test : ℕ → Bool) (step : A → Token → Parser A) (vars : A → List Variable)
      (plain : (c : ℕ) → test c ≡ true → (eqb c END ≡ false) × (eqb c COLON ≡ false))
      (turn : (a : A) (q : ℕ) (t : Token) → Declares declared_after (vars a) q (step a t) vars) where
    loop_once : (q : ℕ) (a : A) → (q + 1 < length classes → (m : ℕ) (b : A) → Declares declared_after (vars b) (q + 1 + m) (loop test step b 0) vars)
        → Declares declared_after (vars a) q (loop test step a 0) vars
    unfolding declared_after
    loop_once q a f = record { declares = λ b n e. go b n e (ltb (q + 1) (length classes)) refl }
      where
        t : Token
        t = nth_token w.tokens (q + 1)

        over : (b : A) (n : ℕ) → read a 0 ≡ read b n → vars a ++ declared_after q ≡ vars b ++ declared_after (q + n)
        over b n e =
            let z : q ≡ q + n = omega (arith, same_count e) in
            ap (λ l. l ++ declared_after q) (ap vars (same_tree e)) ∙ ap (λ i. vars b ++ declared_after i) z

        on : q + 1 < length classes → test t.class ≡ true → (b : A) (n : ℕ)
            → (m : ℕ) × (and_then (step a t) (λ c. loop test step c 0) (drop (q + 1 + 1) w.tokens) ≡ read b m) × (n ≡ 1 + m)
            → vars a ++ declared_after q ≡ vars b ++ declared_after (q + n)
        on h p b n (m, e, i) =
            let (x, y) = plain t.class p in
            let k : q + 1 + m ≡ q + n = omega arith in
            ap (λ ns. vars a ++ map variable_at ns) (names_other classes q (row_class w (q + 1) h) (eqb-false t.class END x) (eqb-false t.class COLON y))
            ∙ (then_declares (turn a (q + 1) t) (λ c j. f h j c)).declares b m e ∙ ap (λ i. vars b ++ declared_after i) k

        turned_on : (b : A) (n : ℕ) (p : Bool) → test t.class ≡ p → q + 1 < length classes → loop test step a 0 (t ∷ drop (q + 1 + 1) w.tokens) ≡ read b n
            → vars a ++ declared_after q ≡ vars b ++ declared_after (q + n)
        turned_on b n true p h e =
            on h p b n (shifted_read 1 (and_then (step a t) (λ c. loop test step c 0) (drop (q + 1 + 1) w.tokens))
            (sym (loop_turns test step a t (drop (q + 1 + 1) w.tokens) p) ∙ e))
        turned_on b n false p h e = over b n (sym (loop_stops test step a t (drop (q + 1 + 1) w.tokens) p) ∙ e)

        go : (b : A) (n : ℕ) → loop test step a 0 (drop (q + 1) w.tokens) ≡ read b n → (i : Bool) → ltb (q + 1) (length classes) ≡ i
            → vars a ++ declared_after q ≡ vars b ++ declared_after (q + n)
        go b n e true i =
            let h = ltb-true (q + 1) (length classes) i in
            turned_on b n (test t.class) refl h (rw (row_token w (q + 1) h) at e)
        go b n e false i = over b n (sym (loop_ends test step a) ∙ (rw (rows_end w (q + 1) (ltb-false (q + 1) (length classes) i)) at e))

    loop_from : (fuel q : ℕ) → length classes ≤ q + fuel → (a : A) → Declares declared_after (vars a) q (loop test step a 0) vars
    loop_from zero q f a = loop_once q a (λ h m b. absurd (omega arith))
    loop_from (suc fuel) q f a = loop_once q a (λ h m b. loop_from fuel (q + 1 + m) (omega arith) b)

    loop_declares : {q : ℕ} {before : List Variable} (a : A) → before ≡ vars a → Declares declared_after before q (loop test step a 0) vars
    loop_declares {q} a h = rw h (loop_from (length classes) q (omega arith) a)

  -- items with operators between them
  chain_declares : {A : Type 0} {before : List Variable} {q : ℕ} (test : ℕ → Bool) (join : Token → A → A → A) {item : Parser A} (vars : A → List Variable)
      → ((c : ℕ) → test c ≡ true → (eqb c END ≡ false) × (eqb c COLON ≡ false)) → ((t : Token) (a b : A) → vars a ++ vars b ≡ vars (join t a b))
      → ((before : List Variable) (q : ℕ) → Declares declared_after before q item (λ a. before ++ vars a))
      → Declares declared_after before q (chain test join item) (λ a. before ++ vars a)
  unfolding chain joined
  chain_declares {before = before} test join {item} vars plain j f =
      then_declares (f before _) λ b m.
      loop_declares test (joined item join) (λ a. before ++ vars a) plain
      (λ a q t. then_declares (f (before ++ vars a) q) λ c n. give_declares (join t a c)
      (append_assoc before (vars a) (vars c) ∙ ap (λ l. before ++ l) (j t a c)))
      b refl

  many_declares : {A : Type 0} {before : List Variable} {q : ℕ} (c : ℕ) (item : Token → Parser A) (vars : A → List Variable) → eqb c END ≡ false
      → eqb c COLON ≡ false
      → ((t : Token) (before : List Variable) (q : ℕ) → Declares declared_after before q (item t) (λ a. before ++ vars a))
      → Declares declared_after before q (many c item) (λ xs. before ++ flat_map vars xs)
  unfolding many added flat_map
  many_declares {A} {before} c item vars x y f =
      loop_declares (λ d. eqb d c) (added item) (λ xs. before ++ flat_map vars xs) plain
      (λ xs q t. then_declares (f t (before ++ flat_map vars xs) q) λ a n. give_declares (xs ++ a ∷ []) (snoc xs a)) [] (sym (append-nil before))
    where
      plain : (d : ℕ) → eqb d c ≡ true → (eqb d END ≡ false) × (eqb d COLON ≡ false)
      plain d e = let k = eqb-true d c e in (rw k x, rw k y)

      snoc : (xs : List A) (a : A) → before ++ flat_map vars xs ++ vars a ≡ before ++ flat_map vars (xs ++ a ∷ [])
      snoc xs a = append_assoc before (flat_map vars xs) (vars a) ∙ ap (λ l. before ++ (flat_map vars xs ++ l)) (sym (append-nil (vars a)))
          ∙ ap (λ l. before ++ l) (sym (flatMap_append vars xs (a ∷ [])))

  -- ---- what declares nothing

  declares_as : {A : Type 0} {rest : ℕ → List Variable} {before : List Variable} {q : ℕ} {r : Parser A} {vars : A → List Variable} (vars' : A → List Variable)
      → ((a : A) → vars a ≡ vars' a) → Declares rest before q r vars → Declares rest before q r vars'
  declares_as vars' e h = record { declares = λ a n p. rw (← e a) (h.declares a n p) }

  abbrev Plain : {A : Type 0} → Parser A → Type 0
  Plain {A} r = (before : List Variable) (q : ℕ) → Declares {A = A} declared_after before q r (λ a. before)

  chain_plain : {A : Type 0} (test : ℕ → Bool) (join : Token → A → A → A) {item : Parser A}
      → ((c : ℕ) → test c ≡ true → (eqb c END ≡ false) × (eqb c COLON ≡ false)) → Plain item → Plain (chain test join item)
  chain_plain test join plain f before q =
      declares_as _ (λ a. append-nil before)
      (chain_declares test join (λ a. []) plain (λ t a b. refl) λ before q. declares_as _ (λ a. sym (append-nil before)) (f before q))

  -- one of two operators
  two : (f : ℕ → Bool) (a b : ℕ) → f a ≡ false → f b ≡ false → (c : ℕ) → eqb c a || eqb c b ≡ true → f c ≡ false
  two f a b p q c h = go (eqb c a) refl (eqb c b) refl h
    where
      go : (x : Bool) → eqb c a ≡ x → (y : Bool) → eqb c b ≡ y → x || y ≡ true → f c ≡ false
      go true e y g h = ap f (eqb-true c a e) ∙ p
      go false e true g h = ap f (eqb-true c b g) ∙ q
      go false e false g h = absurd (false≢true h)

  term_plain : (r : Parser Expression) → Plain r → Plain (term_of r)
  unfolding term_of is_factor_operator
  term_plain r f = chain_plain is_factor_operator apply_at
      (λ c h. (two (λ d. eqb d END) TIMES DIVIDE refl refl c h, two (λ d. eqb d COLON) TIMES DIVIDE refl refl c h)) f

  expression_of_plain : (r : Parser Expression) → Plain r → Plain (expression_of r)
  unfolding expression_of is_term_operator
  expression_of_plain r f = chain_plain is_term_operator apply_at
      (λ c h. (two (λ d. eqb d END) PLUS MINUS refl refl c h, two (λ d. eqb d COLON) PLUS MINUS refl refl c h)) (term_plain r f)

  number_plain : (negative : Bool) → Plain (number_reader negative)
  unfolding number_reader
  number_plain negative before q =
      if_next_declares WHOLE_NUMBER (expect_declares refl refl λ t e. give_declares _ refl) (expect_declares refl refl λ t e. give_declares _ refl)

  simple_plain : (r : Parser Expression) → Plain r → Plain (simple_or r)
  unfolding simple_or member_reader
  simple_plain r f before q =
      if_next_declares NAME
      (expect_declares refl refl λ n e₁. expect_declares refl refl λ t e₂. expect_declares refl refl λ m e₃. give_declares _ refl)
      (if_next_declares TRUE (expect_declares refl refl λ t e. give_declares _ refl)
      (if_next_declares FALSE (expect_declares refl refl λ t e. give_declares _ refl)
      (if_next_declares WHOLE_NUMBER (then_declares (number_plain false before q) λ l m. give_declares _ refl)
      (if_next_declares REAL_NUMBER (then_declares (number_plain false before q) λ l m. give_declares _ refl)
      (f before q)))))

  opener_plain : (r : Parser Expression) → Plain r → Plain (opener_reader r)
  unfolding opener_reader
  opener_plain r f before q =
      if_next_declares REAL
      (expect_declares refl refl λ t e₁.
      expect_declares refl refl λ o e₂.
      then_declares (expression_of_plain r f before _) λ e m.
      expect_declares refl refl λ u e₃.
      give_declares _ refl)
      (if_next_declares ROUND_OPEN
      (expect_declares refl refl λ o e₁.
      then_declares (expression_of_plain r f before _) λ e m.
      expect_declares refl refl λ u e₂.
      give_declares _ refl)
      (expect_declares refl refl λ t e₁.
      then_declares (f before _) λ e m.
      give_declares _ refl))

  factor_plain : (left : ℕ) → Plain (factor_reader left)
  unfolding factor_reader
  factor_plain zero = simple_plain halt (λ before q. halt_declares)
  factor_plain (suc left) = simple_plain (opener_reader (factor_reader left)) (opener_plain (factor_reader left) (factor_plain left))

  expression_plain : (left : ℕ) → Plain (expression_reader left)
  unfolding expression_reader
  expression_plain left = expression_of_plain (factor_reader left) (factor_plain left)

  filter_plain : (left : ℕ) → Plain (filter_reader left)
  unfolding filter_reader
  filter_plain left before q =
      if_next_declares WITH
      (expect_declares refl refl λ t e₁.
      expect_declares refl refl λ n e₂.
      expect_declares refl refl λ u e₃.
      then_declares (expression_plain left before _) λ e m.
      give_declares _ refl)
      (give_declares _ refl)

  test_plain : (left : ℕ) → Plain (test_reader left)
  unfolding test_reader
  test_plain left before q =
      if_next_declares CHANGED (expect_declares refl refl λ t e. give_declares _ refl)
      (expect_declares refl refl λ t e.
      then_declares (expression_plain left before _) λ e m.
      give_declares _ refl)

  priority_plain : Plain priority_reader
  unfolding priority_reader
  priority_plain before q =
      if_next_declares RANK
      (expect_declares refl refl λ t e₁.
      expect_declares refl refl λ n e₂.
      give_declares _ refl)
      (give_declares _ refl)

  -- ---- what declares variables

  target_variables : Target → List Variable
  target_variables t = declared_as t.name t.declares

  condition_variables : Condition → List Variable
  condition_variables c = flat_map target_variables (map (λ d. d.target) (clauses c))

  call_variables : Call → List Variable
  call_variables c = target_variables c.target

  abbrev Adds : {A : Type 0} → Parser A → (A → List Variable) → Type 0
  Adds {A} r vars = (before : List Variable) (q : ℕ) → Declares {A = A} declared_after before q r (λ a. before ++ vars a)

  -- `:` and an interface's name, after a variable's name
  colon_adds : {before : List Variable} {q : ℕ} (n : Name) → n ≡ name_of (nth_token w.tokens q)
      → Declares declared_after before q (expect COLON λ t. expect NAME λ i. give (record { name = n; declares = some (name_of i) }))
      (λ a. before ++ target_variables a)
  unfolding declared_after target_variables declared_as
  colon_adds {before} {q} n d = token_declares COLON _ λ h e a m p.
      ap (λ ns. before ++ map variable_at ns) (names_colon classes q (sym e) refl)
      ∙ sym (append_assoc before (variable_at q ∷ []) (declared_after (q + 1)))
      ∙ inner.declares a m p
    where
      inner : Declares declared_after (before ++ variable_at q ∷ []) (q + 1) (expect NAME λ i. give (record { name = n; declares = some (name_of i) }))
          (λ a. before ++ target_variables a)
      inner = expect_known refl refl λ i e₁ e₂. give_declares (record { name = n; declares = some (name_of i) }) (rw (d, e₂))

  target_adds : Adds target_reader target_variables
  unfolding target_reader target_variables declared_as
  target_adds before q =
      expect_known refl refl λ n e₁ e₂.
      if_next_declares COLON (colon_adds (name_of n) (ap name_of e₂)) (give_declares _ (sym (append-nil before)))

  clause_adds : (left : ℕ) → Adds (clause_reader left) condition_variables
  unfolding clause_reader condition_variables clauses flat_map
  clause_adds left before q =
      expect_declares refl refl λ t e₁.
      expect_declares refl refl λ n e₂.
      expect_declares refl refl λ u e₃.
      then_declares (target_adds before _) λ p m.
      then_declares (filter_plain left _ _) λ f m.
      expect_declares refl refl λ v e₄.
      then_declares (test_plain left _ _) λ x m.
      give_declares _ (ap (λ l. before ++ l) (sym (append-nil (target_variables p))))

  condition_join : (a b : Condition) → condition_variables a ++ condition_variables b ≡ condition_variables (both a b)
  unfolding condition_variables clauses
  condition_join a b =
      sym (ap (flat_map target_variables) (map-append (λ (d : Clause). d.target) (clauses a) (clauses b))
      ∙ flatMap_append target_variables (map (λ d. d.target) (clauses a)) (map (λ d. d.target) (clauses b)))

  condition_of_adds : (r : Parser Condition) → Adds r condition_variables → Adds (condition_of r) condition_variables
  unfolding condition_of conjunction_of is_and is_or both_at either_at condition_variables clauses
  condition_of_adds r f before q =
      chain_declares is_or either_at condition_variables (λ c e. (ap (λ d. eqb d END) (eqb-true c OR e), ap (λ d. eqb d COLON) (eqb-true c OR e)))
      (λ t a b. condition_join a b) λ before q.
      chain_declares is_and both_at condition_variables (λ c e. (ap (λ d. eqb d END) (eqb-true c AND e), ap (λ d. eqb d COLON) (eqb-true c AND e)))
      (λ t a b. condition_join a b) f

  atom_adds : (left : ℕ) → Adds (atom_reader left) condition_variables
  unfolding atom_reader
  atom_adds zero before q = clause_adds zero before q
  atom_adds (suc left) before q =
      if_next_declares ROUND_OPEN
      (expect_declares refl refl λ o e₁.
      then_declares (condition_of_adds (atom_reader left) (atom_adds left) before _) λ c m.
      expect_declares refl refl λ t e₂.
      give_declares _ refl)
      (clause_adds (suc left) before q)

  call_adds : Adds call_reader call_variables
  unfolding call_reader call_variables
  call_adds before q =
      expect_declares refl refl λ t e₁.
      expect_declares refl refl λ n e₂.
      expect_declares refl refl λ o e₃.
      then_declares (expression_plain OPENERS before _) λ e m.
      expect_declares refl refl λ u e₄.
      expect_declares refl refl λ v e₅.
      then_declares (target_adds before _) λ p m.
      then_declares (filter_plain OPENERS _ _) λ f m.
      give_declares _ refl

  -- `end`, after which nothing is declared
  end_adds : {A : Type 0} {before : List Variable} {q : ℕ} {vars : A → List Variable} (a : A) → before ≡ vars a
      → Declares (λ i. []) before q (expect END λ t. give a) vars
  unfolding declared_after give
  end_adds {before = before} {q = q} {vars = vars} a d = token_declares END _ λ h e b m p.
      ap (λ ns. before ++ map variable_at ns) (names_end classes q (sym e) refl) ∙ ap (λ l. l ++ []) (d ∙ ap vars (same_tree p))

  rule_variables : Rule → List Variable
  rule_variables r = condition_variables r.condition ++ flat_map call_variables r.calls

  rule_adds : (start : Token) (q : ℕ) → Declares (λ i. []) [] q (rule_after start) rule_variables
  unfolding rule_after condition_reader rule_variables call_after flat_map
  rule_adds start q =
      then_declares (priority_plain [] q) λ k m.
      then_declares (condition_of_adds (atom_reader OPENERS) (atom_adds OPENERS) [] _) λ c m.
      expect_declares refl refl λ t e₁.
      then_declares (call_adds _ _) λ first m.
      then_declares (many_declares COMMA call_after call_variables refl refl λ t. call_adds) λ others m.
      end_adds _ (append_assoc (condition_variables c) (call_variables first) (flat_map call_variables others))

  -- an `end` comes after token number q, if the reader reads on from there
  record Ends {A : Type 0} (q : ℕ) (r : Parser A) : Type 0 where
    ends : (a : A) (n : ℕ) → r (drop (q + 1) w.tokens) ≡ read a n → (e : ℕ) × (q < e) × (get_or classes e 0 ≡ END)

  later : {q : ℕ} (m : ℕ) → (e : ℕ) × (q + m < e) × (get_or classes e 0 ≡ END) → (e : ℕ) × (q < e) × (get_or classes e 0 ≡ END)
  later m (e, h, c) = (e, omega arith, c)

  module _ {A : Type 0} {q : ℕ} where
    end_ends : (k : Token → Parser A) → Ends q (expect END k)
    end_ends k = record { ends = λ a n e. (q + 1, omega arith, (expect_read q END k e).class) }

    expect_ends : (c : ℕ) {k : Token → Parser A} → ((t : Token) → Ends (q + 1) (k t)) → Ends q (expect c k)
    expect_ends c {k} f = record { ends = λ a n e. go a n (expect_read q c k e) }
      where
        go : (a : A) (n : ℕ) → TokenRead q c k a n → (e : ℕ) × (q < e) × (get_or classes e 0 ≡ END)
        go a n t = later 1 ((f (nth_token w.tokens (q + 1))).ends a t.used t.reads)

    then_ends : {B : Type 0} (r : Parser B) {k : B → Parser A} → ((b : B) (m : ℕ) → Ends (q + m) (k b)) → Ends q (and_then r k)
    then_ends r {k} f = record { ends = λ a n e. go a n (then_read q r k e) }
      where
        go : (a : A) (n : ℕ) → TwoRead q r k a n → (e : ℕ) × (q < e) × (get_or classes e 0 ≡ END)
        go a n t = later t.used ((f t.first t.used).ends a t.used_then t.reads_then)

  rule_ends : (start : Token) (q : ℕ) → Ends q (rule_after start)
  unfolding rule_after
  rule_ends start q =
      then_ends priority_reader λ k m.
      then_ends (condition_reader OPENERS) λ c m.
      expect_ends TRIGGER λ t.
      then_ends call_reader λ first m.
      then_ends (many COMMA call_after) λ others m.
      end_ends _

  -- so each variable has its interface's name after it
  pub variables_inside : (start : Token) (q : ℕ) (r : Rule) (n : ℕ) → rule_after start (drop (q + 1) w.tokens) ≡ read r n
      → Between 0 (length classes - 2) (names_from classes q)
  variables_inside start q r n e = go ((rule_ends start q).ends r n e)
    where
      go : (e : ℕ) × (q < e) × (get_or classes e 0 ≡ END) → Between 0 (length classes - 2) (names_from classes q)
      go (e, h, c) =
          let i = class_inside classes e c (omega arith) in
          between_wider (omega arith) (omega arith) (names_before classes q e h c)

  pub variables_declared : (start : Token) (q : ℕ) (r : Rule) (n : ℕ) → rule_after start (drop (q + 1) w.tokens) ≡ read r n
      → variables r ≡ map variable_at (names_from classes q)
  unfolding declared_after rule_variables condition_variables call_variables target_variables variables targets
  variables_declared start q r n e =
      flatMap_append target_variables (map (λ (c : Clause). c.target) (clauses r.condition)) (map (λ (c : Call). c.target) r.calls)
      ∙ ap (λ l. condition_variables r.condition ++ l) (flatMap_map target_variables (λ (c : Call). c.target) r.calls)
      ∙ sym (append-nil (rule_variables r)) ∙ sym ((rule_adds start q).declares r n e)
