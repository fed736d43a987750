-- No `on` stands in an expression, so that the first one after an `action` is that of the same call.
use Prim.Native.Nat.{ℕ, zero, suc, ◌+◌, ◌-◌, ◌<◌, ◌≤◌}
use mathlib.Core.Path.{◌≡◌, refl, sym, ap, ◌∙◌}
use mathlib.Core.List.{List, [], ◌∷◌, ◌++◌}
use mathlib.Core.List.Memᴰ
use native.Mathlib.Omega.{arith}
use lib.ListN.{length, get_or, drop, length-append, length-drop, length-map, get_or-append, get_or-map}
use lib.Seq.{get_or-drop}
use Rattle.text.specs.definitions.Tokens.{
  Token,
  NAME,
  WHOLE_NUMBER,
  REAL_NUMBER,
  ON,
  TRUE,
  FALSE,
  REAL,
  ROUND_OPEN,
  ROUND_CLOSE,
  DOT,
  PLUS,
  MINUS,
  TIMES,
  DIVIDE,
}
use Rattle.text.specs.definitions.Syntax.{Expression}
use Rattle.text.specs.definitions.Readers.{read}
use Rattle.text.specs.definitions.Language.{
  Language,
  Only,
  only,
  ◌⨾◌,
  sequel,
  ◌or◌,
  first,
  second,
  Many,
  nothing,
  further,
  number_language,
  term_over,
  expression_over,
  simple_language,
  factor_language,
  expression_language,
}
use Rattle.text.specs.definitions.Grammar.{expression_reader}
use Rattle.text.specs.inner_contracts.Walks.{no_token, nth_token, Rows}
use Rattle.text.proofs.laws.ListLaws.{All, all_none, all_cons, all_append}
use Rattle.text.proofs.laws.LanguageLaws.{classes as classes-of}
use Rattle.text.proofs.laws.ReaderLaws.{count}
use Rattle.text.proofs.laws.TraceLaws.{Fits}
use Rattle.text.proofs.laws.GrammarLaws.{expression_parses}
use Rattle.text.proofs.laws.WalkLaws.{row_class}

-- class k stands in no word
record Avoids (k : ℕ) (L : Language) : Type 0 where
  avoids : {cs : List ℕ} → L cs → All (λ c. c ≡ k → ⊥) cs

module _ {k : ℕ} where
  only_avoids : {c : ℕ} → (c ≡ k → ⊥) → Avoids k (Only c)
  only_avoids {c} n = record { avoids = go }
    where
      go : {cs : List ℕ} → Only c cs → All (λ c. c ≡ k → ⊥) cs
      go only = all_cons (λ c. c ≡ k → ⊥) n (all_none (λ c. c ≡ k → ⊥))

  module _ {L M : Language} (p : Avoids k L) (q : Avoids k M) where
    then_avoids : Avoids k (L ⨾ M)
    then_avoids = record { avoids = go }
      where
        go : {cs : List ℕ} → (L ⨾ M) cs → All (λ c. c ≡ k → ⊥) cs
        go (sequel {xs = xs} x y) = all_append (λ c. c ≡ k → ⊥) xs (p.avoids x) (q.avoids y)

    or_avoids : Avoids k (L or M)
    or_avoids = record { avoids = go }
      where
        go : {cs : List ℕ} → (L or M) cs → All (λ c. c ≡ k → ⊥) cs
        go (first x) = p.avoids x
        go (second x) = q.avoids x

  many_words : {L : Language} → Avoids k L → {cs : List ℕ} → Many L cs → All (λ c. c ≡ k → ⊥) cs
  many_words p nothing = all_none (λ c. c ≡ k → ⊥)
  many_words p (further {xs = xs} x m) = all_append (λ c. c ≡ k → ⊥) xs (p.avoids x) (many_words p m)

  many_avoids : {L : Language} → Avoids k L → Avoids k (Many L)
  many_avoids p = record { avoids = many_words p }

-- a token of another class
other : (c : ℕ) → (c ≡ ON → ⊥) → Avoids ON (Only c)
other c n = only_avoids n

simple_avoids : Avoids ON simple_language
unfolding simple_language number_language
simple_avoids =
    or_avoids (other TRUE (omega arith)) (or_avoids (other FALSE (omega arith))
    (or_avoids (or_avoids (other WHOLE_NUMBER (omega arith)) (other REAL_NUMBER (omega arith)))
    (then_avoids (other NAME (omega arith)) (then_avoids (other DOT (omega arith)) (other NAME (omega arith))))))

expression_over_avoids : {F : Language} → Avoids ON F → Avoids ON (expression_over F)
unfolding expression_over term_over
expression_over_avoids f =
    let term = then_avoids f (many_avoids (then_avoids (or_avoids (other TIMES (omega arith)) (other DIVIDE (omega arith))) f)) in
    then_avoids term (many_avoids (then_avoids (or_avoids (other PLUS (omega arith)) (other MINUS (omega arith))) term))

factor_avoids : (left : ℕ) → Avoids ON (factor_language left)
unfolding factor_language
factor_avoids zero = simple_avoids
factor_avoids (suc left) =
    let round = then_avoids (other ROUND_OPEN (omega arith)) (then_avoids (expression_over_avoids (factor_avoids left)) (other ROUND_CLOSE (omega arith))) in
    or_avoids simple_avoids (or_avoids (then_avoids (other REAL (omega arith)) round)
    (or_avoids round (then_avoids (other MINUS (omega arith)) (factor_avoids left))))

expression_avoids : (left : ℕ) → Avoids ON (expression_language left)
unfolding expression_language
expression_avoids left = expression_over_avoids (factor_avoids left)

-- ---- by the numbers of tokens

all_at : {k : ℕ} (cs : List ℕ) → All (λ c. c ≡ k → ⊥) cs → (i : ℕ) → i < length cs → get_or cs i 0 ≡ k → ⊥
all_at [] p i h = absurd (omega arith)
all_at (c ∷ cs) p zero h = p c (Memᴰ.head refl)
all_at (c ∷ cs) p (suc i) h = all_at cs (λ d m. p d (Memᴰ.tail m)) i (omega arith)

module _ {classes : List ℕ} (w : Rows classes) (left at : ℕ) where
  front_class : (front rest : List Token) → front ++ rest ≡ drop at w.tokens → (j k : ℕ) → k < length front → at + k ≡ j → j < length classes
      → get_or (classes-of front) k 0 ≡ get_or classes j 0
  front_class front rest joins j k below sum inside =
      get_or-map (λ u. u.class) front k no_token
      ∙ ap (λ u. u.class) (sym (get_or-append front rest no_token k below) ∙ ap (λ l. get_or l k no_token) joins
      ∙ get_or-drop at w.tokens k no_token ∙ ap (nth_token w.tokens) sum)
      ∙ row_class w j inside

  front_no_on : (front rest : List Token) → front ++ rest ≡ drop at w.tokens → expression_language left (classes-of front)
      → (j : ℕ) → at ≤ j → j < at + length front → get_or classes j 0 ≡ ON → ⊥
  front_no_on front rest joins word j p q z =
      let all = ap length joins in
      let parts = length-append front rest in
      let dropped = length-drop at w.tokens in
      let rows = w.count in
      let size = length-map front (λ u. u.class) in
      all_at (classes-of front) ((expression_avoids left).avoids word) (j - at) (omega arith)
      (front_class front rest joins j (j - at) (omega arith) (omega arith) (omega arith) ∙ z)

  -- no token that an expression took is `on`
  pub expression_no_on : {a : Expression} {n : ℕ} → expression_reader left (drop at w.tokens) ≡ read a n
      → (j : ℕ) → at ≤ j → j < at + n → get_or classes j 0 ≡ ON → ⊥
  unfolding Fits count
  expression_no_on {n = n} e j p q z =
      let t = (expression_parses left).trace (drop at w.tokens) in
      let word : expression_language left (classes-of t.front) = rw e at t.fits in
      let size : n ≡ length t.front = rw e at t.counts in
      front_no_on t.front t.rest t.joins word j p (omega arith) z
