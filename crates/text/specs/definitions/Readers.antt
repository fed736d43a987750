-- Parsers of tokens (`..-reader`), and how they are put together. A parser looks at the tokens that it takes and at the next one.
use Prim.Native.Nat.{ℕ, zero, suc, ◌+◌}
use mathlib.Core.List.{List, [], ◌∷◌, ◌++◌}
use Rattle.std.specs.Prelude.{Bool, drop}
use Rattle.std.proofs.Math.Bool.{true, false}
use Rattle.std.proofs.Math.Dec.{eqb}
use Rattle.text.specs.definitions.Tokens.{Token}

-- what a reader makes of a list of tokens: a tree and how many tokens it took, or how many stand before the first that fits nothing
pub data Parse (A : Type 0) : Type 0 where
  read : A → ℕ → Parse A
  unfit_after : ℕ → Parse A

abbrev pub Parser : Type 0 → Type 0
Parser A = List Token → Parse A

module _ {A : Type 0} where
  -- after n tokens more
  unfoldable pub shift : ℕ → Parse A → Parse A
  shift n (read a k) = read a (n + k)
  shift n (unfit_after k) = unfit_after (n + k)

  -- a tree, and no token taken
  unfoldable pub give : A → Parser A
  give a ts = read a 0

  -- no token fits
  unfoldable pub halt : Parser A
  halt ts = unfit_after 0

  unfoldable pub expected : Bool → Parser A → Parser A
  unfolding shift
  expected true r ts = shift 1 (r ts)
  expected false r ts = unfit_after 0

  -- a token of class c, and then what k reads
  unfoldable pub expect : ℕ → (Token → Parser A) → Parser A
  unfolding expected
  expect c k [] = unfit_after 0
  expect c k (t ∷ ts) = expected (eqb t.class c) (k t) ts

  unfoldable pub pick : Bool → Parser A → Parser A → Parser A
  pick true r s ts = r ts
  pick false r s ts = s ts

unfoldable pub next_is : ℕ → List Token → Bool
next_is c [] = false
next_is c (t ∷ ts) = eqb t.class c

module _ {A : Type 0} where
  -- the choice that the next token's class makes
  unfoldable pub if_next : ℕ → Parser A → Parser A → Parser A
  unfolding pick next_is
  if_next c r s ts = pick (next_is c ts) r s ts

module _ {A B : Type 0} where
  unfoldable pub continued : Parse A → List Token → (A → Parser B) → Parse B
  unfolding shift
  continued (read a n) ts k = shift n (k a (drop n ts))
  continued (unfit_after n) ts k = unfit_after n

  -- what r reads, and then what k reads
  unfoldable pub and_then : Parser A → (A → Parser B) → Parser B
  unfolding continued
  and_then r k ts = continued (r ts) ts k

module _ {A : Type 0} where
  unfoldable pub stepped : Parse A → (A → ℕ → Parse A) → Parse A
  unfolding shift
  stepped (read b n) go = shift 1 (go b n)
  stepped (unfit_after n) go = unfit_after (suc n)

  unfoldable pub turned : Bool → A → Parser A → (A → ℕ → Parse A) → Parser A
  unfolding stepped
  turned false a step go ts = read a 0
  turned true a step go ts = stepped (step ts) go

  -- as long as the next token's class passes the test, one step more; the first `skip` tokens still belong to the last step, a count by which
  -- the recursion is seen to end (`loop_equation` in proofs/theorems/SkipLaws is the equation without it)
  unfoldable pub loop : (ℕ → Bool) → (A → Token → Parser A) → A → ℕ → Parser A
  unfolding turned shift
  loop test step a skip [] = read a skip
  loop test step a (suc skip) (t ∷ ts) = shift 1 (loop test step a skip ts)
  loop test step a zero (t ∷ ts) = turned (test t.class) a (step a t) (λ b n. loop test step b n ts) ts

  -- without the count: if the next token's class passes the test, a step, and then the loop again
  unfoldable pub loop_step : (ℕ → Bool) → (A → Token → Parser A) → A → Parser A
  unfolding shift and_then loop
  loop_step test step a [] = read a 0
  loop_step test step a (t ∷ ts) = elim (test t.class) [ true ↦ shift 1 (and_then (step a t) (λ b. loop test step b 0) ts) | false ↦ read a 0 ]

  unfoldable pub joined : Parser A → (Token → A → A → A) → A → Token → Parser A
  unfolding and_then give
  joined item join a t = and_then item λ b. give (join t a b)

  -- items with operators between them, "grouping to the left"
  unfoldable pub chain : (ℕ → Bool) → (Token → A → A → A) → Parser A → Parser A
  unfolding and_then loop joined
  chain test join item = and_then item λ a. loop test (joined item join) a 0

module _ {A : Type 0} where
  unfoldable pub added : (Token → Parser A) → List A → Token → Parser (List A)
  unfolding and_then give
  added item before t = and_then (item t) λ a. give (before ++ a ∷ [])

  -- as many items as begin with a token of class c, of which `item` reads what comes after that token
  unfoldable pub many : ℕ → (Token → Parser A) → Parser (List A)
  unfolding loop added
  many c item = loop (λ d. eqb d c) (added item) [] 0
