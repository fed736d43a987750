-- Laws of the readers' combinators: what each does at a token, and how a loop begins, goes on and stops.
use Prim.Native.Nat.{ℕ, zero, suc, ◌+◌, ◌≤◌}
use mathlib.Core.Path.{◌≡◌, refl, sym, ◌∙◌, ap}
use mathlib.Core.List.{List, [], ◌∷◌}
use mathlib.Core.Bool.{Bool, true, false}
use native.Mathlib.Nat.{zero-add, add-zero}
use native.Mathlib.Omega.{arith}
use lib.Dec.{eqb}
use lib.ListN.{length, drop}
use borrow.Author.Tests.{eq-eqb, eqb-true}
use Rattle.text.specs.definitions.Tokens.{Token}
use Rattle.text.specs.definitions.Readers.{
  Parse,
  read,
  unfit_after,
  Parser,
  shift,
  give,
  halt,
  expected,
  expect,
  pick,
  next_is,
  if_next,
  continued,
  and_then,
  stepped,
  turned,
  loop,
}

module _ {A : Type 0} where
  -- how many tokens are taken, or stand before the one that fits nothing
  unfoldable pub count : Parse A → ℕ
  count (read a n) = n
  count (unfit_after n) = n

  -- no more tokens than there are
  pub record Bounded (r : Parser A) : Type 0 where
    pub bound : (ts : List Token) → count (r ts) ≤ length ts

  pub count_shift : (n : ℕ) (p : Parse A) → count (shift n p) ≡ n + count p
  unfolding count shift
  count_shift n (read a k) = refl
  count_shift n (unfit_after k) = refl

  pub shift_zero : (p : Parse A) → shift 0 p ≡ p
  unfolding shift
  shift_zero (read a n) = rw zero-add
  shift_zero (unfit_after n) = rw zero-add

  pub shift_shift : (m n : ℕ) (p : Parse A) → shift m (shift n p) ≡ shift (m + n) p
  unfolding shift
  shift_shift m n (read a k) = let e : m + (n + k) ≡ m + n + k = omega arith in rw e
  shift_shift m n (unfit_after k) = let e : m + (n + k) ≡ m + n + k = omega arith in rw e

  pub expect_takes : (c : ℕ) (k : Token → Parser A) (t : Token) (ts : List Token) → t.class ≡ c → expect c k (t ∷ ts) ≡ shift 1 (k t ts)
  unfolding expect expected
  expect_takes c k t ts e = rw (eq-eqb t.class c e)

  pub expect_refuses : (c : ℕ) (k : Token → Parser A) (t : Token) (ts : List Token) → eqb t.class c ≡ false → expect c k (t ∷ ts) ≡ unfit_after 0
  unfolding expect expected
  expect_refuses c k t ts e = rw e

  pub if_next_first : (c : ℕ) (r s : Parser A) (ts : List Token) → next_is c ts ≡ true → if_next c r s ts ≡ r ts
  unfolding if_next pick
  if_next_first c r s ts e = rw e

  pub if_next_second : (c : ℕ) (r s : Parser A) (ts : List Token) → next_is c ts ≡ false → if_next c r s ts ≡ s ts
  unfolding if_next pick
  if_next_second c r s ts e = rw e

  -- a token that is expected anyway is no choice
  pub if_next_or_halt : (c : ℕ) (k : Token → Parser A) (ts : List Token) → if_next c (expect c k) halt ts ≡ expect c k ts
  unfolding next_is halt expect
  if_next_or_halt c k [] = if_next_second c (expect c k) halt [] refl
  if_next_or_halt c k (t ∷ ts) = go (eqb t.class c) refl
    where
      go : (b : Bool) → eqb t.class c ≡ b → if_next c (expect c k) halt (t ∷ ts) ≡ expect c k (t ∷ ts)
      go true e = if_next_first c (expect c k) halt (t ∷ ts) e
      go false e = if_next_second c (expect c k) halt (t ∷ ts) e ∙ sym (expect_refuses c k t ts e)

  -- the first choice is only taken where its token comes
  pub if_next_same : (c : ℕ) (r s q : Parser A) → ((t : Token) (ts : List Token) → t.class ≡ c → r (t ∷ ts) ≡ s (t ∷ ts))
      → (ts : List Token) → if_next c r q ts ≡ if_next c s q ts
  unfolding if_next next_is pick
  if_next_same c r s q e [] = refl
  if_next_same c r s q e (t ∷ ts) = go (eqb t.class c) refl
    where
      go : (b : Bool) → eqb t.class c ≡ b → pick b r q (t ∷ ts) ≡ pick b s q (t ∷ ts)
      go true h = e t ts (eqb-true t.class c h)
      go false h = refl

module _ {A B : Type 0} (r : Parser A) where
  pub and_then_reads : (k : A → Parser B) (a : A) (n : ℕ) (ts : List Token) → r ts ≡ read a n → and_then r k ts ≡ shift n (k a (drop n ts))
  unfolding and_then continued
  and_then_reads k a n ts e = ap (λ p. continued p ts k) e

  pub and_then_refuses : (k : A → Parser B) (n : ℕ) (ts : List Token) → r ts ≡ unfit_after n → and_then r k ts ≡ unfit_after n
  unfolding and_then continued
  and_then_refuses k n ts e = ap (λ p. continued p ts k) e

  -- where only the tree is made from what was read, as in a step of a chain or of `many`
  pub and_give_reads : (f : A → B) (a : A) (n : ℕ) (ts : List Token) → r ts ≡ read a n → and_then r (λ x. give (f x)) ts ≡ read (f a) n
  unfolding give shift
  and_give_reads f a n ts e = and_then_reads (λ x. give (f x)) a n ts e ∙ ap (read (f a)) (add-zero n)

module _ {A : Type 0} (test : ℕ → Bool) (step : A → Token → Parser A) where
  -- the tokens that still belong to the last step are passed over
  pub loop_skips : (a : A) (k : ℕ) (ts : List Token) → loop test step a k ts ≡ shift k (loop test step a 0 (drop k ts))
  unfolding loop shift
  loop_skips a zero ts = sym (shift_zero (loop test step a 0 ts))
  loop_skips a (suc k) [] = rw add-zero
  loop_skips a (suc k) (t ∷ ts) =
      let e : 1 + k ≡ suc k = omega arith in
      ap (shift 1) (loop_skips a k ts) ∙ shift_shift 1 k (loop test step a 0 (drop k ts)) ∙ ap (λ n. shift n (loop test step a 0 (drop k ts))) e

  -- no token is left
  pub loop_ends : (a : A) → loop test step a 0 [] ≡ read a 0
  unfolding loop
  loop_ends a = refl

  -- the next token fails the test
  pub loop_stops : (a : A) (t : Token) (ts : List Token) → test t.class ≡ false → loop test step a 0 (t ∷ ts) ≡ read a 0
  unfolding loop turned
  loop_stops a t ts e = rw e

  step_then_loop : (p : Parse A) (ts : List Token) → stepped p (λ b n. loop test step b n ts) ≡ shift 1 (continued p ts (λ b. loop test step b 0))
  unfolding stepped continued shift
  step_then_loop (read b n) ts = ap (shift 1) (loop_skips b n ts)
  step_then_loop (unfit_after n) ts = let e : suc n ≡ 1 + n = omega arith in rw e

  -- the next token passes: a step, and then the loop again
  pub loop_turns : (a : A) (t : Token) (ts : List Token) → test t.class ≡ true
      → loop test step a 0 (t ∷ ts) ≡ shift 1 (and_then (step a t) (λ b. loop test step b 0) ts)
  unfolding loop turned and_then
  loop_turns a t ts e = rw e (step_then_loop (step a t ts) ts)

  -- the same by what the step does
  pub loop_goes_on : (a b : A) (n : ℕ) (t : Token) (ts : List Token) → test t.class ≡ true → step a t ts ≡ read b n
      → loop test step a 0 (t ∷ ts) ≡ shift 1 (shift n (loop test step b 0 (drop n ts)))
  loop_goes_on a b n t ts e s = loop_turns a t ts e ∙ ap (shift 1) (and_then_reads (step a t) (λ x. loop test step x 0) b n ts s)

  pub loop_refuses : (a : A) (n : ℕ) (t : Token) (ts : List Token) → test t.class ≡ true → step a t ts ≡ unfit_after n
      → loop test step a 0 (t ∷ ts) ≡ unfit_after (suc n)
  unfolding loop turned stepped
  loop_refuses a n t ts e s = rw (e, s)
