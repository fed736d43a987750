-- What every token has, and what readers then make of them: one law for each combinator.
use Prim.Native.Nat.{ℕ, zero, suc}
use native.Mathlib.Omega.{arith}
use mathlib.Core.Path.{◌≡◌, refl, ap}
use mathlib.Core.Bool.{Bool, true, false}
use mathlib.Core.List.Memᴰ
use mathlib.Core.List.{List, [], ◌∷◌}
use lib.Dec.{eqb}
use lib.ListN.{drop}
use Rattle.text.specs.definitions.Tokens.{Token}
use Rattle.text.specs.definitions.Readers.{
  Parse,
  read,
  unfit_after,
  Parser,
  shift,
  give,
  expected,
  expect,
  pick,
  next_is,
  if_next,
  continued,
  and_then,
  stepped,
  turned,
  loop,
  added,
  many,
}
use Rattle.text.proofs.laws.ListLaws.{All, all_none, all_cons, all_append, all_drop}

pub read_tree : {A : Type 0} {a b : A} {m n : ℕ} → read a m ≡ read b n → a ≡ b
read_tree h = cc

pub refused_read : {A : Type 0} {a : A} {m n : ℕ} → unfit_after m ≡ read a n → ⊥
refused_read h = let z : ◌≡◌ {A = ℕ} 0 1 = cc in omega arith

shift_read : {A : Type 0} (n : ℕ) (p : Parse A) {a : A} {m : ℕ} → shift n p ≡ read a m → (k : ℕ) × (p ≡ read a k)
unfolding shift
shift_read n (read b k) h = (k, ap (λ c. read c k) (read_tree h))
shift_read n (unfit_after k) h = absurd (refused_read h)

module _ (of : Token → Type 0) where
  -- what r reads from such tokens has the property
  pub record Makes {A : Type 0} (r : Parser A) (has : A → Type 0) : Type 0 where
    pub makes : (ts : List Token) → All of ts → (a : A) (n : ℕ) → r ts ≡ read a n → has a

  module _ {A : Type 0} {has : A → Type 0} where
    pub give_makes : (a : A) → has a → Makes (give a) has
    unfolding give
    give_makes a h = record { makes = λ ts p b n e. rw (read_tree e) at h }

    pub expect_makes : (c : ℕ) (k : Token → Parser A) → ((t : Token) → of t → Makes (k t) has) → Makes (expect c k) has
    unfolding expect
    expect_makes c k h = record { makes = go }
      where
        after : (b : Bool) (t : Token) (ts : List Token) → All of (t ∷ ts) → (a : A) (n : ℕ) → expected b (k t) ts ≡ read a n → has a
        after false t ts p a n e = absurd (refused_read e)
        after true t ts p a n e =
            let (m, q) = shift_read 1 (k t ts) e in
            (h t (p t (Memᴰ.head refl))).makes ts (λ u x. p u (Memᴰ.tail x)) a m q

        go : (ts : List Token) → All of ts → (a : A) (n : ℕ) → expect c k ts ≡ read a n → has a
        go [] p a n e = absurd (refused_read e)
        go (t ∷ ts) p a n e = after (eqb t.class c) t ts p a n e

    pub if_next_makes : (c : ℕ) {r s : Parser A} → Makes r has → Makes s has → Makes (if_next c r s) has
    unfolding if_next
    if_next_makes c {r} {s} h g = record { makes = λ ts. go (next_is c ts) ts }
      where
        go : (b : Bool) (ts : List Token) → All of ts → (a : A) (n : ℕ) → pick b r s ts ≡ read a n → has a
        go true ts = h.makes ts
        go false ts = g.makes ts

  -- of any reader
  pub any_makes : {A : Type 0} (r : Parser A) → Makes r (λ a. Unit {0})
  any_makes r = record { makes = λ ts p a n e. tt }

  module _ {A B : Type 0} {has : A → Type 0} {wants : B → Type 0} where
    pub and_then_makes : {r : Parser A} (k : A → Parser B) → Makes r has → ((a : A) → has a → Makes (k a) wants) → Makes (and_then r k) wants
    unfolding and_then
    and_then_makes {r} k h g = record { makes = λ ts p. go ts p (r ts) refl }
      where
        go : (ts : List Token) → All of ts → (q : Parse A) → r ts ≡ q → (b : B) (n : ℕ) → continued q ts k ≡ read b n → wants b
        go ts p (unfit_after m) e b n c = absurd (refused_read c)
        go ts p (read a m) e b n c =
            let (j, q) = shift_read m (k a (drop m ts)) c in
            (g a (h.makes ts p a m e)).makes (drop m ts) (all_drop of m ts p) b j q

  -- a step keeps the property
  module _ {A : Type 0} (test : ℕ → Bool) (step : A → Token → Parser A) (has : A → Type 0)
      (keeps : (a : A) → has a → (t : Token) → of t → Makes (step a t) has) where
    loop_from : (ts : List Token) → All of ts → (skip : ℕ) (a : A) → has a → (b : A) (n : ℕ) → loop test step a skip ts ≡ read b n → has b
    unfolding loop
    loop_from [] p skip a h b n e = rw (read_tree e) at h
    loop_from (t ∷ ts) p (suc skip) a h b n e =
        let (m, q) = shift_read 1 (loop test step a skip ts) e in
        loop_from ts (λ u x. p u (Memᴰ.tail x)) skip a h b m q
    loop_from (t ∷ ts) p zero a h b n e = go (test t.class) (step a t ts) refl (loop_from ts rest) e
      where
        rest : All of ts
        rest u x = p u (Memᴰ.tail x)

        after : (q : Parse A) → step a t ts ≡ q
            → ((skip : ℕ) (c : A) → has c → (b : A) (n : ℕ) → loop test step c skip ts ≡ read b n → has b)
            → stepped q (λ c m. loop test step c m ts) ≡ read b n → has b
        after (unfit_after m) q k e = absurd (refused_read e)
        after (read c m) q k e =
            let (j, r) = shift_read 1 (loop test step c m ts) e in
            k m c ((keeps a h t (p t (Memᴰ.head refl))).makes ts rest c m q) b j r

        go : (passes : Bool) (q : Parse A) → step a t ts ≡ q
            → ((skip : ℕ) (c : A) → has c → (b : A) (n : ℕ) → loop test step c skip ts ≡ read b n → has b)
            → turned passes a (step a t) (λ c m. loop test step c m ts) ts ≡ read b n → has b
        go false q s k e = rw (read_tree e) at h
        go true q s k e = after q s k (rw s at e)

    pub loop_makes : (a : A) → has a → Makes (loop test step a 0) has
    loop_makes a h = record { makes = λ ts p. loop_from ts p 0 a h }

  pub many_makes : {A : Type 0} (c : ℕ) (each : Token → Parser A) (has : A → Type 0) → ((t : Token) → of t → Makes (each t) has) → Makes (many c each) (All has)
  unfolding many
  many_makes c each has h =
      loop_makes (λ d. eqb d c) (added each) (All has)
      (λ before p t q. and_then_makes _ (h t q) (λ a x. give_makes _ (all_append has before p (all_cons has x (all_none has))))) [] (all_none has)
