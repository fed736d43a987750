-- The equations of tokens and loops without a count of what still belongs to the last item or step.
use Prim.Native.Nat.{ℕ, zero, suc, ◌+◌}
use mathlib.Core.Path.{◌≡◌, refl, ap, ◌∙◌}
use mathlib.Core.List.{List, [], ◌∷◌}
use mathlib.Core.Bool.{Bool, true, false}
use native.Mathlib.Nat.{add-zero}
use native.Mathlib.Omega.{arith}
use lib.ListN.{take, drop}
use Rattle.text.specs.definitions.Tokens.{Token, Lexeme, gap, found, bad, item, Lexing, add_token, taken, tokens_from, tokens_step}
use Rattle.text.specs.definitions.Readers.{Parser, loop, loop_step}
use Rattle.text.proofs.laws.ReaderLaws.{loop_ends, loop_stops, loop_turns}

-- ---- tokens

-- the bytes that still belong to the last item are passed over
pub tokens_skip : (skip at : ℕ) (bs : List ℕ) → tokens_from skip at bs ≡ tokens_from 0 (at + skip) (drop skip bs)
unfolding tokens_from
tokens_skip zero at bs = rw add-zero
tokens_skip (suc skip) at [] = refl
tokens_skip (suc skip) at (b ∷ bs) = tokens_skip skip (at + 1) bs ∙ ap (λ (n : ℕ). tokens_from 0 n (drop skip bs)) (next at skip)
  where
    next : (at skip : ℕ) → at + 1 + skip ≡ at + suc skip
    next at skip = omega arith

taken_same : (i : Lexeme) (at b : ℕ) (bs : List ℕ) (f g : ℕ → Lexing) → ((more : ℕ) → f more ≡ g more) → taken i at b bs f ≡ taken i at b bs g
unfolding taken
taken_same (gap more) at b bs f g e = e more
taken_same (found c v more) at b bs f g e = ap (add_token (record { class = c; at = at; bytes = b ∷ take more bs; value = v })) (e more)
taken_same bad at b bs f g e = refl

pub tokens_equation : (at : ℕ) (bs : List ℕ) → tokens_from 0 at bs ≡ tokens_step at bs
unfolding tokens_from tokens_step
tokens_equation at [] = refl
tokens_equation at (b ∷ bs) = taken_same (item b bs) at b bs _ _ (λ more. tokens_skip more (at + 1) bs)

-- ---- loops

module _ {A : Type 0} (test : ℕ → Bool) (step : A → Token → Parser A) where
  -- of every step, also of one that says it took more tokens than there are: `drop` leaves none then
  pub loop_equation : (a : A) (ts : List Token) → loop test step a 0 ts ≡ loop_step test step a ts
  unfolding loop_step
  loop_equation a [] = loop_ends test step a
  loop_equation a (t ∷ ts) = go (test t.class) refl
    where
      go : (b : Bool) → test t.class ≡ b → loop test step a 0 (t ∷ ts) ≡ loop_step test step a (t ∷ ts)
      go true e = loop_turns test step a t ts e ∙ rw (e, loop_step)
      go false e = loop_stops test step a t ts e ∙ rw (e, loop_step)
