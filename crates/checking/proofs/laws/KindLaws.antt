-- Kinds: the classes of their words, and what fits.
use Prim.Native.Nat.{ℕ}
use native.Mathlib.Omega.{arith}
use mathlib.Core.Path.{◌≡◌, refl}
use mathlib.Core.Option.{Option, none, some, bind}
use Rattle.values.specs.declared.Kind.{Kind}
use Rattle.values.specs.declared.Kind.TheVariants.{Wholes, Bools, Reals}
use Rattle.values.specs.definitions.Fitting.{same_kind, number_kind, operated_kind, real_kind, has_kind, operand_fits, kinds_fit}
use Rattle.text.specs.definitions.Tokens.{WHOLE, BOOL}
use Rattle.checking.specs.inner_contracts.Directory.{kind_class}
use Rattle.checking.specs.inner_contracts.Kinds.{real_of, number_of, operated_of}

-- ---- the class of a kind's word

module _ {class : ℕ} (k : Kind) where
  pub whole_word : class ≡ WHOLE → class ≡ kind_class k → Wholes ≡ k
  unfolding kind_class
  whole_word e f = go k f
    where
      go : (j : Kind) → class ≡ kind_class j → Wholes ≡ j
      go Wholes g = refl
      go Bools g = absurd (omega arith)
      go Reals g = absurd (omega arith)

  pub bool_word : class ≡ BOOL → class ≡ kind_class k → Bools ≡ k
  unfolding kind_class
  bool_word e f = go k f
    where
      go : (j : Kind) → class ≡ kind_class j → Bools ≡ j
      go Wholes g = absurd (omega arith)
      go Bools g = refl
      go Reals g = absurd (omega arith)

  pub real_word : (class ≡ WHOLE → ⊥) → (class ≡ BOOL → ⊥) → class ≡ kind_class k → Reals ≡ k
  unfolding kind_class
  real_word h g f = go k f
    where
      go : (j : Kind) → class ≡ kind_class j → Reals ≡ j
      go Wholes e = absurd (h e)
      go Bools e = absurd (g e)
      go Reals e = refl

-- ---- what fits

-- `real` takes a whole
pub real_fits : (a : Option Kind) → kinds_fit a (some Wholes) ≡ operand_fits real_kind a
unfolding kinds_fit operand_fits real_kind same_kind has_kind
real_fits none = refl
real_fits (some Wholes) = refl
real_fits (some Bools) = refl
real_fits (some Reals) = refl

-- ---- what operators give

pub real_bound : (a : Option Kind) → real_of a ≡ bind a real_kind
unfolding bind
real_bound none = refl
real_bound (some k) = refl

pub number_bound : (a : Option Kind) → number_of a ≡ bind a number_kind
unfolding bind
number_bound none = refl
number_bound (some k) = refl

pub operated_bound : (a b : Option Kind) → operated_of a b ≡ (bind a λ j. bind b λ k. operated_kind j k)
unfolding bind
operated_bound none b = refl
operated_bound (some j) none = refl
operated_bound (some j) (some k) = refl
