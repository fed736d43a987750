-- A value and a kind by their variants: what a `_` arm of a `match` knows of them; `of_kind` of unset; `differ` for a set and an unset value.
use mathlib.Core.Path.{◌≡◌, refl}
use mathlib.Core.List.{List}
use mathlib.Core.Bool.{Bool, true, false, not, true≢false, false≢true}
use Prim.Native.Nat.{ℕ}
use lib.Dec.{T}
use lib.IntN.{ℤ}
use lib.Ieee.{Float}
use types.Run.{OneOf, miss}
use mir.Val.{has_key}
use denote.Enum.Declared.{tag_of}
use Rattle.values.specs.declared.Value.{Value}
use Rattle.values.specs.declared.Value.TheVariants.{Whole, Truth, Real, Unset}
use Rattle.values.specs.declared.Kind.{Kind}
use Rattle.values.specs.declared.Kind.TheVariants.{Wholes, Bools, Reals}
use Rattle.values.specs.definitions.Storable.{of_kind}
use Rattle.values.specs.definitions.Value.{is_set, equal, differ}
use Rattle.values.specs.contracts.Value.{the_type}
use Rattle.values.specs.contracts.Kind.{the_type as kind-type}

-- the variant's number is in the list, as a test
listed : (ks : List ℕ) (x : ℕ) → OneOf ks x → T (has_key ks x)
listed ks x k = go (has_key ks x) (miss ks x)
  where
    go : (t : Bool) → (T (not t) → OneOf ks x → ⊥) → T t
    go true f = tt
    go false f = absurd (f tt k)

-- a value whose variant's number is one of `ks`
pub by_variant : (P : Value → Type 0) (v : Value) (ks : List ℕ) → OneOf ks (tag_of the_type v)
    → ((x : ℤ) → T (has_key ks 0) → P (Whole x))
    → ((x : Bool) → T (has_key ks 1) → P (Truth x))
    → ((x : Float) → T (has_key ks 2) → P (Real x))
    → (T (has_key ks 3) → P Unset)
    → P v
by_variant P (Whole x) ks k w t r u = w x (listed ks 0 k)
by_variant P (Truth x) ks k w t r u = t x (listed ks 1 k)
by_variant P (Real x) ks k w t r u = r x (listed ks 2 k)
by_variant P Unset ks k w t r u = u (listed ks 3 k)

-- the same of a kind
pub by_kind : (P : Kind → Type 0) (k : Kind) (ks : List ℕ) → OneOf ks (tag_of kind-type k)
    → (T (has_key ks 0) → P Wholes)
    → (T (has_key ks 1) → P Bools)
    → (T (has_key ks 2) → P Reals)
    → P k
by_kind P Wholes ks o w b r = w (listed ks 0 o)
by_kind P Bools ks o w b r = b (listed ks 1 o)
by_kind P Reals ks o w b r = r (listed ks 2 o)

pub unset_of_kind : (k : Kind) → true ≡ of_kind k Unset
unfolding of_kind
unset_of_kind k = refl

pub differ_set : (a b : Value) → is_set a ≡ true → differ a b ≡ not (equal a b)
unfolding is_set
differ_set (Whole x) b h = refl
differ_set (Truth x) b h = refl
differ_set (Real x) b h = refl
differ_set Unset b h = absurd (false≢true h)

pub differ_unset : (a b : Value) → is_set a ≡ false → differ a b ≡ is_set b
unfolding is_set
differ_unset (Whole x) b h = absurd (true≢false h)
differ_unset (Truth x) b h = absurd (true≢false h)
differ_unset (Real x) b h = absurd (true≢false h)
differ_unset Unset b h = refl
