-- Values of one kind fit wherever they meet, and the numbers that a text can have are set.
use mathlib.Core.Path.{◌≡◌, refl}
use mathlib.Core.Bool.{true}
use mathlib.Core.Option.{Option, none, some}
use Prim.Native.Nat.{ℕ, ◌^◌, ◌<◌}
use native.Mathlib.Omega.{arith}
use lib.Dec.{T}
use lib.IntN.{ℤ, pos}
use lib.Signed.{mag}
use lib.Ieee as Ieee
use lib.Ieee.{Float, fin, binary64, of_int}
use lib.Ieee.Back.{positive_back}
use lib.Ieee.Bits.{is_true}
use borrow.Author.Tests.{le-leb, lt-ltb}
use Rattle.values.specs.declared.Value.{Value}
use Rattle.values.specs.declared.Value.TheVariants.{Whole, Truth, Real, Unset}
use Rattle.values.specs.declared.Kind.{Kind}
use Rattle.values.specs.declared.Kind.TheVariants.{Wholes, Bools, Reals}
use Rattle.values.specs.definitions.Value.{is_set, is_finite, fitted, settled}
use Rattle.values.specs.definitions.Storable.{storable}
use Rattle.values.specs.definitions.Fitting.{same_kind, number_kind, operated_kind, has_kind, operand_fits, operands_fit, kinds_fit, value_kind}

-- ---- one kind

pub same_kind_self : (k : Kind) → same_kind k k ≡ true
unfolding same_kind
same_kind_self Wholes = refl
same_kind_self Bools = refl
same_kind_self Reals = refl

pub same_kind_eq : (j k : Kind) → T (same_kind j k) → j ≡ k
unfolding same_kind
same_kind_eq Wholes Wholes h = refl
same_kind_eq Bools Bools h = refl
same_kind_eq Reals Reals h = refl
same_kind_eq Wholes Bools h = elim h [ ]
same_kind_eq Wholes Reals h = elim h [ ]
same_kind_eq Bools Wholes h = elim h [ ]
same_kind_eq Bools Reals h = elim h [ ]
same_kind_eq Reals Wholes h = elim h [ ]
same_kind_eq Reals Bools h = elim h [ ]

-- ---- values of one kind fit

-- the kind of a value in a cell of kind k: k, or none
data Held (k : Kind) : Option Kind → Type 0 where
  of_cell : Held k (some k)
  unset : Held k none

held : (k : Kind) (v : Value) → T (storable k v) → Held k (value_kind v)
unfolding storable value_kind
held Wholes (Whole x) h = of_cell
held Bools (Truth x) h = of_cell
held Reals (Real x) h = of_cell
held k Unset h = unset
held Bools (Whole x) h = elim h [ ]
held Reals (Whole x) h = elim h [ ]
held Wholes (Truth x) h = elim h [ ]
held Reals (Truth x) h = elim h [ ]
held Wholes (Real x) h = elim h [ ]
held Bools (Real x) h = elim h [ ]

operated_alike : (k : Kind) → T (has_kind (number_kind k)) → has_kind (operated_kind k k) ≡ true
unfolding operated_kind
operated_alike k n = rw (same_kind_self k) (is_true (has_kind (number_kind k)) n)

pub storable_kinds_fit : (k : Kind) (a b : Value) → T (storable k a) → T (storable k b) → kinds_fit (value_kind a) (value_kind b) ≡ true
unfolding kinds_fit
storable_kinds_fit k a b h g = go (held k a h) (held k b g)
  where
    go : {o p : Option Kind} → Held k o → Held k p → kinds_fit o p ≡ true
    go of_cell of_cell = same_kind_self k
    go of_cell unset = refl
    go unset q = refl

pub storable_operand_fits : (result : Kind → Option Kind) (k : Kind) (a : Value) → T (has_kind (result k)) → T (storable k a)
    → operand_fits result (value_kind a) ≡ true
unfolding operand_fits
storable_operand_fits result k a n h = go (held k a h)
  where
    go : {o : Option Kind} → Held k o → operand_fits result o ≡ true
    go of_cell = is_true (has_kind (result k)) n
    go unset = refl

pub storable_operands_fit : (k : Kind) (a b : Value) → T (has_kind (number_kind k)) → T (storable k a) → T (storable k b)
    → operands_fit (value_kind a) (value_kind b) ≡ true
unfolding operands_fit
storable_operands_fit k a b n h g = go (held k a h) (held k b g)
  where
    go : {o p : Option Kind} → Held k o → Held k p → operands_fit o p ≡ true
    go of_cell of_cell = operated_alike k n
    go of_cell unset = operated_alike k n
    go unset of_cell = operated_alike k n
    go unset unset = refl

-- ---- numbers of a text are set

pub fitted_set : (z : ℤ) → mag z < 2 ^ 31 → T (is_set (fitted z))
unfolding fitted
fitted_set z h = rw (lt-ltb (mag z) (2 ^ 31) h) tt

-- binary64 holds such a whole
pub small_finite : (n : ℕ) → n < 2 ^ 31 → T (is_finite (of_int binary64 (pos n)))
unfolding Ieee.in_signed Ieee.in_float
small_finite n h = go (of_int binary64 (pos n)) (positive_back binary64 31 n (rw (le-leb n (2 ^ 53) (omega arith)) tt) h).0
  where
    go : (x : Float) → T (Ieee.in_signed binary64 31 x) → T (is_finite x)
    go (fin s m e) t = tt
    go Ieee.nan t = elim t [ ]
    go (Ieee.inf _) t = elim t [ ]

pub settled_set : (x : Float) → T (is_finite x) → T (is_set (settled x))
unfolding settled
settled_set (fin s m e) h = tt
settled_set Ieee.nan h = elim h [ ]
settled_set (Ieee.inf _) h = elim h [ ]

pub neg_finite : (x : Float) → T (is_finite x) → T (is_finite (Ieee.neg x))
unfolding Ieee.neg
neg_finite (fin s m e) h = tt
neg_finite Ieee.nan h = elim h [ ]
neg_finite (Ieee.inf _) h = elim h [ ]
