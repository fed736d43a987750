-- Reals: a NaN is what differs from itself, and bits are a finite real's exactly where they pass `finite_bits`.
use mathlib.Core.Path.{◌≡◌, refl, sym, ap, ◌∙◌, subst}
use mathlib.Core.Bool.{Bool, true, false, not, cond, true≢false}
use Prim.Native.Nat.{ℕ, zero, suc, ◌+◌, ◌/◌, ◌%◌, ◌≤◌, ◌<◌}
use native.Mathlib.Nat.{le_of_lt, mod-lt}
use native.Mathlib.Omega.{arith}
use lib.Dec.{T, leb, eqb, lit<}
use lib.Ieee as Ieee
use lib.Ieee.{Float, nan, inf, fin, binary64, of_bits, to_bits, is_nan, nan_bits, fits, ne}
use lib.Ieee.Compare.{differs_from_itself}
use lib.Ieee.Bits.{of_bits-to_bits, nan_bits_above, is_false}
use borrow.Author.Tests.{ltb-true, ltb-false, le-ltb, eq-eqb, ne_eqb}
use Rattle.values.specs.declared.Value.TheVariants.{Real, Unset}
use Rattle.values.specs.definitions.Value.{is_finite, settled}
use Rattle.values.specs.definitions.Cells.{finite_bits}

pub no_nan : (x : Float) → ne x x ≡ false → T (not (is_nan x))
unfolding ne is_nan
no_nan nan h = absurd (true≢false h)
no_nan (inf s) h = tt
no_nan (fin s m e) h = tt

pub nan_only : (x : Float) → ne x x ≡ true → x ≡ nan
nan_only x h = differs_from_itself x (subst T (sym h) tt)

pub nan_told : (x : Float) → ne x x ≡ true → is_nan x ≡ true
unfolding is_nan
nan_told x h = rw (nan_only x h)

pub no_nan_told : (x : Float) → ne x x ≡ false → is_nan x ≡ false
no_nan_told x h = is_false (is_nan x) (no_nan x h)

-- what code that tells a NaN by comparing it with itself needs
pub ruleset nans = (no_nan, nan_told, no_nan_told)

-- ---- the float of a sign, an exponent's field and digits: not finite exactly at the highest field

odd_finite : (d : ℕ) (s : Bool) (q k l : ℕ) → is_finite (Ieee.odd d s q k l) ≡ true
unfolding Ieee.odd
odd_finite d s zero k l = refl
odd_finite d s (suc q) k l = refl

highest : (b s : Bool) → is_finite (cond b (inf s) nan) ≡ false
highest true s = refl
highest false s = refl

fields_finite : (s : Bool) (x t : ℕ) → is_finite (Ieee.of_fields binary64 s x t) ≡ not (eqb x 2047)
unfolding Ieee.of_fields
fields_finite s zero t = odd_finite 53 s t 0 1074
fields_finite s (suc x) t = go (eqb (suc x) 2047) refl
  where
    go : (b : Bool) → eqb (suc x) 2047 ≡ b → is_finite (Ieee.of_fields binary64 s (suc x) t) ≡ not (eqb (suc x) 2047)
    go true e = rw e (highest (eqb t 0) s)
    go false e = rw e (odd_finite 53 s (4503599627370496 + t) x 1074)

-- bits but for the sign's, and their exponent's field
abbrev rest : ℕ → ℕ
rest w = w % 9223372036854775808

abbrev field : ℕ → ℕ
field w = rest w / 4503599627370496

-- the field is the highest exactly where the rest reaches an infinity's
field_highest : (w : ℕ) → not (eqb (field w) 2047) ≡ finite_bits w
field_highest w = go (finite_bits w) refl
  where
    below : (r : ℕ) → r < 9218868437227405312 → r / 4503599627370496 ≡ 2047 → ⊥
    below r h e = omega arith

    reached : (r : ℕ) → r < 9223372036854775808 → 9218868437227405312 ≤ r → r / 4503599627370496 ≡ 2047
    reached r h l = omega arith

    go : (b : Bool) → finite_bits w ≡ b → not (eqb (field w) 2047) ≡ finite_bits w
    go true e = rw (e, ne_eqb (field w) 2047 (below (rest w) (ltb-true (rest w) 9218868437227405312 e)))
    go false e = rw (e, eq-eqb (field w) 2047 (reached (rest w) (mod-lt w (lit< tt)) (ltb-false (rest w) 9218868437227405312 e)))

pub finite_of_bits : (w : ℕ) → is_finite (of_bits binary64 w) ≡ finite_bits w
unfolding of_bits
finite_of_bits w = fields_finite (leb 9223372036854775808 w) (field w) (w % 4503599627370496) ∙ field_highest w

pub finite_by_bits : (x : Float) → T (fits binary64 x) → finite_bits (to_bits binary64 x) ≡ is_finite x
finite_by_bits x f = sym (finite_of_bits (to_bits binary64 x)) ∙ ap is_finite (of_bits-to_bits binary64 x f)

-- bits that pass are no NaN's
pub finite_no_nan : (w : ℕ) → finite_bits w ≡ true → T (not (nan_bits binary64 w))
finite_no_nan w h = rw (nan_bits_above binary64 w, le-ltb 9218868437227405312 (rest w) (le_of_lt (ltb-true (rest w) 9218868437227405312 h))) tt

pub settled_by_bits : (x : Float) (b : Bool) → T (fits binary64 x) → finite_bits (to_bits binary64 x) ≡ b → settled x ≡ cond b (Real x) Unset
unfolding settled
settled_by_bits x b f e = rw (sym (finite_by_bits x f) ∙ e)

pub settled_nan : (x : Float) → is_nan x ≡ true → settled x ≡ Unset
unfolding settled is_nan
settled_nan nan h = refl
settled_nan (inf s) h = absurd (true≢false (sym h))
settled_nan (fin s m e) h = absurd (true≢false (sym h))

pub settled_infinite : (x : Float) → T (fits binary64 x) → finite_bits (to_bits binary64 x) ≡ false → settled x ≡ Unset
settled_infinite x f e = settled_by_bits x false f e

pub settled_finite : (x : Float) → T (fits binary64 x) → finite_bits (to_bits binary64 x) ≡ true → settled x ≡ Real x
settled_finite x f e = settled_by_bits x true f e
