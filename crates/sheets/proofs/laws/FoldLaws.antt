-- The folds of all columns: one value more, and one line more.
use mathlib.Core.Path.{◌≡◌, refl, ap}
use mathlib.Core.List.{List, [], ◌∷◌, ◌++◌}
use mathlib.Core.Bool.{false}
use Prim.Native.Nat.{ℕ, zero, suc, ◌+◌, ◌<◌}
use native.Mathlib.Numerals.{add-one}
use native.Mathlib.Omega.{arith}
use lib.Ieee.{nan}
use lib.ListN.{length, get_or, take, set, replicate}
use Rattle.values.specs.declared.Value.{Value}
use Rattle.sheets.specs.declared.Fold.{Fold}
use Rattle.sheets.specs.definitions.Layout.{MOST_CHOSEN}
use Rattle.sheets.specs.definitions.Rows.{PrintedLine}
use Rattle.sheets.specs.definitions.Folds.{NONE_SET, folded_value, folded_values, folds_after, folds}

-- what an array of folds reads past its end
abbrev pub no_fold : Fold
no_fold = record { lowest = nan; highest = nan; last = nan; found = false }

-- ---- one column more

gather_next : (fs : List Fold) (vs : List Value) (i : ℕ) (d : Fold) (u : Value) → i < length fs → i < length vs
    → set (folded_values fs (take i vs)) i (folded_value (get_or (folded_values fs (take i vs)) i d) (get_or vs i u)) ≡ folded_values fs (take (i + 1) vs)
unfolding folded_values
gather_next fs vs i d u p q = rw (add-one i) (go fs vs i p q)
  where
    none : (i : ℕ) → i < 0 → ⊥
    none i h = omega arith

    less : (i n : ℕ) → suc i < suc n → i < n
    less i n h = omega arith

    go : (fs : List Fold) (vs : List Value) (i : ℕ) → i < length fs → i < length vs
        → set (folded_values fs (take i vs)) i (folded_value (get_or (folded_values fs (take i vs)) i d) (get_or vs i u)) ≡ folded_values fs (take (suc i) vs)
    go [] vs i p q = absurd (none i p)
    go (f ∷ fs) [] i p q = absurd (none i q)
    go (f ∷ fs) (v ∷ vs) zero p q = refl
    go (f ∷ fs) (v ∷ vs) (suc i) p q = ap (λ (t : List Fold). folded_value f v ∷ t) (go fs vs i (less i (length fs) p) (less i (length vs) q))

pub values_put : (fs gs : List Fold) (vs : List Value) (i : ℕ) (u : Value) (r : Fold) → i < length fs → i < length vs
    → gs ≡ folded_values fs (take i vs)
    → r ≡ folded_value (get_or gs i no_fold) (get_or vs i u) → set gs i r ≡ folded_values fs (take (i + 1) vs)
values_put fs gs vs i u r p q e h = rw (h, e) (gather_next fs vs i no_fold u p q)

-- ---- one line more

pub values_length : (fs : List Fold) (vs : List Value) → length (folded_values fs vs) ≡ length fs
unfolding folded_values
values_length fs [] = refl
values_length [] (v ∷ vs) = refl
values_length (f ∷ fs) (v ∷ vs) = ap suc (values_length fs vs)

pub folds_after_snoc : (fs : List Fold) (ls : List PrintedLine) (l : PrintedLine)
    → folds_after fs (ls ++ (l ∷ [])) ≡ folded_values (folds_after fs ls) l.values
unfolding folds_after
folds_after_snoc fs [] l = refl
folds_after_snoc fs (k ∷ ls) l = folds_after_snoc (folded_values fs k.values) ls l

pub folds_none : folds [] ≡ replicate MOST_CHOSEN NONE_SET
unfolding folds folds_after
folds_none = refl

pub folds_snoc : (ls : List PrintedLine) (l : PrintedLine) → folds (ls ++ (l ∷ [])) ≡ folded_values (folds ls) l.values
unfolding folds
folds_snoc ls l = folds_after_snoc (replicate MOST_CHOSEN NONE_SET) ls l
