-- "for each real column the lowest, highest and last set value"; "equal zeros count as one value, the earlier bits shown": what the fold of a
-- column shows is one of its set values, none is lower (higher), and it is the first of those.
use Prim.Native.Nat.{ℕ, zero, suc, ◌<◌}
use native.Mathlib.Omega.{arith}
use mathlib.Core.Path.{◌≡◌, refl, sym, ap, ◌∙◌, subst}
use mathlib.Core.Logic.{◌⊎◌, inl, inr}
use mathlib.Core.List.{List, [], ◌∷◌, ◌++◌, append-nil}
use mathlib.Core.List.Memᴰ
use mathlib.Core.List.{Memᴰ}
use mathlib.Core.Bool.{Bool, true, false, not, cond}
use lib.Dec.{T}
use lib.ListN.{length, get_or, replicate, get_or-replicate}
use lib.Seq.{append_snoc}
use lib.Ieee.{Float, lt, is_nan}
use Rattle.values.specs.declared.Value.{Value}
use Rattle.values.specs.declared.Value.TheVariants.{Whole, Truth, Real, Unset}
use Rattle.sheets.specs.declared.Fold.{Fold}
use Rattle.sheets.specs.definitions.Layout.{MOST_CHOSEN}
use Rattle.sheets.specs.definitions.Rows.{PrintedLine}
use Rattle.sheets.specs.definitions.Folds.{NONE_SET, folded, folded_value, folded_values, folds_after, folds}
use Rattle.sheets.proofs.laws.FoldLaws.{values_length}
use Rattle.sheets.proofs.laws.OrderLaws.{lt_asym, lt_low, lt_high}
use Rattle.sheets.specs.definitions.Extremes.{set_real, set_reals, Extremes}
use Rattle.sheets.proofs.laws.ForemostLaws.{AllSet, foremost_one, foremost_next}

-- ---- a column's set values

set_real_set : (v : Value) → AllSet (set_real v)
unfolding set_real
set_real_set (Whole z) x m = absurd (Memᴰ.not-nil m)
set_real_set (Truth b) x m = absurd (Memᴰ.not-nil m)
set_real_set (Real y) x m = go (is_nan y) refl m
  where
    here : is_nan y ≡ false → (x ≡ y) ⊎ Memᴰ x [] → T (not (is_nan x))
    here e (inl q) = subst (λ (b : Bool). T (not b)) (sym (ap is_nan q ∙ e)) tt
    here e (inr n) = absurd (Memᴰ.not-nil n)

    go : (t : Bool) → is_nan y ≡ t → Memᴰ x (cond t [] (y ∷ [])) → T (not (is_nan x))
    go true e m = absurd (Memᴰ.not-nil m)
    go false e m = here e (Memᴰ.cases_cons m)
set_real_set Unset x m = absurd (Memᴰ.not-nil m)

pub set_reals_set : (k : ℕ) (ls : List PrintedLine) → AllSet (set_reals k ls)
unfolding set_reals
set_reals_set k [] x m = absurd (Memᴰ.not-nil m)
set_reals_set k (l ∷ ls) x m = go (set_reals_set k ls x) (Memᴰ.append_cases (set_real (get_or l.values k Unset)) m)
  where
    go : (Memᴰ x (set_reals k ls) → T (not (is_nan x))) → Memᴰ x (set_real (get_or l.values k Unset)) ⊎ Memᴰ x (set_reals k ls)
        → T (not (is_nan x))
    go r (inl n) = set_real_set (get_or l.values k Unset) x n
    go r (inr n) = r n

-- ---- the fold of a list of values, and of a column

unfoldable pub folded_all : Fold → List Float → Fold
unfolding folded
folded_all f [] = f
folded_all f (x ∷ xs) = folded_all (folded f x) xs

one_more : (f : Fold) (v : Value) (xs : List Float) → folded_all (folded_value f v) xs ≡ folded_all f (set_real v ++ xs)
unfolding folded_all folded_value set_real
one_more f (Whole z) xs = refl
one_more f (Truth b) xs = refl
one_more f (Real x) xs = go (is_nan x)
  where
    go : (t : Bool) → folded_all (cond t f (folded f x)) xs ≡ folded_all f (cond t [] (x ∷ []) ++ xs)
    go true = refl
    go false = refl
one_more f Unset xs = refl

folded_value_at : (fs : List Fold) (vs : List Value) (k : ℕ) (d : Fold) → k < length fs
    → get_or (folded_values fs vs) k d ≡ folded_value (get_or fs k d) (get_or vs k Unset)
unfolding folded_values folded_value
folded_value_at fs [] k d h = refl
folded_value_at [] (v ∷ vs) k d h = absurd (none k h)
  where
    none : (k : ℕ) → k < 0 → ⊥
    none k h = omega arith
folded_value_at (f ∷ fs) (v ∷ vs) zero d h = refl
folded_value_at (f ∷ fs) (v ∷ vs) (suc k) d h = folded_value_at fs vs k d (less k (length fs) h)
  where
    less : (k n : ℕ) → suc k < suc n → k < n
    less k n h = omega arith

pub column_folded : (fs : List Fold) (ls : List PrintedLine) (k : ℕ) (d : Fold) → k < length fs
    → get_or (folds_after fs ls) k d ≡ folded_all (get_or fs k d) (set_reals k ls)
unfolding folds_after set_reals folded_all
column_folded fs [] k d h = refl
column_folded fs (l ∷ ls) k d h =
    column_folded (folded_values fs l.values) ls k d (rw (values_length fs l.values) h)
    ∙ ap (λ (f : Fold). folded_all f (set_reals k ls)) (folded_value_at fs l.values k d h)
    ∙ one_more (get_or fs k d) (get_or l.values k Unset) (set_reals k ls)

-- ---- what a fold shows

first_extremes : (f : Fold) (x : Float) → f.found ≡ false → Extremes (folded f x) (x ∷ [])
unfolding folded
first_extremes f x e = rw e (record {
  found = refl;
  lowest = foremost_one lt lt_asym lt_low x;
  highest = foremost_one (λ x y. lt y x) (λ x y. lt_asym y x) lt_high x;
  all_but_last = [];
  last = refl;
})

next_extremes : (f : Fold) (x : Float) (xs : List Float) → AllSet xs → Extremes f xs → Extremes (folded f x) (xs ++ (x ∷ []))
unfolding folded
next_extremes f x xs set e = rw e.found (record {
  found = refl;
  lowest = foremost_next lt lt_asym lt_low f.lowest x xs set e.lowest;
  highest = foremost_next (λ x y. lt y x) (λ x y. lt_asym y x) lt_high f.highest x xs set e.highest;
  all_but_last = xs;
  last = refl;
})

all_extremes : (f : Fold) (seen xs : List Float) → AllSet (seen ++ xs) → Extremes f seen → Extremes (folded_all f xs) (seen ++ xs)
unfolding folded_all
all_extremes f seen [] set e = rw append-nil e
all_extremes f seen (x ∷ xs) set e =
    let s = append_snoc seen x xs in
    subst (Extremes (folded_all (folded f x) xs)) s
    (all_extremes (folded f x) (seen ++ (x ∷ [])) xs (subst AllSet (sym s) set)
    (next_extremes f x seen (λ y m. set y (Memᴰ.append_left (x ∷ xs) m)) e))

pub fold_extremes : (x : Float) (xs : List Float) → AllSet (x ∷ xs) → Extremes (folded_all NONE_SET (x ∷ xs)) (x ∷ xs)
unfolding folded_all
fold_extremes x xs set = all_extremes (folded NONE_SET x) (x ∷ []) xs set (first_extremes NONE_SET x refl)

-- ---- the folds of a sheet

module _ (ls : List PrintedLine) (k : ℕ) (h : k < MOST_CHOSEN) where
  column_fold : get_or (folds ls) k NONE_SET ≡ folded_all NONE_SET (set_reals k ls)
  unfolding folds
  column_fold =
      column_folded (replicate MOST_CHOSEN NONE_SET) ls k NONE_SET h
      ∙ ap (λ (f : Fold). folded_all f (set_reals k ls)) (get_or-replicate MOST_CHOSEN k NONE_SET NONE_SET h)

  pub column_extremes : 0 < length (set_reals k ls) → Extremes (get_or (folds ls) k NONE_SET) (set_reals k ls)
  column_extremes n = subst (λ (f : Fold). Extremes f (set_reals k ls)) (sym column_fold) (go (set_reals k ls) n (set_reals_set k ls))
    where
      none : 0 < 0 → ⊥
      none h = omega arith

      go : (xs : List Float) → 0 < length xs → AllSet xs → Extremes (folded_all NONE_SET xs) xs
      go [] n s = absurd (none n)
      go (x ∷ xs) n s = fold_extremes x xs s

  pub column_none : set_reals k ls ≡ [] → (get_or (folds ls) k NONE_SET).found ≡ false
  unfolding folded_all
  column_none e = ap (λ (f : Fold). f.found) (column_fold ∙ ap (folded_all NONE_SET) e)
