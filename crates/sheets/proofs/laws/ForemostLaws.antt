-- The first of the most extreme values of a list, kept while the list grows.
use mathlib.Core.Path.{◌≡◌, refl, sym, ap, ◌∙◌, subst}
use mathlib.Core.Logic.{◌⊎◌, inl, inr}
use mathlib.Core.List.Memᴰ
use mathlib.Core.List.{List, [], ◌∷◌, ◌++◌, append_assoc, Memᴰ}
use mathlib.Core.Bool.{Bool, true, false, not, cond}
use lib.Dec.{T}
use lib.Ieee.{Float, is_nan}
use Rattle.sheets.specs.definitions.Extremes.{Foremost}

-- no NaN among them
abbrev pub AllSet : List Float → Type 0
AllSet xs = (x : Float) → Memᴰ x xs → T (not (is_nan x))

is_true : (t : Bool) → t ≡ true → T t
is_true t e = subst T (sym e) tt

is_not : (t : Bool) → t ≡ false → T (not t)
is_not t e = subst (λ (b : Bool). T (not b)) (sym e) tt

module _ (beats : Float → Float → Bool) (asym : (x y : Float) → T (beats x y) → T (not (beats y x)))
    (through : (x y z : Float) → T (not (is_nan z)) → T (beats x y) → T (not (beats z y)) → T (beats x z)) where
  not_itself : (x : Float) → T (not (beats x x))
  not_itself x = go (beats x x) (asym x x)
    where
      go : (t : Bool) → (T t → T (not t)) → T (not t)
      go true f = f tt
      go false f = tt

  pub foremost_one : (x : Float) → Foremost beats x (x ∷ [])
  foremost_one x = record {
    before = [];
    after = [];
    stands = refl;
    unbeaten = λ y m. subst (λ (z : Float). T (not (beats z x))) (sym (Memᴰ.eq_of_singleton m)) (not_itself x);
    first = λ y m. absurd (Memᴰ.not-nil m);
  }

  pub foremost_next : (k x : Float) (xs : List Float) → AllSet xs → Foremost beats k xs → Foremost beats (cond (beats x k) x k) (xs ++ (x ∷ []))
  foremost_next k x xs set f = go (beats x k) refl
    where
      -- x beats what k is not beaten by
      beaten : T (beats x k) → (y : Float) → Memᴰ y xs → T (beats x y)
      beaten h y m = through x k y (set y m) h (f.unbeaten y m)

      new_unbeaten : T (beats x k) → (y : Float) → Memᴰ y xs ⊎ Memᴰ y (x ∷ []) → T (not (beats y x))
      new_unbeaten h y (inl m) = asym x y (beaten h y m)
      new_unbeaten h y (inr m) = subst (λ (z : Float). T (not (beats z x))) (sym (Memᴰ.eq_of_singleton m)) (not_itself x)

      old_unbeaten : T (not (beats x k)) → (y : Float) → Memᴰ y xs ⊎ Memᴰ y (x ∷ []) → T (not (beats y k))
      old_unbeaten h y (inl m) = f.unbeaten y m
      old_unbeaten h y (inr m) = subst (λ (z : Float). T (not (beats z k))) (sym (Memᴰ.eq_of_singleton m)) h

      go : (t : Bool) → beats x k ≡ t → Foremost beats (cond t x k) (xs ++ (x ∷ []))
      go true e = record {
        before = xs;
        after = [];
        stands = refl;
        unbeaten = λ y m. new_unbeaten (is_true (beats x k) e) y (Memᴰ.append_cases xs m);
        first = beaten (is_true (beats x k) e);
      }
      go false e = record {
        before = f.before;
        after = f.after ++ (x ∷ []);
        stands = ap (λ (l : List Float). l ++ (x ∷ [])) f.stands ∙ append_assoc f.before (k ∷ f.after) (x ∷ []);
        unbeaten = λ y m. old_unbeaten (is_not (beats x k) e) y (Memᴰ.append_cases xs m);
        first = f.first;
      }
