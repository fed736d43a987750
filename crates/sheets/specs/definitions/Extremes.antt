-- What a real column's closing rows are to show, said without the fold: "the lowest, highest and last set value", where "equal zeros count as one
-- value, the earlier bits shown".
use Rattle.std.specs.Prelude.{ℕ, ◌≡◌, Bool, true, not, cond, T, get_or, Float}
use mathlib.Core.List.{List, [], ◌∷◌, ◌++◌, Memᴰ}
use Rattle.std.specs.Float.Ieee.{lt, is_nan}
use Rattle.values.specs.declared.Value.{Value}
use Rattle.values.specs.declared.Value.TheVariants.{Whole, Truth, Real, Unset}
use Rattle.sheets.specs.declared.Fold.{Fold}
use Rattle.sheets.specs.definitions.Rows.{PrintedLine}

-- a value that is a set real, as a list of one
unfoldable pub set_real : Value → List Float
set_real (Whole z) = []
set_real (Truth b) = []
set_real (Real x) = cond (is_nan x) [] (x ∷ [])
set_real Unset = []

-- those of column k, in the order of the lines
unfoldable pub set_reals : ℕ → List PrintedLine → List Float
unfolding set_real
set_reals k [] = []
set_reals k (l ∷ ls) = set_real (get_or l.values k Unset) ++ set_reals k ls

-- x is one of xs, none of them beats it, and it beats those before it
pub record Foremost (beats : Float → Float → Bool) (x : Float) (xs : List Float) : Type 0 where
  pub before : List Float
  pub after : List Float
  pub stands : xs ≡ before ++ (x ∷ after)
  pub unbeaten : (y : Float) → Memᴰ y xs → T (not (beats y x))
  pub first : (y : Float) → Memᴰ y before → T (beats x y)

-- the first of the lowest, the first of the highest, and the last
pub record Extremes (f : Fold) (xs : List Float) : Type 0 where
  pub found : f.found ≡ true
  pub lowest : Foremost lt f.lowest xs
  pub highest : Foremost (λ x y. lt y x) f.highest xs
  pub all_but_last : List Float
  pub last : xs ≡ all_but_last ++ (f.last ∷ [])
