-- The lowest, highest and last set value of a real column, folded over the printed lines.
use Rattle.std.specs.Prelude.{List, [], ◌∷◌, true, false, cond, replicate, Float}
use Rattle.std.specs.Float.{binary64}
use Rattle.std.specs.Float.Ieee.{of_bits, lt, is_nan}
use Rattle.values.specs.declared.Value.{Value}
use Rattle.values.specs.declared.Value.TheVariants.{Whole, Truth, Real, Unset}
use Rattle.sheets.specs.declared.Fold.{Fold}
use Rattle.sheets.specs.definitions.Layout.{MOST_CHOSEN}
use Rattle.sheets.specs.definitions.Rows.{PrintedLine}

-- no set value yet; its three fields say nothing then
abbrev pub NONE_SET : Fold
NONE_SET = record { lowest = of_bits binary64 0; highest = of_bits binary64 0; last = of_bits binary64 0; found = false }

-- a set value more: "For lowest and highest, equal zeros count as one value, the earlier bits shown", so an equal value changes neither
unfoldable pub folded : Fold → Float → Fold
folded f x = record {
  lowest = cond f.found (cond (lt x f.lowest) x f.lowest) x;
  highest = cond f.found (cond (lt f.highest x) x f.highest) x;
  last = x;
  found = true;
}

-- a line's value of the column: only a set real enters
unfoldable pub folded_value : Fold → Value → Fold
unfolding folded
folded_value f (Whole z) = f
folded_value f (Truth b) = f
folded_value f (Real x) = cond (is_nan x) f (folded f x)
folded_value f Unset = f

-- a line's values, column by column
unfoldable pub folded_values : List Fold → List Value → List Fold
unfolding folded_value
folded_values fs [] = fs
folded_values [] (v ∷ vs) = []
folded_values (f ∷ fs) (v ∷ vs) = folded_value f v ∷ folded_values fs vs

unfoldable pub folds_after : List Fold → List PrintedLine → List Fold
unfolding folded_values
folds_after fs [] = fs
folds_after fs (l ∷ ls) = folds_after (folded_values fs l.values) ls

-- over all printed lines, for as many columns as there may be
unfoldable pub folds : List PrintedLine → List Fold
unfolding folds_after
folds ls = folds_after (replicate MOST_CHOSEN NONE_SET) ls
