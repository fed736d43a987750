-- The lines of a text that is taken apart: at a line feed, after a part of a line, at the end.
use Prim.Native.Nat.{ℕ, zero, suc}
use mathlib.Core.Path.{◌≡◌, refl, sym, ap, ◌∙◌}
use mathlib.Core.List.{List, [], ◌∷◌, ◌++◌, append-nil}
use lib.ListN.{take}
use Rattle.cycles.specs.definitions.Fields.{lengthened}
use Rattle.cycles.specs.definitions.Readings.{lines, PartOfLine}

pub part_append : (a b : List ℕ) → PartOfLine a → PartOfLine b → PartOfLine (a ++ b)
part_append [] b p q = q
part_append (x ∷ a) b (e, p) q = (e, part_append a b p q)

pub part_take : (n : ℕ) (a : List ℕ) → PartOfLine a → PartOfLine (take n a)
part_take zero a p = tt
part_take (suc n) [] p = tt
part_take (suc n) (x ∷ a) (e, p) = (e, part_take n a p)

-- a part of a line before lines
pub before : List ℕ → List (List ℕ) → List (List ℕ)
before [] ls = ls
before (b ∷ k) ls = lengthened b (before k ls)

pub lines_after : (k t : List ℕ) → PartOfLine k → lines (k ++ t) ≡ before k (lines t)
unfolding lines before
lines_after [] t p = refl
lines_after (b ∷ k) t (e, p) = rw e (ap (lengthened b) (lines_after k t p))

pub before_line : (k l : List ℕ) (ls : List (List ℕ)) → before k (l ∷ ls) ≡ (k ++ l) ∷ ls
unfolding before lengthened
before_line [] l ls = refl
before_line (b ∷ k) l ls = rw (before_line k l ls)

pub before_none : (b : ℕ) (k : List ℕ) → before (b ∷ k) [] ≡ (b ∷ k) ∷ []
unfolding before lengthened
before_none b [] = refl
before_none b (c ∷ k) = rw (before_none c k)

-- a line feed ends a line
pub lines_fed : (k t : List ℕ) → PartOfLine k → lines (k ++ 10 ∷ t) ≡ k ∷ lines t
unfolding lines
lines_fed k t p = lines_after k (10 ∷ t) p ∙ before_line k [] (lines t) ∙ ap (λ (l : List ℕ). l ∷ lines t) (append-nil k)

-- the text's end ends one too
pub lines_last : (b : ℕ) (k : List ℕ) → PartOfLine (b ∷ k) → lines (b ∷ k) ≡ (b ∷ k) ∷ []
unfolding lines
lines_last b k p = ap lines (sym (append-nil (b ∷ k))) ∙ lines_after (b ∷ k) [] p ∙ before_none b k
