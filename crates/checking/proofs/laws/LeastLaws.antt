-- The least of a list of offsets, whatever their order, and the earliest of faults of one code.
use Prim.Native.Nat.{ℕ, ◌≤◌, ◌<◌, min}
use native.Mathlib.Nat.{min_comm}
use native.Mathlib.Omega.{arith}
use mathlib.Core.Path.{◌≡◌, refl, sym, ap, ◌∙◌}
use mathlib.Core.Bool.{Bool, true, false}
use mathlib.Core.List.{List, [], ◌∷◌, ◌++◌, map}
use mathlib.Core.Option.{Option, none, some}
use lib.Dec.{leb}
use borrow.Author.Tests.{leb-true, leb-false}
use Rattle.checking.specs.definitions.Faults.{Fault, fault, earlier, earliest}

unfoldable pub lower : Option ℕ → Option ℕ → Option ℕ
lower none b = b
lower (some x) none = some x
lower (some x) (some y) = some (min x y)

unfoldable pub least : List ℕ → Option ℕ
unfolding lower
least [] = none
least (x ∷ xs) = lower (some x) (least xs)

pub lower_none : (a : Option ℕ) → lower a none ≡ a
unfolding lower
lower_none none = refl
lower_none (some x) = refl

pub lower_comm : (a b : Option ℕ) → lower a b ≡ lower b a
unfolding lower
lower_comm none none = refl
lower_comm none (some y) = refl
lower_comm (some x) none = refl
lower_comm (some x) (some y) = ap some (min_comm x y)

pub lower_assoc : (a b c : Option ℕ) → lower (lower a b) c ≡ lower a (lower b c)
unfolding lower
lower_assoc none b c = refl
lower_assoc (some x) none c = refl
lower_assoc (some x) (some y) none = refl
lower_assoc (some x) (some y) (some z) = let e : min (min x y) z ≡ min x (min y z) = omega arith in ap some e

pub lower_left_comm : (a b c : Option ℕ) → lower a (lower b c) ≡ lower b (lower a c)
lower_left_comm a b c = sym (lower_assoc a b c) ∙ ap (λ d. lower d c) (lower_comm a b) ∙ lower_assoc b a c

pub least_append : (xs ys : List ℕ) → least (xs ++ ys) ≡ lower (least xs) (least ys)
unfolding least
least_append [] ys = refl
least_append (x ∷ xs) ys = ap (lower (some x)) (least_append xs ys) ∙ sym (lower_assoc (some x) (least xs) (least ys))

pub lower_first : (a : Option ℕ) → lower (least []) (lower (least []) a) ≡ a
unfolding lower least
lower_first a = refl

ruleset sorted = (lower_assoc, lower_comm, lower_left_comm)

module _ (a b c d e : Option ℕ) where
  pub shuffled : lower a (lower b (lower c (lower d e))) ≡ lower (lower a c) (lower (lower b d) e)
  shuffled = simp sorted

  pub to_second : lower a (lower b (lower c (lower d e))) ≡ lower b (lower (lower a c) (lower d e))
  to_second = simp sorted

  pub to_third : lower a (lower b (lower c (lower d e))) ≡ lower b (lower c (lower (lower a d) e))
  to_third = simp sorted

pub swapped : (a b c d : Option ℕ) → lower a (lower b (lower c d)) ≡ lower (lower a c) (lower b d)
swapped a b c d = simp sorted

-- faults of one code
unfoldable pub at_least : Option ℕ → Option Fault
at_least none = none
at_least (some x) = some (fault 14 x)

pub earliest_least : (os : List ℕ) → earliest (map (fault 14) os) ≡ at_least (least os)
unfolding earliest least at_least
earliest_least [] = refl
earliest_least (x ∷ os) = ap (λ o. some (earlier (fault 14 x) o)) (earliest_least os) ∙ go (least os)
  where
    go : (o : Option ℕ) → some (earlier (fault 14 x) (at_least o)) ≡ at_least (lower (some x) o)
    go none = refl
    go (some y) = by (leb x y) refl
      where
        by : (b : Bool) → leb x y ≡ b → some (earlier (fault 14 x) (some (fault 14 y))) ≡ some (fault 14 (min x y))
        by true e = let l : x ≤ y = leb-true x y e in let m : min x y ≡ x = omega arith in rw (e, earlier, m)
        by false e = let l : y < x = leb-false x y e in let m : min x y ≡ y = omega arith in rw (e, earlier, m)
