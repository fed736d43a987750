-- Walks over lists: where each item runs, the walk runs; where each passes, every one does.
use mathlib.Core.Path.{◌≡◌, refl}
use mathlib.Core.Bool.{Bool}
use mathlib.Core.List.{List, [], ◌∷◌, flat_map, Memᴰ}
use lib.Dec.{T}
use lib.Ieee.Fits.{and_i}
use Rattle.text.proofs.laws.ListLaws.{All, all_none, all_append}
use Rattle.cycles.specs.definitions.Outcome.{Outcome, running, collected}
use Rattle.cycles.specs.definitions.Spots.{every}
use Rattle.cycles.specs.definitions.ClosedSet.{Among, here, there}

-- what each item gives, and has
module _ {A B : Type 0} (f : A → Outcome (List B)) (g : A → List B) (has : B → Type 0) where
  pub collected_runs : (xs : List A) → All (λ (x : A). (f x ≡ running (g x)) × All has (g x)) xs
      → (collected f xs ≡ running (flat_map g xs)) × All has (flat_map g xs)
  unfolding collected flat_map
  collected_runs [] h = (refl, all_none has)
  collected_runs (x ∷ xs) h =
      let (p, q) = h x (Memᴰ.head refl) in
      let (r, s) = collected_runs xs (λ y m. h y (Memᴰ.tail m)) in
      (rw (p, r), all_append has (g x) q s)

module _ {A : Type 0} where
  pub every_passes : (test : A → Bool) (xs : List A) → All (λ (x : A). T (test x)) xs → T (every test xs)
  unfolding every
  every_passes test [] h = tt
  every_passes test (x ∷ xs) h = and_i (test x) (every test xs) (h x (Memᴰ.head refl)) (every_passes test xs (λ y m. h y (Memᴰ.tail m)))

  pub member_among : {x : A} {xs : List A} → Memᴰ x xs → Among x xs
  member_among (Memᴰ.head e) = rw e here
  member_among (Memᴰ.tail m) = there (member_among m)

  pub among_member : {x : A} {xs : List A} → Among x xs → Memᴰ x xs
  among_member here = Memᴰ.head refl
  among_member (there a) = Memᴰ.tail (among_member a)
