-- The earliest fault of a list: by its parts, of one test, and none exactly where there is no fault.
use Prim.Native.Nat.{ℕ, ◌≤◌, ◌<◌}
use mathlib.Core.Path.{◌≡◌, refl, sym, ap, ◌∙◌}
use mathlib.Core.Bool.{Bool, true, false}
use mathlib.Core.List.{List, [], ◌∷◌, ◌++◌, append_assoc, append-nil, flat_map}
use mathlib.Core.Option.{Option, none, some}
use native.Mathlib.Omega.{arith}
use lib.Dec.{leb}
use borrow.Author.Tests.{leb-true, leb-false, le-leb, lt-leb}
use Rattle.text.proofs.laws.ListLaws.{none_some}
use Rattle.checking.specs.definitions.Faults.{Fault, fault, fault_unless, earlier, earliest}
use Rattle.checking.specs.inner_contracts.FoundFaults.{merged}

-- ---- two of them

pub merged_none_left : (b : Option Fault) → merged none b ≡ b
unfolding merged
merged_none_left b = refl

pub merged_none_right : (a : Option Fault) → merged a none ≡ a
unfolding merged
merged_none_right none = refl
merged_none_right (some f) = refl

module _ (f g : Fault) where
  pub earlier_left : f.at ≤ g.at → earlier f (some g) ≡ f
  unfolding earlier
  earlier_left h = rw (le-leb f.at g.at h, earlier)

  pub earlier_right : g.at < f.at → earlier f (some g) ≡ g
  unfolding earlier
  earlier_right h = rw (lt-leb f.at g.at h, earlier)

-- the first of three
earlier_assoc : (f : Fault) (a b : Option Fault) → earlier f (merged a b) ≡ earlier (earlier f a) b
unfolding merged earlier
earlier_assoc f none b = refl
earlier_assoc f (some g) none = refl
earlier_assoc f (some g) (some h) = go (leb f.at g.at) refl (leb g.at h.at) refl
  where
    go : (s : Bool) → leb f.at g.at ≡ s → (t : Bool) → leb g.at h.at ≡ t
        → earlier f (some (earlier g (some h))) ≡ earlier (earlier f (some g)) (some h)
    go true e true q =
        let p : f.at ≤ g.at = leb-true f.at g.at e in
        let r : g.at ≤ h.at = leb-true g.at h.at q in
        rw (earlier_left g h r, earlier_left f g p, earlier_left f h (omega arith))
    go true e false q =
        let p : f.at ≤ g.at = leb-true f.at g.at e in
        let r : h.at < g.at = leb-false g.at h.at q in
        rw (earlier_right g h r, earlier_left f g p)
    go false e true q =
        let p : g.at < f.at = leb-false f.at g.at e in
        let r : g.at ≤ h.at = leb-true g.at h.at q in
        rw (earlier_left g h r, earlier_right f g p, earlier_left g h r)
    go false e false q =
        let p : g.at < f.at = leb-false f.at g.at e in
        let r : h.at < g.at = leb-false g.at h.at q in
        rw (earlier_right g h r, earlier_right f g p, earlier_right g h r, earlier_right f h (omega arith))

pub merged_assoc : (a b c : Option Fault) → merged (merged a b) c ≡ merged a (merged b c)
unfolding merged
merged_assoc none b c = refl
merged_assoc (some f) b c = ap some (sym (earlier_assoc f b c))

-- ---- of a list

pub earliest_append : (xs ys : List Fault) → earliest (xs ++ ys) ≡ merged (earliest xs) (earliest ys)
unfolding earliest merged
earliest_append [] ys = refl
earliest_append (x ∷ xs) ys = ap (λ (o : Option Fault). some (earlier x o)) (earliest_append xs ys) ∙ ap some (earlier_assoc x (earliest xs) (earliest ys))

pub earliest_passed : {b : Bool} (c p : ℕ) → b ≡ true → earliest (fault_unless b c p) ≡ none
unfolding earliest fault_unless
earliest_passed c p e = rw e

pub earliest_failed : {b : Bool} (c p : ℕ) → b ≡ false → earliest (fault_unless b c p) ≡ some (fault c p)
unfolding earliest fault_unless earlier
earliest_failed c p e = rw e

-- none exactly where there is no fault
pub earliest_none : (xs : List Fault) → earliest xs ≡ none → xs ≡ []
unfolding earliest
earliest_none [] h = refl
earliest_none (x ∷ xs) h = absurd (none_some (sym h))

pub none_earliest : {xs : List Fault} → xs ≡ [] → earliest xs ≡ none
unfolding earliest
none_earliest e = rw e

-- ---- of the items of a list, one after another

module _ {A : Type 0} (f : A → List Fault) where
  flatMap_append : (xs ys : List A) → flat_map f (xs ++ ys) ≡ flat_map f xs ++ flat_map f ys
  unfolding flat_map
  flatMap_append [] ys = refl
  flatMap_append (x ∷ xs) ys = ap (λ (l : List Fault). f x ++ l) (flatMap_append xs ys) ∙ sym (append_assoc (f x) (flat_map f xs) (flat_map f ys))

  pub earliest_nil : earliest (flat_map f []) ≡ none
  unfolding earliest flat_map
  earliest_nil = refl

  pub earliest_cons : (x : A) (xs : List A) → earliest (flat_map f (x ∷ xs)) ≡ merged (earliest (f x)) (earliest (flat_map f xs))
  unfolding flat_map
  earliest_cons x xs = earliest_append (f x) (flat_map f xs)

  pub earliest_snoc : (xs : List A) (x : A) → earliest (flat_map f (xs ++ x ∷ [])) ≡ merged (earliest (flat_map f xs)) (earliest (f x))
  unfolding flat_map
  earliest_snoc xs x =
      ap earliest (flatMap_append xs (x ∷ []) ∙ ap (λ (l : List Fault). flat_map f xs ++ l) (append-nil (f x))) ∙ earliest_append (flat_map f xs) (f x)
