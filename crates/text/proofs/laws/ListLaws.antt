-- Lists: what is in them, in a part of them and at a number, and what an empty concatenation is made of.
use Prim.Native.Nat.{ℕ, zero, suc, ◌≤◌}
use native.Mathlib.Omega.{arith}
use mathlib.Core.Path.{◌≡◌, refl, sym, ap, ◌∙◌, subst}
use mathlib.Core.Logic.{◌⊎◌, inl, inr}
use mathlib.Core.List.{List, [], ◌∷◌, ◌++◌, map, flat_map, cons≢nil, append_assoc, map-append}
use mathlib.Core.List.Memᴰ
use mathlib.Core.List.{
  Memᴰ,
}
use mathlib.Core.Option.{none, some}
use lib.ListN.{length, drop, get_elem?}

-- ---- options

module _ {A : Type 0} where
  pub some_injective : {a b : A} → some a ≡ some b → a ≡ b
  some_injective h = cc

  pub none_some : {a : A} → none ≡ some a → ⊥
  none_some h = let z : ◌≡◌ {A = ℕ} 0 1 = cc in omega arith

-- ---- nothing in a concatenation, so nothing in its parts

module _ {A : Type 0} where
  pub both_empty : {xs ys : List A} → xs ++ ys ≡ [] → (xs ≡ []) × (ys ≡ [])
  both_empty {xs} {ys} h = go xs h
    where
      go : (xs : List A) → xs ++ ys ≡ [] → (xs ≡ []) × (ys ≡ [])
      go [] h = (refl, h)
      go (x ∷ xs) h = absurd (cons≢nil h)

  pub three_empty : {xs ys zs : List A} → xs ++ ys ++ zs ≡ [] → (xs ≡ []) × (ys ≡ []) × (zs ≡ [])
  three_empty {xs} {ys} {zs} h =
      let p : (xs ++ ys ≡ []) × (zs ≡ []) = both_empty h in
      let q : (xs ≡ []) × (ys ≡ []) = both_empty p.0 in
      (q.0, q.1, p.1)

  pub four_empty : {ws xs ys zs : List A} → ws ++ xs ++ ys ++ zs ≡ [] → (ws ≡ []) × (xs ≡ []) × (ys ≡ []) × (zs ≡ [])
  four_empty {ws} {xs} {ys} {zs} h =
      let p : (ws ++ xs ++ ys ≡ []) × (zs ≡ []) = both_empty h in
      let q : (ws ≡ []) × (xs ≡ []) × (ys ≡ []) = three_empty p.0 in
      (q.0, q.1, q.2, p.1)

  pub five_empty : {vs ws xs ys zs : List A} → vs ++ ws ++ xs ++ ys ++ zs ≡ [] → (vs ≡ []) × (ws ≡ []) × (xs ≡ []) × (ys ≡ []) × (zs ≡ [])
  five_empty {vs} {ws} {xs} {ys} {zs} h =
      let p : (vs ++ ws ++ xs ++ ys ≡ []) × (zs ≡ []) = both_empty h in
      let q : (vs ≡ []) × (ws ≡ []) × (xs ≡ []) × (ys ≡ []) = four_empty p.0 in
      (q.0, q.1, q.2, q.3, p.1)

module _ {A B : Type 0} where
  pub flatMap_empty : (f : A → List B) (xs : List A) → flat_map f xs ≡ [] → {x : A} → Memᴰ x xs → f x ≡ []
  unfolding flat_map
  flatMap_empty f (x ∷ xs) h (Memᴰ.head e) = let p : (f x ≡ []) × (flat_map f xs ≡ []) = both_empty h in ap f e ∙ p.0
  flatMap_empty f (x ∷ xs) h (Memᴰ.tail m) = let p : (f x ≡ []) × (flat_map f xs ≡ []) = both_empty h in flatMap_empty f xs p.1 m
  flatMap_empty f [] h x4 = elim x4 [ ]

  pub mapped_empty : (f : A → B) (xs : List A) → map f xs ≡ [] → xs ≡ []
  mapped_empty f [] h = refl
  mapped_empty f (x ∷ xs) h = absurd (cons≢nil h)

module _ {A : Type 0} where
  pub drop_empty : (n : ℕ) (xs : List A) → drop n xs ≡ [] → length xs ≤ n
  drop_empty zero [] h = omega arith
  drop_empty zero (x ∷ xs) h = absurd (cons≢nil h)
  drop_empty (suc n) [] h = omega arith
  drop_empty (suc n) (x ∷ xs) h = let r = drop_empty n xs h in omega arith

-- ---- what is in a list

-- every item has it
abbrev pub All : {A : Type 0} → (A → Type 0) → List A → Type 0
All {A} has xs = (x : A) → Memᴰ x xs → has x

pub all_none : {A : Type 0} (has : A → Type 0) → All has []
all_none has x m = absurd (Memᴰ.not-nil m)

pub all_cons : {A : Type 0} (has : A → Type 0) {x : A} {xs : List A} → has x → All has xs → All has (x ∷ xs)
all_cons has {x} {xs} h g y m = go (Memᴰ.cases_cons m)
  where
    go : (y ≡ x) ⊎ Memᴰ y xs → has y
    go (inl e) = subst has (sym e) h
    go (inr n) = g y n

pub all_append : {A : Type 0} (has : A → Type 0) (xs : List A) {ys : List A} → All has xs → All has ys → All has (xs ++ ys)
all_append {A} has xs {ys} h g x m = go (Memᴰ.append_cases xs m)
  where
    go : Memᴰ x xs ⊎ Memᴰ x ys → has x
    go (inl n) = h x n
    go (inr n) = g x n

pub all_drop : {A : Type 0} (has : A → Type 0) (n : ℕ) (xs : List A) → All has xs → All has (drop n xs)
all_drop has zero xs h = h
all_drop has (suc n) [] h = h
all_drop has (suc n) (x ∷ xs) h = all_drop has n xs (λ y m. h y (Memᴰ.tail m))

module _ {A B : Type 0} where
  pub flatMap_member : (f : A → List B) (xs : List A) {x : A} {y : B} → Memᴰ x xs → Memᴰ y (f x) → Memᴰ y (flat_map f xs)
  unfolding flat_map
  flatMap_member f (x ∷ xs) {y = y} (Memᴰ.head e) m = Memᴰ.append_left (flat_map f xs) (rw e at m)
  flatMap_member f (x ∷ xs) (Memᴰ.tail n) m = Memᴰ.append_right (f x) (flatMap_member f xs n m)
  flatMap_member f [] {y = y} x4 m = elim x4 [ ]

  pub member_flatMap : (f : A → List B) (xs : List A) {y : B} → Memᴰ y (flat_map f xs) → (x : A) × Memᴰ x xs × Memᴰ y (f x)
  unfolding flat_map
  member_flatMap f [] m = absurd (Memᴰ.not-nil m)
  member_flatMap f (x ∷ xs) {y} m = go (member_flatMap f xs) (Memᴰ.append_cases (f x) m)
    where
      go : (Memᴰ y (flat_map f xs) → (z : A) × Memᴰ z xs × Memᴰ y (f z)) → Memᴰ y (f x) ⊎ Memᴰ y (flat_map f xs)
          → (z : A) × Memᴰ z (x ∷ xs) × Memᴰ y (f z)
      go k (inl n) = (x, Memᴰ.head refl, n)
      go k (inr n) = let (z, p, q) = k n in (z, Memᴰ.tail p, q)

module _ {A : Type 0} where
  pub number_member : (xs : List A) (n : ℕ) {x : A} → get_elem? xs n ≡ some x → Memᴰ x xs
  number_member [] n h = absurd (none_some h)
  number_member (y ∷ ys) zero h = Memᴰ.head (sym (some_injective h))
  number_member (y ∷ ys) (suc n) h = Memᴰ.tail (number_member ys n h)

module _ {A B : Type 0} where
  pub flatMap_append : (f : A → List B) (xs ys : List A) → flat_map f (xs ++ ys) ≡ flat_map f xs ++ flat_map f ys
  unfolding flat_map
  flatMap_append f [] ys = refl
  flatMap_append f (x ∷ xs) ys = ap (λ l. f x ++ l) (flatMap_append f xs ys) ∙ sym (append_assoc (f x) (flat_map f xs) (flat_map f ys))

  pub flatMap_single : (f : A → B) (xs : List A) → flat_map (λ x. f x ∷ []) xs ≡ map f xs
  unfolding flat_map
  flatMap_single f [] = refl
  flatMap_single f (x ∷ xs) = ap (λ l. f x ∷ l) (flatMap_single f xs)

  pub flatMap_none : (xs : List A) → flat_map {B = B} (λ x. []) xs ≡ []
  unfolding flat_map
  flatMap_none [] = refl
  flatMap_none (x ∷ xs) = flatMap_none xs

module _ {A B C : Type 0} where
  pub flatMap_map_none : (f : B → List C) (g : A → B) → ((x : A) → f (g x) ≡ []) → (xs : List A) → flat_map f (map g xs) ≡ []
  unfolding flat_map
  flatMap_map_none f g e [] = refl
  flatMap_map_none f g e (x ∷ xs) = rw (e x) (flatMap_map_none f g e xs)

  pub flatMap_map : (f : B → List C) (g : A → B) (xs : List A) → flat_map f (map g xs) ≡ flat_map (λ x. f (g x)) xs
  unfolding flat_map
  flatMap_map f g [] = refl
  flatMap_map f g (x ∷ xs) = ap (λ l. f (g x) ++ l) (flatMap_map f g xs)

  pub map_flatMap : (f : B → C) (g : A → List B) (xs : List A) → map f (flat_map g xs) ≡ flat_map (λ x. map f (g x)) xs
  unfolding flat_map
  map_flatMap f g [] = refl
  map_flatMap f g (x ∷ xs) = map-append f (g x) (flat_map g xs) ∙ ap (λ l. map f (g x) ++ l) (map_flatMap f g xs)

  pub flatMap_flatMap : (f : B → List C) (g : A → List B) (h : A → List C) → ((x : A) → flat_map f (g x) ≡ h x)
      → (xs : List A) → flat_map f (flat_map g xs) ≡ flat_map h xs
  unfolding flat_map
  flatMap_flatMap f g h e [] = refl
  flatMap_flatMap f g h e (x ∷ xs) = flatMap_append f (g x) (flat_map g xs) ∙ rw (e x, flatMap_flatMap f g h e xs)

pub flatMap_self : {A : Type 0} (xs : List A) → flat_map (λ x. x ∷ []) xs ≡ xs
unfolding flat_map
flatMap_self [] = refl
flatMap_self (x ∷ xs) = ap (λ l. x ∷ l) (flatMap_self xs)
