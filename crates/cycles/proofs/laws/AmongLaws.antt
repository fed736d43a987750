-- What stands among the items of a list: of one that flat_map, map or numbered makes, and of one in which a name was looked up.
use Prim.Native.Nat.{ℕ, zero, suc, ◌+◌}
use native.Mathlib.Nat.{zero-add}
use mathlib.Core.Path.{◌≡◌, refl, ap₂, subst}
use mathlib.Core.Bool.{Bool, true, false, not, ◌||◌}
use mathlib.Core.List.{List, [], ◌∷◌, ◌++◌, map, flat_map}
use mathlib.Core.Option.{Option, none, some, none-ne-some}
use mathlib.Core.Logic.{◌⊎◌, inl, inr}
use native.Mathlib.Omega.{arith}
use lib.Dec.{T}
use lib.ListN.{get_elem?}
use lib.Ieee.Fits.{and_l, and_r}
use Rattle.values.specs.definitions.Bytes.{same_bytes}
use Rattle.text.specs.definitions.Syntax.{Name}
use Rattle.text.proofs.laws.ListLaws.{none_some, some_injective}
use Rattle.checking.specs.definitions.Scope.{Indexed, here_or_later, look_up}
use Rattle.cycles.specs.definitions.Spots.{numbered, every}
use Rattle.cycles.specs.definitions.ClosedSet.{Among, here, there}
use Rattle.cycles.specs.definitions.Reads.{one_passes}

-- every item of the list has the property
abbrev pub AllIn : {A : Type 0} → List A → (A → Type 0) → Type 0
AllIn {A} xs P = (x : A) → Among x xs → P x

module _ {A : Type 0} where
  pub among_left : {x : A} {xs : List A} → Among x xs → (ys : List A) → Among x (xs ++ ys)
  among_left here ys = here
  among_left (there a) ys = there (among_left a ys)

  pub among_right : {x : A} (xs : List A) {ys : List A} → Among x ys → Among x (xs ++ ys)
  among_right [] a = a
  among_right (y ∷ xs) a = there (among_right xs a)

  pub all_in_cons : (y : A) (xs : List A) (P : A → Type 0) → P y → AllIn xs P → AllIn (y ∷ xs) P
  all_in_cons y xs P p q x here = p
  all_in_cons y xs P p q x (there a) = q x a

  pub all_in_append : (xs ys : List A) (P : A → Type 0) → AllIn xs P → AllIn ys P → AllIn (xs ++ ys) P
  all_in_append [] ys P p q = q
  all_in_append (y ∷ xs) ys P p q = all_in_cons y (xs ++ ys) P (p y here) (all_in_append xs ys P (λ x a. p x (there a)) q)

  -- a test passes for some item, or fails for all
  pub one_passes_or_none : (test : A → Bool) (xs : List A) → ((x : A) × Among x xs × T (test x)) ⊎ AllIn xs (λ x. test x ≡ false)
  one_passes_or_none test [] = inr (λ x a. elim a [ ])
  one_passes_or_none test (y ∷ xs) = go (test y) refl (one_passes_or_none test xs)
    where
      later : ((x : A) × Among x xs × T (test x)) → (x : A) × Among x (y ∷ xs) × T (test x)
      later (x, a, t) = (x, there a, t)

      go : (b : Bool) → test y ≡ b → ((x : A) × Among x xs × T (test x)) ⊎ AllIn xs (λ x. test x ≡ false)
          → ((x : A) × Among x (y ∷ xs) × T (test x)) ⊎ AllIn (y ∷ xs) (λ x. test x ≡ false)
      go true e o = inl (y, here, rw e tt)
      go false e (inl p) = inl (later p)
      go false e (inr p) = inr (all_in_cons y xs (λ x. test x ≡ false) e p)

module _ {A : Type 0} where
  -- an item of a list with numbers stands in the list at its number
  numbered_from : (n : ℕ) (xs : List A) → AllIn (numbered n xs) (λ x. (k : ℕ) × (x.number ≡ n + k) × (get_elem? xs k ≡ some x.item))
  unfolding numbered
  numbered_from n [] = λ x a. elim a [ ]
  numbered_from n (y ∷ xs) =
      all_in_cons (record { number = n; item = y }) (numbered (suc n) xs) (λ x. (k : ℕ) × (x.number ≡ n + k) × (get_elem? (y ∷ xs) k ≡ some x.item))
      (0, omega arith, refl)
      (λ x a. let (k, e, h) = numbered_from (suc n) xs x a in (suc k, omega arith, h))

  pub numbered_at : (xs : List A) → AllIn (numbered 0 xs) (λ x. get_elem? xs x.number ≡ some x.item)
  numbered_at xs x a = go (numbered_from 0 xs x a)
    where
      go : (k : ℕ) × (x.number ≡ 0 + k) × (get_elem? xs k ≡ some x.item) → get_elem? xs x.number ≡ some x.item
      go (k, e, h) = rw (e, zero-add k) h

  -- an item with its number is among those of a list with numbers
  numbered_among_from : (n : ℕ) (xs : List A) (k : ℕ) {x : A} → get_elem? xs k ≡ some x → Among (record { number = n + k; item = x }) (numbered n xs)
  unfolding numbered
  numbered_among_from n [] k h = absurd (none_some h)
  numbered_among_from n (y ∷ xs) zero {x} h =
      let e : y ≡ x = some_injective h in
      let d : n + 0 ≡ n = omega arith in
      rw (d, e) here
  numbered_among_from n (y ∷ xs) (suc k) {x} h =
      let d : n + suc k ≡ suc n + k = omega arith in
      rw d (there (numbered_among_from (suc n) xs k h))

  pub numbered_among : (xs : List A) (k : ℕ) {x : A} → get_elem? xs k ≡ some x → Among (record { number = k; item = x }) (numbered 0 xs)
  numbered_among xs k {x} h = subst (λ i. Among (record { number = i; item = x }) (numbered 0 xs)) (zero-add k) (numbered_among_from 0 xs k h)

  -- what a look-up finds stands in the list at its number
  pub look_up_at : (name_of : A → Name) (n : List ℕ) (xs : List A) {r : Indexed A} → look_up name_of n xs ≡ some r → get_elem? xs r.number ≡ some r.item
  unfolding look_up
  look_up_at name_of n [] {r} h = absurd (none-ne-some r h)
  look_up_at name_of n (x ∷ xs) {r} h = go (same_bytes n (name_of x).bytes) (look_up name_of n xs) (λ q e. look_up_at name_of n xs e) h
    where
      go : (b : Bool) (o : Option (Indexed A)) → ((q : Indexed A) → o ≡ some q → get_elem? xs q.number ≡ some q.item) → here_or_later b x o ≡ some r
          → get_elem? (x ∷ xs) r.number ≡ some r.item
      go true o later e =
          let i : ◌≡◌ {A = Indexed A} (record { number = 0; item = x }) r = cc in
          subst (λ (q : Indexed A). get_elem? (x ∷ xs) q.number ≡ some q.item) i refl
      go false none later e = absurd (none-ne-some r e)
      go false (some q) later e =
          let i : ◌≡◌ {A = Indexed A} (record { number = suc q.number; item = q.item }) r = cc in
          subst (λ (p : Indexed A). get_elem? (x ∷ xs) p.number ≡ some p.item) i (later q refl)

  pub among_at : {x : A} {xs : List A} → Among x xs → (k : ℕ) × (get_elem? xs k ≡ some x)
  among_at here = (0, refl)
  among_at (there a) = let (k, h) = among_at a in (suc k, h)

  pub at_among : (xs : List A) (k : ℕ) {x : A} → get_elem? xs k ≡ some x → Among x xs
  at_among [] k {x} h = absurd (none-ne-some x h)
  at_among (y ∷ xs) zero {x} h = let e : y ≡ x = cc in rw e here
  at_among (y ∷ xs) (suc k) h = there (at_among xs k h)

or_left : (b c : Bool) → T b → T (b || c)
or_left true c h = tt
or_left false c h = elim h [ ]

or_right : (b c : Bool) → T c → T (b || c)
or_right true c h = tt
or_right false c h = h

module _ {A : Type 0} where
  pub every_at : (test : A → Bool) (xs : List A) → T (every test xs) → AllIn xs (λ x. T (test x))
  unfolding every
  every_at test [] h x a = elim a [ ]
  every_at test (y ∷ xs) h _ here = and_l (test y) (every test xs) h
  every_at test (y ∷ xs) h x (there a) = every_at test xs (and_r (test y) (every test xs) h) x a

  pub some_at : (test : A → Bool) {x : A} {xs : List A} → Among x xs → T (test x) → T (one_passes test xs)
  unfolding one_passes
  some_at test {x} (here {xs = xs}) h = or_left (test x) (one_passes test xs) h
  some_at test (there {y = y} {xs = xs} a) h = or_right (test y) (one_passes test xs) (some_at test a h)

  -- where each item fails, every one fails its opposite
  pub every_not : (test : A → Bool) (xs : List A) → AllIn xs (λ x. test x ≡ false) → T (every (λ x. not (test x)) xs)
  unfolding every
  every_not test [] h = tt
  every_not test (x ∷ xs) h = rw (h x here) (every_not test xs (λ y a. h y (there a)))

  pub some_of : (test : A → Bool) (xs : List A) → T (one_passes test xs) → (x : A) × Among x xs × T (test x)
  unfolding one_passes
  some_of test [] h = absurd h
  some_of test (y ∷ xs) h = go (test y) refl (λ g. some_of test xs g) h
    where
      later : ((x : A) × Among x xs × T (test x)) → (x : A) × Among x (y ∷ xs) × T (test x)
      later (x, a, t) = (x, there a, t)

      go : (b : Bool) → test y ≡ b → (T (one_passes test xs) → (x : A) × Among x xs × T (test x)) → T (b || one_passes test xs)
          → (x : A) × Among x (y ∷ xs) × T (test x)
      go true e others h = (y, here, rw e tt)
      go false e others h = later (others h)

module _ {A B : Type 0} where
  pub among_map : (g : A → B) {x : A} {xs : List A} → Among x xs → Among (g x) (map g xs)
  among_map g here = here
  among_map g (there a) = there (among_map g a)

  pub all_in_map : (g : A → B) (xs : List A) (P : B → Type 0) → AllIn xs (λ x. P (g x)) → AllIn (map g xs) P
  all_in_map g [] P p = λ x a. elim a [ ]
  all_in_map g (x ∷ xs) P p = all_in_cons (g x) (map g xs) P (p x here) (all_in_map g xs P (λ y a. p y (there a)))

  pub all_in_flatMap : (g : A → List B) (xs : List A) (P : B → Type 0) → AllIn xs (λ x. AllIn (g x) P) → AllIn (flat_map g xs) P
  unfolding flat_map
  all_in_flatMap g [] P p = λ x a. elim a [ ]
  all_in_flatMap g (x ∷ xs) P p = all_in_append (g x) (flat_map g xs) P (p x here) (all_in_flatMap g xs P (λ y a. p y (there a)))

  pub among_flatMap : (g : A → List B) {x : A} {xs : List A} → Among x xs → (y : B) → Among y (g x) → Among y (flat_map g xs)
  unfolding flat_map
  among_flatMap g (here {xs = xs}) y a = among_left a (flat_map g xs)
  among_flatMap g (there {y = z} b) y a = among_right (g z) (among_flatMap g b y a)

  pub flatMap_same : (g h : A → List B) (xs : List A) → AllIn xs (λ x. g x ≡ h x) → flat_map g xs ≡ flat_map h xs
  unfolding flat_map
  flatMap_same g h [] p = refl
  flatMap_same g h (x ∷ xs) p = ap₂ ◌++◌ (p x here) (flatMap_same g h xs (λ y a. p y (there a)))
