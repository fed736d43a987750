-- Names, the known senders, their places, and what is kept after an entry is put in its place.
use Prim.Native.Nat.{ℕ, suc, ◌≤◌, ◌<◌}
use native.Mathlib.Omega.{arith}
use mathlib.Core.Path.{◌≡◌, refl, sym, ap, ◌∙◌, subst}
use mathlib.Core.Bool.{Bool, true, false, cond, ◌&&◌, ◌||◌, false≢true}
use mathlib.Core.List.{List, [], ◌∷◌, ◌++◌}
use mathlib.Core.Option.{Option, none, some, get_or}
use lib.Dec.{T, leb, ltb, eqb, leb→le}
use lib.Ieee.Fits.{and_l, and_r}
use lib.ListN.{length, take, drop, get_elem?, length-append, length-take, length-drop}
use borrow.Author.Tests.{ltb-true, ltb-false, lt-ltb, le-ltb, eqb-true}
use Rattle.values.specs.definitions.Bytes.{same_bytes}
use Rattle.values.proofs.laws.ByteLaws.{same_bytes_self, same_bytes_equal}
use Rattle.text.specs.definitions.Bytes.{is_name_byte}
use Rattle.text.proofs.laws.ListLaws.{none_some, some_injective}
use Rattle.checking.specs.definitions.Scope.{is_found}
use Rattle.cycles.specs.definitions.Spots.{every}
use Rattle.cycles.specs.definitions.Fields.{has_byte}
use Rattle.senders.specs.definitions.Sender.{
  Sender,
  MOST_NAME_BYTES,
  starts_with_letter,
  is_sender,
  sender_named,
  is_known_sender,
  unknown,
  kept,
  with_sender,
  MOST_SENDERS,
  has_place,
}
use Rattle.senders.specs.inner_contracts.SenderMemory.{place}

-- ---- names of the same bytes

module _ (a b : List ℕ) where
  pub other_bytes : same_bytes a b ≡ false → a ≡ b → ⊥
  other_bytes h e = false≢true (sym h ∙ ap (λ (c : List ℕ). same_bytes c b) e ∙ same_bytes_self b)

  pub bytes_differ : (a ≡ b → ⊥) → same_bytes a b ≡ false
  bytes_differ h = go (same_bytes a b) refl
    where
      go : (t : Bool) → same_bytes a b ≡ t → same_bytes a b ≡ false
      go true e = absurd (h (same_bytes_equal a b e))
      go false e = e

pub same_bytes_turned : (a b : List ℕ) → same_bytes a b ≡ same_bytes b a
same_bytes_turned a b = go (same_bytes a b) refl
  where
    go : (t : Bool) → same_bytes a b ≡ t → same_bytes a b ≡ same_bytes b a
    go true e = ap (λ (c : List ℕ). same_bytes a c) (sym (same_bytes_equal a b e)) ∙ ap (λ (c : List ℕ). same_bytes c a) (same_bytes_equal a b e)
    go false e = e ∙ sym (bytes_differ b a (λ q. other_bytes a b e (sym q)))

-- ---- a name's form

module _ (x : List ℕ) (h : T (is_sender x)) where
  pub name_short : length x ≤ MOST_NAME_BYTES
  unfolding is_sender
  name_short =
      leb→le (length x) MOST_NAME_BYTES
      (and_r (every is_name_byte x) (leb (length x) MOST_NAME_BYTES)
      (and_r (starts_with_letter x) (every is_name_byte x && leb (length x) MOST_NAME_BYTES) h))

  pub name_of_bytes : T (every is_name_byte x)
  unfolding is_sender
  name_of_bytes =
      and_l (every is_name_byte x) (leb (length x) MOST_NAME_BYTES)
      (and_r (starts_with_letter x) (every is_name_byte x && leb (length x) MOST_NAME_BYTES) h)

space_apart : (b : ℕ) → T (is_name_byte b) → b ≡ 32 → ⊥
unfolding is_name_byte
space_apart b h e = rw e at h

no_space_among : (x : List ℕ) → T (every is_name_byte x) → has_byte 32 x ≡ false
unfolding has_byte every
no_space_among [] h = refl
no_space_among (b ∷ bs) h =
    go (eqb b 32) refl (space_apart b (and_l (is_name_byte b) (every is_name_byte bs) h)) (no_space_among bs (and_r (is_name_byte b) (every is_name_byte bs) h))
  where
    go : (t : Bool) → eqb b 32 ≡ t → (b ≡ 32 → ⊥) → has_byte 32 bs ≡ false → cond t true (has_byte 32 bs) ≡ false
    go true e n later = absurd (n (eqb-true b 32 e))
    go false e n later = later

-- a name has no space
pub no_space : (x : List ℕ) → T (is_sender x) → has_byte 32 x ≡ false
no_space x h = no_space_among x (name_of_bytes x h)

-- ---- the known senders

named_name : (n : List ℕ) (xs : List Sender) {x : Sender} → sender_named n xs ≡ some x → x.name ≡ n
unfolding sender_named
named_name n [] e = absurd (none_some e)
named_name n (y ∷ ys) {x} e = go (same_bytes n y.name) refl e (named_name n ys)
  where
    go : (t : Bool) → same_bytes n y.name ≡ t → cond t (some y) (sender_named n ys) ≡ some x → (sender_named n ys ≡ some x → x.name ≡ n) → x.name ≡ n
    go true p q later = ap (λ (x : Sender). x.name) (sym (some_injective q)) ∙ sym (same_bytes_equal n y.name p)
    go false p q later = later q

module _ (n : List ℕ) (xs : List Sender) where
  pub named_known : {x : Sender} → sender_named n xs ≡ some x → is_known_sender n xs ≡ true
  unfolding is_known_sender is_found
  named_known e = rw e

  pub named_kept : {x : Sender} → sender_named n xs ≡ some x → kept n xs ≡ x
  unfolding kept
  named_kept e = rw e

  pub known_named : is_known_sender n xs ≡ true → sender_named n xs ≡ some (kept n xs)
  unfolding is_known_sender is_found kept
  known_named h = go (sender_named n xs) refl
    where
      go : (o : Option Sender) → sender_named n xs ≡ o → o ≡ some (get_or o (unknown n))
      go none e = absurd (false≢true (rw e at h))
      go (some x) e = refl

  pub unknown_unnamed : is_known_sender n xs ≡ false → sender_named n xs ≡ none
  unfolding is_known_sender is_found
  unknown_unnamed h = go (sender_named n xs) refl
    where
      go : (o : Option Sender) → sender_named n xs ≡ o → o ≡ none
      go none e = refl
      go (some x) e = absurd (false≢true (sym (rw e at h)))

  pub kept_unknown : is_known_sender n xs ≡ false → kept n xs ≡ unknown n
  unfolding kept
  kept_unknown h = rw (unknown_unnamed h)

  -- what is known has its own name
  pub kept_name : (kept n xs).name ≡ n
  unfolding unknown
  kept_name = go (is_known_sender n xs) refl
    where
      go : (t : Bool) → is_known_sender n xs ≡ t → (kept n xs).name ≡ n
      go true e = named_name n xs (known_named e)
      go false e = ap (λ (x : Sender). x.name) (kept_unknown e)

-- ---- places

less_by_one : (a b : ℕ) → ltb a b ≡ ltb (suc a) (suc b)
less_by_one a b = go (ltb a b) refl
  where
    go : (t : Bool) → ltb a b ≡ t → t ≡ ltb (suc a) (suc b)
    go true e = let h = ltb-true a b e in sym (lt-ltb (suc a) (suc b) (omega arith))
    go false e = let h = ltb-false a b e in sym (le-ltb (suc a) (suc b) (omega arith))

module _ (n : List ℕ) where
  pub place_within : (xs : List Sender) → place n xs ≤ length xs
  unfolding place
  place_within [] = omega arith
  place_within (x ∷ xs) = go (same_bytes n x.name) (place_within xs)
    where
      go : (t : Bool) → place n xs ≤ length xs → cond t 0 (suc (place n xs)) ≤ suc (length xs)
      go true h = omega arith
      go false h = omega arith

  pub place_below : (xs : List Sender) → is_known_sender n xs ≡ ltb (place n xs) (length xs)
  unfolding place is_known_sender is_found sender_named
  place_below [] = refl
  place_below (x ∷ xs) = go (same_bytes n x.name) (place_below xs)
    where
      go : (t : Bool) → is_found (sender_named n xs) ≡ ltb (place n xs) (length xs)
          → is_found (cond t (some x) (sender_named n xs)) ≡ ltb (cond t 0 (suc (place n xs))) (suc (length xs))
      go true h = sym (lt-ltb 0 (suc (length xs)) (omega arith))
      go false h = h ∙ less_by_one (place n xs) (length xs)

  pub known_below : (xs : List Sender) → is_known_sender n xs ≡ true → place n xs < length xs
  known_below xs h = ltb-true (place n xs) (length xs) (sym (place_below xs) ∙ h)

  pub below_known : (xs : List Sender) → place n xs < length xs → is_known_sender n xs ≡ true
  below_known xs h = place_below xs ∙ lt-ltb (place n xs) (length xs) h

  pub unknown_last : (xs : List Sender) → is_known_sender n xs ≡ false → place n xs ≡ length xs
  unknown_last xs h =
      let a = place_within xs in
      let b = ltb-false (place n xs) (length xs) (sym (place_below xs) ∙ h) in
      omega arith

  pub last_unknown : (xs : List Sender) → length xs ≤ place n xs → is_known_sender n xs ≡ false
  last_unknown xs h = place_below xs ∙ le-ltb (place n xs) (length xs) h

  named_there : (xs : List Sender) → get_elem? xs (place n xs) ≡ sender_named n xs
  unfolding place sender_named
  named_there [] = refl
  named_there (x ∷ xs) = go (same_bytes n x.name) (named_there xs)
    where
      go : (t : Bool) → get_elem? xs (place n xs) ≡ sender_named n xs → get_elem? (x ∷ xs) (cond t 0 (suc (place n xs))) ≡ cond t (some x) (sender_named n xs)
      go true h = refl
      go false h = h

  pub kept_there : (xs : List Sender) → is_known_sender n xs ≡ true → get_elem? xs (place n xs) ≡ some (kept n xs)
  kept_there xs h = named_there xs ∙ known_named n xs h

  -- a sender is known, or there is a place for it
  pub room_below : (xs : List Sender) → length xs ≤ MOST_SENDERS → has_place n xs ≡ ltb (place n xs) MOST_SENDERS
  unfolding has_place
  room_below xs h = go (is_known_sender n xs) refl
    where
      go : (t : Bool) → is_known_sender n xs ≡ t → (t || ltb (length xs) MOST_SENDERS) ≡ ltb (place n xs) MOST_SENDERS
      go true e = let b = known_below xs e in sym (lt-ltb (place n xs) MOST_SENDERS (omega arith))
      go false e = ap (λ (k : ℕ). ltb k MOST_SENDERS) (sym (unknown_last xs e))

-- ---- an entry in its sender's place

module _ (x : Sender) where
  -- those before it, the entry, those after it
  pub with_sender_parts : (xs : List Sender) → with_sender x xs ≡ take (place x.name xs) xs ++ x ∷ drop (suc (place x.name xs)) xs
  unfolding with_sender place
  with_sender_parts [] = refl
  with_sender_parts (y ∷ ys) = go (same_bytes x.name y.name) (with_sender_parts ys)
    where
      j : ℕ
      j = place x.name ys

      go : (t : Bool) → with_sender x ys ≡ take j ys ++ x ∷ drop (suc j) ys
          → cond t (x ∷ ys) (y ∷ with_sender x ys) ≡ take (cond t 0 (suc j)) (y ∷ ys) ++ x ∷ drop (suc (cond t 0 (suc j))) (y ∷ ys)
      go true h = refl
      go false h = ap (λ (l : List Sender). y ∷ l) h

  pub with_known_length : (xs : List Sender) → is_known_sender x.name xs ≡ true → length (with_sender x xs) ≡ length xs
  with_known_length xs h =
      let b = known_below x.name xs h in
      ap length (with_sender_parts xs) ∙ simp (length-append, length-take, length-drop) (omega arith)

  pub with_new_length : (xs : List Sender) → is_known_sender x.name xs ≡ false → length (with_sender x xs) ≡ suc (length xs)
  with_new_length xs h =
      let b = unknown_last x.name xs h in
      ap length (with_sender_parts xs) ∙ simp (length-append, length-take, length-drop) (omega arith)

  pub named_self : (xs : List Sender) → sender_named x.name (with_sender x xs) ≡ some x
  unfolding sender_named with_sender
  named_self [] = rw (same_bytes_self x.name)
  named_self (y ∷ ys) = go (same_bytes x.name y.name) refl (named_self ys)
    where
      go : (t : Bool) → same_bytes x.name y.name ≡ t → sender_named x.name (with_sender x ys) ≡ some x
          → sender_named x.name (cond t (x ∷ ys) (y ∷ with_sender x ys)) ≡ some x
      go true e later = rw (same_bytes_self x.name)
      go false e later = rw e later

  pub known_self : (xs : List Sender) → is_known_sender x.name (with_sender x xs) ≡ true
  known_self xs = named_known x.name (with_sender x xs) (named_self xs)

  pub kept_self : (xs : List Sender) → kept x.name (with_sender x xs) ≡ x
  kept_self xs = named_kept x.name (with_sender x xs) (named_self xs)

  pub place_self : (xs : List Sender) → place x.name (with_sender x xs) ≡ place x.name xs
  unfolding place with_sender
  place_self [] = rw (same_bytes_self x.name)
  place_self (y ∷ ys) = go (same_bytes x.name y.name) refl (place_self ys)
    where
      go : (t : Bool) → same_bytes x.name y.name ≡ t → place x.name (with_sender x ys) ≡ place x.name ys
          → place x.name (cond t (x ∷ ys) (y ∷ with_sender x ys)) ≡ cond t 0 (suc (place x.name ys))
      go true e later = rw (same_bytes_self x.name)
      go false e later = rw e (ap suc later)

  pub there_self : (xs : List Sender) → get_elem? (with_sender x xs) (place x.name xs) ≡ some x
  there_self xs =
      ap (get_elem? (with_sender x xs)) (sym (place_self xs)) ∙ named_there x.name (with_sender x xs) ∙ named_self xs

-- the other senders

module _ (n : List ℕ) (x : Sender) where
  pub named_other : (xs : List Sender) → same_bytes n x.name ≡ false → sender_named n (with_sender x xs) ≡ sender_named n xs
  unfolding sender_named with_sender
  named_other [] h = rw h
  named_other (y ∷ ys) h = go (same_bytes x.name y.name) refl (named_other ys h)
    where
      go : (t : Bool) → same_bytes x.name y.name ≡ t → sender_named n (with_sender x ys) ≡ sender_named n ys
          → sender_named n (cond t (x ∷ ys) (y ∷ with_sender x ys)) ≡ cond (same_bytes n y.name) (some y) (sender_named n ys)
      go true e later = rw (← same_bytes_equal x.name y.name e, h)
      go false e later = ap (λ (o : Option Sender). cond (same_bytes n y.name) (some y) o) later

  module _ (xs : List Sender) (h : same_bytes n x.name ≡ false) where
    pub known_other : is_known_sender n (with_sender x xs) ≡ is_known_sender n xs
    unfolding is_known_sender
    known_other = ap is_found (named_other xs h)

    pub kept_other : kept n (with_sender x xs) ≡ kept n xs
    unfolding kept
    kept_other = rw (named_other xs h)

  -- a property of what is kept of each name
  pub kept_cases : (P : Sender → Type 0) (xs : List Sender) → (n ≡ x.name → P x) → (same_bytes n x.name ≡ false → P (kept n xs))
      → P (kept n (with_sender x xs))
  kept_cases P xs h g = go (same_bytes n x.name) refl
    where
      go : (t : Bool) → same_bytes n x.name ≡ t → P (kept n (with_sender x xs))
      go true e =
          let q = same_bytes_equal n x.name e in
          subst (λ (m : List ℕ). P (kept m (with_sender x xs))) (sym q) (subst P (sym (kept_self x xs)) (h q))
      go false e = subst P (sym (kept_other xs e)) (g e)
