-- What is found by its name: it is in the list, at its number, and bears the name; and whatever is in the list is found.
use Prim.Native.Nat.{ℕ, suc}
use mathlib.Core.Path.{◌≡◌, refl, ap₂, subst}
use mathlib.Core.Bool.{Bool, true, false, cond}
use mathlib.Core.List.{List, [], ◌∷◌, Memᴰ}
use mathlib.Core.Option.{Option, none, some}
use lib.Dec.{T, eqb, eqb→eq, eqb_refl}
use lib.Ieee.Bits.{is_true}
use lib.ListN.{get_elem?}
use Rattle.values.specs.definitions.Bytes.{same_bytes}
use Rattle.text.specs.definitions.Syntax.{Name, Member, Interface, Entity, File}
use Rattle.checking.specs.definitions.Scope.{Indexed, here_or_later, look_up, is_found, entity_named, member_named}
use Rattle.text.proofs.laws.ListLaws.{some_injective, none_some, number_member}

pub same_bytes_eq : (a b : List ℕ) → T (same_bytes a b) → a ≡ b
unfolding same_bytes
same_bytes_eq [] [] h = refl
same_bytes_eq (x ∷ xs) (y ∷ ys) h = go (eqb x y) refl (same_bytes_eq xs ys) h
  where
    go : (t : Bool) → eqb x y ≡ t → (T (same_bytes xs ys) → xs ≡ ys) → T (cond t (same_bytes xs ys) false) → (x ∷ xs) ≡ (y ∷ ys)
    go true e k h = ap₂ ◌∷◌ (eqb→eq x y (rw e tt)) (k h)
    go false e k h = elim h [ ]
same_bytes_eq [] (y ∷ ys) h = elim h [ ]
same_bytes_eq (x ∷ xs) [] h = elim h [ ]

pub same_bytes_refl : (a : List ℕ) → same_bytes a a ≡ true
unfolding same_bytes
same_bytes_refl [] = refl
same_bytes_refl (x ∷ xs) = rw (is_true (eqb x x) (eqb_refl x)) (same_bytes_refl xs)

-- where the test says so, something is found
pub found_some : {A : Type 0} (o : Option A) → T (is_found o) → (a : A) × (o ≡ some a)
unfolding is_found
found_some (some a) h = (a, refl)
found_some {A = A} none h = elim h [ ]

module _ {A : Type 0} (name_of : A → Name) where
  module _ (n : List ℕ) where
    pub found_at : (xs : List A) {r : Indexed A} → look_up name_of n xs ≡ some r → get_elem? xs r.number ≡ some r.item
    unfolding look_up
    found_at [] h = absurd (none_some h)
    found_at (x ∷ xs) {r} h = go (same_bytes n (name_of x).bytes) (look_up name_of n xs) (λ q e. found_at xs e) h
      where
        go : (b : Bool) (o : Option (Indexed A)) → ((q : Indexed A) → o ≡ some q → get_elem? xs q.number ≡ some q.item) → here_or_later b x o ≡ some r
            → get_elem? (x ∷ xs) r.number ≡ some r.item
        go true o k e = subst (λ (q : Indexed A). get_elem? (x ∷ xs) q.number ≡ some q.item) (some_injective e) refl
        go false none k e = absurd (none_some e)
        go false (some q) k e = subst (λ (q : Indexed A). get_elem? (x ∷ xs) q.number ≡ some q.item) (some_injective e) (k q refl)

    pub found_name : (xs : List A) {r : Indexed A} → look_up name_of n xs ≡ some r → n ≡ (name_of r.item).bytes
    unfolding look_up
    found_name [] h = absurd (none_some h)
    found_name (x ∷ xs) {r} h = go (same_bytes n (name_of x).bytes) refl (look_up name_of n xs) (λ q e. found_name xs e) h
      where
        go : (b : Bool) → same_bytes n (name_of x).bytes ≡ b → (o : Option (Indexed A)) → ((q : Indexed A) → o ≡ some q → n ≡ (name_of q.item).bytes)
            → here_or_later b x o ≡ some r → n ≡ (name_of r.item).bytes
        go true s o k e = subst (λ (q : Indexed A). n ≡ (name_of q.item).bytes) (some_injective e) (same_bytes_eq n (name_of x).bytes (rw s tt))
        go false s none k e = absurd (none_some e)
        go false s (some q) k e = subst (λ (q : Indexed A). n ≡ (name_of q.item).bytes) (some_injective e) (k q refl)

    pub found_member : (xs : List A) {r : Indexed A} → look_up name_of n xs ≡ some r → Memᴰ r.item xs
    found_member xs {r} h = number_member xs r.number (found_at xs h)

  pub member_found : (xs : List A) {x : A} → Memᴰ x xs → (r : Indexed A) × (look_up name_of (name_of x).bytes xs ≡ some r)
  unfolding look_up
  member_found (y ∷ ys) {x} (Memᴰ.head e) = (record { number = 0; item = y }, rw (e, same_bytes_refl (name_of y).bytes))
  member_found (y ∷ ys) {x} (Memᴰ.tail m) = go (same_bytes (name_of x).bytes (name_of y).bytes) (member_found ys m)
    where
      go : (b : Bool) → (r : Indexed A) × (look_up name_of (name_of x).bytes ys ≡ some r)
          → (r : Indexed A) × (here_or_later b y (look_up name_of (name_of x).bytes ys) ≡ some r)
      go true r = (record { number = 0; item = y }, refl)
      go false (r, e) = (record { number = suc r.number; item = r.item }, rw e)
  member_found [] {x = x} x3 = elim x3 [ ]

pub entity_found : (f : File) (n : List ℕ) {e : Indexed Entity} → entity_named f n ≡ some e → get_elem? f.entities e.number ≡ some e.item
unfolding entity_named
entity_found f n h = found_at (λ (e : Entity). e.name) n f.entities h

pub member_inside : (i : Interface) (n : List ℕ) {r : Indexed Member} → member_named i n ≡ some r → Memᴰ r.item i.members
unfolding member_named
member_inside i n h = found_member (λ (m : Member). m.name) n i.members h
