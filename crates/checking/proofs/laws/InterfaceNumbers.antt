-- Interfaces by their numbers: a name has the number of a known interface exactly if it is that interface's name.
use Prim.Native.Nat.{ℕ, ◌≤◌}
use native.Mathlib.Omega.{arith}
use mathlib.Core.Path.{◌≡◌, refl, sym, ap, ◌∙◌}
use mathlib.Core.Bool.{Bool, true, false}
use mathlib.Core.List.{List}
use mathlib.Core.Option.{Option, none, some}
use lib.Dec.{eqb, eqb_refl}
use lib.Ieee.Bits.{is_true}
use lib.ListN.{length, get_elem?}
use borrow.Author.Tests.{ne_eqb}
use Rattle.values.specs.definitions.Bytes.{same_bytes}
use Rattle.text.specs.definitions.Syntax.{Name, Interface, File}
use Rattle.text.proofs.laws.ListLaws.{some_injective, none_some}
use Rattle.text.proofs.laws.SpotLaws.{stands_below}
use Rattle.checking.specs.definitions.Scope.{Indexed, look_up, item_of, interface_named}
use Rattle.checking.specs.inner_contracts.Directory.{number_or, interface_number}
use Rattle.checking.proofs.laws.LookUpLaws.{same_bytes_eq, same_bytes_refl, found_at, found_name}

module _ {A : Type 0} (name_of : A → Name) (xs : List A) where
  -- two names with the number of one item are the same
  same_number : (other : ℕ) → length xs ≤ other → (a b : List ℕ) {q : Indexed A} → look_up name_of b xs ≡ some q
      → number_or other (look_up name_of a xs) ≡ q.number → a ≡ b
  unfolding number_or
  same_number other most a b {q} h n = go (look_up name_of a xs) refl n
    where
      go : (o : Option (Indexed A)) → look_up name_of a xs ≡ o → number_or other o ≡ q.number → a ≡ b
      go none e n = absurd (omega (arith, stands_below xs q.number (found_at name_of b xs h)))
      go (some p) e n =
          let i : p.item ≡ q.item = some_injective (sym (found_at name_of a xs e) ∙ ap (get_elem? xs) n ∙ found_at name_of b xs h) in
          found_name name_of a xs e ∙ ap (λ x. (name_of x).bytes) i ∙ sym (found_name name_of b xs h)

-- the interface that a known one's name has the number of
pub same_interface : (f : File) → length f.interfaces ≤ 16 → (a b : List ℕ) {i : Interface} → interface_named f b ≡ some i
    → eqb (interface_number f a) (interface_number f b) ≡ same_bytes a b
unfolding interface_number interface_named number_or
same_interface f most a b {i} h = found (look_up (λ i. i.name) b f.interfaces) refl h
  where
    differ : (q : Indexed Interface) → look_up (λ i. i.name) b f.interfaces ≡ some q → same_bytes a b ≡ false
        → number_or 16 (look_up (λ i. i.name) a f.interfaces) ≡ q.number → ⊥
    differ q e s n =
        let p : a ≡ b = same_number (λ i. i.name) f.interfaces 16 most a b e n in
        let r : same_bytes a b ≡ true = rw p (same_bytes_refl b) in
        let z : ◌≡◌ {A = Bool} true false = sym r ∙ s in
        let y : ◌≡◌ {A = ℕ} 0 1 = cc in omega arith

    go : (q : Indexed Interface) → look_up (λ i. i.name) b f.interfaces ≡ some q → (t : Bool) → same_bytes a b ≡ t
        → eqb (number_or 16 (look_up (λ i. i.name) a f.interfaces)) q.number ≡ t
    go q e true s =
        let p : a ≡ b = same_bytes_eq a b (rw s tt) in
        rw (p, e) (is_true (eqb q.number q.number) (eqb_refl q.number))
    go q e false s = ne_eqb (number_or 16 (look_up (λ i. i.name) a f.interfaces)) q.number (differ q e s)

    found : (o : Option (Indexed Interface)) → look_up (λ i. i.name) b f.interfaces ≡ o → item_of o ≡ some i
        → eqb (number_or 16 (look_up (λ i. i.name) a f.interfaces)) (number_or 16 o) ≡ same_bytes a b
    found none e h = absurd (none_some h)
    found (some q) e h = go q e (same_bytes a b) refl
