-- What the bindings of a rule's variables give: entities of the variables' interfaces, so a name means only what it can be.
use Prim.Native.Nat.{ℕ, zero, suc}
use mathlib.Core.Path.{◌≡◌, refl, subst}
use mathlib.Core.Bool.{Bool, true, false, ◌&&◌}
use mathlib.Core.List.{List, [], ◌∷◌, map}
use mathlib.Core.Option.{Option, none, some, some-injective, none-ne-some}
use lib.Dec.{T, eqb, eqb→eq, eqb_refl}
use lib.ListN.{get_elem?}
use lib.Ieee.Fits.{and_r}
use Rattle.values.specs.definitions.Bytes.{same_bytes}
use Rattle.text.specs.definitions.Syntax.{Name, Member, Interface, Entity, Rule, File}
use Rattle.checking.specs.definitions.Scope.{Indexed, entity_named, member_named, interface_of, Variable, variables, variable_named}
use Rattle.cycles.specs.definitions.Store.{Store}
use Rattle.cycles.specs.definitions.Spots.{Spot, spot_at, spot_among, meant_by, meant, spot_if_meant, spots, numbered}
use Rattle.cycles.specs.definitions.Bindings.{number_if, candidates, bindings}
use Rattle.cycles.specs.definitions.ClosedSet.{Among, is_of, can_mean, can_be, names_in_rule, ReadsInside}
use Rattle.cycles.specs.inner_contracts.AllRules.{Binds}
use Rattle.cycles.proofs.laws.AmongLaws.{AllIn, all_in_cons, all_in_map, all_in_flatMap, numbered_at, look_up_at, at_among}

number_if_all : (b : Bool) (n : ℕ) (P : ℕ → Type 0) → (T b → P n) → AllIn (number_if b n) P
unfolding number_if
number_if_all true n P h = all_in_cons n [] P (h tt) (λ x a. elim a [ ])
number_if_all false n P h = λ x a. elim a [ ]

-- a candidate is of the interface
candidates_of : (f : File) (s : Store) (i : List ℕ) → AllIn (candidates f s i) (λ e. T (is_of f i e))
unfolding candidates is_of
candidates_of f s i =
    all_in_flatMap (λ e. number_if (s.present e.number && same_bytes e.item.interface.bytes i) e.number) (numbered 0 f.entities)
    (λ e. T (is_of f i e))
    (λ e a. number_if_all (s.present e.number && same_bytes e.item.interface.bytes i) e.number (λ n. T (is_of f i n))
    (λ t. rw (numbered_at f.entities e a) (and_r (s.present e.number) (same_bytes e.item.interface.bytes i) t)))

pub bindings_bind : (f : File) (s : Store) (vs : List Variable) → AllIn (bindings f s vs) (Binds f vs)
unfolding bindings
bindings_bind f s [] = all_in_cons [] [] (Binds f []) (λ k v e h g. absurd (none-ne-some v h)) (λ x a. elim a [ ])
bindings_bind f s (v ∷ vs) =
    all_in_flatMap (λ e. map (λ b. e ∷ b) (bindings f s vs)) (candidates f s v.interface.bytes) (Binds f (v ∷ vs))
    (λ e a. all_in_map (λ b. e ∷ b) (bindings f s vs) (Binds f (v ∷ vs))
    (λ b c. go e b (candidates_of f s v.interface.bytes e a) (bindings_bind f s vs b c)))
  where
    go : (e : ℕ) (b : List ℕ) → T (is_of f v.interface.bytes e) → Binds f vs b → Binds f (v ∷ vs) (e ∷ b)
    go e b t binds zero w n h g = let p : v ≡ w = cc in let q : e ≡ n = cc in rw (← p, ← q) t
    go e b t binds (suc k) w n h g = binds k w n h g

-- what a name means at a binding is one of what it can be
pub meant_can_be : (f : File) (vs : List Variable) (b : List ℕ) → Binds f vs b → (n : List ℕ) (e : ℕ) → meant f vs b n ≡ some e → T (can_be f vs n e)
unfolding meant can_be
meant_can_be f vs b binds n e h = go (entity_named f n) (variable_named vs n) (λ v p. look_up_at (λ v. v.name) n vs p) h
  where
    go : (o : Option (Indexed Entity)) (p : Option (Indexed Variable)) → ((v : Indexed Variable) → p ≡ some v → get_elem? vs v.number ≡ some v.item)
        → meant_by o p b ≡ some e → T (can_mean f o p e)
    go none none at g = absurd (none-ne-some e g)
    go none (some v) at g = binds v.number v.item e (at v refl) g
    go (some d) p at g = subst (λ n. T (eqb d.number n)) (some-injective d.number e g) (eqb_refl d.number)

-- what a name of a rule can be, in a set that the rule reads inside
pub can_be_inside : (f : File) (S : ℕ → Type 0) (r : Rule) → ReadsInside f S r → (n : Name) → Among n (names_in_rule r)
    → (e : ℕ) → T (can_be f (variables r) n.bytes e) → S e
unfolding can_be
can_be_inside f S r i n a e h =
    go (entity_named f n.bytes) (variable_named (variables r) n.bytes) refl (λ v p. look_up_at (λ v. v.name) n.bytes (variables r) p) h
  where
    go : (o : Option (Indexed Entity)) (p : Option (Indexed Variable)) → entity_named f n.bytes ≡ o
        → ((v : Indexed Variable) → p ≡ some v → get_elem? (variables r) v.number ≡ some v.item) → T (can_mean f o p e) → S e
    go none (some v) q at t = i.ranged v.item e (at_among (variables r) v.number (at v refl)) t
    go (some d) p q at t = subst S (eqb→eq d.number e t) (i.named n d a q)
    go none none q at t = elim t [ ]

-- where a spot was found: its entity has the property
abbrev pub SpotIn : (ℕ → Type 0) → Option Spot → Type 0
SpotIn P none = Unit {0}
SpotIn P (some p) = P p.entity

-- a spot that names lead to is of the entity that the first one means
pub spots_in : (f : File) (vs : List Variable) (b n m : List ℕ) (P : ℕ → Type 0) → ((e : ℕ) → meant f vs b n ≡ some e → P e) → SpotIn P (spots f vs b n m)
unfolding spots
spots_in f vs b n m P h = go (meant f vs b n) h
  where
    of_member : (e : ℕ) (o : Option (Indexed Member)) → P e → SpotIn P (spot_at e o)
    of_member e none p = tt
    of_member e (some x) p = p

    of_interface : (e : ℕ) (o : Option Interface) → P e → SpotIn P (spot_among e o m)
    of_interface e none p = tt
    of_interface e (some i) p = of_member e (member_named i m) p

    go : (o : Option ℕ) → ((e : ℕ) → o ≡ some e → P e) → SpotIn P (spot_if_meant f o m)
    go none g = tt
    go (some e) g = of_interface e (interface_of f e) (g e refl)
