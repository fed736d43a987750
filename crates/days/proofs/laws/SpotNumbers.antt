-- The cell that a chosen name means, by its number: what the look-ups say, the parts of the name, and that its member stands in the file.
use Prim.Native.Nat.{ℕ, ◌+◌, ◌-◌, ◌*◌, ◌≤◌, ◌<◌}
use native.Mathlib.Omega.{arith}
use mathlib.Core.Path.{◌≡◌, refl, sym, ap₂, ◌∙◌}
use mathlib.Core.Bool.{Bool, true, false}
use mathlib.Core.List.{List, [], ◌∷◌}
use mathlib.Core.Option.{Option, none, some}
use lib.Dec.{ltb}
use lib.ListN.{length, get_or, get_elem?}
use borrow.Author.Tests.{ltb-true, ltb-false}
use Rattle.text.specs.definitions.Syntax.{Member, Interface, Entity, File}
use Rattle.text.proofs.laws.ListLaws.{none_some}
use Rattle.checking.specs.definitions.Scope.{Indexed, entity_named, member_named}
use Rattle.checking.specs.inner_contracts.Directory.{Bench, entity_number, member_number}
use Rattle.checking.specs.inner_contracts.DirectoryReads.{Few, NumberOf, FewMembers}
use Rattle.checking.proofs.laws.DirectoryLaws.{number_below}
use Rattle.checking.proofs.laws.CalledLaws.{none_found, some_found}
use Rattle.cycles.specs.definitions.Spots.{Spot, spot_among, spot_of}
use Rattle.cycles.specs.definitions.Fields.{split}
use Rattle.cycles.specs.definitions.Planes.{entity_count}
use Rattle.cycles.specs.inner_contracts.FieldReads.{FieldStart}
use Rattle.cycles.proofs.laws.CellNumbers.{no_member_no_cell}
use Rattle.cycles.proofs.laws.CellTokenLaws.{few_within, entity_told}
use Rattle.cycles.proofs.laws.SpotLaws.{Stands, spot_stands}
use Rattle.cycles.proofs.laws.ColumnReadLaws.{named_none, named_some, owner_interface, more_parts}
use Rattle.days.specs.definitions.Chosen.{spot_of_entity, spot_named}
use Rattle.days.specs.inner_contracts.Choosing.{spot_number, number_if_spot, SpotRead}

-- ---- a name's member stands in the file

entity_spot_stands : (f : File) (o : Option (Indexed Entity)) (m : List ℕ) {p : Spot} → spot_of_entity f o m ≡ some p → Stands f p
unfolding spot_of_entity
entity_spot_stands f none m h = absurd (none_some h)
entity_spot_stands f (some e) m h = (spot_stands f e.number m h).1

pub named_stands : (f : File) (ps : List (List ℕ)) {p : Spot} → spot_named f ps ≡ some p → Stands f p
unfolding spot_named
named_stands f [] h = absurd (none_some h)
named_stands f (x ∷ []) h = absurd (none_some h)
named_stands f (x ∷ m ∷ []) h = entity_spot_stands f (entity_named f x) m h
named_stands f (x ∷ m ∷ y ∷ ys) h = absurd (none_some h)

module _ (f : File) (few : Few f) (p : Spot) (s : Stands f p) where
  pub spot_entity : p.entity < entity_count f
  spot_entity = let (x, q) = entity_told f p.entity p.member s in number_below f.entities p.entity q

  pub spot_member : p.member < 12
  spot_member = go (ltb p.member 12) refl
    where
      go : (t : Bool) → ltb p.member 12 ≡ t → p.member < 12
      go true e = ltb-true p.member 12 e
      go false e = absurd (none_some (sym (no_member_no_cell f p.entity p.member (few_within f few) (ltb-false p.member 12 e)) ∙ s))

  pub spot_below : spot_number p < 384
  unfolding spot_number
  spot_below = let a = spot_entity in let b = spot_member in let c = few.entities in omega arith

-- ---- by the names of an entity and a member

module _ (text offsets lengths d owner member : List ℕ) {e : ℕ}
    (n : NumberOf text offsets lengths d 32 (λ f. length f.entities ≤ 32) (λ f. entity_number f owner) e) where
  pub no_owner : e ≡ 32 → SpotRead text offsets lengths d (λ f. spot_of_entity f (entity_named f owner) member) 384
  unfolding spot_of_entity number_if_spot
  no_owner z = record { within = omega arith; is = λ classes w few. rw (named_none text classes offsets lengths d owner n w few z) }

  module _ (z : e ≡ 32 → ⊥) {face : ℕ} (p : face ≡ get_or d (323 + e) 0) {m : ℕ}
      (k : NumberOf text offsets lengths d 12 (FewMembers face) (λ f. member_number (get_elem? f.interfaces face) member) m) where
    -- the cell by the interface that stands at the entity's row
    by_face : (classes : List ℕ) (w : Bench text classes offsets lengths d) → Few w.file → {spot : ℕ}
        → ((i : ℕ) → e ≡ i → (o : Option Interface) → get_elem? w.file.interfaces face ≡ o → m ≡ member_number o member
        → spot ≡ number_if_spot (spot_among i o member))
        → spot ≡ number_if_spot (spot_of_entity w.file (entity_named w.file owner) member)
    unfolding spot_of_entity spot_of
    by_face classes w few {spot} h = go (named_some text classes offsets lengths d owner n w few z)
      where
        go : (r : Indexed Entity) × (entity_named w.file owner ≡ some r) × (e ≡ r.number)
            → spot ≡ number_if_spot (spot_of_entity w.file (entity_named w.file owner) member)
        go (r, q, g) =
            let o = owner_interface text classes offsets lengths d owner n member z p k w few r q g in
            rw (q, ← o) (h r.number g (get_elem? w.file.interfaces face) refl (k.is classes w (few.members face)))

    pub no_member : m ≡ 12 → SpotRead text offsets lengths d (λ f. spot_of_entity f (entity_named f owner) member) 384
    unfolding number_if_spot spot_among member_number member_named
    no_member y = record { within = omega arith; is = λ classes w few. by_face classes w few (λ i g. by_interface w.file few i) }
      where
        by_interface : (f : File) → Few f → (i : ℕ) (o : Option Interface) → get_elem? f.interfaces face ≡ o → m ≡ member_number o member
            → 384 ≡ number_if_spot (spot_among i o member)
        by_interface f few i none u v = refl
        by_interface f few i (some x) u v =
            rw (none_found (λ (j : Member). j.name) member x.members 12 (few.members face x u) (sym v ∙ y))

    pub member_read : (m ≡ 12 → ⊥) → SpotRead text offsets lengths d (λ f. spot_of_entity f (entity_named f owner) member) (e * 12 + m)
    unfolding number_if_spot spot_number spot_among member_number member_named
    member_read y =
        let a = n.within in
        let b = k.within in
        record { within = omega arith; is = λ classes w few. by_face classes w few (by_interface w.file few) }
      where
        by_interface : (f : File) → Few f → (i : ℕ) → e ≡ i → (o : Option Interface) → get_elem? f.interfaces face ≡ o
            → m ≡ member_number o member
            → e * 12 + m ≡ number_if_spot (spot_among i o member)
        by_interface f few i g none u v = absurd (y v)
        by_interface f few i g (some x) u v =
            let (r, c, j) = some_found (λ (j : Member). j.name) member x.members 12 (few.members face x u) m v y in
            rw c (ap₂ (λ (a b : ℕ). a * 12 + b) g j)

-- ---- by the parts of a name

module _ (text offsets lengths d l : List ℕ) where
  no_spot_read : ((f : File) → spot_named f (split 46 l) ≡ none) → SpotRead text offsets lengths d (λ f. spot_named f (split 46 l)) 384
  unfolding number_if_spot
  no_spot_read h = record { within = omega arith; is = λ classes w few. rw (h w.file) }

  pub one_part_read : split 46 l ≡ l ∷ [] → SpotRead text offsets lengths d (λ f. spot_named f (split 46 l)) 384
  unfolding spot_named
  one_part_read e = no_spot_read (λ f. rw e)

  pub many_parts_read : {last : ℕ} → FieldStart 46 l (length l) last → (last ≡ 0 → ⊥)
      → {first : ℕ} → FieldStart 46 l (last - 1) first → (first ≡ 0 → ⊥)
      → SpotRead text offsets lengths d (λ f. spot_named f (split 46 l)) 384
  unfolding spot_named
  many_parts_read s z t y = no_spot_read (λ f. more_parts l s z t (spot_named f) none (λ a b c ps. refl) y)

  pub parts_read : (owner member : List ℕ) {r : ℕ} → split 46 l ≡ owner ∷ member ∷ []
      → SpotRead text offsets lengths d (λ f. spot_of_entity f (entity_named f owner) member) r
      → SpotRead text offsets lengths d (λ f. spot_named f (split 46 l)) r
  unfolding spot_named
  parts_read owner member e h = record { within = h.within; is = λ classes w few. rw e (h.is classes w few) }
