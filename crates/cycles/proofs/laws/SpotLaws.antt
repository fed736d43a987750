-- Spots: the cell that a known member's name stands for, and that a sound store holds a value of its kind there.
use Prim.Native.Nat.{ℕ}
use mathlib.Core.Path.{◌≡◌, refl, subst}
use mathlib.Core.List.Memᴰ
use mathlib.Core.List.{List, Memᴰ}
use mathlib.Core.Option.{Option, none, some}
use lib.Dec.{T}
use lib.ListN.{get_elem?}
use Rattle.values.specs.declared.Kind.{Kind}
use Rattle.values.specs.definitions.Storable.{storable}
use Rattle.values.proofs.laws.StorableLaws.{test_storable}
use Rattle.text.specs.definitions.Syntax.{Name, Member, Interface, Entity, File}
use Rattle.checking.specs.definitions.Scope.{Indexed, member_named, interface_of, nth_member, member_of, Scope, interface_in, is_member}
use Rattle.checking.specs.definitions.KindFaults.{kind_if_found, member_kind, kind_in}
use Rattle.text.proofs.laws.ListLaws.{some_injective, none_some, member_flatMap}
use Rattle.checking.proofs.laws.LookUpLaws.{found_at}
use Rattle.checking.proofs.laws.CheckedExpressions.{KnownMember}
use Rattle.cycles.specs.definitions.Store.{Store}
use Rattle.cycles.specs.definitions.Spots.{Spot, Spots, spot_at, spot_among, spot_of, numbered, members_of, entity_cells, cells}
use Rattle.cycles.specs.definitions.Reference.{read_spot}
use Rattle.cycles.specs.definitions.SoundStores.{SoundStore}
use Rattle.cycles.proofs.laws.AmongLaws.{numbered_at}
use Rattle.cycles.proofs.laws.WalkLaws.{member_among}

-- a spot's member stands at its numbers
abbrev pub Stands : File → Spot → Type 0
Stands f p = member_of f p.entity p.member ≡ some p.what

pub read_storable : (f : File) (s : Store) → SoundStore f s → (p : Spot) → Stands f p → T (storable p.what.kind (read_spot s p))
unfolding read_spot
read_storable f s h p q =
    test_storable p.what.kind (s.present p.entity) (s.cell p.entity p.member) (λ e. h.of_kind p.entity p.member p.what q)

-- ---- by names

abbrev pub found_spot : ℕ → Indexed Member → Spot
found_spot e r = record { entity = e; member = r.number; what = r.item }

-- a member that an entity's interface has by that name
pub entity_spot : (f : File) (e : ℕ) (m : List ℕ) {i : Interface} {r : Indexed Member} → interface_of f e ≡ some i → member_named i m ≡ some r
    → (spot_of f e m ≡ some (found_spot e r)) × Stands f (found_spot e r)
unfolding spot_of member_of
entity_spot f e m {i} {r} h g = (rw (h, g), rw h (found_at (λ (m : Member). m.name) m i.members g))

-- and the other way round
pub spot_stands : (f : File) (e : ℕ) (m : List ℕ) {p : Spot} → spot_of f e m ≡ some p → (p.entity ≡ e) × Stands f p
unfolding spot_of
spot_stands f e m {p} h = by_interface (interface_of f e) refl h
  where
    by_member : (i : Interface) → interface_of f e ≡ some i → (o : Option (Indexed Member)) → member_named i m ≡ o → spot_at e o ≡ some p
        → (p.entity ≡ e) × Stands f p
    by_member i q none g h = absurd (none_some h)
    by_member i q (some r) g h = subst (λ (p : Spot). (p.entity ≡ e) × Stands f p) (some_injective h) (refl, (entity_spot f e m q g).1)

    by_interface : (o : Option Interface) → interface_of f e ≡ o → spot_among e o m ≡ some p → (p.entity ≡ e) × Stands f p
    by_interface none q h = absurd (none_some h)
    by_interface (some i) q h = by_member i q (member_named i m) refl h

-- ---- one after another

pub cell_stands : (f : File) (p : Spot) → Memᴰ p (cells f) → Stands f p
unfolding cells member_of
cell_stands f p m =
    let (e, n, d) = member_flatMap (λ (e : Indexed Entity). entity_cells f e.number) (numbered 0 f.entities) m in
    let (r, k, q) = Memᴰ.of_map (found_spot e.number) (numbered 0 (members_of (interface_of f e.number))) d in
    subst (Stands f) q (go (interface_of f e.number) r (numbered_at (members_of (interface_of f e.number)) r (member_among k)))
  where
    go : (o : Option Interface) (r : Indexed Member) → get_elem? (members_of o) r.number ≡ some r.item → nth_member o r.number ≡ some r.item
    go none r h = h
    go (some i) r h = h

-- ---- in a rule

-- the names that the checks know stand for entities of the interface that they know
pub record Resolves (f : File) (s : Scope) (sp : Spots) : Type 0 where
  pub resolve : (n m : List ℕ) (i : Interface) (r : Indexed Member) → interface_in s n ≡ some i → member_named i m ≡ some r
      → (e : ℕ) × (sp n m ≡ some (found_spot e r)) × Stands f (found_spot e r)

pub kind_known : (s : Scope) (n m : Name) {k : Kind} → kind_in s n m ≡ some k
    → (c : KnownMember s is_member n.bytes m.bytes) × (c.found.item.kind ≡ k)
unfolding kind_in is_member
kind_known s n m {k} h = by_interface (interface_in s n.bytes) refl h
  where
    by_member : (i : Interface) → interface_in s n.bytes ≡ some i → (o : Option (Indexed Member)) → member_named i m.bytes ≡ o → kind_if_found o ≡ some k
        → (c : KnownMember s is_member n.bytes m.bytes) × (c.found.item.kind ≡ k)
    by_member i q none g h = absurd (none_some h)
    by_member i q (some r) g h = (record { interface = i; found = r; of_interface = q; named = g; of_sort = tt }, some_injective h)

    by_interface : (o : Option Interface) → interface_in s n.bytes ≡ o → member_kind o m ≡ some k
        → (c : KnownMember s is_member n.bytes m.bytes) × (c.found.item.kind ≡ k)
    by_interface none q h = absurd (none_some h)
    by_interface (some i) q h = by_member i q (member_named i m.bytes) refl h
