-- The fresh state of a known file: the reference machine runs to it; with literals that are set it is sound.
use Prim.Native.Nat.{ℕ}
use mathlib.Core.Path.{◌≡◌, refl, sym, ap, ◌∙◌, subst}
use mathlib.Core.Bool.{Bool, true, false, cond, false≢true}
use mathlib.Core.List.{Memᴰ}
use mathlib.Core.Option.{Option, none, some}
use lib.Dec.{T}
use lib.Ieee.Bits.{is_true}
use lib.Ieee.Fits.{and_i}
use lib.ListN.{get_elem?}
use Rattle.values.specs.declared.Value.TheVariants.{Unset}
use Rattle.values.specs.declared.Kind.{Kind}
use Rattle.values.specs.definitions.Value.{is_set}
use Rattle.values.specs.definitions.Storable.{of_kind, storable}
use Rattle.values.proofs.laws.StorableLaws.{unset_storable, storable_of_kind}
use Rattle.text.specs.definitions.Syntax.{Member, Interface, literal_kind, literal_value, Assignment, Entity, File}
use Rattle.text.proofs.laws.ListLaws.{some_injective, none_some, All, number_member}
use Rattle.text.proofs.laws.NumberLaws.{SmallAssignments}
use Rattle.text.proofs.laws.LiteralLaws.{literal_storable, literal_set}
use Rattle.checking.specs.definitions.Scope.{Indexed, look_up, interface_named, member_named, member_of, is_attribute}
use Rattle.checking.proofs.laws.LookUpLaws.{found_name, found_member}
use Rattle.checking.proofs.laws.AcceptedLaws.{named_interface}
use Rattle.checking.proofs.laws.CheckedFile.{KnownAssignment, KnownEntity, KnownFile}
use Rattle.cycles.specs.definitions.Outcome.{running}
use Rattle.cycles.specs.definitions.Spots.{every}
use Rattle.cycles.specs.definitions.Cycle.{assigned, initial_value, fresh_stores, assignment_fits, assignments_fit, ref_fresh_stores}
use Rattle.cycles.specs.definitions.SoundStores.{SoundStore, SoundStores}
use Rattle.cycles.proofs.laws.WalkLaws.{every_passes}

-- the members of an entity are those of its interface
member_in : (f : File) (e m : ℕ) {x : Member} {y : Entity} → get_elem? f.entities e ≡ some y → (k : KnownEntity f y) → member_of f e m ≡ some x
    → Memᴰ x k.interface.members
unfolding member_of
member_in f e m g k h = number_member k.interface.members m (rw (g, k.named) at h)

no_entity_member : (f : File) (e m : ℕ) → get_elem? f.entities e ≡ none → member_of f e m ≡ none
unfolding member_of
no_entity_member f e m g = rw g

module _ (f : File) (known : KnownFile f) (small : All SmallAssignments f.entities) where
  -- an attribute's assignment is of its kind, and set
  assigned_sound : (e m : ℕ) (x : Member) → member_of f e m ≡ some x → T (is_attribute x.sort) → (y : Entity) → get_elem? f.entities e ≡ some y
      → T (storable x.kind (assigned (look_up (λ (a : Assignment). a.name) x.name.bytes y.assignments)))
      × T (is_set (assigned (look_up (λ (a : Assignment). a.name) x.name.bytes y.assignments)))
  unfolding assigned
  assigned_sound e m x h t y g =
      let inside = number_member f.entities e g in
      let k = known.entity y inside in
      let n = member_in f e m g k h in
      let (r, l) = k.assigned x n t in
      let a = found_member (λ (a : Assignment). a.name) x.name.bytes y.assignments l in
      let c = k.assignment r.item a in
      let (q, w, o) = known.interface k.interface (named_interface f y.interface.bytes k.named) x n in
      let s = found_name (λ (a : Assignment). a.name) x.name.bytes y.assignments l in
      let z : c.found ≡ q = some_injective (sym c.named ∙ ap (member_named k.interface) (sym s) ∙ w) in
      let j : literal_kind r.item.literal ≡ x.kind = c.kind ∙ ap (λ (u : Indexed Member). u.item.kind) z ∙ ap (λ (u : Member). u.kind) o in (
        rw l (subst (λ (u : Kind). T (storable u (literal_value r.item.literal))) j (literal_storable r.item.literal)),
        rw l (literal_set r.item.literal (small y inside r.item a)),
      )

  fresh_cell : (e m : ℕ) (x : Member) → member_of f e m ≡ some x → T (storable x.kind ((fresh_stores f).now.cell e m))
  unfolding fresh_stores
  fresh_cell e m x h = by_entity (get_elem? f.entities e) refl
    where
      by_sort : (y : Entity) → get_elem? f.entities e ≡ some y → (b : Bool) → (T b → T (is_attribute x.sort))
          → T (storable x.kind (cond b (assigned (look_up (λ (a : Assignment). a.name) x.name.bytes y.assignments)) Unset))
      by_sort y g true k = (assigned_sound e m x h (k tt) y g).0
      by_sort y g false k = unset_storable x.kind

      by_entity : (o : Option Entity) → get_elem? f.entities e ≡ o → T (storable x.kind (initial_value o (member_of f e m)))
      by_entity none g = unset_storable x.kind
      by_entity (some y) g = rw h (by_sort y g (is_attribute x.sort) (λ t. t))

  fresh_attribute : (e m : ℕ) (x : Member) → member_of f e m ≡ some x → T (is_attribute x.sort) → T (is_set ((fresh_stores f).now.cell e m))
  unfolding fresh_stores
  fresh_attribute e m x h t = by_entity (get_elem? f.entities e) refl
    where
      by_entity : (o : Option Entity) → get_elem? f.entities e ≡ o → T (is_set (initial_value o (member_of f e m)))
      by_entity none g = absurd (none_some (sym (no_entity_member f e m g) ∙ h))
      by_entity (some y) g = rw (h, is_true (is_attribute x.sort) t) (assigned_sound e m x h t y g).1

no_member : (o : Option Entity) → initial_value o none ≡ Unset
unfolding initial_value
no_member none = refl
no_member (some y) = refl

empty_sound : (f : File) → SoundStore f (record { present = λ e. false; cell = λ e m. Unset })
empty_sound f = record { of_kind = λ e m x q. unset_storable x.kind; no_cell = λ e m q. refl; no_entity = λ e q. refl }

pub known_fresh_sound : (f : File) → KnownFile f → All SmallAssignments f.entities → SoundStores f (fresh_stores f)
unfolding fresh_stores
known_fresh_sound f known small = record {
  now = record {
    of_kind = fresh_cell f known small;
    no_cell = λ e m q. rw q (no_member (get_elem? f.entities e));
    no_entity = λ e q. rw q;
  };
  previous = empty_sound f;
  attributes = fresh_attribute f known small;
  attributes_before = λ e m x q t p. absurd (false≢true p);
}

-- ---- the reference machine

assignment_passes : (i : Interface) (a : Assignment) → KnownAssignment i a → T (assignment_fits (member_named i a.name.bytes) (literal_value a.literal))
unfolding assignment_fits
assignment_passes i a k =
    let x = k.found.item in
    let v = literal_value a.literal in
    rw k.named
    (and_i (is_attribute x.sort) (of_kind x.kind v) k.of_sort
    (subst (λ (u : Kind). T (of_kind u v)) k.kind (storable_of_kind (literal_kind a.literal) v (literal_storable a.literal))))

entity_passes : (f : File) (e : Entity) → KnownEntity f e → T (assignments_fit (interface_named f e.interface.bytes) e.assignments)
unfolding assignments_fit
entity_passes f e k =
    let i = k.interface in
    rw k.named
    (every_passes (λ (a : Assignment). assignment_fits (member_named i a.name.bytes) (literal_value a.literal)) e.assignments
    (λ a m. assignment_passes i a (k.assignment a m)))

pub known_fresh_runs : (f : File) → KnownFile f → ref_fresh_stores f ≡ running (fresh_stores f)
unfolding ref_fresh_stores
known_fresh_runs f known =
    let fits : Entity → Bool = λ e. assignments_fit (interface_named f e.interface.bytes) e.assignments in
    rw (is_true (every fits f.entities) (every_passes fits f.entities (λ e m. entity_passes f e (known.entity e m))))
