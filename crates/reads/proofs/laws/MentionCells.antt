-- A mention by the columns: its reference and its member's number say which cells it mentions.
use Prim.Native.Nat.{ℕ, ◌+◌, ◌-◌, ◌/◌, ◌%◌, ◌<◌}
use native.Mathlib.Omega.{arith}
use mathlib.Core.Path.{◌≡◌, refl, ap, ◌∙◌}
use mathlib.Core.Bool.{Bool, true, false, ◌&&◌, and-false}
use mathlib.Core.List.{List}
use mathlib.Core.Option.{Option, none, some}
use lib.Dec.{eqb, ltb}
use lib.ListN.{length, get_or, get_elem?}
use borrow.Author.Tests.{ne_eqb, eqb-true, lt-ltb, le-ltb, ltb-true, ltb-false}
use Rattle.values.specs.definitions.Bytes.{same_bytes}
use Rattle.text.specs.definitions.Tokens.{NAME}
use Rattle.text.specs.definitions.Syntax.{Member, Interface, Entity, File}
use Rattle.checking.specs.definitions.Scope.{
  Indexed,
  look_up,
  interface_named,
  entity_named,
  interface_of_entity,
  interface_of,
  Variable,
  variables,
  variable_named,
  scope_of,
  interface_meant,
}
use Rattle.checking.specs.inner_contracts.Directory.{name_in, number_or, member_number, interface_number, rule_row, entity_interface_row}
use Rattle.checking.specs.inner_contracts.RuleParts.{world_scope}
use Rattle.checking.specs.inner_contracts.Resolution.{reference_by, reference, member_meant, Within, Owned}
use Rattle.checking.proofs.laws.LookUpLaws.{same_bytes_eq, found_at, entity_found}
use Rattle.checking.proofs.laws.DirectoryLaws.{number_below, number_inside, number_beyond}
use Rattle.cycles.specs.definitions.Spots.{spot_at, spot_among, spot_of}
use Rattle.cycles.specs.definitions.ClosedSet.{entity_is_of, is_of, can_mean, can_be}
use Rattle.cycles.specs.definitions.Reads.{Mention, has_number, is_mentioned}
use Rattle.reads.specs.inner_contracts.ReadSteps.{has_face, can_refer, ReadWorld}
use Rattle.checking.proofs.laws.InterfaceNumbers.{same_interface}

-- a member's number, among those that an entity can have, and the spot of its name
member_spot : (e m : ℕ) → m < 12 → (o : Option Interface) (a : List ℕ) → eqb (member_number o a) m ≡ has_number m (spot_among e o a)
unfolding member_number spot_among has_number
member_spot e m l none a = ne_eqb 12 m (λ q. omega arith)
member_spot e m l (some i) a = go (look_up (λ (m : Member). m.name) a i.members)
  where
    go : (o : Option (Indexed Member)) → eqb (number_or 12 o) m ≡ has_number m (spot_at e o)
    go none = ne_eqb 12 m (λ q. omega arith)
    go (some x) = refl

module _ {classes d refs scopes : List ℕ} {k : ℕ} (c : ReadWorld classes d refs scopes k) (e m : ℕ) (low : m < 12) (a : List ℕ) where
  abbrev file : File
  file = c.world.bench.file

  -- an entity by its name
  entity_cells : (x : Indexed Entity) → get_elem? file.entities x.number ≡ some x.item
      → (can_refer d scopes k x.number e && eqb (member_number (interface_named file x.item.interface.bytes) a) m)
      ≡ (eqb x.number e && has_number m (spot_of file e a))
  unfolding can_refer spot_of interface_of
  entity_cells x h = rw (lt-ltb x.number 32 (omega (arith, number_below file.entities x.number h, c.world.few.entities))) (go (eqb x.number e) refl)
    where
      go : (t : Bool) → eqb x.number e ≡ t
          → (t && eqb (member_number (interface_named file x.item.interface.bytes) a) m)
          ≡ (t && has_number m (spot_among e (interface_of_entity file (get_elem? file.entities e)) a))
      go false q = refl
      go true q = rw (← eqb-true x.number e q, h) (member_spot x.number m low (interface_named file x.item.interface.bytes) a)

  -- an entity of the interface that a variable has
  face_cells : (y v : List ℕ)
      → (eqb (interface_number file y) (interface_number file v) && eqb (member_number (interface_named file v) a) m)
      ≡ (same_bytes y v && has_number m (spot_among e (interface_named file y) a))
  unfolding spot_among has_number
  face_cells y v = go (interface_named file v) refl (same_bytes y v) refl
    where
      none_here : (t : Bool) → same_bytes y v ≡ t → interface_named file v ≡ none
          → false ≡ (t && has_number m (spot_among e (interface_named file y) a))
      none_here false s h = refl
      none_here true s h = rw (same_bytes_eq y v (rw s tt), h)

      some_here : (i : Interface) → interface_named file v ≡ some i → (t : Bool) → same_bytes y v ≡ t
          → (t && eqb (member_number (interface_named file v) a) m) ≡ (t && has_number m (spot_among e (interface_named file y) a))
      some_here i h false s = refl
      some_here i h true s = rw (same_bytes_eq y v (rw s tt)) (member_spot e m low (interface_named file v) a)

      go : (o : Option Interface) → interface_named file v ≡ o → (t : Bool) → same_bytes y v ≡ t
          → (eqb (interface_number file y) (interface_number file v) && eqb (member_number (interface_named file v) a) m)
          ≡ (same_bytes y v && has_number m (spot_among e (interface_named file y) a))
      go none h t s =
          ap (λ (o : Option Interface). eqb (interface_number file y) (interface_number file v) && eqb (member_number o a) m) h
          ∙ ap (λ (b : Bool). eqb (interface_number file y) (interface_number file v) && b) (member_spot e m low none a)
          ∙ and-false (eqb (interface_number file y) (interface_number file v))
          ∙ none_here (same_bytes y v) refl h
      go (some i) h t s = rw (same_interface file c.world.few.interfaces y v h, s) (some_here i h t s)

  -- a variable by its name
  variable_cells : (v : Indexed Variable) → get_elem? (variables c.world.rule) v.number ≡ some v.item
      → (can_refer d scopes k (32 + v.number) e && eqb (member_number (interface_named file v.item.interface.bytes) a) m)
      ≡ (is_of file v.item.interface.bytes e && has_number m (spot_of file e a))
  unfolding can_refer has_face is_of spot_of interface_of
  variable_cells v h =
      let below : v.number < 3 = omega (arith, number_below (variables c.world.rule) v.number h, c.few) in
      let back : 32 + v.number - 32 ≡ v.number = omega arith in
      rw (
        le-ltb (32 + v.number) 32 (omega arith),
        back,
        lt-ltb v.number 3 below,
        c.scopes_are.interface k c.inside c.below c.world c.few v.number v.item h,
        c.world.bench.directory.entities,
      )
      (go (ltb e (length file.entities)) refl)
    where
      here : (y : Entity) → get_elem? file.entities e ≡ some y
          → (eqb (get_or d (entity_interface_row e) 0) (interface_number file v.item.interface.bytes)
          && eqb (member_number (interface_named file v.item.interface.bytes) a) m)
          ≡ (entity_is_of v.item.interface.bytes (get_elem? file.entities e)
          && has_number m (spot_among e (interface_of_entity file (get_elem? file.entities e)) a))
      here y q = rw (q, c.world.bench.directory.entity_interface e y q) (face_cells y.interface.bytes v.item.interface.bytes)

      go : (t : Bool) → ltb e (length file.entities) ≡ t
          → ((t && eqb (get_or d (entity_interface_row e) 0) (interface_number file v.item.interface.bytes))
          && eqb (member_number (interface_named file v.item.interface.bytes) a) m)
          ≡ (entity_is_of v.item.interface.bytes (get_elem? file.entities e)
          && has_number m (spot_among e (interface_of_entity file (get_elem? file.entities e)) a))
      go true l = let (y, q) = number_inside file.entities e (ltb-true e (length file.entities) l) in here y q
      go false l = rw (number_beyond file.entities e (ltb-false e (length file.entities) l))

  -- any name
  pub name_cells : (n : List ℕ)
      → (can_refer d scopes k (reference (world_scope c.world) n) e && eqb (member_meant (world_scope c.world) n a) m)
      ≡ (can_be file (variables c.world.rule) n e && has_number m (spot_of file e a))
  unfolding reference member_meant can_be scope_of can_refer
  name_cells n = go (entity_named file n) refl (variable_named (variables c.world.rule) n) refl
    where
      go : (x : Option (Indexed Entity)) → entity_named file n ≡ x → (v : Option (Indexed Variable)) → variable_named (variables c.world.rule) n ≡ v
          → (can_refer d scopes k (reference_by x v) e && eqb (member_number (interface_meant file x v) a) m)
          ≡ (can_mean file x v e && has_number m (spot_of file e a))
      go none p none q = refl
      go none p (some v) q = variable_cells v (found_at (λ (v : Variable). v.name) n (variables c.world.rule) q)
      go (some x) p v q = entity_cells x (entity_found file n p)

-- the row of its owner's name and its own say what a mention means
pub mention_cells : {classes d refs scopes : List ℕ} {k : ℕ} (c : ReadWorld classes d refs scopes k) (x : Mention) (n i : ℕ)
    → Within classes (get_or d (rule_row k) 0) c.world.begins.used n NAME → Owned classes (get_or d (rule_row k) 0) c.world.begins.used n i
    → name_in c.text c.offsets c.lengths n ≡ x.owner.bytes → name_in c.text c.offsets c.lengths i ≡ x.member.bytes
    → (e m : ℕ) → m < 12
    → (can_refer d scopes k (get_or refs n 0 % 256) e && eqb (get_or refs i 0 / 256) m)
    ≡ is_mentioned c.world.bench.file (variables c.world.rule) e m x
unfolding is_mentioned
mention_cells c x n i w o p q e m low =
    rw (c.references.owner _ c.world c.few n w, c.references.member _ c.world n i o, p, q) (name_cells c e m low x.member.bytes x.owner.bytes)
