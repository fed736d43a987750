-- The walk over the entities of a file: their names, the names in each of them, and their kinds.
use Prim.Native.Nat.{ℕ, ◌+◌, ◌≤◌, ◌<◌}
use native.Mathlib.Omega.{arith}
use mathlib.Core.Path.{◌≡◌, refl, sym, ap, ap₂, ◌∙◌}
use mathlib.Core.List.{List, ◌++◌, map, flat_map}
use mathlib.Core.Option.{Option, none, some}
use Rattle.std.specs.Prelude.{min}
use lib.Dec.{ltb}
use lib.ListN.{length, get_or, get_elem?}
use borrow.Author.Tests.{lt-ltb}
use Rattle.text.specs.definitions.Syntax.{Interface, Entity, File}
use Rattle.checking.specs.inner_contracts.DirectoryReads.{Few}
use Rattle.checking.specs.declared.faults.Faults.{Faults}
use Rattle.checking.specs.declared.entities.Assigned.{Assigned}
use Rattle.checking.specs.definitions.Faults.{Fault, fault_unless, earliest}
use Rattle.checking.specs.inner_contracts.FoundFaults.{Found, found_as, merged}
use Rattle.checking.specs.definitions.Scope.{Indexed as Numbered, look_up, item_of, is_found, is_attribute, interface_named}
use Rattle.checking.specs.definitions.NameFaults.{again_faults, interface_faults, member_faults, unset_faults, entity_name_faults}
use Rattle.checking.specs.definitions.KindFaults.{entity_kind_faults}
use Rattle.checking.specs.inner_contracts.Directory.{Bench, number_or, interface_number}
use Rattle.checking.specs.inner_contracts.DeclarationWalk.{
  RepeatedRows,
  Body,
  AssignmentsFound,
  UnsetFound,
  EntityFound,
  EntitiesFound,
}
use Rattle.checking.proofs.laws.FaultLaws.{earliest_append}
use Rattle.checking.proofs.laws.LookUpLaws.{found_at}
use Rattle.checking.proofs.laws.DirectoryLaws.{number_below, number_beyond, column_offset}
use Rattle.checking.proofs.laws.WalkedFaults.{unless_same, left_all, left_second, ItemsLeft, items_next, items_end}
use Rattle.checking.proofs.steps.RepeatedLaws.{repeated_items}
use Rattle.checking.proofs.steps.InterfaceLaws.{Within}
use Rattle.checking.proofs.laws.EntityTokens.{EntityAt, entity_stands}

-- ---- an interface by its number

module _ (f : File) (n : List ℕ) (few : length f.interfaces ≤ 16) where
  numbered_interface : get_elem? f.interfaces (interface_number f n) ≡ interface_named f n
  unfolding interface_number interface_named number_or item_of
  numbered_interface = go (look_up (λ i. i.name) n f.interfaces) (λ r e. found_at (λ i. i.name) n f.interfaces e)
    where
      go : (o : Option (Numbered Interface)) → ((r : Numbered Interface) → o ≡ some r → get_elem? f.interfaces r.number ≡ some r.item)
          → get_elem? f.interfaces (number_or 16 o) ≡ item_of o
      go none at = number_beyond f.interfaces 16 few
      go (some r) at = at r refl

  known_interface : ltb (interface_number f n) 16 ≡ is_found (interface_named f n)
  unfolding interface_number interface_named number_or item_of is_found
  known_interface = go (look_up (λ i. i.name) n f.interfaces) (λ r e. found_at (λ i. i.name) n f.interfaces e)
    where
      go : (o : Option (Numbered Interface)) → ((r : Numbered Interface) → o ≡ some r → get_elem? f.interfaces r.number ≡ some r.item)
          → ltb (number_or 16 o) 16 ≡ is_found (item_of o)
      go none at = refl
      go (some r) at = let l = number_below f.interfaces r.number (at r refl) in lt-ltb r.number 16 (omega arith)

-- ---- one entity

module _ {text classes offsets lengths d : List ℕ} (e : ℕ) {p face : ℕ} (at : p ≡ get_or d (227 + e) 0) (number : face ≡ get_or d (323 + e) 0)
    {set : Assigned} (assigned : AssignmentsFound text classes offsets lengths d face (p + 5) set) where
  module _ (w : Bench text classes offsets lengths d) (few : Few w.file) (x : Entity) (s : get_elem? w.file.entities e ≡ some x) where
    parts : EntityAt w.tokens p x
    parts = rw at (entity_stands (w.directory.entity e x s))

    abbrev body : Body text classes offsets lengths d (p + 5)
    body = record { bench = w; few = few; entity = x; body = parts.body }

    face_number : face ≡ interface_number w.file x.interface.bytes
    face_number = number ∙ w.directory.entity_interface e x s

    face_named : get_elem? w.file.interfaces face ≡ interface_named w.file x.interface.bytes
    face_named = ap (get_elem? w.file.interfaces) face_number ∙ numbered_interface w.file x.interface.bytes few.interfaces

    kinds_told : found_as set.kinds ≡ earliest (entity_kind_faults w.file x)
    unfolding entity_kind_faults
    kinds_told = rw face_named at (assigned.kinds body)

    module _ {offset : ℕ} {known two three names : Option Fault} (o : offset ≡ get_or offsets (p + 3) 0)
        (k : known ≡ earliest (fault_unless (ltb face 16) 16 offset)) {unset : Found}
        (u : UnsetFound text classes offsets lengths d face (p + 5) set.end unset) (f : two ≡ merged known (found_as set.again))
        (g : three ≡ merged two (found_as set.members)) (h : names ≡ merged three (found_as unset)) where
      names_told : names ≡ earliest (entity_name_faults w.file x)
      unfolding entity_name_faults interface_faults
      names_told =
          h
          ∙ ap₂ merged
          (g
          ∙ ap₂ merged
          (f
          ∙ ap₂ merged (k ∙ unless_same 16 is_known (o ∙ column_offset w.columns parts.interface)) (assigned.again body)
          ∙ sym (earliest_append unknown again))
          (rw face_named at (assigned.members body))
          ∙ sym (earliest_append (unknown ++ again) members))
          (rw face_named at (u.is body (assigned.end body)))
          ∙ sym (earliest_append (unknown ++ again ++ members) left_out)
        where
          is_known : ltb face 16 ≡ is_found (interface_named w.file x.interface.bytes)
          is_known = ap (λ i. ltb i 16) face_number ∙ known_interface w.file x.interface.bytes few.interfaces

          unknown : List Fault
          unknown = interface_faults w.file x.interface

          again : List Fault
          again = again_faults (map (λ a. a.name) x.assignments)

          members : List Fault
          members = flat_map (λ a. member_faults is_attribute (interface_named w.file x.interface.bytes) a.name) x.assignments

          left_out : List Fault
          left_out = unset_faults x (interface_named w.file x.interface.bytes)

  pub entity_told : {offset : ℕ} {known two three : Option Fault} {names unset : Found} → offset ≡ get_or offsets (p + 3) 0
      → known ≡ earliest (fault_unless (ltb face 16) 16 offset) → UnsetFound text classes offsets lengths d face (p + 5) set.end unset
      → two ≡ merged known (found_as set.again) → three ≡ merged two (found_as set.members) → found_as names ≡ merged three (found_as unset)
      → EntityFound text classes offsets lengths d e (record { names = names; kinds = set.kinds })
  entity_told o k u f g h = record { names = λ w few x s. names_told w few x s o k u f g h; kinds = kinds_told }

-- ---- entity after entity

abbrev pub NamesLeft : List ℕ → List ℕ → List ℕ → List ℕ → List ℕ → Option Fault → ℕ → Type 0
NamesLeft text classes offsets lengths d =
    ItemsLeft {W = Within text classes offsets lengths d} (λ w. w.bench.file.entities) (λ w. entity_name_faults w.bench.file)
    (λ w. again_faults (map (λ e. e.name) w.bench.file.entities) ++ flat_map (entity_name_faults w.bench.file) w.bench.file.entities)

abbrev pub KindsLeft : List ℕ → List ℕ → List ℕ → List ℕ → List ℕ → Option Fault → ℕ → Type 0
KindsLeft text classes offsets lengths d =
    ItemsLeft {W = Within text classes offsets lengths d} (λ w. w.bench.file.entities) (λ w. entity_kind_faults w.bench.file)
    (λ w. flat_map (entity_kind_faults w.bench.file) w.bench.file.entities)

-- what is found in the first k entities
pub record Walked (text classes offsets lengths d : List ℕ) (names kinds : Found) (k : ℕ) : Type 0 where
  pub names_left : NamesLeft text classes offsets lengths d (found_as names) k
  pub kinds_left : KindsLeft text classes offsets lengths d (found_as kinds) k

module _ {text classes offsets lengths d : List ℕ} {count : ℕ} (c : count ≡ min (get_or d 1 0) 32) where
  pub walked_none : {names kinds : Found} → RepeatedRows text offsets lengths d 227 count names → found_as kinds ≡ none
      → Walked text classes offsets lengths d names kinds 0
  walked_none h e = record {
    names_left = record {
      left = λ w.
          left_second (again_faults (map (λ e. e.name) w.bench.file.entities)) (flat_map (entity_name_faults w.bench.file) w.bench.file.entities)
          (repeated_items w.bench (λ (x : Entity). x.name) w.bench.file.entities 227 h w.bench.directory.entity_name
          (let z = w.bench.directory.entities in let y = w.few.entities in omega arith));
    };
    kinds_left = record { left = λ w. left_all (flat_map (entity_kind_faults w.bench.file) w.bench.file.entities) e };
  }

  module _ {names kinds : Found} {k : ℕ} (p : Walked text classes offsets lengths d names kinds k) where
    pub walked_next : {one : Faults} {names' kinds' : Found} → k < count → EntityFound text classes offsets lengths d k one
        → found_as names' ≡ merged (found_as names) (found_as one.names) → found_as kinds' ≡ merged (found_as kinds) (found_as one.kinds)
        → Walked text classes offsets lengths d names' kinds' (k + 1)
    walked_next m h f g = record {
      names_left =
          items_next (λ w. w.bench.file.entities) (λ w. entity_name_faults w.bench.file) _ p.names_left
          (λ w. let z = w.bench.directory.entities in omega arith) (λ w. h.names w.bench w.few) f;
      kinds_left =
          items_next (λ w. w.bench.file.entities) (λ w. entity_kind_faults w.bench.file) _ p.kinds_left
          (λ w. let z = w.bench.directory.entities in omega arith) (λ w. h.kinds w.bench w.few) g;
    }

    pub walked_all : count ≤ k → EntitiesFound text classes offsets lengths d (record { names = names; kinds = kinds })
    walked_all h = record {
      names = λ w few.
          items_end (λ w. w.bench.file.entities) (λ w. entity_name_faults w.bench.file) _ p.names_left all_passed (record { bench = w; few = few });
      kinds = λ w few.
          items_end (λ w. w.bench.file.entities) (λ w. entity_kind_faults w.bench.file) _ p.kinds_left all_passed (record { bench = w; few = few });
    }
      where
        all_passed : (w : Within text classes offsets lengths d) → length w.bench.file.entities ≤ k
        all_passed w = let z = w.bench.directory.entities in let y = w.few.entities in omega arith
