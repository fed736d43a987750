-- The member of a cell by the directory: its entity's interface by its number, the first of its tokens, and its sort.
use Prim.Native.Nat.{ℕ, ◌+◌, ◌*◌, ◌/◌, ◌%◌, ◌≤◌, ◌<◌}
use native.Mathlib.Omega.{arith}
use mathlib.Core.Path.{◌≡◌, refl, sym, ap, ◌∙◌, subst}
use mathlib.Core.List.{List}
use mathlib.Core.Bool.{Bool, false}
use lib.Dec.{eqb}
use mathlib.Core.Option.{Option, none, some}
use lib.ListN.{length, get_or, get_elem?}
use Rattle.text.specs.definitions.Syntax.{Sort, attribute, event, action, Member, Interface, Entity, File}
use Rattle.checking.specs.inner_contracts.DirectoryReads.{Few}
use Rattle.checking.specs.definitions.Scope.{
  Indexed,
  look_up,
  item_of,
  interface_named,
  interface_of_entity,
  interface_of,
  nth_member,
  member_of,
  is_attribute,
  is_action,
}
use Rattle.checking.specs.inner_contracts.Directory.{sort_class, Bench, number_or, interface_number, member_count_row, member_row, entity_interface_row}
use Rattle.checking.proofs.laws.DirectoryLaws.{number_beyond, number_inside, named_bytes, class_stands}
use Rattle.checking.proofs.laws.LookUpLaws.{found_at}
use Rattle.checking.proofs.laws.WithinCounts.{WithinCounts}
use Rattle.text.proofs.laws.ListLaws.{some_injective, none_some}
use Rattle.cycles.specs.inner_contracts.CellTokens.{NO_TOKEN, MemberAt, TokenOf, no_member, a_member, CellToken, SortTest}
use Rattle.cycles.specs.definitions.Cycle.{is_sort}
use Rattle.cycles.proofs.laws.CellNumbers.{no_member_on}

module _ (f : File) (h : Few f) where
  -- an interface by its number; the number for none is past them all
  pub interface_by_number : (n : List ℕ) → interface_named f n ≡ get_elem? f.interfaces (interface_number f n)
  unfolding interface_named interface_number number_or item_of
  interface_by_number n = go (look_up (λ i. i.name) n f.interfaces) refl
    where
      go : (o : Option (Indexed Interface)) → look_up (λ (i : Interface). i.name) n f.interfaces ≡ o → item_of o ≡ get_elem? f.interfaces (number_or 16 o)
      go none e = sym (number_beyond f.interfaces 16 h.interfaces)
      go (some r) e = sym (found_at (λ (i : Interface). i.name) n f.interfaces e)

  pub few_within : WithinCounts f
  unfolding interface_of
  few_within = record { entities = h.entities; members = λ e i s. go (get_elem? f.entities e) i s }
    where
      go : (o : Option Entity) (i : Interface) → interface_of_entity f o ≡ some i → length i.members ≤ 12
      go none i s = let z : ◌≡◌ {A = ℕ} 0 1 = cc in absurd (omega arith)
      go (some x) i s = h.members (interface_number f x.interface.bytes) i (sym (interface_by_number x.interface.bytes) ∙ s)

module _ {text classes offsets lengths d : List ℕ} (w : Bench text classes offsets lengths d) (h : Few w.file) where
  -- an entity's interface by the directory
  interface_stands : (e : ℕ) → e < length w.file.entities → interface_of w.file e ≡ get_elem? w.file.interfaces (get_or d (entity_interface_row e) 0)
  unfolding interface_of
  interface_stands e l = go (number_inside w.file.entities e l)
    where
      go : (x : Entity) × (get_elem? w.file.entities e ≡ some x)
          → interface_of_entity w.file (get_elem? w.file.entities e) ≡ get_elem? w.file.interfaces (get_or d (entity_interface_row e) 0)
      go (x, s) =
          rw s
          (interface_by_number w.file h x.interface.bytes ∙ ap (get_elem? w.file.interfaces) (sym (w.directory.entity_interface e x s)))

  no_entity_stands : (e m : ℕ) → get_or d 1 0 ≤ e → member_of w.file e m ≡ none
  unfolding member_of interface_of
  no_entity_stands e m l =
      let c = w.directory.entities in
      let z : get_elem? w.file.entities e ≡ none = number_beyond w.file.entities e (omega arith) in
      rw z

  module _ (e m face : ℕ) (l : e < get_or d 1 0) (q : face ≡ get_or d (entity_interface_row e) 0) where
    face_stands : member_of w.file e m ≡ nth_member (get_elem? w.file.interfaces face) m
    unfolding member_of
    face_stands =
        let c = w.directory.entities in
        ap (λ (o : Option Interface). nth_member o m)
        (interface_stands e (omega arith) ∙ ap (get_elem? w.file.interfaces) (sym q))

    no_interface_stands : get_or d 0 0 ≤ face → member_of w.file e m ≡ none
    unfolding nth_member
    no_interface_stands k =
        let c = w.directory.interfaces in
        face_stands ∙ ap (λ (o : Option Interface). nth_member o m) (number_beyond w.file.interfaces face (omega arith))

    module _ (k : face < get_or d 0 0) where
      inside : (i : Interface) × (get_elem? w.file.interfaces face ≡ some i)
      inside = let c = w.directory.interfaces in number_inside w.file.interfaces face (omega arith)

      no_member_stands : get_or d (member_count_row face) 0 ≤ m → member_of w.file e m ≡ none
      unfolding nth_member
      no_member_stands n =
          let c = w.directory.member_count face inside.0 inside.1 in
          face_stands
          ∙ ap (λ (o : Option Interface). nth_member o m) inside.1
          ∙ number_beyond inside.0.members m (omega arith)

      member_stands : (r : ℕ) → m < get_or d (member_count_row face) 0 → r ≡ get_or d (member_row face m) 0 → r < NO_TOKEN
          → TokenOf text classes offsets lengths r (member_of w.file e m)
      unfolding nth_member
      member_stands r n p b =
          let c = w.directory.member_count face inside.0 inside.1 in
          go (number_inside inside.0.members m (omega arith))
        where
          at : (x : Member) → get_elem? inside.0.members m ≡ some x → MemberAt text classes offsets lengths (get_or d (member_row face m) 0) x
          at x s = record {
            within = rw (← p) b;
            sort = class_stands w (get_or d (member_row face m) 0) (w.directory.member_sort face m inside.0 x inside.1 s);
            name = named_bytes w (w.directory.member_name face m inside.0 x inside.1 s);
            kind = class_stands w (get_or d (member_row face m) 0 + 3) (w.directory.member_kind face m inside.0 x inside.1 s);
          }

          go : (x : Member) × (get_elem? inside.0.members m ≡ some x) → TokenOf text classes offsets lengths r (member_of w.file e m)
          go (x, s) =
              rw (face_stands, inside.1, nth_member, s, p) (a_member (at x s))

-- ---- what code finds, step by step

module _ {d : List ℕ} {i : ℕ} where
  token_none : ((text classes offsets lengths : List ℕ) (w : Bench text classes offsets lengths d) → Few w.file
      → member_of w.file (i / 12) (i % 12) ≡ none) → CellToken d i NO_TOKEN
  token_none h = record {
    within = omega arith;
    is = λ text classes offsets lengths w c. rw (h text classes offsets lengths w c) (no_member refl);
  }

  pub token_no_entity : {n : ℕ} → n ≡ get_or d 1 0 → n ≤ i / 12 → CellToken d i NO_TOKEN
  token_no_entity e l = token_none (λ text classes offsets lengths w c. no_entity_stands w c (i / 12) (i % 12) (omega arith))

  module _ {n face : ℕ} (e : n ≡ get_or d 1 0) (l : i / 12 < n) (q : face ≡ get_or d (323 + i / 12) 0) where
    pub token_no_interface : {count : ℕ} → count ≡ get_or d 0 0 → count ≤ face → CellToken d i NO_TOKEN
    token_no_interface p k =
        token_none (λ text classes offsets lengths w c. no_interface_stands w c (i / 12) (i % 12) face (omega arith) q (omega arith))

    module _ {count : ℕ} (p : count ≡ get_or d 0 0) (k : face < count) {members : ℕ} (c : members ≡ get_or d (19 + face) 0) where
      pub token_no_member : members ≤ i % 12 → CellToken d i NO_TOKEN
      token_no_member m =
          token_none
          (λ text classes offsets lengths w h. no_member_stands w h (i / 12) (i % 12) face (omega arith) q (omega arith) (omega arith))

      pub token_member : {r : ℕ} → i % 12 < members → r ≡ get_or d (35 + face * 12 + i % 12) 0 → r < 65536 → CellToken d i r
      token_member {r} m g b = record {
        within = omega arith;
        is = λ text classes offsets lengths w h. member_stands w h (i / 12) (i % 12) face (omega arith) q (omega arith) r (omega arith) g b;
      }

-- ---- the sort of a member

module _ {classes : List ℕ} {at : ℕ} where
  pub no_token_no_sort : {class : ℕ} → NO_TOKEN ≤ at → SortTest classes at class false
  unfolding is_sort
  no_token_no_sort h = record { is = λ text offsets lengths o t sort e. go text offsets lengths sort t }
    where
      go : (text offsets lengths : List ℕ) (sort : Sort → Bool) {o : Option Member} → TokenOf text classes offsets lengths at o → false ≡ is_sort sort o
      go text offsets lengths sort (no_member q) = refl
      go text offsets lengths sort (a_member m) = absurd (omega (arith, m.within))

  pub sort_by_class : at < NO_TOKEN → {c class : ℕ} → c ≡ get_or classes at 0 → SortTest classes at class (eqb c class)
  unfolding is_sort
  sort_by_class h {c} {class} e = record { is = λ text offsets lengths o t sort s. go text offsets lengths sort s t }
    where
      go : (text offsets lengths : List ℕ) (sort : Sort → Bool) → ((s : Sort) → eqb (sort_class s) class ≡ sort s) → {o : Option Member}
          → TokenOf text classes offsets lengths at o → eqb c class ≡ is_sort sort o
      go text offsets lengths sort s (no_member q) = absurd (omega arith)
      go text offsets lengths sort s (a_member {x} m) = ap (λ (n : ℕ). eqb n class) (e ∙ m.sort) ∙ s x.sort

pub action_class : (s : Sort) → eqb (sort_class s) 6 ≡ is_action s
unfolding sort_class is_action
action_class attribute = refl
action_class event = refl
action_class action = refl

pub attribute_class : (s : Sort) → eqb (sort_class s) 4 ≡ is_attribute s
unfolding sort_class is_attribute
attribute_class attribute = refl
attribute_class event = refl
attribute_class action = refl

-- ---- a cell that has none

no_token_none : {text classes offsets lengths : List ℕ} {token : ℕ} {o : Option Member} → TokenOf text classes offsets lengths token o
    → NO_TOKEN ≤ token → o ≡ none
no_token_none (no_member q) h = refl
no_token_none (a_member m) h = absurd (omega (arith, m.within))

-- nor have those of its entity behind it
pub none_behind : {d : List ℕ} {i token : ℕ} → CellToken d i token → NO_TOKEN ≤ token → {text classes offsets lengths : List ℕ}
    → (w : Bench text classes offsets lengths d) → Few w.file → (k : ℕ) → i % 12 + k < 12 → member_of w.file ((i + k) / 12) ((i + k) % 12) ≡ none
none_behind {i = i} t h {text} {classes} {offsets} {lengths} w c k b =
    let same : (i + k) / 12 ≡ i / 12 = omega arith in
    let next : (i + k) % 12 ≡ i % 12 + k = omega arith in
    rw (same, next) (no_member_on w.file (i / 12) (i % 12) (no_token_none (t.is text classes offsets lengths w c) h) k)

-- ---- a cell that has a member

pub member_told : {text classes offsets lengths : List ℕ} {r : ℕ} {o : Option Member} {x : Member} → TokenOf text classes offsets lengths r o → o ≡ some x
    → MemberAt text classes offsets lengths r x
member_told (no_member q) e = absurd (none_some e)
member_told {text} {classes} {offsets} {lengths} {r} (a_member m) e = subst (MemberAt text classes offsets lengths r) (some_injective e) m

pub entity_told : (f : File) (e m : ℕ) {x : Member} → member_of f e m ≡ some x → (y : Entity) × (get_elem? f.entities e ≡ some y)
unfolding member_of interface_of
entity_told f e m {x} h = go (get_elem? f.entities e) refl
  where
    go : (o : Option Entity) → get_elem? f.entities e ≡ o → (y : Entity) × (get_elem? f.entities e ≡ some y)
    go none q = absurd (none_some (sym (rw q) ∙ h))
    go (some y) q = (y, q)
