-- The column that a field of a header names, by its number: what the look-ups say, and the parts of the name.
use Prim.Native.Nat.{ℕ, ◌+◌, ◌-◌, ◌*◌, ◌≤◌, ◌<◌}
use native.Mathlib.Omega.{arith}
use mathlib.Core.Path.{◌≡◌, refl, sym, ap, ap₂, ◌∙◌, subst}
use mathlib.Core.Bool.{Bool, true, false}
use mathlib.Core.List.{List, [], ◌∷◌, ◌++◌}
use mathlib.Core.Option.{Option, none, some}
use lib.Dec.{ltb}
use lib.ListN.{length, get_or, get_elem?, take, drop}
use lib.Seq.{take_all}
use borrow.Author.Tests.{ltb-true, ltb-false}
use Rattle.text.specs.definitions.Tokens.{EVENT}
use Rattle.text.specs.definitions.Syntax.{Sort, attribute, event, action, Member, Interface, Entity, File}
use Rattle.text.proofs.laws.ListLaws.{some_injective, none_some}
use Rattle.checking.specs.definitions.Scope.{Indexed, look_up, item_of, entity_named, member_named, interface_of_entity, interface_of}
use Rattle.checking.specs.inner_contracts.Directory.{Bench, sort_class, entity_number, member_number}
use Rattle.checking.specs.inner_contracts.DirectoryReads.{Few, NumberOf, MemberPart, FewMembers}
use Rattle.checking.proofs.laws.WithinCounts.{WithinCounts}
use Rattle.checking.proofs.laws.LookUpLaws.{found_at, entity_found}
use Rattle.checking.proofs.laws.DirectoryLaws.{number_below}
use Rattle.checking.proofs.laws.CalledLaws.{none_found, some_found, row_interface}
use Rattle.cycles.specs.definitions.Spots.{spot_at, spot_among, spot_of}
use Rattle.cycles.specs.definitions.Fields.{split}
use Rattle.cycles.specs.definitions.Header.{Column, event_column, column_of_entity, column}
use Rattle.cycles.specs.inner_contracts.FieldReads.{FieldStart}
use Rattle.cycles.specs.inner_contracts.HeaderReads.{column_number, number_if_column, ColumnRead}
use Rattle.cycles.proofs.laws.CellNumbers.{no_member_no_cell}
use Rattle.cycles.proofs.laws.SpotLaws.{found_spot, entity_spot}
use Rattle.cycles.proofs.laws.SoundLine.{SoundColumn}
use Rattle.cycles.proofs.laws.FieldLaws.{split_end, split_last}
use Rattle.cycles.proofs.laws.ColumnLaws.{Small, small_number}

-- ---- a file within the counts

pub few_within : (f : File) → Few f → WithinCounts f
unfolding interface_of
few_within f few = record { entities = few.entities; members = λ e i h. by_entity (get_elem? f.entities e) i h }
  where
    by_name : (n : List ℕ) (i : Interface) (o : Option (Indexed Interface)) → look_up (λ (i : Interface). i.name) n f.interfaces ≡ o
        → item_of o ≡ some i → length i.members ≤ 12
    by_name n i none q h = absurd (none_some h)
    by_name n i (some r) q h =
        few.members r.number i (found_at (λ (i : Interface). i.name) n f.interfaces q ∙ ap some (some_injective h))

    by_entity : (o : Option Entity) (i : Interface) → interface_of_entity f o ≡ some i → length i.members ≤ 12
    by_entity none i h = absurd (none_some h)
    by_entity (some x) i h =
        by_name x.interface.bytes i (look_up (λ (i : Interface). i.name) x.interface.bytes f.interfaces) refl h

module _ (f : File) (few : Few f) (c : Column) (s : SoundColumn f c) where
  pub sound_entity : c.entity < 32
  sound_entity = let (x, q) = s.of_entity in let b = number_below f.entities c.entity q in let a = few.entities in omega arith

  pub sound_small : Small c
  sound_small p h = go (ltb p.member 12) refl
    where
      go : (t : Bool) → ltb p.member 12 ≡ t → p.member < 12
      go true e = ltb-true p.member 12 e
      go false e =
          absurd (none_some (sym (no_member_no_cell f c.entity p.member (few_within f few) (ltb-false p.member 12 e)) ∙ (s.of_event p h).0))

  pub sound_number : column_number c < 416
  sound_number = small_number c sound_small 32 sound_entity

-- ---- the number of a column

event_class : (s : Sort) → sort_class s ≡ EVENT → s ≡ event
unfolding sort_class
event_class attribute h = absurd (omega arith)
event_class event h = refl
event_class action h = absurd (omega arith)

module _ (e : ℕ) (x : Indexed Member) {s : ℕ} (q : s ≡ sort_class x.item.sort) where
  event_numbered : s ≡ EVENT → number_if_column (event_column (some (found_spot e x))) ≡ e * 13 + x.number
  unfolding event_column number_if_column
  event_numbered h = let z : x.item.sort ≡ event = event_class x.item.sort (sym q ∙ h) in rw (z, event_column)

  other_numbered : (s ≡ EVENT → ⊥) → number_if_column (event_column (some (found_spot e x))) ≡ 416
  unfolding event_column number_if_column sort_class
  other_numbered h = go x.item.sort refl
    where
      go : (t : Sort) → x.item.sort ≡ t → number_if_column (event_column (some (found_spot e x))) ≡ 416
      go attribute z = rw (z, event_column)
      go event z = absurd (h (q ∙ ap sort_class z))
      go action z = rw (z, event_column)

-- what the file has where the code found numbers
record There (f : File) (owner member : List ℕ) (e m s : ℕ) : Type 0 where
  entity : Indexed Entity
  named : entity_named f owner ≡ some entity
  entity_is : e ≡ entity.number
  interface : Interface
  of_entity : interface_of f entity.number ≡ some interface
  found : Indexed Member
  member_is : m ≡ found.number
  called : member_named interface member ≡ some found
  of_sort : s ≡ sort_class found.item.sort

there_column : (f : File) (owner member : List ℕ) {e m s : ℕ} (x : There f owner member e m s)
    → column_of_entity f (entity_named f owner) member ≡ event_column (some (found_spot x.entity.number x.found))
unfolding column_of_entity
there_column f owner member x = rw (x.named, (entity_spot f x.entity.number member x.of_entity x.called).0)

module _ (text classes offsets lengths d owner : List ℕ) {e : ℕ}
    (n : NumberOf text offsets lengths d 32 (λ f. length f.entities ≤ 32) (λ f. entity_number f owner) e) where
  pub named_none : (w : Bench text classes offsets lengths d) → Few w.file → e ≡ 32 → entity_named w.file owner ≡ none
  unfolding entity_named entity_number
  named_none w few z = none_found (λ (x : Entity). x.name) owner w.file.entities 32 few.entities (sym (n.is classes w few.entities) ∙ z)

  pub named_some : (w : Bench text classes offsets lengths d) → Few w.file → (e ≡ 32 → ⊥)
      → (r : Indexed Entity) × (entity_named w.file owner ≡ some r) × (e ≡ r.number)
  unfolding entity_named entity_number
  named_some w few z = some_found (λ (x : Entity). x.name) owner w.file.entities 32 few.entities e (n.is classes w few.entities) z

  -- presence
  module _ (field : List ℕ) (one : split 46 field ≡ owner ∷ []) where
    pub no_entity : e ≡ 32 → ColumnRead text classes offsets lengths d (λ f. column f (split 46 field)) 416
    unfolding column number_if_column
    no_entity z = record { within = omega arith; is = λ w few. rw (one, named_none w few z) }

    pub presence_read : (e ≡ 32 → ⊥) → ColumnRead text classes offsets lengths d (λ f. column f (split 46 field)) (e * 13 + 12)
    unfolding column number_if_column
    presence_read z =
        let a = n.within in
        record { within = omega arith; is = λ w few. let (r, q, g) = named_some w few z in rw (one, q) (ap (λ (i : ℕ). i * 13 + 12) g) }

  -- an event
  module _ (member : List ℕ) where
    pub no_owner : e ≡ 32 → ColumnRead text classes offsets lengths d (λ f. column_of_entity f (entity_named f owner) member) 416
    unfolding column_of_entity number_if_column
    no_owner z = record { within = omega arith; is = λ w few. rw (named_none w few z) }

    module _ (z : e ≡ 32 → ⊥) {face : ℕ} (p : face ≡ get_or d (323 + e) 0) {m : ℕ}
        (k : NumberOf text offsets lengths d 12 (FewMembers face) (λ f. member_number (get_elem? f.interfaces face) member) m) where
      pub owner_interface : (w : Bench text classes offsets lengths d) → Few w.file → (r : Indexed Entity) → entity_named w.file owner ≡ some r
          → e ≡ r.number
          → get_elem? w.file.interfaces face ≡ interface_of w.file r.number
      owner_interface w few r q g =
          ap (get_elem? w.file.interfaces) (p ∙ ap (λ (i : ℕ). get_or d (323 + i) 0) g)
          ∙ row_interface w few.interfaces r.number r.item (entity_found w.file owner q)

      pub no_member : m ≡ 12 → ColumnRead text classes offsets lengths d (λ f. column_of_entity f (entity_named f owner) member) 416
      unfolding column_of_entity number_if_column event_column spot_of member_number member_named
      no_member y = record { within = omega arith; is = λ w few. by_entity w few (named_some w few z) }
        where
          by_interface : (w : Bench text classes offsets lengths d) → Few w.file → (i : ℕ) (o : Option Interface) → get_elem? w.file.interfaces face ≡ o
              → m ≡ member_number o member → spot_among i o member ≡ none
          by_interface w few i none s h = refl
          by_interface w few i (some x) s h =
              ap (spot_at i) (none_found (λ (v : Member). v.name) member x.members 12 (few.members face x s) (sym h ∙ y))

          by_entity : (w : Bench text classes offsets lengths d) → Few w.file
              → (r : Indexed Entity) × (entity_named w.file owner ≡ some r) × (e ≡ r.number)
              → 416 ≡ number_if_column (column_of_entity w.file (entity_named w.file owner) member)
          by_entity w few (r, q, g) =
              let o = owner_interface w few r q g in
              let h : m ≡ member_number (interface_of w.file r.number) member =
              k.is classes w (few.members face) ∙ ap (λ (i : Option Interface). member_number i member) o in
              rw (q, by_interface w few r.number (interface_of w.file r.number) o h)

      module _ (y : m ≡ 12 → ⊥) {s : ℕ} (t : MemberPart classes d face m (λ x. sort_class x.sort) s) where
        there : (w : Bench text classes offsets lengths d) → Few w.file → There w.file owner member e m s
        unfolding member_number member_named
        there w few = by_entity (named_some w few z)
          where
            by_interface : (r : Indexed Entity) → entity_named w.file owner ≡ some r → e ≡ r.number → (o : Option Interface)
                → get_elem? w.file.interfaces face ≡ o → interface_of w.file r.number ≡ o → m ≡ member_number o member
                → There w.file owner member e m s
            by_interface r q g none u v h = absurd (y h)
            by_interface r q g (some x) u v h =
                let (i, c, j) = some_found (λ (v : Member). v.name) member x.members 12 (few.members face x u) m h y in
                record {
                  entity = r;
                  named = q;
                  entity_is = g;
                  interface = x;
                  of_entity = v;
                  found = i;
                  member_is = j;
                  called = c;
                  of_sort =
                      t.is text offsets lengths w x i.item u
                      (ap (get_elem? x.members) j ∙ found_at (λ (v : Member). v.name) member x.members c);
                }

            by_entity : (r : Indexed Entity) × (entity_named w.file owner ≡ some r) × (e ≡ r.number) → There w.file owner member e m s
            by_entity (r, q, g) =
                let o = owner_interface w few r q g in
                by_interface r q g (interface_of w.file r.number) o refl
                (k.is classes w (few.members face) ∙ ap (λ (i : Option Interface). member_number i member) o)

        pub other_sort : (s ≡ EVENT → ⊥) → ColumnRead text classes offsets lengths d (λ f. column_of_entity f (entity_named f owner) member) 416
        other_sort h = record {
          within = omega arith;
          is = λ w few.
              let x = there w few in
              sym (ap number_if_column (there_column w.file owner member x) ∙ other_numbered x.entity.number x.found x.of_sort h);
        }

        pub event_read : s ≡ EVENT → ColumnRead text classes offsets lengths d (λ f. column_of_entity f (entity_named f owner) member) (e * 13 + m)
        event_read h =
            let a = n.within in
            let b = k.within in
            record {
              within = omega arith;
              is = λ w few.
                  let x = there w few in
                  ap₂ (λ (i j : ℕ). i * 13 + j) x.entity_is x.member_is
                  ∙ sym (ap number_if_column (there_column w.file owner member x) ∙ event_numbered x.entity.number x.found x.of_sort h);
            }

-- ---- the parts of a column's name

module _ (l : List ℕ) {last : ℕ} (s : FieldStart 46 l (length l) last) where
  last_part : split 46 (drop last l) ≡ take (length l - last) (drop last l) ∷ []
  last_part = s.field [] (split_end 46 l (length l) (omega arith))

  pub one_part : last ≡ 0 → split 46 l ≡ l ∷ []
  one_part z =
      subst (λ (k : ℕ). split 46 (drop k l) ≡ take (length l - last) (drop k l) ∷ []) z last_part
      ∙ ap (λ (x : List ℕ). x ∷ []) (take_all (length l - last) l (omega arith))

  module _ (z : last ≡ 0 → ⊥) {first : ℕ} (t : FieldStart 46 l (last - 1) first) where
    two_last : split 46 (drop first l) ≡ take (last - 1 - first) (drop first l) ∷ take (length l - last) (drop last l) ∷ []
    two_last = t.field (take (length l - last) (drop last l) ∷ []) (s.marked (omega arith) ∙ ap (◌∷◌ []) last_part)

    pub two_parts : first ≡ 0 → split 46 l ≡ take (last - 1 - 0) l ∷ take (length l - last) (drop last l) ∷ []
    two_parts y = subst (λ (k : ℕ). split 46 (drop k l) ≡ take (last - 1 - k) (drop k l) ∷ take (length l - last) (drop last l) ∷ []) y two_last

    -- what is the same for all names of more than two parts
    pub more_parts : {A : Type 0} (named : List (List ℕ) → A) (other : A)
        → ((a b c : List ℕ) (ps : List (List ℕ)) → named (a ∷ b ∷ c ∷ ps) ≡ other)
        → (first ≡ 0 → ⊥) → named (split 46 l) ≡ other
    more_parts named other same y =
        let h = split_last 46 l (first - 1) (t.marked (omega arith) ∙ ap (◌∷◌ []) two_last) in
        ap named h.all ∙ go h.before h.first
      where
        go : (ps : List (List ℕ)) (x : List ℕ)
            → named (ps ++ x ∷ take (last - 1 - first) (drop first l) ∷ take (length l - last) (drop last l) ∷ []) ≡ other
        go [] x = same x (take (last - 1 - first) (drop first l)) (take (length l - last) (drop last l)) []
        go (p ∷ []) x = same p x (take (last - 1 - first) (drop first l)) (take (length l - last) (drop last l) ∷ [])
        go (p ∷ q ∷ []) x = same p q x (take (last - 1 - first) (drop first l) ∷ take (length l - last) (drop last l) ∷ [])
        go (p ∷ q ∷ r ∷ ps) x = same p q r (ps ++ x ∷ take (last - 1 - first) (drop first l) ∷ take (length l - last) (drop last l) ∷ [])

    pub three_parts : (f : File) → (first ≡ 0 → ⊥) → column f (split 46 l) ≡ none
    unfolding column
    three_parts f y = more_parts (column f) none (λ a b c ps. refl) y

module _ (text classes offsets lengths d l : List ℕ) where
  pub no_column_read : ((f : File) → column f (split 46 l) ≡ none) → ColumnRead text classes offsets lengths d (λ f. column f (split 46 l)) 416
  unfolding number_if_column
  no_column_read h = record { within = omega arith; is = λ w few. rw (h w.file) }

  pub parts_read : (owner member : List ℕ) {r : ℕ} → split 46 l ≡ owner ∷ member ∷ []
      → ColumnRead text classes offsets lengths d (λ f. column_of_entity f (entity_named f owner) member) r
      → ColumnRead text classes offsets lengths d (λ f. column f (split 46 l)) r
  unfolding column
  parts_read owner member e h = record { within = h.within; is = λ w few. rw e (h.is w few) }
