-- The attributes of an interface that an entity leaves out: member after member, up to the first.
use Prim.Native.Nat.{ℕ, suc, ◌+◌, ◌*◌, ◌≤◌, ◌<◌}
use native.Mathlib.Omega.{arith}
use mathlib.Core.Path.{◌≡◌, refl, sym, ap, ◌∙◌}
use mathlib.Core.Bool.{Bool, true, false, not, ◌||◌}
use mathlib.Core.List.{List, [], ◌∷◌, ◌++◌, flat_map}
use mathlib.Core.Option.{none, some}
use Rattle.std.specs.Prelude.{min}
use lib.ListN.{length, get_or, get_elem?, drop}
use Rattle.text.specs.definitions.Syntax.{Member, Interface, Entity}
use Rattle.text.proofs.laws.SpotLaws.{stands_drop}
use Rattle.checking.specs.definitions.Faults.{fault, fault_unless, earlier, earliest}
use Rattle.checking.specs.inner_contracts.FoundFaults.{Found, found_as, merged}
use Rattle.checking.specs.definitions.Scope.{look_up, is_found, is_attribute}
use Rattle.checking.specs.definitions.NameFaults.{attribute_faults, unset_faults}
use Rattle.checking.specs.inner_contracts.Directory.{Named}
use Rattle.checking.specs.inner_contracts.DirectoryReads.{MemberRow, MemberPart}
use Rattle.checking.specs.inner_contracts.DeclarationWalk.{Sets, Body, UnsetFound}
use Rattle.checking.proofs.laws.FaultLaws.{merged_none_left, earlier_left, earliest_cons, earliest_passed, earliest_failed}
use Rattle.checking.proofs.laws.DirectoryLaws.{number_beyond, number_inside, column_bytes}
use Rattle.checking.proofs.laws.WalkedFaults.{Left, left_all, left_item, left_end}
use Rattle.checking.proofs.steps.BodyLaws.{close_inside}

-- ---- the faults of one entity all stand at its `}`

module _ (attribute set : Bool) where
  other_passes : attribute ≡ false → not attribute || set ≡ true
  other_passes h = rw h

  set_passes : set ≡ true → not attribute || set ≡ true
  set_passes h = rw h (go attribute)
    where
      go : (a : Bool) → not a || true ≡ true
      go true = refl
      go false = refl

  unset_fails : attribute ≡ true → set ≡ false → not attribute || set ≡ false
  unset_fails h e = rw (h, e)

module _ (x : Entity) where
  same_fault : (ms : List Member) → earlier (fault 17 x.close_at) (earliest (flat_map (attribute_faults x) ms)) ≡ fault 17 x.close_at
  unfolding flat_map earliest earlier attribute_faults
  same_fault [] = refl
  same_fault (m ∷ ms) = go (not (is_attribute m.sort) || is_found (look_up (λ a. a.name) m.name.bytes x.assignments)) (same_fault ms)
    where
      go : (b : Bool) → earlier (fault 17 x.close_at) (earliest (flat_map (attribute_faults x) ms)) ≡ fault 17 x.close_at
          → earlier (fault 17 x.close_at) (earliest (fault_unless b 17 x.close_at ++ flat_map (attribute_faults x) ms)) ≡ fault 17 x.close_at
      go true e = e
      go false e =
          ap (λ g. earlier (fault 17 x.close_at) (some g)) e ∙ earlier_left (fault 17 x.close_at) (fault 17 x.close_at) (omega arith)

  module _ (m : Member) where
    passes_other : is_attribute m.sort ≡ false → none ≡ earliest (attribute_faults x m)
    unfolding attribute_faults
    passes_other h = sym (earliest_passed 17 x.close_at (other_passes (is_attribute m.sort) _ h))

    passes_set : is_found (look_up (λ a. a.name) m.name.bytes x.assignments) ≡ true → none ≡ earliest (attribute_faults x m)
    unfolding attribute_faults
    passes_set e = sym (earliest_passed 17 x.close_at (set_passes (is_attribute m.sort) _ e))

    fails_unset : is_attribute m.sort ≡ true → is_found (look_up (λ a. a.name) m.name.bytes x.assignments) ≡ false
        → (ms : List Member) → earliest (flat_map (attribute_faults x) (m ∷ ms)) ≡ some (fault 17 x.close_at)
    unfolding attribute_faults merged
    fails_unset h e ms =
        earliest_cons (attribute_faults x) m ms
        ∙ ap (λ o. merged o (earliest (flat_map (attribute_faults x) ms))) (earliest_failed 17 x.close_at (unset_fails (is_attribute m.sort) _ h e))
        ∙ ap some (same_fault ms)

-- ---- member after member

-- the attributes among the first j members are set
pub record Settled (text classes offsets lengths d : List ℕ) (face from to j : ℕ) : Type 0 where
  pub left : (b : Body text classes offsets lengths d from) → to ≡ b.body.close → (i : Interface) → get_elem? b.bench.file.interfaces face ≡ some i
      → Left none (flat_map (attribute_faults b.entity) (drop j i.members)) (unset_faults b.entity (some i))

face_inside : {text classes offsets lengths d : List ℕ} {from : ℕ} (b : Body text classes offsets lengths d from) (face : ℕ) → face < get_or d 0 0
    → (i : Interface) × (get_elem? b.bench.file.interfaces face ≡ some i)
face_inside b face h = let c = b.bench.directory.interfaces in number_inside b.bench.file.interfaces face (omega arith)

pub settled_none : {text classes offsets lengths d : List ℕ} {face from to : ℕ} → Settled text classes offsets lengths d face from to 0
unfolding unset_faults
settled_none = record { left = λ b k i s. left_all (unset_faults b.entity (some i)) refl }

module _ {text classes offsets lengths d : List ℕ} {face from to j count : ℕ} (p : Settled text classes offsets lengths d face from to j)
    (c : count ≡ min (get_or d (19 + face) 0) 12) (m : j < count) where
  member_inside : (b : Body text classes offsets lengths d from) (i : Interface) → get_elem? b.bench.file.interfaces face ≡ some i → j < length i.members
  member_inside b i s = let e = b.bench.directory.member_count face i s in omega arith

  settled_next : ((b : Body text classes offsets lengths d from) → to ≡ b.body.close → (i : Interface) → get_elem? b.bench.file.interfaces face ≡ some i
      → (x : Member) → get_elem? i.members j ≡ some x → none ≡ earliest (attribute_faults b.entity x))
      → Settled text classes offsets lengths d face from to (j + 1)
  settled_next h = record {
    left = λ b k i s.
        left_item (attribute_faults b.entity) i.members (p.left b k i s) (member_inside b i s) (h b k i s) (sym (merged_none_left none));
  }

  -- no attribute
  pub settled_other : {a : Bool} → MemberPart classes d face j (λ x. is_attribute x.sort) a → a ≡ false
      → Settled text classes offsets lengths d face from to (j + 1)
  settled_other t e =
      settled_next (λ b k i s x u. passes_other b.entity x (sym (t.is text offsets lengths b.bench i x s u) ∙ e))

  module _ {interfaces : ℕ} (n : interfaces ≡ get_or d 0 0) (f : face < interfaces) {at : ℕ} (r : MemberRow d face j at) {set : Bool}
      (t : Sets text classes offsets lengths from to (at + 1) set) where
    sets_member : (b : Body text classes offsets lengths d from) → to ≡ b.body.close → (i : Interface) → get_elem? b.bench.file.interfaces face ≡ some i
        → (x : Member) → get_elem? i.members j ≡ some x → is_found (look_up (λ a. a.name) x.name.bytes b.entity.assignments) ≡ set
    sets_member b k i s x u =
        let q : at ≡ get_or d (35 + face * 12 + j) 0 = r.is (omega arith) (omega arith) in
        let named : Named b.bench.tokens (at + 1) x.name = rw q (b.bench.directory.member_name face j i x s u) in
        sym (t.is b.bench.tokens b.bench.columns b.entity.assignments (rw k b.body.set) (rw k (close_inside b))
        ∙ ap (λ y. is_found (look_up (λ a. a.name) y b.entity.assignments)) (column_bytes b.bench.columns named))

    pub settled_set : set ≡ true → Settled text classes offsets lengths d face from to (j + 1)
    settled_set e = settled_next (λ b k i s x u. passes_set b.entity x (sets_member b k i s x u ∙ e))

    pub settled_fails : {a : Bool} → MemberPart classes d face j (λ x. is_attribute x.sort) a → a ≡ true → set ≡ false → {offset : ℕ} → offset ≡ get_or offsets to 0
        → {r : Found} → found_as r ≡ some (fault 17 offset) → UnsetFound text classes offsets lengths d face from to r
    settled_fails {a} h q e {offset} o {r} g = record {
      is = λ b k. let (i, s) = face_inside b face (omega arith) in go b k i s (number_inside i.members j (member_inside b i s));
    }
      where
        go : (b : Body text classes offsets lengths d from) → to ≡ b.body.close → (i : Interface) → get_elem? b.bench.file.interfaces face ≡ some i
            → (x : Member) × (get_elem? i.members j ≡ some x)
            → found_as r ≡ earliest (unset_faults b.entity (get_elem? b.bench.file.interfaces face))
        go b k i s (x, u) =
            let place : offset ≡ b.entity.close_at =
            o ∙ ap (λ y. get_or offsets y 0) k ∙ sym (b.bench.columns.offset b.body.close b.body.closing b.body.stands) ∙ b.body.offset in
            rw s
            (g
            ∙ ap (λ y. some (fault 17 y)) place
            ∙ sym (fails_unset b.entity x (sym (h.is text offsets lengths b.bench i x s u) ∙ q) (sets_member b k i s x u ∙ e)
            (drop (suc j) i.members))
            ∙ ap (λ ys. earliest (flat_map (attribute_faults b.entity) ys)) (sym (stands_drop i.members j u))
            ∙ sym (merged_none_left _)
            ∙ (p.left b k i s).same)

module _ {text classes offsets lengths d : List ℕ} {face from to interfaces : ℕ} (n : interfaces ≡ get_or d 0 0) where
  pub unset_unasked : interfaces ≤ face → {r : Found} → found_as r ≡ none → UnsetFound text classes offsets lengths d face from to r
  unfolding unset_faults earliest
  unset_unasked h e = record {
    is = λ b k.
        let c = b.bench.directory.interfaces in
        let z : get_elem? b.bench.file.interfaces face ≡ none = number_beyond b.bench.file.interfaces face (omega arith) in
        rw z e;
  }

  module _ (h : face < interfaces) where
    pub settled_all : {count j : ℕ} → Settled text classes offsets lengths d face from to j → count ≡ min (get_or d (19 + face) 0) 12 → count ≤ j
        → {r : Found} → found_as r ≡ none → UnsetFound text classes offsets lengths d face from to r
    settled_all {count} {j} p c l {r} e = record { is = λ b k. go b k (face_inside b face (omega arith)) }
      where
        go : (b : Body text classes offsets lengths d from) → to ≡ b.body.close
            → (i : Interface) × (get_elem? b.bench.file.interfaces face ≡ some i)
            → found_as r ≡ earliest (unset_faults b.entity (get_elem? b.bench.file.interfaces face))
        go b k (i, s) =
            let m = b.bench.directory.member_count face i s in
            let few = b.few.members face i s in
            let z : length i.members ≤ j = omega arith in
            rw s (e ∙ left_end (attribute_faults b.entity) i.members (p.left b k i s) z)

-- the turns over the members
pub ruleset settled_turns = (unset_unasked, settled_none, settled_other, settled_set, settled_fails, settled_all)
