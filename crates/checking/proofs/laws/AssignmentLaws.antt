-- The walks over the assignments of an entity: where each ends, which names they set, and their faults.
use Prim.Native.Nat.{ℕ, ◌+◌, ◌-◌, ◌≤◌, ◌<◌}
use native.Mathlib.Omega.{arith}
use mathlib.Core.Path.{◌≡◌, refl, sym, ap, ap₂, ◌∙◌}
use mathlib.Core.Bool.{Bool, true, false}
use mathlib.Core.List.{List, ◌∷◌}
use mathlib.Core.Option.{Option, none, some}
use lib.Dec.{eqb}
use lib.ListN.{length, get_or, get_elem?}
use borrow.Author.Tests.{eq-eqb, ne_eqb}
use Rattle.values.specs.definitions.Bytes.{same_bytes}
use Rattle.values.specs.declared.Kind.{Kind}
use Rattle.values.specs.definitions.Fitting.{kinds_fit}
use Rattle.text.specs.definitions.Tokens.{Token, NAME, ATTRIBUTE, MINUS}
use Rattle.text.specs.definitions.Syntax.{Name, Sort, attribute, event, action, Member, Interface, literal_kind, Assignment}
use Rattle.text.specs.definitions.Grammar.{assignment_after}
use Rattle.checking.specs.definitions.Faults.{fault_unless, earliest}
use Rattle.checking.specs.inner_contracts.FoundFaults.{Found, found_as}
use Rattle.checking.specs.definitions.Scope.{Indexed as Numbered, here_or_later, look_up, is_found, is_attribute, member_named}
use Rattle.checking.specs.definitions.NameFaults.{is_of_sort, member_faults}
use Rattle.checking.specs.definitions.KindFaults.{kind_if_found, member_kind, assignment_kind_faults}
use Rattle.checking.specs.inner_contracts.Directory.{name_in, ColumnsOf, Named, Bench, sort_class, number_or, member_number}
use Rattle.checking.specs.inner_contracts.DirectoryReads.{Few, MemberPart}
use Rattle.checking.specs.inner_contracts.Kinds.{literal_class}
use Rattle.checking.specs.inner_contracts.Sequences.{Sequence}
use Rattle.checking.specs.inner_contracts.DeclarationWalk.{
  literal_end,
  AssignmentEnd,
  Sets,
  AttributeFound,
  KindFound,
}
use Rattle.checking.proofs.laws.FaultLaws.{earliest_passed}
use Rattle.checking.proofs.laws.LookUpLaws.{found_at}
use Rattle.checking.proofs.laws.DirectoryLaws.{number_below, number_beyond, number_inside, column_bytes, column_offset}
use Rattle.checking.proofs.laws.WalkedFaults.{unless_same}
use Rattle.checking.proofs.laws.SequenceLaws.{sequence_first, First, sequence_ends}
use Rattle.checking.proofs.laws.EntityTokens.{AssignmentAt, assignment_stands}

-- ---- where an assignment ends

module _ {classes : List ℕ} {q : ℕ} where
  -- too few tokens are left
  pub end_short : length classes - q ≤ 3 → AssignmentEnd classes q q
  end_short h = omega arith

  module _ (h : 3 < length classes - q) {c : ℕ} (e : c ≡ get_or classes (q + 2) 0) where
    pub end_signed : c ≡ MINUS → AssignmentEnd classes q (q + 2 + 1)
    unfolding literal_end
    end_signed m = record {
      onward = λ l. omega arith;
      inside = λ l. omega arith;
      is = λ l. rw (eq-eqb (get_or classes (q + 2) 0) MINUS (sym e ∙ m), literal_end);
    }

    pub end_plain : (c ≡ MINUS → ⊥) → AssignmentEnd classes q (q + 2)
    unfolding literal_end
    end_plain m = record {
      onward = λ l. omega arith;
      inside = λ l. omega arith;
      is = λ l. rw (ne_eqb (get_or classes (q + 2) 0) MINUS (λ z. m (e ∙ z)), literal_end);
    }

-- the code's step comes to the next assignment
pub next_assignment : {classes offsets : List ℕ} {ts : List Token} {q last used to : ℕ} {a : Assignment} → AssignmentAt classes offsets ts q a used
    → q + 1 + used ≤ to → to < length classes → AssignmentEnd classes q last → (last ≡ literal_end classes (q + 2)) × (last + 1 ≡ q + 1 + used)
next_assignment {classes} {q = q} {last} {used} h l m s =
    let n = h.next in
    let o = h.onward in
    let e : last ≡ literal_end classes (q + 2) = s.is (omega arith) in
    (e, omega arith)

-- ---- which names are set

-- the assignments before token number q do not set the name
pub record Looking (text classes offsets lengths : List ℕ) (from to i q : ℕ) : Type 0 where
  pub left : (ts : List Token) → ColumnsOf text classes offsets lengths ts → (xs : List Assignment) → Sequence ts NAME assignment_after from to xs
      → to < length classes
      → (ys : List Assignment) × Sequence ts NAME assignment_after q to ys
      × (is_found (look_up (λ a. a.name) (name_in text offsets lengths i) ys) ≡ is_found (look_up (λ a. a.name) (name_in text offsets lengths i) xs))

looked_here : (n : List ℕ) (a : Assignment) (rest : List Assignment) → same_bytes n a.name.bytes ≡ true
    → is_found (look_up (λ x. x.name) n (a ∷ rest)) ≡ true
unfolding look_up here_or_later is_found
looked_here n a rest e = rw e

looked_later : (n : List ℕ) (a : Assignment) (rest : List Assignment) → same_bytes n a.name.bytes ≡ false
    → is_found (look_up (λ x. x.name) n (a ∷ rest)) ≡ is_found (look_up (λ x. x.name) n rest)
unfolding look_up is_found
looked_later n a rest e = rw e (go (look_up (λ x. x.name) n rest))
  where
    go : (o : Option (Numbered Assignment)) → is_found (here_or_later false a o) ≡ is_found o
    go none = refl
    go (some r) = refl

module _ {text classes offsets lengths : List ℕ} {from to i : ℕ} where
  pub looking_begins : Looking text classes offsets lengths from to i from
  looking_begins = record { left = λ ts columns xs s few. (xs, s, refl) }

  module _ {q : ℕ} (p : Looking text classes offsets lengths from to i q) where
    -- beyond the table no assignment ends
    pub looking_outside : {r : Bool} → q < to → length classes ≤ q → Sets text classes offsets lengths from to i r
    looking_outside l m = record { is = λ ts columns xs s few. absurd (omega arith) }

    pub looking_ends : to ≤ q → Sets text classes offsets lengths from to i false
    unfolding look_up is_found
    looking_ends l = record {
      is = λ ts columns xs s few.
          let (ys, t, e) = p.left ts columns xs s few in
          ap (λ zs. is_found (look_up (λ a. a.name) (name_in text offsets lengths i) zs)) (sym (sequence_ends t l).0) ∙ e;
    }

    module _ (l : q < to) {b : Bool} (f : b ≡ same_bytes (name_in text offsets lengths i) (name_in text offsets lengths q)) where
      -- the test is that of the first assignment left
      tested : {ts : List Token} → ColumnsOf text classes offsets lengths ts → {ys : List Assignment} (t : First ts NAME assignment_after q to ys)
          → same_bytes (name_in text offsets lengths i) t.head.name.bytes ≡ b
      tested columns t = sym (f ∙ ap (same_bytes (name_in text offsets lengths i)) (column_bytes columns (assignment_stands columns t.begins).named))

      pub looking_here : b ≡ true → Sets text classes offsets lengths from to i true
      looking_here h = record {
        is = λ ts columns xs s few.
            let (ys, t, e) = p.left ts columns xs s few in
            let g = sequence_first t l in
            sym (looked_here (name_in text offsets lengths i) g.head g.tail (tested columns g ∙ h))
            ∙ ap (λ zs. is_found (look_up (λ a. a.name) (name_in text offsets lengths i) zs)) g.joins
            ∙ e;
      }

      pub looking_on : {last : ℕ} → b ≡ false → AssignmentEnd classes q last → Looking text classes offsets lengths from to i (last + 1)
      looking_on {last} h o = record {
        left = λ ts columns xs s few.
            let (ys, t, e) = p.left ts columns xs s few in
            let g = sequence_first t l in
            let (z, k) = next_assignment (assignment_stands columns g.begins) g.within few o in (
              g.tail,
              rw k g.rest,
              sym (looked_later (name_in text offsets lengths i) g.head g.tail (tested columns g ∙ h))
                  ∙ ap (λ zs. is_found (look_up (λ a. a.name) (name_in text offsets lengths i) zs)) g.joins
                  ∙ e,
            );
      }

-- ---- the attribute that a name means

attribute_class : (s : Sort) → eqb (sort_class s) ATTRIBUTE ≡ is_attribute s
unfolding sort_class is_attribute
attribute_class attribute = refl
attribute_class event = refl
attribute_class action = refl

pub attribute_told : {classes d : List ℕ} {face m c : ℕ} → MemberPart classes d face m (λ x. sort_class x.sort) c
    → MemberPart classes d face m (λ x. is_attribute x.sort) (eqb c ATTRIBUTE)
attribute_told {c = c} k = record {
  is = λ text offsets lengths w i x s t. ap (λ n. eqb n ATTRIBUTE) (k.is text offsets lengths w i x s t) ∙ attribute_class x.sort;
}

-- a member by its number: what the directory says of it
module _ {text classes offsets lengths d : List ℕ} (w : Bench text classes offsets lengths d) (few : Few w.file) {face m : ℕ}
    (i : Interface) (s : get_elem? w.file.interfaces face ≡ some i) where
  is_attribute_here : {b : Bool} → m < 12 → MemberPart classes d face m (λ x. is_attribute x.sort) b → (o : Option (Numbered Member))
      → ((r : Numbered Member) → o ≡ some r → get_elem? i.members r.number ≡ some r.item) → m ≡ number_or 12 o → b ≡ is_of_sort is_attribute o
  unfolding number_or is_of_sort
  is_attribute_here l h none at e = absurd (omega arith)
  is_attribute_here l h (some r) at e =
      let t : get_elem? i.members m ≡ some r.item = rw e (at r refl) in
      h.is text offsets lengths w i r.item s t

-- no member
module _ {text classes offsets lengths d : List ℕ} (w : Bench text classes offsets lengths d) (few : Few w.file) (face : ℕ)
    (i : Interface) (s : get_elem? w.file.interfaces face ≡ some i) where
  no_attribute_here : {j : ℕ} → 12 ≤ j → (o : Option (Numbered Member))
      → ((r : Numbered Member) → o ≡ some r → get_elem? i.members r.number ≡ some r.item) → j ≡ number_or 12 o → false ≡ is_of_sort is_attribute o
  unfolding number_or is_of_sort
  no_attribute_here l none at e = refl
  no_attribute_here l (some r) at e =
      let b = number_below i.members r.number (at r refl) in
      let n = few.members face i s in
      absurd (omega arith)

module _ {classes offsets d : List ℕ} {face m q interfaces : ℕ} (n : interfaces ≡ get_or d 0 0) where
  pub attribute_unasked : interfaces ≤ face → {r : Found} → found_as r ≡ none → AttributeFound classes offsets d face m q r
  unfolding member_faults earliest
  attribute_unasked h e = record {
    is = λ text lengths w few x named k.
        let c = w.directory.interfaces in
        let z : get_elem? w.file.interfaces face ≡ none = number_beyond w.file.interfaces face (omega arith) in
        rw z e;
  }

  told_attribute : face < interfaces → {b : Bool} {offset : ℕ}
      → ((text lengths : List ℕ) (w : Bench text classes offsets lengths d) → Few w.file → (i : Interface) → get_elem? w.file.interfaces face ≡ some i
      → (n : Option (Numbered Member)) → ((r : Numbered Member) → n ≡ some r → get_elem? i.members r.number ≡ some r.item) → m ≡ number_or 12 n
      → b ≡ is_of_sort is_attribute n)
      → offset ≡ get_or offsets q 0 → {r : Found}
      → found_as r ≡ earliest (fault_unless b 16 offset) → AttributeFound classes offsets d face m q r
  unfolding member_faults member_named member_number
  told_attribute h {b} {offset} a o {r} e = record { is = λ text lengths w few x named k. go w few x named k (inside w) }
    where
      inside : {text lengths : List ℕ} (w : Bench text classes offsets lengths d) → (i : Interface) × (get_elem? w.file.interfaces face ≡ some i)
      inside w = let c = w.directory.interfaces in number_inside w.file.interfaces face (omega arith)

      go : {text lengths : List ℕ} (w : Bench text classes offsets lengths d) → Few w.file → (x : Name) → Named w.tokens q x
          → m ≡ member_number (get_elem? w.file.interfaces face) x.bytes
          → (i : Interface) × (get_elem? w.file.interfaces face ≡ some i)
          → found_as r ≡ earliest (member_faults is_attribute (get_elem? w.file.interfaces face) x)
      go w few x named k (i, s) =
          rw s
          (e ∙ unless_same 16
          (a _ _ w few i s (look_up (λ y. y.name) x.bytes i.members) (λ r t. found_at (λ y. y.name) x.bytes i.members t)
          (rw s at k))
          (o ∙ column_offset w.columns named))

  pub attribute_asked : face < interfaces → m < 12 → {b : Bool} {offset : ℕ} → MemberPart classes d face m (λ x. is_attribute x.sort) b
      → offset ≡ get_or offsets q 0 → {r : Found} → found_as r ≡ earliest (fault_unless b 16 offset) → AttributeFound classes offsets d face m q r
  attribute_asked h l a o e = told_attribute h (λ text lengths w few i s. is_attribute_here w few i s l a) o e

  pub attribute_missing : face < interfaces → 12 ≤ m → {offset : ℕ} → offset ≡ get_or offsets q 0 → {r : Found}
      → found_as r ≡ earliest (fault_unless false 16 offset) → AttributeFound classes offsets d face m q r
  attribute_missing h l o e = told_attribute h (λ text lengths w few i s. no_attribute_here w few face i s l) o e

-- ---- the kind of an assignment

module _ {text classes offsets lengths d : List ℕ} (w : Bench text classes offsets lengths d) (few : Few w.file) (face : ℕ) {m : ℕ}
    (n : Name) (k : Kind) where
  -- no member is no fault
  kind_passes : 12 ≤ m → (o : Option Interface) → get_elem? w.file.interfaces face ≡ o → m ≡ member_number o n.bytes
      → kinds_fit (member_kind o n) (some k) ≡ true
  unfolding member_number member_kind member_named kinds_fit kind_if_found number_or
  kind_passes h none s e = refl
  kind_passes h (some i) s e = go (look_up (λ x. x.name) n.bytes i.members) (λ r t. found_at (λ x. x.name) n.bytes i.members t) e
    where
      go : (o : Option (Numbered Member)) → ((r : Numbered Member) → o ≡ some r → get_elem? i.members r.number ≡ some r.item) → m ≡ number_or 12 o
          → kinds_fit (kind_if_found o) (some k) ≡ true
      go none at e = refl
      go (some r) at e = let l = number_below i.members r.number (at r refl) in let c = few.members face i s in absurd (omega arith)

  kind_tests : {j given : Kind} → m < 12 → MemberPart classes d face m (λ x. x.kind) j → given ≡ k → (o : Option Interface)
      → get_elem? w.file.interfaces face ≡ o → m ≡ member_number o n.bytes → kinds_fit (some j) (some given) ≡ kinds_fit (member_kind o n) (some k)
  unfolding member_number member_kind member_named kinds_fit kind_if_found number_or
  kind_tests h c g none s e = absurd (omega arith)
  kind_tests {j} {given} h c g (some i) s e =
      go (look_up (λ x. x.name) n.bytes i.members) (λ r t. found_at (λ x. x.name) n.bytes i.members t) e
    where
      go : (o : Option (Numbered Member)) → ((r : Numbered Member) → o ≡ some r → get_elem? i.members r.number ≡ some r.item) → m ≡ number_or 12 o
          → kinds_fit (some j) (some given) ≡ kinds_fit (kind_if_found o) (some k)
      go none at e = absurd (omega arith)
      go (some r) at e =
          let t : get_elem? i.members m ≡ some r.item = rw e (at r refl) in
          ap₂ (λ x y. kinds_fit (some x) (some y)) (c.is text offsets lengths w i r.item s t) g

module _ {classes offsets d : List ℕ} {face m equals last : ℕ} where
  pub kind_unasked : 12 ≤ m → {r : Found} → found_as r ≡ none → KindFound classes offsets d face m equals last r
  unfolding assignment_kind_faults
  kind_unasked h e = record {
    is = λ text lengths w few a k o c.
        e
        ∙ sym (earliest_passed 18 a.equals_at (kind_passes w few face a.name (literal_kind a.literal) h (get_elem? w.file.interfaces face) refl k));
  }

  pub kind_asked : m < 12 → {j given : Kind} {class offset : ℕ} → MemberPart classes d face m (λ x. x.kind) j → class ≡ get_or classes last 0
      → given ≡ literal_class class → offset ≡ get_or offsets equals 0 → {fit : Bool} {r : Found} → fit ≡ kinds_fit (some j) (some given)
      → found_as r ≡ earliest (fault_unless fit 18 offset)
      → KindFound classes offsets d face m equals last r
  unfolding assignment_kind_faults
  kind_asked h j l g o f e = record {
    is = λ text lengths w few a k at c.
        e ∙ unless_same 18
        (f ∙ kind_tests w few face a.name (literal_kind a.literal) h j (g ∙ ap literal_class l ∙ c) (get_elem? w.file.interfaces face) refl k) (o ∙ at);
  }

-- where an assignment ends
pub ruleset assignment_ends = (end_short, end_signed, end_plain)

-- the turns of the search for a name
pub ruleset looking_turns = (looking_begins, looking_outside, looking_here, looking_on)
