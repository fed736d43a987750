-- The directory that is built is the file's.
use Prim.Native.Nat.{ℕ, suc, ◌+◌, ◌*◌, ◌-◌, ◌≤◌, ◌<◌}
use native.Mathlib.Numerals.{add-one, add-three}
use native.Mathlib.Omega.{arith}
use mathlib.Core.Logic.{◌≢◌}
use mathlib.Core.Path.{◌≡◌, refl, sym, ap, ◌∙◌, subst}
use mathlib.Core.Bool.{Bool, true, false, ◌&&◌}
use mathlib.Core.List.{List, []}
use mathlib.Core.Option.{some}
use lib.Dec.{leb, eqb}
use lib.ListN.{length, get_or, get_elem?, take, set, length-set, length-take}
use lib.Seq.{length-sets, get_or-set_same, get_or-set_other, get_or-take}
use borrow.Author.Tests.{leb-true, le-leb, lt-leb, eqb-true, eq-eqb}
use Rattle.values.specs.declared.Kind.{Kind}
use Rattle.values.specs.declared.Kind.TheVariants.{Wholes, Bools, Reals}
use Rattle.text.specs.definitions.Tokens.{Token, INTERFACE, ATTRIBUTE, ACTION, ENTITY, WHEN}
use Rattle.text.specs.definitions.Syntax.{Name, Sort, attribute, event, action, Member, Interface, Entity, Rule, File}
use Rattle.text.specs.definitions.Readers.{Parser}
use Rattle.text.specs.definitions.Grammar.{interface_after, entity_after}
use Rattle.text.proofs.laws.LanguageLaws.{is}
use Rattle.text.proofs.laws.SpotLaws.{Starts, stands_below}
use Rattle.text.proofs.laws.DeclarationMarks.{NameAt, Item_at, MemberAt, sort_token, kind_token}
use Rattle.text.proofs.laws.RuleMarks.{RuleAt}
use Rattle.text.proofs.laws.FlatLaws.{FileMarks, file_marks, file_interfaces, file_entities, file_rules}
use Rattle.checking.specs.definitions.CountFaults.{count_faults}
use Rattle.checking.specs.inner_contracts.CountChecked.{ClassesOf}
use Rattle.checking.specs.inner_contracts.Directory.{Named, Begins, sort_class, kind_class}
use Rattle.checking.specs.inner_contracts.TokenPlaces.{places, Marked, MembersAt, MembersMarked}
use Rattle.checking.specs.inner_contracts.DirectoryItems.{ItemsOf, DirectoryBuilt}
use Rattle.checking.proofs.laws.CountBounds.{few_interfaces, FewMembers, few_entities, few_rules}
use Rattle.checking.proofs.steps.PlaceLaws.{get_d_sets_before, getD_sets_after, getD_sets_at}
use Rattle.checking.proofs.steps.PlacedLaws.{Placed, spots_placed, interface_members_placed}

-- ---- what a directory says of a token

module _ {ts : List Token} {p : ℕ} where
  begins_at : {A : Type 0} {c : ℕ} {after : Token → Parser A} {a : A} → Starts ts p c after a → Begins ts p c after a
  begins_at {after = after} {a} s = record {
    token = s.token;
    stands = s.stands;
    class = s.class;
    used = s.used;
    reads = rw (add-one p) s.reads;
  }

  named_next : {n : Name} → NameAt ts (suc p) n → Named ts (p + 1) n
  named_next a = record { token = a.token; stands = rw (add-one p) a.stands; is = a.is }

same_sort : (s : Sort) → sort_token s ≡ sort_class s
unfolding sort_token sort_class
same_sort attribute = refl
same_sort event = refl
same_sort action = refl

same_kind : (k : Kind) → kind_token k ≡ kind_class k
unfolding kind_token kind_class
same_kind Wholes = refl
same_kind Bools = refl
same_kind Reals = refl

-- one class is a range of one
one_class : (k c : ℕ) → leb k c && leb c k ≡ is k c
one_class k c = go (eqb c k) refl
  where
    go : (b : Bool) → eqb c k ≡ b → leb k c && leb c k ≡ b
    go true e = let q : c ≡ k = eqb-true c k e in rw (le-leb k c (omega arith), le-leb c k (omega arith))
    go false e = by (leb k c) refl (leb c k) refl
      where
        by : (x : Bool) → leb k c ≡ x → (y : Bool) → leb c k ≡ y → x && y ≡ false
        by false p y q = refl
        by true p false q = refl
        by true p true q = sym (eq-eqb c k (omega (arith, leb-true k c p, leb-true c k q))) ∙ e

-- ---- the rows

module _ {classes : List ℕ} {low high from end base most : ℕ} {d new : List ℕ} {count : ℕ} (m : Marked classes low high from end base most d new count) where
  abbrev found : List ℕ
  found = places classes low high (end - from) from

  marked_size : length new ≡ length d
  marked_size = ap length m.puts ∙ length-sets d base (take most found)

  marked_before : (i : ℕ) → i < base → get_or new i 0 ≡ get_or d i 0
  marked_before i l = rw m.puts (get_d_sets_before 0 d base (take most found) i l)

  marked_after : (i : ℕ) → base + most ≤ i → get_or new i 0 ≡ get_or d i 0
  marked_after i l = rw m.puts (getD_sets_after 0 d base (take most found) i (omega (arith, length-take most found)))

  marked_row : (k : ℕ) → k < most → k < count → base + most ≤ length d → get_or new (base + k) 0 ≡ get_or found k 0
  marked_row k a b s =
      let inside : k < length (take most found) = omega (arith, length-take most found, m.counts) in
      rw m.puts (getD_sets_at 0 d base (take most found) k inside (omega arith) ∙ get_or-take most found k 0 a)

put_other : (d : List ℕ) {new : List ℕ} (i n j : ℕ) → new ≡ set d i n → j ≢ i → get_or new j 0 ≡ get_or d j 0
put_other d i n j p o = rw p (get_or-set_other d i j n 0 o)

put_size : (d : List ℕ) {new : List ℕ} (i n : ℕ) → new ≡ set d i n → length new ≡ length d
put_size d i n p = rw p (length-set d i n)

put_same : (d : List ℕ) {new : List ℕ} (i n : ℕ) → new ≡ set d i n → i < length d → get_or new i 0 ≡ n
put_same d i n p l = rw p (get_or-set_same d i n 0 l)

-- the steps, one after another
module _ {classes d d₁ d₂ d₃ d₄ d₅ d₆ new : List ℕ} {a b c : ℕ}
    (m₁ : Marked classes INTERFACE INTERFACE 0 (length classes) 3 16 d d₁ a) (p₁ : d₂ ≡ set d₁ 0 a)
    (m₂ : Marked classes ENTITY ENTITY 0 (length classes) 227 32 d₂ d₃ b) (p₂ : d₄ ≡ set d₃ 1 b)
    (m₃ : Marked classes WHEN WHEN 0 (length classes) 259 64 d₄ d₅ c) (p₃ : d₆ ≡ set d₅ 2 c)
    (m₄ : MembersMarked classes a d₆ new) (room : 355 ≤ length d) where
  size₁ : length d₁ ≡ length d
  size₁ = marked_size m₁

  size₂ : length d₂ ≡ length d
  size₂ = put_size d₁ 0 a p₁ ∙ size₁

  size₃ : length d₃ ≡ length d
  size₃ = marked_size m₂ ∙ size₂

  size₄ : length d₄ ≡ length d
  size₄ = put_size d₃ 1 b p₂ ∙ size₃

  size₅ : length d₅ ≡ length d
  size₅ = marked_size m₃ ∙ size₄

  size₆ : length d₆ ≡ length d
  size₆ = put_size d₅ 2 c p₃ ∙ size₅

  -- rows that rules, and entities, leave alone
  past_rules : (i : ℕ) → i ≢ 2 → i < 259 → get_or d₆ i 0 ≡ get_or d₄ i 0
  past_rules i o l = put_other d₅ 2 c i p₃ o ∙ marked_before m₃ i l

  past_entities : (i : ℕ) → i ≢ 2 → i ≢ 1 → i < 227 → get_or d₆ i 0 ≡ get_or d₂ i 0
  past_entities i o q l = past_rules i o (omega arith) ∙ put_other d₃ 1 b i p₂ q ∙ marked_before m₂ i l

  row_0 : get_or new 0 0 ≡ a
  row_0 = m₄.before 0 (omega arith) ∙ past_entities 0 (omega arith) (omega arith) (omega arith) ∙ put_same d₁ 0 a p₁ (omega (arith, size₁))

  row_1 : get_or new 1 0 ≡ b
  row_1 = m₄.before 1 (omega arith) ∙ past_rules 1 (omega arith) (omega arith) ∙ put_same d₃ 1 b p₂ (omega (arith, size₃))

  row_2 : get_or new 2 0 ≡ c
  row_2 = m₄.before 2 (omega arith) ∙ put_same d₅ 2 c p₃ (omega (arith, size₅))

  interface_there : (k : ℕ) → k < 16 → k < a → get_or d₆ (3 + k) 0 ≡ get_or (places classes INTERFACE INTERFACE (length classes - 0) 0) k 0
  interface_there k l h =
      past_entities (3 + k) (omega arith) (omega arith) (omega arith) ∙ put_other d₁ 0 a (3 + k) p₁ (omega arith) ∙ marked_row m₁ k l h (omega arith)

  entity_there : (e : ℕ) → e < 32 → e < b → get_or new (227 + e) 0 ≡ get_or (places classes ENTITY ENTITY (length classes - 0) 0) e 0
  entity_there e l h =
      m₄.after (227 + e) (omega arith) ∙ past_rules (227 + e) (omega arith) (omega arith) ∙ put_other d₃ 1 b (227 + e) p₂ (omega arith)
      ∙ marked_row m₂ e l h (omega (arith, size₂))

  rule_there : (r : ℕ) → r < 64 → r < c → get_or new (259 + r) 0 ≡ get_or (places classes WHEN WHEN (length classes - 0) 0) r 0
  rule_there r l h = m₄.after (259 + r) (omega arith) ∙ put_other d₅ 2 c (259 + r) p₃ (omega arith) ∙ marked_row m₃ r l h (omega (arith, size₄))

  others_there : (i : ℕ) → 323 ≤ i → get_or new i 0 ≡ get_or d i 0
  others_there i l =
      m₄.after i (omega arith) ∙ put_other d₅ 2 c i p₃ (omega arith) ∙ marked_after m₃ i (omega arith) ∙ put_other d₃ 1 b i p₂ (omega arith)
      ∙ marked_after m₂ i (omega arith) ∙ put_other d₁ 0 a i p₁ (omega arith) ∙ marked_after m₁ i (omega arith)

  module _ {ts : List Token} {f : File} (small : length classes < 65536) (w : ClassesOf classes ts) (marks : FileMarks ts f (length ts))
      (none : count_faults f ≡ []) where
    whole : 0 + (length classes - 0) ≡ length ts
    whole = omega (arith, w.count)

    interfaces_placed : Placed (λ p i. Item_at ts p INTERFACE interface_after i i.at i.name) (places classes INTERFACE INTERFACE (length classes - 0) 0)
        f.interfaces
    interfaces_placed = spots_placed w (file_interfaces marks) INTERFACE INTERFACE (one_class INTERFACE) (length classes - 0) whole

    entities_placed : Placed (λ p e. Item_at ts p ENTITY entity_after e e.at e.name) (places classes ENTITY ENTITY (length classes - 0) 0) f.entities
    entities_placed = spots_placed w (file_entities marks) ENTITY ENTITY (one_class ENTITY) (length classes - 0) whole

    rules_placed : Placed (RuleAt ts) (places classes WHEN WHEN (length classes - 0) 0) f.rules
    rules_placed = spots_placed w (file_rules marks) WHEN WHEN (one_class WHEN) (length classes - 0) whole

    interface_count : a ≡ length f.interfaces
    interface_count = m₁.counts ∙ interfaces_placed.count

    interface_at : (k : ℕ) (i : Interface) → get_elem? f.interfaces k ≡ some i
        → Item_at ts (get_or new (3 + k) 0) INTERFACE interface_after i i.at i.name
    interface_at k i e =
        let n : k < 16 = few_interfaces f none k e in
        let l : k < length f.interfaces = stands_below f.interfaces k e in
        rw (m₄.before (3 + k) (omega arith) ∙ interface_there k (omega arith) (omega (arith, interface_count))) (interfaces_placed.each k i e)

    -- the rows of an interface's members, and what they stand for
    members_there : (k : ℕ) (i : Interface) → get_elem? f.interfaces k ≡ some i
        → (h : MembersAt classes (get_or d₆ (3 + k) 0) (35 + k * 12) (19 + k) new)
        × Placed (MemberAt ts) (places classes ATTRIBUTE ACTION (h.close - get_or d₆ (3 + k) 0) (get_or d₆ (3 + k) 0)) i.members
    members_there k i e =
        let n : k < 16 = few_interfaces f none k e in
        let l : k < length f.interfaces = stands_below f.interfaces k e in
        let h = m₄.members small (omega (arith, size₆)) k (omega arith) (omega (arith, interface_count)) in
        let s = subst (λ p. Item_at ts p INTERFACE interface_after i i.at i.name) (m₄.before (3 + k) (omega arith)) (interface_at k i e) in
        (h, interface_members_placed w s.starts h.closes)

    member_at : (k j : ℕ) (i : Interface) (m : Member) → get_elem? f.interfaces k ≡ some i → get_elem? i.members j ≡ some m
        → MemberAt ts (get_or new (35 + k * 12 + j) 0) m
    member_at k j i m e g = go (members_there k i e)
      where
        go : (h : MembersAt classes (get_or d₆ (3 + k) 0) (35 + k * 12) (19 + k) new)
            × Placed (MemberAt ts) (places classes ATTRIBUTE ACTION (h.close - get_or d₆ (3 + k) 0) (get_or d₆ (3 + k) 0)) i.members
            → MemberAt ts (get_or new (35 + k * 12 + j) 0) m
        go (h, p) =
            let l : j < length i.members = stands_below i.members j g in
            rw (h.rows j (FewMembers f none k j i e g) (omega (arith, p.count))) (p.each j m g)

    member_count_there : (k : ℕ) (i : Interface) → get_elem? f.interfaces k ≡ some i → get_or new (19 + k) 0 ≡ length i.members
    member_count_there k i e = let (h, p) = members_there k i e in h.count ∙ p.count

    entity_at : (k : ℕ) (x : Entity) → get_elem? f.entities k ≡ some x → Item_at ts (get_or new (227 + k) 0) ENTITY entity_after x x.at x.name
    entity_at k x e =
        let l : k < length f.entities = stands_below f.entities k e in
        let q : b ≡ length f.entities = m₂.counts ∙ entities_placed.count in
        rw (entity_there k (few_entities f none k e) (omega arith)) (entities_placed.each k x e)

    rule_at : (k : ℕ) (r : Rule) → get_elem? f.rules k ≡ some r → RuleAt ts (get_or new (259 + k) 0) r
    rule_at k r e =
        let l : k < length f.rules = stands_below f.rules k e in
        let q : c ≡ length f.rules = m₃.counts ∙ rules_placed.count in
        rw (rule_there k (few_rules f none k e) (omega arith)) (rules_placed.each k r e)

    items_there : ItemsOf f ts new
    items_there = record {
      interfaces = row_0 ∙ interface_count;
      entities = row_1 ∙ m₂.counts ∙ entities_placed.count;
      rules = row_2 ∙ m₃.counts ∙ rules_placed.count;
      interface = λ k i e. begins_at (interface_at k i e).starts;
      interface_name = λ k i e. named_next (interface_at k i e).name;
      member_count = member_count_there;
      member_name = λ k j i m e g. named_next (member_at k j i m e g).name;
      member_sort = λ k j i m e g. let s = (member_at k j i m e g).first in (s.token, s.stands, s.class ∙ same_sort m.sort);
      member_kind = λ k j i m e g.
          let s = (member_at k j i m e g).kind in (s.token, rw (add-three (get_or new (35 + k * 12 + j) 0)) s.stands, s.class ∙ same_kind m.kind);
      entity = λ k x e. begins_at (entity_at k x e).starts;
      entity_name = λ k x e. named_next (entity_at k x e).name;
      rule = λ k r e. begins_at (rule_at k r e).starts;
    }

  pub directory_built : length classes ≤ 65535 → DirectoryBuilt classes d new true
  directory_built small = record {
    answers = rw (le-leb 355 (length d) room, le-leb (length classes) 65535 small);
    items = λ t ts f w reads none. items_there (omega arith) w (file_marks ts f (length ts) reads) none;
    others = others_there;
  }

never : false ≡ true → ⊥
never h = let z : ◌≡◌ {A = ℕ} 0 1 = cc in omega arith

-- too few rows, or too many tokens
pub directory_short : (classes d : List ℕ) → length d < 355 → DirectoryBuilt classes d d false
directory_short classes d l = record {
  answers = rw (lt-leb 355 (length d) l);
  items = λ t. absurd (never t);
  others = λ i h. refl;
}
