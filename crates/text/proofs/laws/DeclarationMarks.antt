-- Interfaces and entities by the classes of their tokens alone: which tokens begin an interface, a member, an entity, and what stands beside them.
use Prim.Native.Nat.{ℕ, suc}
use mathlib.Core.Path.{◌≡◌, refl, ap, ◌∙◌}
use mathlib.Core.Bool.{Bool, true, false, ◌&&◌, ◌||◌}
use mathlib.Core.List.{List, [], ◌∷◌, ◌++◌, map, flat_map, append-nil, append_assoc, map-append}
use mathlib.Core.Option.{some}
use lib.Dec.{leb, eqb}
use lib.ListN.{get_elem?}
use Rattle.values.specs.declared.Kind.{Kind}
use Rattle.values.specs.declared.Kind.TheVariants.{Wholes, Bools, Reals}
use Rattle.text.specs.definitions.Tokens.{
  Token,
  NAME,
  WHOLE_NUMBER,
  REAL_NUMBER,
  INTERFACE,
  ATTRIBUTE,
  EVENT,
  ACTION,
  ENTITY,
  WHEN,
  TRUE,
  FALSE,
  MINUS,
  WHOLE,
  BOOL,
  REAL,
  BRACE_CLOSE,
  RANK,
}
use Rattle.text.specs.definitions.Syntax.{Name, Sort, attribute, event, action, Member, Interface, Entity}
use Rattle.text.specs.definitions.Readers.{read, Parser, expect, many}
use Rattle.text.specs.definitions.Grammar.{
  name_of,
  kind_reader,
  member_after,
  action_after,
  interface_after,
  number_reader,
  literal_reader,
  assignment_after,
  entity_after,
}
use Rattle.text.proofs.laws.ListLaws.{flatMap_single, flatMap_none}
use Rattle.text.proofs.laws.SpotLaws.{Starts, Marks, give_marks, expect_skip, expect_spot, if_next_marks, and_then_marks, and_then_plain, many_marks}

-- ---- what stands at a token's number

pub record ClassAt (ts : List Token) (p c : ℕ) : Type 0 where
  pub token : Token
  pub stands : get_elem? ts p ≡ some token
  pub class : token.class ≡ c

pub record NameAt (ts : List Token) (p : ℕ) (n : Name) : Type 0 where
  pub token : Token
  pub stands : get_elem? ts p ≡ some token
  pub is : name_of token ≡ n

-- the first token of an item: its class and offset
pub record FirstAt (ts : List Token) (p c o : ℕ) : Type 0 where
  pub token : Token
  pub stands : get_elem? ts p ≡ some token
  pub class : token.class ≡ c
  pub offset : token.at ≡ o

-- an item that its reader reads after its first token, and then its name
pub record Item_at {A : Type 0} (ts : List Token) (p c : ℕ) (after : Token → Parser A) (a : A) (o : ℕ) (n : Name) : Type 0 where
  pub starts : Starts ts p c after a
  pub offset : starts.token.at ≡ o
  pub name : NameAt ts (suc p) n

unfoldable pub sort_token : Sort → ℕ
sort_token attribute = ATTRIBUTE
sort_token event = EVENT
sort_token action = ACTION

unfoldable pub kind_token : Kind → ℕ
kind_token Wholes = WHOLE
kind_token Bools = BOOL
kind_token Reals = REAL

-- a member: its name is one token on, its kind three
pub record MemberAt (ts : List Token) (p : ℕ) (m : Member) : Type 0 where
  pub first : FirstAt ts p (sort_token m.sort) m.at
  pub name : NameAt ts (suc p) m.name
  pub kind : ClassAt ts (suc (suc (suc p))) (kind_token m.kind)

-- ---- the marks

-- what begins before `rules`, or is closed by `}`
pub data Declared : Type 0 where
  interface_mark : Interface → Declared
  member_mark : Member → Declared
  entity_mark : Entity → Declared
  close_mark : Declared

abbrev pub DeclaredAt : List Token → ℕ → Declared → Type 0
DeclaredAt ts p (interface_mark i) = Item_at ts p INTERFACE interface_after i i.at i.name
DeclaredAt ts p (member_mark m) = MemberAt ts p m
DeclaredAt ts p (entity_mark e) = Item_at ts p ENTITY entity_after e e.at e.name
DeclaredAt ts p close_mark = ClassAt ts p BRACE_CLOSE

unfoldable pub interface_marks : Interface → List Declared
interface_marks i = interface_mark i ∷ (map member_mark i.members ++ close_mark ∷ [])

unfoldable pub entity_marks : Entity → List Declared
entity_marks e = entity_mark e ∷ close_mark ∷ []

-- the words with which an item can begin, `interface` to `when`, with `rules`; `}`; and `rank`
abbrev pub is_leading : ℕ → Bool
is_leading c = leb INTERFACE c && leb c WHEN || (eqb c BRACE_CLOSE || eqb c RANK)

module _ {X : Type 0} {ts : List Token} {wanted : ℕ → Bool} {at : ℕ → X → Type 0} where
  -- an item's first token, and those of what it has inside
  pub item_marks : {A : Type 0} {c : ℕ} {after : Token → Parser A} → wanted c ≡ true → (mark : A → X) (inside : A → List X) (has : Token → ℕ → A → Type 0)
      → ((p : ℕ) (a : A) (s : Starts ts p c after a) → has s.token (suc p) a → at p (mark a))
      → ((t : Token) (q : ℕ) → Marks ts wanted at q (after t) (λ a xs. (xs ≡ inside a) × has t q a))
      → (p : ℕ) → Marks ts wanted at p (expect c after) (λ a xs. xs ≡ mark a ∷ inside a)
  item_marks w mark inside has f g p = expect_spot w λ t s c. record {
    marks = λ a n e.
        let (xs, q, (i, h)) = (g t (suc p)).marks a n e in
        (xs, q, λ m r. (mark a, f p a (record { token = t; stands = s; class = c; used = m; reads = r }) h, ap (λ l. mark a ∷ l) i));
  }

  pub number_plain : {p : ℕ} → wanted WHOLE_NUMBER ≡ false → wanted REAL_NUMBER ≡ false → (negative : Bool)
      → Marks ts wanted at p (number_reader negative) (λ a xs. xs ≡ [])
  unfolding number_reader
  number_plain w r negative =
      if_next_marks WHOLE_NUMBER (expect_skip w λ t s c. give_marks _ refl)
      (expect_skip r λ t s c. give_marks _ refl)

module _ (ts : List Token) where
  kind_marks : (p : ℕ) → Marks ts is_leading (DeclaredAt ts) p kind_reader (λ k xs. (xs ≡ []) × ClassAt ts p (kind_token k))
  unfolding kind_reader kind_token
  kind_marks p =
      if_next_marks WHOLE (expect_skip refl λ t s c. give_marks _ (refl, record { token = t; stands = s; class = c }))
      (if_next_marks BOOL (expect_skip refl λ t s c. give_marks _ (refl, record { token = t; stands = s; class = c }))
      (expect_skip refl λ t s c. give_marks _ (refl, record { token = t; stands = s; class = c })))

  -- a member's mark, once its tokens are read
  member_there : (p : ℕ) (s : Sort) (t n : Token) (k : Kind) (xs : List Declared) → get_elem? ts p ≡ some t → t.class ≡ sort_token s
      → get_elem? ts (suc p) ≡ some n → (xs ≡ []) × ClassAt ts (suc (suc (suc p))) (kind_token k)
      → (x : Declared) × DeclaredAt ts p x × (x ∷ (xs ++ []) ≡ member_mark (record { at = t.at; sort = s; name = name_of n; kind = k }) ∷ [])
  member_there p s t n k xs st ct sn h =
      let m : Member = record { at = t.at; sort = s; name = name_of n; kind = k } in (
        member_mark m,
        record {
          first = record { token = t; stands = st; class = ct; offset = refl };
          name = record { token = n; stands = sn; is = refl };
          kind = h.1;
        },
        ap (λ l. member_mark m ∷ l) (append-nil xs ∙ h.0),
      )

  -- `attribute` or `event`, and what comes after it
  member_marks : (s : Sort) → is_leading (sort_token s) ≡ true → (p : ℕ)
      → Marks ts is_leading (DeclaredAt ts) p (expect (sort_token s) (member_after s)) (λ m xs. xs ≡ member_mark m ∷ [])
  unfolding member_after
  member_marks s w p =
      expect_spot w λ t st ct.
      expect_skip refl λ n sn cn.
      expect_skip refl λ u su cu.
      and_then_marks (kind_marks _) λ k xs h q.
      give_marks _ λ m r. member_there p s t n k xs st ct sn h

  action_marks : (p : ℕ) → Marks ts is_leading (DeclaredAt ts) p (expect ACTION action_after) (λ m xs. xs ≡ member_mark m ∷ [])
  unfolding action_after sort_token
  action_marks p =
      expect_spot refl λ t st ct.
      expect_skip refl λ n sn cn.
      expect_skip refl λ u su cu.
      and_then_marks (kind_marks _) λ k xs h q.
      expect_skip refl λ v sv cv.
      give_marks _ λ m r. member_there p action t n k xs st ct sn h

  -- after `interface`: its members, and `}`
  pub interface_after_marks : (t : Token) (p : ℕ)
      → Marks ts is_leading (DeclaredAt ts) p (interface_after t)
      (λ i xs. (xs ≡ map member_mark i.members ++ close_mark ∷ []) × ((t.at ≡ i.at) × NameAt ts p i.name))
  unfolding interface_after sort_token
  interface_after_marks t p =
      expect_skip refl λ n sn cn.
      expect_skip refl λ o so co.
      and_then_marks (many_marks ATTRIBUTE (member_after attribute) (λ m. member_mark m ∷ []) (member_marks attribute refl)) λ attributes xs hx q₁.
      and_then_marks (many_marks EVENT (member_after event) (λ m. member_mark m ∷ []) (member_marks event refl)) λ events ys hy q₂.
      and_then_marks (many_marks ACTION action_after (λ m. member_mark m ∷ []) action_marks) λ actions zs hz q₃.
      expect_spot refl λ u su cu.
      give_marks _ λ m r. (
        close_mark,
        record { token = u; stands = su; class = cu },
        (joins attributes events actions xs ys zs hx hy hz, (refl, record { token = n; stands = sn; is = refl })),
      )
    where
      joins : (attributes events actions : List Member) (xs ys zs : List Declared) → xs ≡ flat_map (λ m. member_mark m ∷ []) attributes
          → ys ≡ flat_map (λ m. member_mark m ∷ []) events → zs ≡ flat_map (λ m. member_mark m ∷ []) actions
          → xs ++ (ys ++ (zs ++ close_mark ∷ [])) ≡ map member_mark (attributes ++ events ++ actions) ++ close_mark ∷ []
      joins attributes events actions xs ys zs hx hy hz =
          rw (hx, hy, hz) (simp (flatMap_single, map-append, append_assoc))

  literal_plain : (p : ℕ) → Marks ts is_leading (DeclaredAt ts) p literal_reader (λ a xs. xs ≡ [])
  unfolding literal_reader
  literal_plain p =
      if_next_marks TRUE (expect_skip refl λ t s c. give_marks _ refl)
      (if_next_marks FALSE (expect_skip refl λ t s c. give_marks _ refl)
      (if_next_marks MINUS (expect_skip refl λ t s c. number_plain refl refl true)
      (number_plain refl refl false)))

  assignment_plain : (p : ℕ) → Marks ts is_leading (DeclaredAt ts) p (expect NAME assignment_after) (λ a xs. xs ≡ [])
  unfolding assignment_after
  assignment_plain p =
      expect_skip refl λ n sn cn.
      expect_skip refl λ e se ce.
      and_then_plain (literal_plain _) λ l q.
      give_marks _ refl

  -- after `entity`: no more than `}`
  pub entity_after_marks : (t : Token) (p : ℕ)
      → Marks ts is_leading (DeclaredAt ts) p (entity_after t) (λ e xs. (xs ≡ close_mark ∷ []) × ((t.at ≡ e.at) × NameAt ts p e.name))
  unfolding entity_after
  entity_after_marks t p =
      expect_skip refl λ n sn cn.
      expect_skip refl λ u su cu.
      expect_skip refl λ i si ci.
      expect_skip refl λ o so co.
      and_then_marks (many_marks NAME assignment_after (λ a. []) assignment_plain) λ set xs h q.
      expect_spot refl λ v sv cv.
      give_marks _ λ m r. (
        close_mark,
        record { token = v; stands = sv; class = cv },
        (ap (λ l. l ++ close_mark ∷ []) (h ∙ flatMap_none set), (refl, record { token = n; stands = sn; is = refl })),
      )

  pub interfaces_marks : (p : ℕ) → Marks ts is_leading (DeclaredAt ts) p (many INTERFACE interface_after) (λ is xs. xs ≡ flat_map interface_marks is)
  unfolding interface_marks
  interfaces_marks p = many_marks INTERFACE interface_after interface_marks
      (item_marks refl interface_mark (λ i. map member_mark i.members ++ close_mark ∷ []) (λ t q i. (t.at ≡ i.at) × NameAt ts q i.name)
      (λ q i s h. record { starts = s; offset = h.0; name = h.1 }) interface_after_marks)

  pub entities_marks : (p : ℕ) → Marks ts is_leading (DeclaredAt ts) p (many ENTITY entity_after) (λ es xs. xs ≡ flat_map entity_marks es)
  unfolding entity_marks
  entities_marks p = many_marks ENTITY entity_after entity_marks
      (item_marks refl entity_mark (λ e. close_mark ∷ []) (λ t q e. (t.at ≡ e.at) × NameAt ts q e.name)
      (λ q e s h. record { starts = s; offset = h.0; name = h.1 }) entity_after_marks)
