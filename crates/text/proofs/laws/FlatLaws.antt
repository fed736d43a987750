-- A grammatical file by the classes of its tokens alone: interfaces, entities and rules, and what each has inside, in the order of the tokens.
use Prim.Native.Nat.{ℕ, suc, ◌+◌}
use native.Mathlib.Omega.{arith}
use mathlib.Core.Path.{◌≡◌, refl, sym, ap, ◌∙◌, subst}
use mathlib.Core.Bool.{Bool, true, false, ◌&&◌, ◌||◌}
use mathlib.Core.List.{List, [], ◌∷◌, ◌++◌, map, flat_map, append-nil}
use mathlib.Core.Option.{Option, none, some}
use lib.Dec.{eqb, leb}
use lib.ListN.{length, drop, get_elem?}
use lib.Seq.{take-length}
use borrow.Author.Tests.{eqb-true, leb-true, le-leb}
use Rattle.text.specs.definitions.Tokens.{Token, INTERFACE, ATTRIBUTE, EVENT, ACTION, ENTITY, RULES, WHEN, END, BRACE_CLOSE, COLON, RANK}
use Rattle.text.specs.definitions.Syntax.{
  Sort,
  attribute,
  event,
  action,
  Name,
  Member,
  Interface,
  Entity,
  Clause,
  Condition,
  clause,
  both,
  either,
  Call,
  Priority,
  Rule,
  File,
}
use Rattle.text.specs.definitions.Readers.{read, Parser, expect, and_then, many, give}
use Rattle.text.specs.definitions.Grammar.{interface_after, entity_after, rule_after, file_reader}
use Rattle.text.proofs.laws.LanguageLaws.{is}
use Rattle.text.proofs.laws.ListLaws.{flatMap_append, flatMap_none, flatMap_map_none, flatMap_flatMap, flatMap_self, some_injective}
use Rattle.text.proofs.laws.TreeLaws.{read_tree}
use Rattle.text.proofs.laws.SpotLaws.{
  Starts,
  Spots,
  over,
  skip,
  spot,
  spots_append,
  spots_to,
  spots_select,
  offsets_of,
  spots_offsets,
  read_count,
  expect_starts,
  and_then_parts,
}
use Rattle.text.proofs.laws.DeclarationMarks.{
  ClassAt,
  Item_at,
  MemberAt,
  sort_token,
  Declared,
  interface_mark,
  member_mark,
  entity_mark,
  close_mark,
  DeclaredAt,
  interface_marks,
  entity_marks,
  is_leading,
  interface_after_marks,
  interfaces_marks,
  entities_marks,
}
use Rattle.text.proofs.laws.RuleMarks.{
  RuleAt,
  PriorityAt,
  Ruled,
  rule_mark,
  priority_mark,
  variable_mark,
  clause_mark,
  call_mark,
  RuledAt,
  declared_marks,
  condition_marks,
  call_marks,
  priority_marks,
  rule_marks,
  is_ruling,
  rules_marks,
}

-- ---- the whole file

unfoldable pub declarations : File → List Declared
declarations f = flat_map interface_marks f.interfaces ++ flat_map entity_marks f.entities

unfoldable pub rulings : File → List Ruled
rulings f = flat_map (λ r. rule_mark r ∷ rule_marks r) f.rules

pub record FileMarks (ts : List Token) (f : File) (n : ℕ) : Type 0 where
  pub rules_at : ℕ
  pub end_at : ℕ
  pub declared : Spots ts is_leading (DeclaredAt ts) 0 rules_at (declarations f)
  pub rules : ClassAt ts rules_at RULES
  pub ruled : Spots ts is_ruling (RuledAt ts) (suc rules_at) end_at (rulings f)
  pub end : ClassAt ts end_at END
  pub all : suc end_at ≡ n

class_at : {A : Type 0} {ts : List Token} {p c : ℕ} {after : Token → Parser A} {a : A} → Starts ts p c after a → ClassAt ts p c
class_at s = record { token = s.token; stands = s.stands; class = s.class }

-- the file's reader after its interfaces, its entities, `rules`, its rules
abbrev rules_end : List Interface → List Entity → List Rule → Parser File
rules_end is es rs = expect END λ u. give (record { interfaces = is; entities = es; rules = rs })

abbrev after_rules : List Interface → List Entity → Token → Parser File
after_rules is es t = and_then (many WHEN rule_after) (rules_end is es)

abbrev after_entities : List Interface → List Entity → Parser File
after_entities is es = expect RULES (after_rules is es)

abbrev after_interfaces : List Interface → Parser File
after_interfaces is = and_then (many ENTITY entity_after) (after_entities is)

module _ (ts : List Token) (f : File) (n : ℕ) where
  with_rules : (is : List Interface) (es : List Entity) (rs : List Rule) (q e k : ℕ)
      → Spots ts is_leading (DeclaredAt ts) 0 q (flat_map interface_marks is ++ flat_map entity_marks es) → ClassAt ts q RULES
      → Spots ts is_ruling (RuledAt ts) (suc q) e (flat_map (λ r. rule_mark r ∷ rule_marks r) rs) → rules_end is es rs (drop e ts) ≡ read f k → e + k ≡ n
      → FileMarks ts f n
  unfolding declarations rulings give
  with_rules is es rs q e k d c r x i = go (expect_starts ts e END (λ u. give (record { interfaces = is; entities = es; rules = rs })) f k x)
    where
      go : (s : Starts ts e END (λ u. give (record { interfaces = is; entities = es; rules = rs })) f) × (suc s.used ≡ k) → FileMarks ts f n
      go (s, j) =
          let u : 0 ≡ s.used = read_count s.reads in
          let t : record { interfaces = is; entities = es; rules = rs } ≡ f = read_tree s.reads in
          record {
            rules_at = q;
            end_at = e;
            declared = subst (λ g. Spots ts is_leading (DeclaredAt ts) 0 q (declarations g)) t d;
            rules = c;
            ruled = subst (λ g. Spots ts is_ruling (RuledAt ts) (suc q) e (rulings g)) t r;
            end = class_at s;
            all = omega arith;
          }

  with_entities : (is : List Interface) (es : List Entity) (q k : ℕ)
      → Spots ts is_leading (DeclaredAt ts) 0 q (flat_map interface_marks is ++ flat_map entity_marks es) → after_entities is es (drop q ts) ≡ read f k
      → q + k ≡ n → FileMarks ts f n
  with_entities is es q k d x i = go (expect_starts ts q RULES (after_rules is es) f k x)
    where
      on : (s : Starts ts q RULES (after_rules is es) f) → suc s.used ≡ k
          → (rs : List Rule) × (m : ℕ) × (many WHEN rule_after (drop (suc q) ts) ≡ read rs m) × (j : ℕ) × (rules_end is es rs (drop (suc q + m) ts) ≡ read f j)
          × (m + j ≡ s.used)
          → FileMarks ts f n
      on s u (rs, m, r, j, e, v) =
          let (zs, p, h) = (rules_marks ts (suc q)).marks rs m r in
          with_rules is es rs q (suc q + m) j d (class_at s) (rw h at p) e (omega arith)

      go : (s : Starts ts q RULES (after_rules is es) f) × (suc s.used ≡ k) → FileMarks ts f n
      go (s, u) = on s u (and_then_parts ts (suc q) (many WHEN rule_after) (rules_end is es) f s.used s.reads)

  pub file_marks : file_reader ts ≡ read f n → FileMarks ts f n
  unfolding file_reader
  file_marks e = go (and_then_parts ts 0 (many INTERFACE interface_after) after_interfaces f n e)
    where
      on : (is : List Interface) (m j : ℕ) → many INTERFACE interface_after ts ≡ read is m → 0 + m + j ≡ n
          → (es : List Entity) × (l : ℕ) × (many ENTITY entity_after (drop (0 + m) ts) ≡ read es l) × (k : ℕ)
          × (after_entities is es (drop (0 + m + l) ts) ≡ read f k) × (l + k ≡ j)
          → FileMarks ts f n
      on is m j r i (es, l, s, k, e, u) =
          let (xs, p, hx) = (interfaces_marks ts 0).marks is m r in
          let (ys, q, hy) = (entities_marks ts (0 + m)).marks es l s in
          with_entities is es (0 + m + l) k (rw (hx, hy) at (spots_append p q)) e (omega arith)

      go : (is : List Interface) × (m : ℕ) × (many INTERFACE interface_after ts ≡ read is m) × (j : ℕ) × (after_interfaces is (drop (0 + m) ts) ≡ read f j)
          × (m + j ≡ n)
          → FileMarks ts f n
      go (is, m, r, j, e, i) = on is m j r (omega arith) (and_then_parts ts (0 + m) (many ENTITY entity_after) (after_entities is) f j e)

-- ---- the marks of one class

unfoldable pub declared_class : Declared → ℕ
declared_class (interface_mark i) = INTERFACE
declared_class (member_mark m) = sort_token m.sort
declared_class (entity_mark e) = ENTITY
declared_class close_mark = BRACE_CLOSE

unfoldable pub ruled_class : Ruled → ℕ
ruled_class (rule_mark r) = WHEN
ruled_class (priority_mark k) = RANK
ruled_class (variable_mark n i) = COLON
ruled_class (clause_mark c) = EVENT
ruled_class (call_mark c) = ACTION

unfoldable pub interface_in : Declared → List Interface
interface_in (interface_mark i) = i ∷ []
interface_in (member_mark m) = []
interface_in (entity_mark e) = []
interface_in close_mark = []

unfoldable pub member_in : Declared → List Member
member_in (interface_mark i) = []
member_in (member_mark m) = m ∷ []
member_in (entity_mark e) = []
member_in close_mark = []

unfoldable pub entity_in : Declared → List Entity
entity_in (interface_mark i) = []
entity_in (member_mark m) = []
entity_in (entity_mark e) = e ∷ []
entity_in close_mark = []

unfoldable pub rule_in : Ruled → List Rule
rule_in (rule_mark r) = r ∷ []
rule_in (priority_mark k) = []
rule_in (variable_mark n i) = []
rule_in (clause_mark c) = []
rule_in (call_mark c) = []

unfoldable pub priority_in : Ruled → List Priority
priority_in (rule_mark r) = []
priority_in (priority_mark k) = k ∷ []
priority_in (variable_mark n i) = []
priority_in (clause_mark c) = []
priority_in (call_mark c) = []

unfoldable pub clause_in : Ruled → List Clause
clause_in (rule_mark r) = []
clause_in (priority_mark k) = []
clause_in (variable_mark n i) = []
clause_in (clause_mark c) = c ∷ []
clause_in (call_mark c) = []

unfoldable pub call_in : Ruled → List Call
call_in (rule_mark r) = []
call_in (priority_mark k) = []
call_in (variable_mark n i) = []
call_in (clause_mark c) = []
call_in (call_mark c) = c ∷ []

module _ {ts : List Token} {p : ℕ} where
  pub declared_class_at : (x : Declared) → DeclaredAt ts p x → ClassAt ts p (declared_class x)
  unfolding declared_class
  declared_class_at (interface_mark i) a = class_at a.starts
  declared_class_at (member_mark m) a = record { token = a.first.token; stands = a.first.stands; class = a.first.class }
  declared_class_at (entity_mark e) a = class_at a.starts
  declared_class_at close_mark a = a

  pub ruled_class_at : (x : Ruled) → RuledAt ts p x → ClassAt ts p (ruled_class x)
  unfolding ruled_class
  ruled_class_at (rule_mark r) a = class_at a.starts
  ruled_class_at (priority_mark k) a = a.word
  ruled_class_at (variable_mark n i) a = a.colon
  ruled_class_at (clause_mark c) a = record { token = a.token; stands = a.stands; class = a.class }
  ruled_class_at (call_mark c) a = record { token = a.token; stands = a.stands; class = a.class }

  module _ {X : Type 0} {chosen : ℕ → Bool} {at : ℕ → X → Type 0} {c : ℕ} where
    pub unchosen : ClassAt ts p c → chosen c ≡ false → Spots ts chosen at p (suc p) []
    unchosen a e = skip a.token a.stands (ap chosen a.class ∙ e) over

    pub chosen_one : {x : X} → ClassAt ts p c → chosen c ≡ true → at p x → Spots ts chosen at p (suc p) (x ∷ [])
    chosen_one a e x = spot a.token a.stands (ap chosen a.class ∙ e) x over

-- a class among the wanted ones
pub not_wanted : (wanted : ℕ → Bool) (k : ℕ) → wanted k ≡ true → (c : ℕ) → wanted c ≡ false → is k c ≡ false
not_wanted wanted k w c h = go (eqb c k) refl
  where
    go : (b : Bool) → eqb c k ≡ b → b ≡ false
    go false e = refl
    go true e = let z : wanted c ≡ true = ap wanted (eqb-true c k e) ∙ w in cc

or_left : (a b : Bool) → a || b ≡ false → a ≡ false
or_left false b h = refl
or_left true b h = h

not_ruling : (c : ℕ) → is_ruling c ≡ false → is_leading c ≡ false
not_ruling c h = or_left (is_leading c) (eqb c COLON) h

-- the marks of one class of leading tokens, over the whole file
module _ {X : Type 0} {ts : List Token} {at : ℕ → X → Type 0} (c : ℕ) (leads : is_leading c ≡ true) (not_rules : is c RULES ≡ false)
    (declared : Declared → List X) (ruled : Ruled → List X) (here : (p : ℕ) (x : Declared) → DeclaredAt ts p x → Spots ts (is c) at p (suc p) (declared x))
    (there : (p : ℕ) (x : Ruled) → RuledAt ts p x → Spots ts (is c) at p (suc p) (ruled x)) where
  file_spots : {f : File} {n : ℕ} → FileMarks ts f n → Spots ts (is c) at 0 n (flat_map declared (declarations f) ++ flat_map ruled (rulings f))
  file_spots {f} {n} m = spots_to m.all (subst (λ l. Spots ts (is c) at 0 (suc m.end_at) (flat_map declared (declarations f) ++ l)) (append-nil _)
      (spots_append before (spots_append (unchosen m.rules not_rules) (spots_append after (unchosen m.end last)))))
    where
      before : Spots ts (is c) at 0 m.rules_at (flat_map declared (declarations f))
      before = spots_select declared (not_wanted is_leading c leads) here m.declared

      after : Spots ts (is c) at (suc m.rules_at) m.end_at (flat_map ruled (rulings f))
      after = spots_select ruled (λ d e. not_wanted is_leading c leads d (not_ruling d e)) there m.ruled

      last : is c END ≡ false
      last = not_wanted is_leading c leads END refl

-- ---- what of a file's marks is which

module _ {X : Type 0} (pick : Declared → List X) (within : Interface → List X) (alone : Entity → List X)
    (of_interface : (i : Interface) → flat_map pick (interface_marks i) ≡ within i) (of_entity : (e : Entity) → flat_map pick (entity_marks e) ≡ alone e) where
  pub declared_pick : (f : File) → flat_map pick (declarations f) ≡ flat_map within f.interfaces ++ flat_map alone f.entities
  unfolding declarations
  declared_pick f =
      flatMap_append pick (flat_map interface_marks f.interfaces) (flat_map entity_marks f.entities)
      ∙ rw (flatMap_flatMap pick interface_marks within of_interface f.interfaces, flatMap_flatMap pick entity_marks alone of_entity f.entities)

-- nothing of an interface's members
members_none : {X : Type 0} (pick : Declared → List X) → ((m : Member) → pick (member_mark m) ≡ []) → pick close_mark ≡ []
    → (i : Interface) → flat_map pick (map member_mark i.members ++ close_mark ∷ []) ≡ []
unfolding flat_map
members_none pick e c i = flatMap_append pick (map member_mark i.members) (close_mark ∷ []) ∙ rw (flatMap_map_none pick member_mark e i.members, c)

pub declared_interfaces : (f : File) → flat_map interface_in (declarations f) ≡ f.interfaces
unfolding interface_in interface_marks entity_marks flat_map
declared_interfaces f =
    declared_pick interface_in (λ i. i ∷ []) (λ e. []) (λ i. ap (λ l. i ∷ l) (members_none interface_in (λ m. refl) refl i)) (λ e. refl) f
    ∙ rw (flatMap_self f.interfaces, flatMap_none {B = Interface} f.entities) (append-nil f.interfaces)

pub declared_entities : (f : File) → flat_map entity_in (declarations f) ≡ f.entities
unfolding entity_in interface_marks entity_marks flat_map
declared_entities f =
    declared_pick entity_in (λ i. []) (λ e. e ∷ []) (members_none entity_in (λ m. refl) refl) (λ e. refl) f
    ∙ rw (flatMap_self f.entities, flatMap_none {B = Entity} f.interfaces)

-- of what is within rules
module _ {X : Type 0} (pick : Ruled → List X) where
  -- a priority alone
  priority_within : ((n i : Name) → pick (variable_mark n i) ≡ []) → ((c : Clause) → pick (clause_mark c) ≡ []) → ((c : Call) → pick (call_mark c) ≡ [])
      → (r : Rule) → flat_map pick (rule_marks r) ≡ flat_map pick (priority_marks r.priority)
  unfolding rule_marks flat_map
  priority_within v k a r =
      flatMap_append pick (priority_marks r.priority) (condition_marks r.condition ++ flat_map call_marks r.calls)
      ∙ rw (
        flatMap_append pick (condition_marks r.condition) (flat_map call_marks r.calls),
        of_condition r.condition,
        flatMap_flatMap pick call_marks (λ c. []) of_call r.calls,
        flatMap_none {B = X} r.calls,
      ) (append-nil (flat_map pick (priority_marks r.priority)))
    where
      of_declared : (n : Name) (o : Option Name) → flat_map pick (declared_marks n o) ≡ []
      of_declared n none = refl
      of_declared n (some i) = rw (v n i)

      of_condition : (c : Condition) → flat_map pick (condition_marks c) ≡ []
      of_condition (clause c) = rw (k c) (of_declared c.target.name c.target.declares)
      of_condition (both c d) = flatMap_append pick (condition_marks c) (condition_marks d) ∙ rw (of_condition c, of_condition d)
      of_condition (either c d) = flatMap_append pick (condition_marks c) (condition_marks d) ∙ rw (of_condition c, of_condition d)

      of_call : (c : Call) → flat_map pick (call_marks c) ≡ []
      of_call c = rw (a c) (of_declared c.target.name c.target.declares)

pub rule_within : (r : Rule) → flat_map rule_in (rule_marks r) ≡ []
unfolding rule_in priority_marks flat_map
rule_within r = priority_within rule_in (λ n i. refl) (λ c. refl) (λ c. refl) r ∙ go r.priority
  where
    go : (o : Option Priority) → flat_map rule_in (priority_marks o) ≡ []
    go none = refl
    go (some k) = refl

-- the priority that a rule gives
unfoldable pub priority_listed : Option Priority → List Priority
priority_listed none = []
priority_listed (some k) = k ∷ []

ruled_priorities : (f : File) → flat_map priority_in (rulings f) ≡ flat_map (λ r. priority_listed r.priority) f.rules
unfolding priority_in rulings priority_marks priority_listed flat_map
ruled_priorities f =
    flatMap_flatMap priority_in (λ r. rule_mark r ∷ rule_marks r) (λ r. priority_listed r.priority)
    (λ r. priority_within priority_in (λ n i. refl) (λ c. refl) (λ c. refl) r ∙ go r.priority) f.rules
  where
    go : (o : Option Priority) → flat_map priority_in (priority_marks o) ≡ priority_listed o
    go none = refl
    go (some k) = refl

pub ruled_rules : (f : File) → flat_map rule_in (rulings f) ≡ f.rules
unfolding rule_in rulings flat_map
ruled_rules f =
    flatMap_flatMap rule_in (λ r. rule_mark r ∷ rule_marks r) (λ r. r ∷ [])
    (λ r. ap (λ l. r ∷ l) (rule_within r)) f.rules
    ∙ flatMap_self f.rules

-- ---- interfaces, entities and rules

module _ (c : ℕ) where
  pub sort_other : is c ATTRIBUTE ≡ false → is c EVENT ≡ false → is c ACTION ≡ false → (s : Sort) → is c (sort_token s) ≡ false
  unfolding sort_token
  sort_other a e k attribute = a
  sort_other a e k event = e
  sort_other a e k action = k

  pub ruled_other : is c WHEN ≡ false → is c RANK ≡ false → is c COLON ≡ false → is c EVENT ≡ false → is c ACTION ≡ false
      → (x : Ruled) → is c (ruled_class x) ≡ false
  unfolding ruled_class
  ruled_other w n v e k (rule_mark r) = w
  ruled_other w n v e k (priority_mark x) = n
  ruled_other w n v e k (variable_mark x i) = v
  ruled_other w n v e k (clause_mark x) = e
  ruled_other w n v e k (call_mark x) = k

  pub declared_other : is c INTERFACE ≡ false → is c ENTITY ≡ false → is c BRACE_CLOSE ≡ false → ((s : Sort) → is c (sort_token s) ≡ false)
      → (x : Declared) → is c (declared_class x) ≡ false
  unfolding declared_class
  declared_other i e b s (interface_mark x) = i
  declared_other i e b s (member_mark m) = s m.sort
  declared_other i e b s (entity_mark x) = e
  declared_other i e b s close_mark = b

pub same_offset : (ts : List Token) (p : ℕ) {o : ℕ} {t u : Token} → get_elem? ts p ≡ some t → get_elem? ts p ≡ some u → t.at ≡ o → u.at ≡ o
same_offset ts p s r e = ap (λ t. t.at) (some_injective (sym r ∙ s)) ∙ e

-- the offsets of the items of a whole list of tokens
all_offsets : {X : Type 0} {ts : List Token} {wanted : ℕ → Bool} {at : ℕ → X → Type 0} {n : ℕ} {xs : List X} → Spots ts wanted at 0 n xs
    → (offset : X → ℕ) → ((p : ℕ) (x : X) (t : Token) → at p x → get_elem? ts p ≡ some t → t.at ≡ offset x) → n ≡ length ts
    → offsets_of wanted ts ≡ map offset xs
all_offsets {ts = ts} {wanted} s offset is_at e =
    ap (offsets_of wanted) (sym (take-length ts)) ∙ spots_offsets offset is_at s (length ts) (omega arith)

-- `attribute`, `event` or `action`
abbrev pub is_member : ℕ → Bool
is_member c = leb ATTRIBUTE c && leb c ACTION

pub not_member : (c : ℕ) → is_leading c ≡ false → is_member c ≡ false
not_member c h = go (leb ATTRIBUTE c) refl (leb c ACTION) refl (or_left (leb INTERFACE c && leb c WHEN) (eqb c BRACE_CLOSE || eqb c RANK) h)
  where
    go : (a : Bool) → leb ATTRIBUTE c ≡ a → (b : Bool) → leb c ACTION ≡ b → leb INTERFACE c && leb c WHEN ≡ false → a && b ≡ false
    go false x b y h = refl
    go true x false y h = refl
    go true x true y h =
        let low : leb INTERFACE c ≡ true = le-leb INTERFACE c (omega (arith, leb-true ATTRIBUTE c x)) in
        let high : leb c WHEN ≡ true = le-leb c WHEN (omega (arith, leb-true c ACTION y)) in
        sym (rw (low, high)) ∙ h

pub of_sort : (s : Sort) → is_member (sort_token s) ≡ true
unfolding sort_token
of_sort attribute = refl
of_sort event = refl
of_sort action = refl

module _ {ts : List Token} {f : File} {n : ℕ} (m : FileMarks ts f n) where
  pub file_interfaces : Spots ts (is INTERFACE) (λ p i. Item_at ts p INTERFACE interface_after i i.at i.name) 0 n f.interfaces
  unfolding interface_in declared_class
  file_interfaces =
      subst (λ l. Spots ts (is INTERFACE) (λ p i. Item_at ts p INTERFACE interface_after i i.at i.name) 0 n l)
      (rw (declared_interfaces f, flatMap_none {B = Interface} (rulings f)) (append-nil f.interfaces))
      (file_spots INTERFACE refl refl interface_in (λ x. []) here (λ p x a. unchosen (ruled_class_at x a) (ruled_other INTERFACE refl refl refl refl refl x)) m)
    where
      here : (p : ℕ) (x : Declared) → DeclaredAt ts p x
          → Spots ts (is INTERFACE) (λ p i. Item_at ts p INTERFACE interface_after i i.at i.name) p (suc p) (interface_in x)
      here p (interface_mark i) a = chosen_one (class_at a.starts) refl a
      here p (member_mark k) a = unchosen (declared_class_at (member_mark k) a) (sort_other INTERFACE refl refl refl k.sort)
      here p (entity_mark e) a = unchosen (class_at a.starts) refl
      here p close_mark a = unchosen a refl

  pub file_entities : Spots ts (is ENTITY) (λ p e. Item_at ts p ENTITY entity_after e e.at e.name) 0 n f.entities
  unfolding entity_in declared_class
  file_entities =
      subst (λ l. Spots ts (is ENTITY) (λ p e. Item_at ts p ENTITY entity_after e e.at e.name) 0 n l)
      (rw (declared_entities f, flatMap_none {B = Entity} (rulings f)) (append-nil f.entities))
      (file_spots ENTITY refl refl entity_in (λ x. []) here (λ p x a. unchosen (ruled_class_at x a) (ruled_other ENTITY refl refl refl refl refl x)) m)
    where
      here : (p : ℕ) (x : Declared) → DeclaredAt ts p x
          → Spots ts (is ENTITY) (λ p e. Item_at ts p ENTITY entity_after e e.at e.name) p (suc p) (entity_in x)
      here p (interface_mark i) a = unchosen (class_at a.starts) refl
      here p (member_mark k) a = unchosen (declared_class_at (member_mark k) a) (sort_other ENTITY refl refl refl k.sort)
      here p (entity_mark e) a = chosen_one (class_at a.starts) refl a
      here p close_mark a = unchosen a refl

  pub file_rules : Spots ts (is WHEN) (RuleAt ts) 0 n f.rules
  unfolding rule_in ruled_class
  file_rules =
      subst (λ l. Spots ts (is WHEN) (RuleAt ts) 0 n l) (rw (flatMap_none {B = Rule} (declarations f)) (ruled_rules f))
      (file_spots WHEN refl refl (λ x. []) rule_in
      (λ p x a. unchosen (declared_class_at x a) (declared_other WHEN refl refl refl (sort_other WHEN refl refl refl) x)) there m)
    where
      there : (p : ℕ) (x : Ruled) → RuledAt ts p x → Spots ts (is WHEN) (RuleAt ts) p (suc p) (rule_in x)
      there p (rule_mark r) a = chosen_one (class_at a.starts) refl a
      there p (priority_mark k) a = unchosen a.word refl
      there p (variable_mark n i) a = unchosen (ruled_class_at (variable_mark n i) a) refl
      there p (clause_mark c) a = unchosen (ruled_class_at (clause_mark c) a) refl
      there p (call_mark c) a = unchosen (ruled_class_at (call_mark c) a) refl

  -- the tokens `rank` are those of the rules' priorities
  pub file_priorities : Spots ts (is RANK) (PriorityAt ts) 0 n (flat_map (λ r. priority_listed r.priority) f.rules)
  unfolding priority_in ruled_class
  file_priorities =
      subst (λ l. Spots ts (is RANK) (PriorityAt ts) 0 n l) (rw (flatMap_none {B = Priority} (declarations f)) (ruled_priorities f))
      (file_spots RANK refl refl (λ x. []) priority_in
      (λ p x a. unchosen (declared_class_at x a) (declared_other RANK refl refl refl (sort_other RANK refl refl refl) x)) there m)
    where
      there : (p : ℕ) (x : Ruled) → RuledAt ts p x → Spots ts (is RANK) (PriorityAt ts) p (suc p) (priority_in x)
      there p (rule_mark r) a = unchosen (class_at a.starts) refl
      there p (priority_mark k) a = chosen_one a.word refl a
      there p (variable_mark n i) a = unchosen (ruled_class_at (variable_mark n i) a) refl
      there p (clause_mark c) a = unchosen (ruled_class_at (clause_mark c) a) refl
      there p (call_mark c) a = unchosen (ruled_class_at (call_mark c) a) refl

  -- their offsets
  pub interface_offsets : n ≡ length ts → offsets_of (is INTERFACE) ts ≡ map (λ i. i.at) f.interfaces
  interface_offsets = all_offsets file_interfaces (λ i. i.at) (λ p i t a s. same_offset ts p a.starts.stands s a.offset)

  pub entity_offsets : n ≡ length ts → offsets_of (is ENTITY) ts ≡ map (λ e. e.at) f.entities
  entity_offsets = all_offsets file_entities (λ e. e.at) (λ p e t a s. same_offset ts p a.starts.stands s a.offset)

  pub rule_offsets : n ≡ length ts → offsets_of (is WHEN) ts ≡ map (λ r. r.at) f.rules
  rule_offsets = all_offsets file_rules (λ r. r.at) (λ p r t a s. same_offset ts p a.starts.stands s a.offset)

-- ---- inside an interface

-- the tokens `attribute`, `event` and `action` are its members
pub interface_members : (ts : List Token) (t : Token) (p : ℕ) (i : Interface) (n : ℕ) → interface_after t (drop p ts) ≡ read i n
    → Spots ts is_member (MemberAt ts) p (p + n) i.members
unfolding member_in flat_map declared_class
interface_members ts t p i n e =
    let (xs, s, h) = (interface_after_marks ts t p).marks i n e in
    subst (λ l. Spots ts is_member (MemberAt ts) p (p + n) l) (ap (flat_map member_in) h.0 ∙ members i.members) (spots_select member_in not_member here s)
  where
    members : (ms : List Member) → flat_map member_in (map member_mark ms ++ close_mark ∷ []) ≡ ms
    members [] = refl
    members (m ∷ ms) = ap (λ l. m ∷ l) (members ms)

    here : (p : ℕ) (x : Declared) → DeclaredAt ts p x → Spots ts is_member (MemberAt ts) p (suc p) (member_in x)
    here p (interface_mark i) a = unchosen (class_at a.starts) refl
    here p (member_mark k) a = chosen_one (declared_class_at (member_mark k) a) (of_sort k.sort) a
    here p (entity_mark e) a = unchosen (class_at a.starts) refl
    here p close_mark a = unchosen a refl
