-- What the columns of a token table and the directory of a file stand for: the walks of the check read these, and not the tree.
use Rattle.std.specs.Prelude.{ℕ, ◌+◌, ◌*◌, ◌≡◌, List, length, get_or, take, drop}
use Rattle.std.proofs.Math.Option.{Option, none, some}
use Rattle.std.proofs.Math.ListN.{get_elem?}
use Rattle.values.specs.declared.Kind.{Kind}
use Rattle.values.specs.declared.Kind.TheVariants.{Wholes, Bools, Reals}
use Rattle.text.specs.definitions.Tokens.{Token, ATTRIBUTE, EVENT, ACTION, WHOLE, BOOL, REAL, INTERFACE, ENTITY, WHEN}
use Rattle.text.specs.definitions.Syntax.{Name, Sort, attribute, event, action, Member, Interface, Entity, Rule, File}
use Rattle.text.specs.definitions.Readers.{read, Parser}
use Rattle.text.specs.definitions.Grammar.{name_of, interface_after, entity_after, rule_after}
use Rattle.checking.specs.definitions.Scope.{Indexed, look_up}
use Rattle.checking.specs.definitions.CountFaults.{MOST_INTERFACES, MOST_MEMBERS, MOST_ENTITIES, MOST_RULES}

-- the bytes of row i's token
abbrev pub name_in : List ℕ → List ℕ → List ℕ → ℕ → List ℕ
name_in text offsets lengths i = take (get_or lengths i 0) (drop (get_or offsets i 0) text)

-- three columns of a token table, a row for each token
pub record ColumnsOf (text classes offsets lengths : List ℕ) (ts : List Token) : Type 0 where
  pub count : length ts ≡ length classes
  pub class : (i : ℕ) (t : Token) → get_elem? ts i ≡ some t → t.class ≡ get_or classes i 0
  pub offset : (i : ℕ) (t : Token) → get_elem? ts i ≡ some t → t.at ≡ get_or offsets i 0
  pub bytes : (i : ℕ) (t : Token) → get_elem? ts i ≡ some t → t.bytes ≡ name_in text offsets lengths i

-- token number i is this name
pub record Named (ts : List Token) (i : ℕ) (n : Name) : Type 0 where
  pub token : Token
  pub stands : get_elem? ts i ≡ some token
  pub is : name_of token ≡ n

-- token number p has class c, and the reader reads the tree from the tokens after it
pub record Begins {A : Type 0} (ts : List Token) (p c : ℕ) (after : Token → Parser A) (a : A) : Type 0 where
  pub token : Token
  pub stands : get_elem? ts p ≡ some token
  pub class : token.class ≡ c
  pub used : ℕ
  pub reads : after token (drop (p + 1) ts) ≡ read a used

unfoldable pub sort_class : Sort → ℕ
sort_class attribute = ATTRIBUTE
sort_class event = EVENT
sort_class action = ACTION

unfoldable pub kind_class : Kind → ℕ
kind_class Wholes = WHOLE
kind_class Bools = BOOL
kind_class Reals = REAL

-- the first item of that name by its number, or a number for none
unfoldable pub number_or : {A : Type 0} → ℕ → Option (Indexed A) → ℕ
number_or other none = other
number_or other (some f) = f.number

-- the numbers for none are the first beyond those of the items
abbrev pub NO_INTERFACE : ℕ
NO_INTERFACE = MOST_INTERFACES

abbrev pub NO_ENTITY : ℕ
NO_ENTITY = MOST_ENTITIES

abbrev pub NO_MEMBER : ℕ
NO_MEMBER = MOST_MEMBERS

unfoldable pub interface_number : File → List ℕ → ℕ
unfolding number_or look_up
interface_number f n = number_or NO_INTERFACE (look_up (λ i. i.name) n f.interfaces)

unfoldable pub entity_number : File → List ℕ → ℕ
unfolding number_or look_up
entity_number f n = number_or NO_ENTITY (look_up (λ e. e.name) n f.entities)

unfoldable pub member_number : Option Interface → List ℕ → ℕ
unfolding number_or look_up
member_number none n = NO_MEMBER
member_number (some i) n = number_or NO_MEMBER (look_up (λ m. m.name) n i.members)

-- the directory's rows: counts of interfaces, entities and rules; then, by token numbers, where each interface begins, how many members it
-- has, where each member, entity and rule begins; and each entity's interface by its number
abbrev pub INTERFACE_COUNT_ROW : ℕ
INTERFACE_COUNT_ROW = 0

abbrev pub ENTITY_COUNT_ROW : ℕ
ENTITY_COUNT_ROW = 1

abbrev pub RULE_COUNT_ROW : ℕ
RULE_COUNT_ROW = 2

abbrev pub INTERFACE_ROWS : ℕ
INTERFACE_ROWS = 3

abbrev pub MEMBER_COUNT_ROWS : ℕ
MEMBER_COUNT_ROWS = INTERFACE_ROWS + MOST_INTERFACES

abbrev pub MEMBER_ROWS : ℕ
MEMBER_ROWS = MEMBER_COUNT_ROWS + MOST_INTERFACES

abbrev pub ENTITY_ROWS : ℕ
ENTITY_ROWS = MEMBER_ROWS + MOST_INTERFACES * MOST_MEMBERS

abbrev pub RULE_ROWS : ℕ
RULE_ROWS = ENTITY_ROWS + MOST_ENTITIES

abbrev pub ENTITY_INTERFACE_ROWS : ℕ
ENTITY_INTERFACE_ROWS = RULE_ROWS + MOST_RULES

-- all its rows
abbrev pub DIRECTORY : ℕ
DIRECTORY = ENTITY_INTERFACE_ROWS + MOST_ENTITIES

abbrev pub interface_row : ℕ → ℕ
interface_row k = INTERFACE_ROWS + k

abbrev pub member_count_row : ℕ → ℕ
member_count_row k = MEMBER_COUNT_ROWS + k

abbrev pub member_row : ℕ → ℕ → ℕ
member_row k j = MEMBER_ROWS + k * MOST_MEMBERS + j

abbrev pub entity_row : ℕ → ℕ
entity_row e = ENTITY_ROWS + e

abbrev pub rule_row : ℕ → ℕ
rule_row r = RULE_ROWS + r

abbrev pub entity_interface_row : ℕ → ℕ
entity_interface_row e = ENTITY_INTERFACE_ROWS + e

-- a directory of a file's tokens, for a file within the counts
pub record DirectoryOf (f : File) (ts : List Token) (d : List ℕ) : Type 0 where
  pub interfaces : get_or d INTERFACE_COUNT_ROW 0 ≡ length f.interfaces
  pub entities : get_or d ENTITY_COUNT_ROW 0 ≡ length f.entities
  pub rules : get_or d RULE_COUNT_ROW 0 ≡ length f.rules
  pub interface : (k : ℕ) (i : Interface) → get_elem? f.interfaces k ≡ some i → Begins ts (get_or d (interface_row k) 0) INTERFACE interface_after i
  pub interface_name : (k : ℕ) (i : Interface) → get_elem? f.interfaces k ≡ some i → Named ts (get_or d (interface_row k) 0 + 1) i.name
  pub member_count : (k : ℕ) (i : Interface) → get_elem? f.interfaces k ≡ some i → get_or d (member_count_row k) 0 ≡ length i.members
  pub member_name : (k j : ℕ) (i : Interface) (m : Member) → get_elem? f.interfaces k ≡ some i → get_elem? i.members j ≡ some m
      → Named ts (get_or d (member_row k j) 0 + 1) m.name
  pub member_sort : (k j : ℕ) (i : Interface) (m : Member) → get_elem? f.interfaces k ≡ some i → get_elem? i.members j ≡ some m
      → (t : Token) × (get_elem? ts (get_or d (member_row k j) 0) ≡ some t) × (t.class ≡ sort_class m.sort)
  pub member_kind : (k j : ℕ) (i : Interface) (m : Member) → get_elem? f.interfaces k ≡ some i → get_elem? i.members j ≡ some m
      → (t : Token) × (get_elem? ts (get_or d (member_row k j) 0 + 3) ≡ some t) × (t.class ≡ kind_class m.kind)
  pub entity : (e : ℕ) (x : Entity) → get_elem? f.entities e ≡ some x → Begins ts (get_or d (entity_row e) 0) ENTITY entity_after x
  pub entity_name : (e : ℕ) (x : Entity) → get_elem? f.entities e ≡ some x → Named ts (get_or d (entity_row e) 0 + 1) x.name
  pub entity_interface : (e : ℕ) (x : Entity) → get_elem? f.entities e ≡ some x → get_or d (entity_interface_row e) 0 ≡ interface_number f x.interface.bytes
  pub rule : (k : ℕ) (r : Rule) → get_elem? f.rules k ≡ some r → Begins ts (get_or d (rule_row k) 0) WHEN rule_after r

-- a file and its tokens for which columns and a directory stand
pub record Bench (text classes offsets lengths d : List ℕ) : Type 0 where
  pub file : File
  pub tokens : List Token
  pub columns : ColumnsOf text classes offsets lengths tokens
  pub directory : DirectoryOf file tokens d
