-- A file's directory but for the entities' interfaces: what its token classes alone say.
use Rattle.std.specs.Prelude.{ℕ, ◌+◌, ◌≤◌, ◌≡◌, List, [], Bool, true, ◌&&◌, leb, length, get_or}
use Rattle.std.proofs.Math.Option.{some}
use Rattle.std.proofs.Math.ListN.{get_elem?}
use Rattle.text.specs.definitions.Tokens.{Token, INTERFACE, ENTITY, WHEN}
use Rattle.text.specs.definitions.Syntax.{Member, Interface, Entity, Rule, File}
use Rattle.text.specs.definitions.Readers.{read}
use Rattle.text.specs.definitions.Grammar.{interface_after, entity_after, rule_after, file_reader}
use Rattle.checking.specs.definitions.CountFaults.{count_faults}
use Rattle.checking.specs.inner_contracts.CountChecked.{ClassesOf}
use Rattle.checking.specs.inner_contracts.Directory.{
  Named,
  Begins,
  sort_class,
  kind_class,
  INTERFACE_COUNT_ROW,
  ENTITY_COUNT_ROW,
  RULE_COUNT_ROW,
  ENTITY_INTERFACE_ROWS,
  DIRECTORY,
  interface_row,
  member_count_row,
  member_row,
  entity_row,
  rule_row,
}

-- the fields of `DirectoryOf`, without `entity_interface`
pub record ItemsOf (f : File) (ts : List Token) (d : List ℕ) : Type 0 where
  pub interfaces : get_or d INTERFACE_COUNT_ROW 0 ≡ length f.interfaces
  pub entities : get_or d ENTITY_COUNT_ROW 0 ≡ length f.entities
  pub rules : get_or d RULE_COUNT_ROW 0 ≡ length f.rules
  pub interface : (k : ℕ) (i : Interface) → get_elem? f.interfaces k ≡ some i → Begins ts (get_or d (interface_row k) 0) INTERFACE interface_after i
  pub interface_name : (k : ℕ) (i : Interface) → get_elem? f.interfaces k ≡ some i → Named ts (get_or d (interface_row k) 0 + 1) i.name
  pub member_count : (k : ℕ) (i : Interface) → get_elem? f.interfaces k ≡ some i → get_or d (member_count_row k) 0 ≡ length i.members
  pub member_name : (k j : ℕ) (i : Interface) (m : Member) → get_elem? f.interfaces k ≡ some i → get_elem? i.members j ≡ some m
      → Named ts (get_or d (member_row k j) 0 + 1) m.name
  pub member_sort : (k j : ℕ) (i : Interface) (m : Member) → get_elem? f.interfaces k ≡ some i → get_elem? i.members j ≡ some m
      → (t : Token) × (get_elem? ts (get_or d (member_row k j) 0) ≡ some t) × (t.class ≡ sort_class m.sort)
  pub member_kind : (k j : ℕ) (i : Interface) (m : Member) → get_elem? f.interfaces k ≡ some i → get_elem? i.members j ≡ some m
      → (t : Token) × (get_elem? ts (get_or d (member_row k j) 0 + 3) ≡ some t) × (t.class ≡ kind_class m.kind)
  pub entity : (e : ℕ) (x : Entity) → get_elem? f.entities e ≡ some x → Begins ts (get_or d (entity_row e) 0) ENTITY entity_after x
  pub entity_name : (e : ℕ) (x : Entity) → get_elem? f.entities e ≡ some x → Named ts (get_or d (entity_row e) 0 + 1) x.name
  pub rule : (k : ℕ) (r : Rule) → get_elem? f.rules k ≡ some r → Begins ts (get_or d (rule_row k) 0) WHEN rule_after r

-- a directory is made of the classes, if it has its rows and these have room for the tokens' numbers; the entities' interfaces, and what
-- comes after them, stay
pub record DirectoryBuilt (classes d new : List ℕ) (r : Bool) : Type 0 where
  pub answers : r ≡ leb DIRECTORY (length d) && leb (length classes) 65535
  pub items : r ≡ true → (ts : List Token) (f : File) → ClassesOf classes ts → file_reader ts ≡ read f (length ts) → count_faults f ≡ [] → ItemsOf f ts new
  pub others : (i : ℕ) → ENTITY_INTERFACE_ROWS ≤ i → get_or new i 0 ≡ get_or d i 0
