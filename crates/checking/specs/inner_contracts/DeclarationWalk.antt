-- What the walks over the interfaces and the entities of a file promise, for every file that stands in the columns and the directory.
use Rattle.std.specs.Prelude.{ℕ, ◌+◌, ◌≤◌, ◌<◌, ◌≡◌, Bool, true, false, eqb, length, get_or}
use mathlib.Core.List.{List, ◌++◌, map, flat_map}
use Rattle.std.proofs.Math.Option.{some}
use Rattle.std.proofs.Math.ListN.{get_elem?}
use Rattle.text.specs.definitions.Tokens.{Token, NAME, BRACE_CLOSE, MINUS}
use Rattle.text.specs.definitions.Syntax.{Name, literal_kind, Assignment, Entity, File}
use Rattle.text.specs.definitions.Grammar.{assignment_after}
use Rattle.checking.specs.inner_contracts.DirectoryItems.{ItemsOf}
use Rattle.checking.specs.declared.faults.Faults.{Faults}
use Rattle.checking.specs.declared.entities.Assigned.{Assigned}
use Rattle.checking.specs.definitions.Faults.{earliest}
use Rattle.checking.specs.inner_contracts.FoundFaults.{Found, found_as}
use Rattle.checking.specs.definitions.Scope.{look_up, is_found, is_attribute}
use Rattle.checking.specs.definitions.NameFaults.{again_faults, member_faults, interface_name_faults, unset_faults, entity_name_faults}
use Rattle.checking.specs.definitions.KindFaults.{assignment_kind_faults, entity_kind_faults}
use Rattle.checking.specs.inner_contracts.Directory.{name_in, ColumnsOf, Named, member_number, ENTITY_COUNT_ROW, ENTITY_INTERFACE_ROWS, DIRECTORY, DirectoryOf, Bench}
use Rattle.checking.specs.definitions.CountFaults.{MOST_RULES}
use Rattle.checking.specs.inner_contracts.DirectoryReads.{Few}
use Rattle.checking.specs.inner_contracts.Kinds.{literal_class}
use Rattle.checking.specs.inner_contracts.Sequences.{Sequence}

-- ---- interfaces

-- of `count` items of the directory, in the rows from `base` on, the first in the text that bears the name of one before it
pub record RepeatedRows (text offsets lengths d : List ℕ) (base count : ℕ) (r : Found) : Type 0 where
  pub is : (classes : List ℕ) (w : Bench text classes offsets lengths d) (ns : List Name)
      → ((k : ℕ) (n : Name) → get_elem? ns k ≡ some n → Named w.tokens (get_or d (base + k) 0 + 1) n) → count ≡ length ns
      → found_as r ≡ earliest (again_faults ns)

pub record InterfacesFound (text offsets lengths d : List ℕ) (r : Found) : Type 0 where
  pub is : (classes : List ℕ) (w : Bench text classes offsets lengths d) → Few w.file
      → found_as r ≡ earliest (again_faults (map (λ i. i.name) w.file.interfaces) ++ flat_map interface_name_faults w.file.interfaces)

-- ---- entities and their interfaces

-- the directory, which was d and is e: the rows of the entities' interfaces are written, and no other row
pub record EntitiesLinked (text offsets lengths d e : List ℕ) : Type 0 where
  pub size : length e ≡ length d
  pub below : (i : ℕ) → i < ENTITY_INTERFACE_ROWS → get_or e i 0 ≡ get_or d i 0
  pub beyond : (i : ℕ) → ENTITY_INTERFACE_ROWS + get_or d ENTITY_COUNT_ROW 0 ≤ i → get_or e i 0 ≡ get_or d i 0
  pub links : (classes : List ℕ) (ts : List Token) (f : File) → DIRECTORY ≤ length d → ColumnsOf text classes offsets lengths ts → ItemsOf f ts d
      → Few f → length f.rules ≤ MOST_RULES → DirectoryOf f ts e

-- ---- the assignments of an entity

-- the last token of the literal that begins at token number p: the one after a `-`
unfoldable pub literal_end : List ℕ → ℕ → ℕ
literal_end classes p = elim (eqb (get_or classes p 0) MINUS) [ true ↦ p + 1 | false ↦ p ]

-- the last token of an assignment that begins at token number q; never before it, and in the table
pub record AssignmentEnd (classes : List ℕ) (q r : ℕ) : Type 0 where
  pub onward : q < length classes → q ≤ r
  pub inside : q < length classes → r < length classes
  pub is : q + 3 < length classes → r ≡ literal_end classes (q + 2)

-- does one of the assignments from token number `from` up to number `to` set the name of token number i?
pub record Sets (text classes offsets lengths : List ℕ) (from to i : ℕ) (r : Bool) : Type 0 where
  pub is : (ts : List Token) → ColumnsOf text classes offsets lengths ts → (xs : List Assignment) → Sequence ts NAME assignment_after from to xs
      → to < length classes → r ≡ is_found (look_up (λ a. a.name) (name_in text offsets lengths i) xs)

-- the fault of a name that is to be an attribute of interface number `face`, where it stands at token number q and is member number m
pub record AttributeFound (classes offsets d : List ℕ) (face m q : ℕ) (r : Found) : Type 0 where
  pub is : (text lengths : List ℕ) (w : Bench text classes offsets lengths d) → Few w.file → (n : Name) → Named w.tokens q n
      → m ≡ member_number (get_elem? w.file.interfaces face) n.bytes
      → found_as r ≡ earliest (member_faults is_attribute (get_elem? w.file.interfaces face) n)

-- the fault of an assignment's kind, with its `=` at token number `equals` and the end of its literal at number `last`
pub record KindFound (classes offsets d : List ℕ) (face m equals last : ℕ) (r : Found) : Type 0 where
  pub is : (text lengths : List ℕ) (w : Bench text classes offsets lengths d) → Few w.file → (a : Assignment)
      → m ≡ member_number (get_elem? w.file.interfaces face) a.name.bytes → get_or offsets equals 0 ≡ a.equals_at
      → literal_class (get_or classes last 0) ≡ literal_kind a.literal
      → found_as r ≡ earliest (assignment_kind_faults (get_elem? w.file.interfaces face) a)

-- the assignments of an entity and its `}`, from token number `from` on
pub record BodyOf (ts : List Token) (from : ℕ) (x : Entity) : Type 0 where
  pub close : ℕ
  pub set : Sequence ts NAME assignment_after from close x.assignments
  pub closing : Token
  pub stands : get_elem? ts close ≡ some closing
  pub class : closing.class ≡ BRACE_CLOSE
  pub offset : closing.at ≡ x.close_at

-- the same in a file that stands in the columns and the directory
pub record Body (text classes offsets lengths d : List ℕ) (from : ℕ) : Type 0 where
  pub bench : Bench text classes offsets lengths d
  pub few : Few bench.file
  pub entity : Entity
  pub body : BodyOf bench.tokens from entity

-- what the assignments from token number `from` on have, of an entity with interface number `face`
pub record AssignmentsFound (text classes offsets lengths d : List ℕ) (face from : ℕ) (r : Assigned) : Type 0 where
  pub end : (b : Body text classes offsets lengths d from) → r.end ≡ b.body.close
  pub again : (b : Body text classes offsets lengths d from) → found_as r.again ≡ earliest (again_faults (map (λ a. a.name) b.entity.assignments))
  pub members : (b : Body text classes offsets lengths d from)
      → found_as r.members
      ≡ earliest (flat_map (λ a. member_faults is_attribute (get_elem? b.bench.file.interfaces face) a.name) b.entity.assignments)
  pub kinds : (b : Body text classes offsets lengths d from)
      → found_as r.kinds ≡ earliest (flat_map (assignment_kind_faults (get_elem? b.bench.file.interfaces face)) b.entity.assignments)

-- the attributes of interface number `face` that the assignments leave out
pub record UnsetFound (text classes offsets lengths d : List ℕ) (face from to : ℕ) (r : Found) : Type 0 where
  pub is : (b : Body text classes offsets lengths d from) → to ≡ b.body.close
      → found_as r ≡ earliest (unset_faults b.entity (get_elem? b.bench.file.interfaces face))

-- ---- whole entities

-- entity number e
pub record EntityFound (text classes offsets lengths d : List ℕ) (e : ℕ) (r : Faults) : Type 0 where
  pub names : (w : Bench text classes offsets lengths d) → Few w.file → (x : Entity) → get_elem? w.file.entities e ≡ some x
      → found_as r.names ≡ earliest (entity_name_faults w.file x)
  pub kinds : (w : Bench text classes offsets lengths d) → Few w.file → (x : Entity) → get_elem? w.file.entities e ≡ some x
      → found_as r.kinds ≡ earliest (entity_kind_faults w.file x)

pub record EntitiesFound (text classes offsets lengths d : List ℕ) (r : Faults) : Type 0 where
  pub names : (w : Bench text classes offsets lengths d) → Few w.file
      → found_as r.names
      ≡ earliest (again_faults (map (λ e. e.name) w.file.entities) ++ flat_map (entity_name_faults w.file) w.file.entities)
  pub kinds : (w : Bench text classes offsets lengths d) → Few w.file
      → found_as r.kinds ≡ earliest (flat_map (entity_kind_faults w.file) w.file.entities)
