-- The members of a bench's cells, by the numbers of their tokens.
use Rattle.std.specs.Prelude.{ℕ, ◌+◌, ◌/◌, ◌%◌, ◌≤◌, ◌<◌, ◌≡◌, List, Bool, eqb, get_or}
use Rattle.std.proofs.Math.Option.{Option, none, some}
use Rattle.text.specs.definitions.Syntax.{Sort, Member}
use Rattle.checking.specs.inner_contracts.DirectoryReads.{Few}
use Rattle.checking.specs.definitions.Scope.{member_of}
use Rattle.checking.specs.inner_contracts.Directory.{name_in, sort_class, kind_class, Bench}
use Rattle.cycles.specs.definitions.Cycle.{is_sort}
use Rattle.cycles.specs.definitions.Planes.{ENTITY_CELLS}

-- no token's number, for a cell of no member
abbrev pub NO_TOKEN : ℕ
NO_TOKEN = 65536

-- a member's tokens from number r on: its sort, its name, a mark, its kind
pub record MemberAt (text classes offsets lengths : List ℕ) (r : ℕ) (x : Member) : Type 0 where
  pub within : r < NO_TOKEN
  pub sort : get_or classes r 0 ≡ sort_class x.sort
  pub name : name_in text offsets lengths (r + 1) ≡ x.name.bytes
  pub kind : get_or classes (r + 3) 0 ≡ kind_class x.kind

pub data TokenOf (text classes offsets lengths : List ℕ) (r : ℕ) : Option Member → Type 0 where
  no_member : r ≡ NO_TOKEN → TokenOf text classes offsets lengths r none
  a_member : {x : Member} → MemberAt text classes offsets lengths r x → TokenOf text classes offsets lengths r (some x)

-- the first token of the member whose cell has number i, for every file that stands in the columns and the directory
pub record CellToken (d : List ℕ) (i r : ℕ) : Type 0 where
  pub within : r ≤ NO_TOKEN
  pub is : (text classes offsets lengths : List ℕ) (w : Bench text classes offsets lengths d) → Few w.file
      → TokenOf text classes offsets lengths r (member_of w.file (i / ENTITY_CELLS) (i % ENTITY_CELLS))

-- has the member whose first token has number `at` the sort that a class says? Of every test of sorts that says the same
pub record SortTest (classes : List ℕ) (at class : ℕ) (r : Bool) : Type 0 where
  pub is : (text offsets lengths : List ℕ) (o : Option Member) → TokenOf text classes offsets lengths at o
      → (sort : Sort → Bool) → ((s : Sort) → eqb (sort_class s) class ≡ sort s) → r ≡ is_sort sort o
