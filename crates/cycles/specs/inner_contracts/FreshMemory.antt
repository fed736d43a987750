-- What code promises that writes the fresh stores of a bench, for every file that stands in the columns and the directory.
use Rattle.std.specs.Prelude.{ℕ, ◌+◌, ◌*◌, ◌/◌, ◌%◌, ◌≡◌, List, [], ◌∷◌, Bool, length, get_or, drop}
use Rattle.std.proofs.Math.Option.{some}
use Rattle.std.proofs.Math.ListN.{get_elem?}
use Rattle.values.specs.declared.Value.{Value}
use Rattle.values.specs.definitions.Bytes.{low_first}
use Rattle.values.specs.definitions.Cells.{cell_bytes}
use Rattle.text.specs.definitions.Tokens.{Token}
use Rattle.text.specs.definitions.Syntax.{Literal, literal_value, Entity, File}
use Rattle.text.specs.definitions.Readers.{read}
use Rattle.text.specs.definitions.Grammar.{number_reader, literal_reader}
use Rattle.checking.specs.inner_contracts.DirectoryReads.{Few}
use Rattle.checking.specs.definitions.Scope.{look_up, member_of}
use Rattle.checking.specs.inner_contracts.Directory.{name_in, ColumnsOf, Bench}
use Rattle.checking.specs.inner_contracts.CheckedBench.{ValuesOf}
use Rattle.checking.specs.inner_contracts.DeclarationWalk.{BodyOf}
use Rattle.cycles.specs.definitions.Cycle.{assigned, initial_value, fresh_stores}
use Rattle.cycles.specs.definitions.Planes.{CELL_BYTES, ENTITY_CELLS, entity_count, table, with_stores}
use Rattle.values.specs.inner_contracts.Puts.{Put}

-- the columns that literals are read from
pub record LiteralColumns (classes values : List ℕ) (ts : List Token) : Type 0 where
  pub class : (i : ℕ) (t : Token) → get_elem? ts i ≡ some t → t.class ≡ get_or classes i 0
  pub value : ValuesOf values ts

-- the value of the number at token number i, after its sign
pub record NumberAt (classes values : List ℕ) (negative : Bool) (i : ℕ) (v : Value) : Type 0 where
  pub is : (ts : List Token) → LiteralColumns classes values ts → (l : Literal) (n : ℕ) → number_reader negative (drop i ts) ≡ read l n
      → v ≡ literal_value l

-- the value of the literal whose first token has number i
pub record LiteralAt (classes values : List ℕ) (i : ℕ) (v : Value) : Type 0 where
  pub is : (ts : List Token) → LiteralColumns classes values ts → (l : Literal) (n : ℕ) → literal_reader (drop i ts) ≡ read l n → v ≡ literal_value l

-- what the assignments from token number `from` on set the name of token number i to
pub record AssignedValue (text classes offsets lengths values : List ℕ) (from i : ℕ) (v : Value) : Type 0 where
  pub is : (ts : List Token) → ColumnsOf text classes offsets lengths ts → ValuesOf values ts → (x : Entity) → BodyOf ts from x
      → v ≡ assigned (look_up (λ a. a.name) (name_in text offsets lengths i) x.assignments)

-- the value of cell number i in fresh stores
unfoldable pub fresh_value : File → ℕ → Value
unfolding initial_value member_of
fresh_value f i = initial_value (get_elem? f.entities (i / ENTITY_CELLS)) (member_of f (i / ENTITY_CELLS) (i % ENTITY_CELLS))

pub record FreshCell (text classes offsets lengths values d : List ℕ) (i : ℕ) (v : Value) : Type 0 where
  pub is : (w : Bench text classes offsets lengths d) → Few w.file → ValuesOf values w.tokens → v ≡ fresh_value w.file i

-- the first k cells of fresh stores, put from `at` on
pub record FreshCellsPut (text classes offsets lengths values d : List ℕ) (k : ℕ) (before : List ℕ) (at : ℕ) (after : List ℕ) (r : ℕ) : Type 0 where
  pub same : length after ≡ length before
  pub end : r ≡ at + CELL_BYTES * k
  pub is : (w : Bench text classes offsets lengths d) → Few w.file → ValuesOf values w.tokens
      → Put (table (λ i. cell_bytes (fresh_value w.file i)) 0 k) before at after r

-- k times the same byte, and k unset cells
abbrev pub flags_of : ℕ → ℕ → List ℕ
flags_of flag k = table (λ e. flag ∷ []) 0 k

abbrev pub unset_cells : ℕ → List ℕ
unset_cells k = table (λ i. 0 ∷ low_first 8 0) 0 k

pub record FreshPut (text classes offsets lengths values d before after : List ℕ) : Type 0 where
  pub is : (w : Bench text classes offsets lengths d) → Few w.file → ValuesOf values w.tokens
      → after ≡ with_stores (entity_count w.file) (fresh_stores w.file) before
