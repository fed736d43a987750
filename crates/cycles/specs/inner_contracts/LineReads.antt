-- What is read of a record into memory: its sender and number, and its inputs as planes have them. Said for every file that stands in the token
-- table and the directory and is within the counts.
use Rattle.std.specs.Prelude.{ℕ, ◌+◌, ◌*◌, ◌/◌, ◌%◌, ◌≤◌, ◌≡◌, Bool, true, false, length, take, Option as Read, Some, None, Ok, Err}
use mathlib.Core.List.{List, [], ◌∷◌, ◌++◌, map, Memᴰ}
use Rattle.std.proofs.Math.Option.{Option, none, some}
use Rattle.std.proofs.Math.ListN.{get_elem?}
use Rattle.values.specs.declared.Value.{Value}
use Rattle.values.specs.definitions.Forms.{Field}
use Rattle.values.specs.definitions.Bytes.{overwritten}
use Rattle.text.specs.definitions.Syntax.{Entity, File}
use Rattle.checking.specs.inner_contracts.DirectoryReads.{Few}
use Rattle.checking.specs.definitions.Scope.{member_of}
use Rattle.checking.specs.inner_contracts.Directory.{Bench}
use Rattle.cycles.specs.declared.record.Sent.{Sent as Reads}
use Rattle.cycles.specs.definitions.Store.{Inputs}
use Rattle.cycles.specs.definitions.Spots.{Spot}
use Rattle.cycles.specs.definitions.Fields.{fields}
use Rattle.cycles.specs.definitions.Header.{Column}
use Rattle.cycles.specs.definitions.Record.{Sent, record_of, field_in, as_truth, Input, inputs_in, inputs_of}
use Rattle.cycles.specs.definitions.Planes.{CELL_BYTES, ENTITY_CELLS, table, presence_flag, input_bytes}
use Rattle.cycles.specs.inner_contracts.HeaderReads.{column_number, backwards}

-- ---- sender and number

-- how many bytes at the record's front are the sender's, and the number; or none
abbrev pub got : ℕ → ℕ → Read Reads
got size number = Some (record { size = size; number = number })

unfoldable pub sent_answer : Option Sent → Read Reads
sent_answer none = None
sent_answer (some r) = got (length r.sender) r.number

pub record SentRead (count : ℕ) (values : List ℕ) (r : Read Reads) : Type 0 where
  pub is : r ≡ sent_answer (record_of count values)
  pub front : (x : Sent) → record_of count values ≡ some x → (x.sender ≡ take (length x.sender) values) × (length x.sender ≤ length values)

-- ---- a field

abbrev pub is_well_formed : Field → Bool
is_well_formed (Ok None) = true
is_well_formed (Ok (Some v)) = true
is_well_formed (Err e) = false

-- no reading, or a value
abbrev pub said : Field → Option Value
said (Ok None) = none
said (Ok (Some v)) = some v
said (Err e) = none

-- ---- inputs in memory, for a bench of n entities

abbrev pub presence_table : Inputs → ℕ → List ℕ
presence_table i n = table (λ e. presence_flag (i.presence e)) 0 n

abbrev pub input_table : Inputs → ℕ → List ℕ
input_table i n = table (λ k. input_bytes (i.given (k / ENTITY_CELLS) (k % ENTITY_CELLS))) 0 (ENTITY_CELLS * n)

-- flags with a value in a column of entity e: a presence; an event changes none
unfoldable pub presence_put : ℕ → Option Spot → Option Value → List ℕ → List ℕ
unfolding as_truth
presence_put e none v flags = overwritten flags e (presence_flag (as_truth v))
presence_put e (some p) v flags = flags

-- cells with it: an event's; a presence changes none
unfoldable pub event_put : ℕ → Option Spot → Option Value → List ℕ → List ℕ
event_put e none v cells = cells
event_put e (some p) v cells = overwritten cells ((e * ENTITY_CELLS + p.member) * CELL_BYTES) (input_bytes v)

-- a column of an entity of the file, or of a member of it
pub record ColumnStands (f : File) (c : Column) : Type 0 where
  pub of_entity : (x : Entity) × (get_elem? f.entities c.entity ≡ some x)
  pub of_member : (p : Spot) → c.event ≡ some p → member_of f c.entity p.member ≡ some p.what

-- a field, read in a column that has the number, is put in the column's place
pub record InputPut (classes d : List ℕ) (number : ℕ) (x flags cells new_flags new_cells : List ℕ) (ok : Bool) : Type 0 where
  pub is : (text offsets lengths : List ℕ) (w : Bench text classes offsets lengths d) → Few w.file
      → (c : Column) → ColumnStands w.file c → column_number c ≡ number
      → (ok ≡ is_well_formed (field_in c x))
      × (new_flags ≡ presence_put c.entity c.event (said (field_in c x)) flags)
      × (new_cells ≡ event_put c.entity c.event (said (field_in c x)) cells)

-- ---- a record

-- columns in memory, a record's fields, and memory with no input in it
pub record RecordGiven (classes d values columns : List ℕ) (count : ℕ) (flags cells : List ℕ) : Type 0 where
  pub text : List ℕ
  pub offsets : List ℕ
  pub lengths : List ℕ
  pub bench : Bench text classes offsets lengths d
  pub few : Few bench.file
  pub header : List Column
  pub stand : (c : Column) → Memᴰ c header → ColumnStands bench.file c
  pub numbers : map column_number header ≡ backwards count columns
  pub sender : List ℕ
  pub number : List ℕ
  pub texts : List (List ℕ)
  pub parts : fields values ≡ sender ∷ number ∷ texts
  pub counted : length texts ≡ count
  pub flags_after : List ℕ
  pub cells_after : List ℕ
  pub blank_flags : flags ≡ presence_table (inputs_of []) (length bench.file.entities) ++ flags_after
  pub blank_cells : cells ≡ input_table (inputs_of []) (length bench.file.entities) ++ cells_after

-- memory holds the inputs, if there are any
abbrev pub InputsAre : Option (List Input) → ℕ → List ℕ → List ℕ → Bool → List ℕ → List ℕ → Type 0
InputsAre none n flags_after cells_after ok flags cells = ok ≡ false
InputsAre (some is) n flags_after cells_after ok flags cells =
    (ok ≡ true) × (flags ≡ presence_table (inputs_of is) n ++ flags_after) × (cells ≡ input_table (inputs_of is) n ++ cells_after)

pub record ValuesRead (classes d values columns : List ℕ) (count : ℕ) (flags cells new_flags new_cells : List ℕ) (ok : Bool) : Type 0 where
  pub is : (g : RecordGiven classes d values columns count flags cells)
      → InputsAre (inputs_in g.header g.texts) (length g.bench.file.entities) g.flags_after g.cells_after ok new_flags new_cells
