-- What a state says to a header and a record that are read: a refusal, a new line, or a retransmission; for a state and inputs in memory.
use Rattle.std.specs.Prelude.{ℕ, ◌*◌, ◌/◌, ◌%◌, ◌≡◌, List, Bool, true, ◌||◌, eqb, get_or, take, drop, Result, Ok, Err}
use Rattle.values.specs.definitions.Bytes.{same_bytes}
use Rattle.text.specs.definitions.Syntax.{File}
use Rattle.checking.specs.inner_contracts.Directory.{Bench}
use Rattle.checking.specs.inner_contracts.DirectoryReads.{Few}
use Rattle.checking.specs.definitions.Scope.{member_of, is_action}
use Rattle.cycles.specs.definitions.Store.{Inputs}
use Rattle.cycles.specs.definitions.Cycle.{is_sort}
use Rattle.cycles.specs.definitions.SoundStores.{SoundInputs}
use Rattle.cycles.specs.definitions.Planes.{CELL_BYTES, ENTITY_CELLS, ENTITY_CELL_BYTES, NO_READING, entity_count, kept_fits, plane_fits, KEPT_FLAGS}
use Rattle.cycles.specs.inner_contracts.LineReads.{presence_table, input_table}
use Rattle.cycles.specs.inner_contracts.CycleMemory.{present_by}
use Rattle.senders.specs.declared.turn.Turn.{Turn}
use Rattle.senders.specs.declared.turn.Turn.TheVariants.{New as Begins, Retransmission}
use Rattle.senders.specs.declared.turn.LineError.{LineError}
use Rattle.senders.specs.declared.turn.LineError.TheVariants.{IllFormed, IllFormedValue, OutOfTurn, OtherReadings, NoState, NinthSender, IllFormedSender}
use Rattle.senders.specs.definitions.Sender.{Sender}
use Rattle.senders.specs.definitions.Answer.{Answer, refused, accepted}
use Rattle.senders.specs.definitions.Line.{Accepted, new, resent, same_inputs}
use Rattle.senders.specs.definitions.StateImage.{decode_inputs}
use Rattle.senders.specs.inner_contracts.SenderMemory.{place}

-- document 01's number
abbrev pub code_of : LineError → ℕ
code_of IllFormed = 21
code_of IllFormedValue = 23
code_of OutOfTurn = 24
code_of OtherReadings = 25
code_of NoState = 33
code_of NinthSender = 42
code_of IllFormedSender = 43

-- what a state says: a refusal by its number, a new line by its sender's place and its number, or a line that is resent by its sender's place
pub data Judged : Type 0 where
  Refused : ℕ → Judged
  New : (at number : ℕ) → Judged
  Resent : (at : ℕ) → Judged

abbrev pub judged_as : Result Turn LineError → Judged
judged_as (Ok (Begins at number)) = New at number
judged_as (Ok (Retransmission at)) = Resent at
judged_as (Err e) = Refused (code_of e)

-- an accepted line comes with the place of its sender, a new one with its number too
unfoldable pub judgement : List Sender → Answer Accepted → Judged
unfolding place
judgement xs (refused code) = Refused code
judgement xs (accepted (new l)) = New (place l.sender xs) l.number
judgement xs (accepted (resent l)) = Resent (place l.sender xs)

-- ---- tests of memory

-- cell number i has no reading, or its entity is present after the line
unfoldable pub takes_cell : List ℕ → List ℕ → List ℕ → ℕ → Bool
takes_cell present flags cells i =
    eqb (get_or cells (i * CELL_BYTES) 0) NO_READING || present_by (get_or present (i / ENTITY_CELLS) 0) (get_or flags (i / ENTITY_CELLS) 0)

-- the nine bytes of cell number i are the same in two planes of cells, or it is an action's
unfoldable pub same_cell : List ℕ → List ℕ → File → ℕ → Bool
unfolding is_sort is_action member_of same_bytes
same_cell kept cells f i =
    is_sort is_action (member_of f (i / ENTITY_CELLS) (i % ENTITY_CELLS))
    || same_bytes (take CELL_BYTES (drop (i * CELL_BYTES) kept)) (take CELL_BYTES (drop (i * CELL_BYTES) cells))

pub record SameReading (classes d kept cells : List ℕ) (i : ℕ) (r : Bool) : Type 0 where
  pub is : (text offsets lengths : List ℕ) (w : Bench text classes offsets lengths d) → Few w.file → r ≡ same_cell kept cells w.file i

-- inputs as memory holds them
pub record InputsStand (f : File) (flags cells : List ℕ) (i : Inputs) : Type 0 where
  pub sound : SoundInputs f i
  pub presence : take (entity_count f) flags ≡ presence_table i (entity_count f)
  pub given : take (ENTITY_CELL_BYTES * entity_count f) cells ≡ input_table i (entity_count f)

-- are they the readings that a sender's plane keeps?
pub record SameRead (classes d plane flags cells : List ℕ) (r : Bool) : Type 0 where
  pub is : (text offsets lengths : List ℕ) (w : Bench text classes offsets lengths d) → Few w.file
      → plane_fits KEPT_FLAGS (λ present. kept_fits) w.file plane ≡ true
      → (i : Inputs) → InputsStand w.file flags cells i
      → r ≡ same_inputs w.file (decode_inputs w.file plane) i
