-- What the parts of a replay over chunks of a text promise: contracts.
use Rattle.std.specs.Prelude.{ℕ, ◌+◌, ◌≤◌, ◌<◌, ◌≡◌, Bool, true, false, List, [], ◌∷◌, ◌++◌, Result, Ok, Err, eqb, length, get_or, take, drop}
use Rattle.std.proofs.Math.Option.{some}
use Rattle.text.specs.definitions.Syntax.{File}
use Rattle.checking.specs.definitions.Verdict.{verdict, accepted_file}
use Rattle.cycles.specs.definitions.Readings.{PartOfLine}
use Rattle.cycles.specs.definitions.Header.{MOST_HEADER_BYTES}
use Rattle.cycles.specs.definitions.Row.{MOST_ROW_BYTES, row_header}
use Rattle.cycles.specs.inner_contracts.HeaderReads.{MOST_COLUMNS}
use Rattle.senders.specs.definitions.StateImage.{STATE}
use Rattle.engine.specs.declared.refusal.Refusal.{Refusal}
use Rattle.engine.specs.declared.refusal.Refusal.TheVariants.{Header}
use Rattle.engine.specs.inner_contracts.LineMemory.{NoHeader, HeaderRead}
use Rattle.engine.specs.inner_contracts.Refusals.{code_of}
use Rattle.replay.specs.definitions.Replay.{refusal}
use Rattle.replay.specs.inner_contracts.Awaiting.{
  Awaits,
  prints,
  awaited_after,
  to_print,
  left_after,
  opening,
  awaited_first,
  Memory,
  Stands,
}
use Rattle.replay.specs.declared.Stage.{Stage}
use Rattle.replay.specs.declared.Stage.TheVariants.{Names, Values, Closed}
use Rattle.replay.specs.declared.Progress.{Progress}

-- the most bytes of a line that is not refused for its length: those of a header
abbrev pub LONGEST : ℕ
LONGEST = MOST_HEADER_BYTES

-- one byte more, so that a line that is too long shows
abbrev pub LINE : ℕ
LINE = LONGEST + 1

-- the most bytes of a row with its line feed
abbrev pub ROOM : ℕ
ROOM = MOST_ROW_BYTES + 1

-- ---- a line over chunks

abbrev pub with_waiting : Memory → List ℕ → Memory
with_waiting m waiting = record { text = m.text; stage = m.stage; columns = m.columns; waiting = waiting; state = m.state }

-- more bytes of the line wait, as many as there is room for
abbrev pub kept : Memory → List ℕ → Memory
kept m bytes = with_waiting m (take LINE (m.waiting ++ bytes))

pub record Kept (m : Memory) (bytes : List ℕ) (n : Memory) : Type 0 where
  pub part : PartOfLine m.waiting
  pub is : n ≡ kept m bytes

-- the chunk's bytes up to `end` are kept: what is to be printed is the same, and so is what will be left, whatever bytes come after the chunk
pub record Gathers (m : Memory) (chunk : List ℕ) (end : ℕ) (n : Memory) : Type 0 where
  pub part : PartOfLine n.waiting
  pub stands : (a : Awaits) → Stands m a → Stands n a
  pub is : (a : Awaits) (rest : List ℕ) → to_print a (m.waiting ++ (chunk ++ rest)) ≡ to_print a (n.waiting ++ (drop end chunk ++ rest))
  pub left : (a : Awaits) (rest : List ℕ) → left_after a (m.waiting ++ (chunk ++ rest)) ≡ left_after a (n.waiting ++ (drop end chunk ++ rest))

-- .. up to the first line feed
pub record LineGathered (m : Memory) (chunk : List ℕ) (n : Memory) (end : ℕ) : Type 0 where
  pub inside : end < length chunk
  pub feeds : get_or chunk end 0 ≡ 10
  pub gathers : Gathers m chunk end n

-- ---- a line

-- the line of names is read, with the row of names at the memory's front, or it is no header
pub record HeaderTaken (text names : List ℕ) (stage : Stage) (columns row : List ℕ) (n : ℕ) : Type 0 where
  pub count : ℕ
  pub stage_is : stage ≡ Values count
  pub header_is : HeaderRead text names columns count
  pub short : n ≤ MOST_ROW_BYTES
  pub row_is : (f : File) → accepted_file text ≡ some f → take n row ≡ row_header f

pub record NamesRefused (text names : List ℕ) (stage : Stage) (why : Refusal) : Type 0 where
  pub why_is : why ≡ Header
  pub stage_is : stage ≡ Closed
  pub no_header : NoHeader text names

-- what the waiting line prints stands at the buffer's front, and memory stands for what is awaited after it
pub record Takes (m : Memory) (a : Awaits) (n : Memory) (out : List ℕ) (r : ℕ) : Type 0 where
  pub printed : take r out ≡ prints a m.waiting
  pub stands : Stands n (awaited_after a m.waiting)

pub record LinePut (m n : Memory) (out : List ℕ) (r : ℕ) : Type 0 where
  pub short : r ≤ ROOM
  pub part : PartOfLine m.waiting
  pub none_waits : n.waiting ≡ []
  pub is : (a : Awaits) → Stands m a → Takes m a n out r

-- a row, or the refusal of its line, and a line feed
abbrev pub ended_row : Result ℕ Refusal → List ℕ → List ℕ
ended_row (Ok n) row = take n row ++ 10 ∷ []
ended_row (Err why) row = refusal (code_of why) ++ 10 ∷ []

pub record Ended (row : Result ℕ Refusal) (out new_out : List ℕ) (r : ℕ) : Type 0 where
  pub short : r ≤ ROOM
  pub is : take r new_out ≡ ended_row row out

-- ---- chunks

-- the buffer has what was printed: with it what is to be printed is the same, and so is what will be left, whatever bytes come after the chunk
pub record Goes (m : Memory) (a : Awaits) (chunk : List ℕ) (n : Memory) (out : List ℕ) (taken used : ℕ) : Type 0 where
  pub later : Awaits
  pub stands : Stands n later
  pub is : (rest : List ℕ) → to_print a (m.waiting ++ (chunk ++ rest)) ≡ take used out ++ to_print later (n.waiting ++ (drop taken chunk ++ rest))
  pub left : (rest : List ℕ) → left_after a (m.waiting ++ (chunk ++ rest)) ≡ left_after later (n.waiting ++ (drop taken chunk ++ rest))

pub record Feeding (m : Memory) (chunk : List ℕ) (n : Memory) (out : List ℕ) (taken used : ℕ) : Type 0 where
  pub inside : taken ≤ length chunk
  pub fits : used ≤ length out
  pub still : taken ≡ 0 → used ≡ 0
  pub goes : (a : Awaits) → Stands m a → Goes m a chunk n out taken used

-- .. up to the chunk's end, or to where the buffer has no room for a row
pub record Fed (m : Memory) (chunk : List ℕ) (n : Memory) (out : List ℕ) (r : Progress) : Type 0 where
  pub fed : Feeding m chunk n out r.taken r.used
  pub stops : r.taken < length chunk → length out < r.used + ROOM

-- is nothing more awaited?
unfoldable pub is_closed : Stage → Bool
is_closed Names = false
is_closed (Values count) = false
is_closed Closed = true

-- at the text's end: is there no line any more?
unfoldable pub is_over : Stage → ℕ → Bool
is_over Names kept = false
is_over (Values count) kept = eqb kept 0
is_over Closed kept = true

-- the text has ended: a last line without a line feed
pub record Finished (m : Memory) (out : List ℕ) (r : ℕ) : Type 0 where
  pub fits : r ≤ ROOM
  pub is : (a : Awaits) → Stands m a → take r out ≡ to_print a m.waiting

-- ---- the beginning

-- a bench that is accepted, and one that is refused
pub record Started (text : List ℕ) (m : Memory) : Type 0 where
  pub none_waits : m.waiting ≡ []
  pub opened : opening (verdict text) ≡ []
  pub stands : Stands m (awaited_first (verdict text))

pub record BenchRefused (text out : List ℕ) (used : ℕ) : Type 0 where
  pub fits : used ≤ ROOM
  pub opened : take used out ≡ opening (verdict text)
  pub closes : awaited_first (verdict text) ≡ Awaits.nothing

-- ---- all of it on one bench: no call changes the text that memory is of

pub record GathersOn (m : Memory) (chunk : List ℕ) (end : ℕ) (n : Memory) : Type 0 where
  pub same : n.text ≡ m.text
  pub gathers : Gathers m chunk end n

pub record LineGatheredOn (m : Memory) (chunk : List ℕ) (n : Memory) (end : ℕ) : Type 0 where
  pub same : n.text ≡ m.text
  pub line : LineGathered m chunk n end

pub record LinePutOn (m n : Memory) (out : List ℕ) (r : ℕ) : Type 0 where
  pub same : n.text ≡ m.text
  pub put : LinePut m n out r

pub record FeedingOn (m : Memory) (chunk : List ℕ) (n : Memory) (out : List ℕ) (taken used : ℕ) : Type 0 where
  pub same : n.text ≡ m.text
  pub feeding : Feeding m chunk n out taken used

pub record FedOn (m : Memory) (chunk : List ℕ) (n : Memory) (out : List ℕ) (r : Progress) : Type 0 where
  pub same : n.text ≡ m.text
  pub fed : Fed m chunk n out r

-- .. and at the beginning it is of the text that is started
pub record StartedOn (text : List ℕ) (m : Memory) : Type 0 where
  pub text_is : m.text ≡ text
  pub started : Started text m

-- ---- memory that the caller has

-- as much of it as there is room for
abbrev pub cut : Memory → Memory
cut m = record { text = m.text; stage = m.stage; columns = take MOST_COLUMNS m.columns; waiting = take LINE m.waiting; state = take STATE m.state }

-- .. which stands for the same: what is to be printed is the same, and so is what will be left, whatever bytes come after those that wait
pub record Resumed (m n : Memory) : Type 0 where
  pub is : n ≡ cut m
  pub stands : (a : Awaits) → Stands m a → Stands n a
  pub prints : (a : Awaits) (rest : List ℕ) → to_print a (m.waiting ++ rest) ≡ to_print a (n.waiting ++ rest)
  pub left : (a : Awaits) (rest : List ℕ) → left_after a (m.waiting ++ rest) ≡ left_after a (n.waiting ++ rest)
