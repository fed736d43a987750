-- What the parts of a day sheet promise, on a checked bench in columns: contracts.
use Rattle.std.specs.Prelude.{ℕ, ◌-◌, ◌≤◌, ◌<◌, ◌≡◌, List, map, length, get_or, take, drop, Option, Some, None, Result, Ok, Err}
use Rattle.std.proofs.Math.Option.{some}
use Rattle.text.specs.definitions.Syntax.{File}
use Rattle.values.specs.inner_contracts.Puts.{Put}
use Rattle.cycles.specs.definitions.Spots.{Spot}
use Rattle.cycles.specs.definitions.Header.{Column, header}
use Rattle.cycles.specs.definitions.Readings.{lines, PartOfLine}
use Rattle.senders.specs.definitions.Sender.{State}
use Rattle.senders.specs.definitions.Answer.{Answer, refused, accepted}
use Rattle.senders.specs.definitions.Line.{Accepted, new, resent, line}
use Rattle.senders.specs.definitions.Turns.{turns}
use Rattle.senders.specs.definitions.Fingerprint.{fingerprint}
use Rattle.senders.specs.definitions.StateImage.{state_of}
use Rattle.cycles.specs.inner_contracts.HeaderReads.{column_number, backwards}
use Rattle.cycles.specs.inner_contracts.RowMemory.{InFront}
use Rattle.days.specs.declared.sheet.SheetError.{SheetError}
use Rattle.days.specs.declared.sheet.SheetError.TheVariants.{Header, NoState, Chosen}
use Rattle.days.specs.definitions.Chosen.{chosen}
use Rattle.days.specs.definitions.DaySheet.{day_sheet, sheet_if_state}
use Rattle.senders.specs.inner_contracts.Advancing.{ResolvedBench, state_memory}
use Rattle.days.specs.inner_contracts.Choosing.{spot_number}

-- ---- the lines of a text

-- the line that starts at `at` ends at its line feed, or at the text's end
pub record LineEnd (s : List ℕ) (at r : ℕ) : Type 0 where
  pub after : at ≤ r
  pub inside : r ≤ length s
  pub part : PartOfLine (take (r - at) (drop at s))
  pub fed : r < length s → get_or s r 0 ≡ 10

-- ---- a record

-- the number of a line that starts a cycle
unfoldable pub new_number : Answer Accepted → Option ℕ
new_number (refused code) = None
new_number (accepted (resent l)) = None
new_number (accepted (new l)) = Some l.number

pub record Stepped (classes literals d refs scopes columns : List ℕ) (width : ℕ) (values state new_state : List ℕ) (r : Option ℕ) : Type 0 where
  pub is : (text offsets lengths : List ℕ) (b : ResolvedBench text classes offsets lengths literals d refs scopes)
      → (print : ℕ) (s : State) → state_of print b.checked.bench.file state ≡ some s
      → (names : List ℕ) (cs : List Column) → header b.checked.bench.file names ≡ some cs → map column_number cs ≡ backwards width columns
      → (r ≡ new_number (line b.checked.bench.file s names values))
      × (new_state ≡ state_memory print b.checked.bench.file s (line b.checked.bench.file s names values) state)

-- ---- the lines of a day

-- a bench, a header, chosen cells and a state, as memory holds them
pub record DayGiven (classes literals d refs scopes columns : List ℕ) (width : ℕ) (spots : List ℕ) (count : ℕ) (state : List ℕ) : Type 0 where
  pub text : List ℕ
  pub offsets : List ℕ
  pub lengths : List ℕ
  pub bench : ResolvedBench text classes offsets lengths literals d refs scopes
  pub names : List ℕ
  pub cs : List Column
  pub header_is : header bench.checked.bench.file names ≡ some cs
  pub columns_are : map column_number cs ≡ backwards width columns
  pub cells : List ℕ
  pub ps : List Spot
  pub chosen_is : chosen bench.checked.bench.file cells ≡ some ps
  pub spots_are : map spot_number ps ≡ backwards count spots
  pub before : State
  pub state_is : state_of (fingerprint text) bench.checked.bench.file state ≡ some before

abbrev pub day_file : {classes literals d refs scopes columns spots state : List ℕ} {width count : ℕ}
    → DayGiven classes literals d refs scopes columns width spots count state → File
day_file g = g.bench.checked.bench.file

pub record DayPut (classes literals d refs scopes columns : List ℕ) (width : ℕ) (spots : List ℕ) (count : ℕ) (readings : List ℕ) (from : ℕ)
    (state m new_m : List ℕ) (r : ℕ) : Type 0 where
  pub is : (g : DayGiven classes literals d refs scopes columns width spots count state)
      → Put (day_sheet g.ps (turns (day_file g) g.names g.before (lines (drop from readings)))) m 0 new_m r

-- ---- the sheet

-- document 01's number
abbrev pub code_of : SheetError → ℕ
code_of Header = 22
code_of NoState = 33
code_of Chosen = 41

-- a refusal by its number, or the length of the sheet
pub data Sheeted : Type 0 where
  Refused : ℕ → Sheeted
  Length : ℕ → Sheeted

abbrev pub sheeted_as : Result ℕ SheetError → Sheeted
sheeted_as (Ok n) = Length n
sheeted_as (Err e) = Refused (code_of e)

-- a refusal leaves the memory; the sheet stands at its front
abbrev pub SheetIs : Answer (List ℕ) → List ℕ → List ℕ → Sheeted → Type 0
SheetIs (refused code) m new_m r = (r ≡ Refused code) × (new_m ≡ m)
SheetIs (accepted bs) m new_m r = (r ≡ Length (length bs)) × InFront bs m new_m (length bs)

pub record SheetPut (text classes offsets lengths literals d refs scopes state readings cells m new_m : List ℕ) (r : Sheeted) : Type 0 where
  pub is : (b : ResolvedBench text classes offsets lengths literals d refs scopes)
      → SheetIs (sheet_if_state b.checked.bench.file (state_of (fingerprint text) b.checked.bench.file state) readings cells) m new_m r
