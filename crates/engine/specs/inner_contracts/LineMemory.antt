-- What a line on an accepted bench comes to: the answer, and the memory of state and row.
use Rattle.std.specs.Prelude.{ℕ, Result, Ok, Err, IfOk, ◌≤◌, ◌<◌, ◌≡◌, Bool, List, map, get_or, take}
use Rattle.std.proofs.Math.Option.{none, some}
use Rattle.text.specs.definitions.Syntax.{File}
use Rattle.checking.specs.definitions.Verdict.{accepted_file}
use Rattle.cycles.specs.definitions.Header.{Column, header}
use Rattle.cycles.specs.inner_contracts.HeaderReads.{MOST_COLUMNS, NO_COLUMN, column_number, backwards}
use Rattle.senders.specs.definitions.Sender.{State}
use Rattle.senders.specs.definitions.Answer.{refused, accepted}
use Rattle.senders.specs.definitions.Line.{Accepted, line}
use Rattle.senders.specs.definitions.Turns.{state_after}
use Rattle.senders.specs.definitions.Fingerprint.{fingerprint}
use Rattle.senders.specs.definitions.StateImage.{is_state, state_of}
use Rattle.engine.specs.declared.refusal.Refusal.{Refusal}
use Rattle.cycles.specs.declared.rules.Rules.{Rules}
use Rattle.cycles.specs.inner_contracts.Bundles.{of_bench}
use Rattle.senders.specs.inner_contracts.Advancing.{ResolvedBench}
use Rattle.engine.specs.inner_contracts.Refusals.{code_of, refusal_answer, answer_of}
use Rattle.engine.specs.definitions.Calls.{ROW, AfterLine, line_row, line_in_state}

-- a row has no more bytes than the memory for it, and above the number of a line's refusal nothing stands
abbrev pub ShortRow : Result ℕ Refusal → Type 0
ShortRow (Err refusal) = refusal_answer refusal ≡ code_of refusal
ShortRow (Ok n) = n ≤ ROW

-- what holds of the text, where the rules that are lent are those of an accepted one with its names resolved
abbrev pub Standing : Rules → (List ℕ → Type 0) → Type 0
Standing r p = of_bench ResolvedBench r → p r.columns.text.now

-- what holds of every text that has in its columns what is lent of the rules, with its names resolved, wherever its tokens stand
abbrev pub StandingForAny : Rules → (List ℕ → Type 0) → Type 0
StandingForAny r p = (text offsets lengths : List ℕ)
    → ResolvedBench text r.columns.classes.now offsets lengths r.literals.now r.columns.d.now r.references.now r.scopes.now → p text

abbrev pub after_line : Result ℕ Refusal → List ℕ → List ℕ → AfterLine
after_line r state row = record { answer = answer_of r; state = state; row = row }

-- the line on memory lent for a state of the text's bench
abbrev pub line_in_memory : (text : List ℕ) → File → (state names values row : List ℕ) → AfterLine
line_in_memory text f state names values row = line_in_state (fingerprint text) f (state_of (fingerprint text) f state) state names values row

-- does the memory hold a state of the text's bench?
pub record InState (text state : List ℕ) (is : Bool) : Type 0 where
  pub file : File
  pub accepted : accepted_file text ≡ some file
  pub told : is_state (fingerprint text) file state ≡ is

-- a line of names that is no header of the text's bench
abbrev pub NoHeader : (text names : List ℕ) → Type 0
NoHeader text names = (f : File) → accepted_file text ≡ some f → header f names ≡ none

-- the columns of a header, whose numbers stand in memory, the last one first
pub record ColumnsOf (f : File) (names columns : List ℕ) (count : ℕ) : Type 0 where
  pub columns_of : List Column
  pub header_is : header f names ≡ some columns_of
  pub numbers_are : map column_number columns_of ≡ backwards count columns

-- a header of the text's bench
pub record HeaderRead (text names columns : List ℕ) (count : ℕ) : Type 0 where
  pub few : count ≤ MOST_COLUMNS
  pub known : (k : ℕ) → k < count → get_or columns k 0 < NO_COLUMN
  pub is : (f : File) → accepted_file text ≡ some f → ColumnsOf f names columns count

-- a refused line, and an accepted one with its row at the memory's front
abbrev pub LineTold : File → State → (names values new_row : List ℕ) → Result ℕ Refusal → Type 0
LineTold f s names values new_row (Err why) = line f s names values ≡ refused (code_of why)
LineTold f s names values new_row (Ok n) = (a : Accepted) × (line f s names values ≡ accepted a) × (take n new_row ≡ line_row f s a)

-- what a record under a header comes to in a state, and the state after it stands in memory
pub record LineTaken (text : List ℕ) (f : File) (s : State) (names values state row new_state new_row : List ℕ) (r : Result ℕ Refusal) : Type 0 where
  pub answered : after_line r new_state new_row ≡ line_in_memory text f state names values row
  pub told : LineTold f s names values new_row r
  pub stands : state_of (fingerprint text) f new_state ≡ some (state_after f s (line f s names values))

-- a record under a header, whose columns' numbers stand in memory, on memory that is a state of the text's bench
pub record RecordTaken (text columns : List ℕ) (count : ℕ) (values state row new_state new_row : List ℕ) (r : Result ℕ Refusal) : Type 0 where
  pub short : IfOk r (λ n. n ≤ ROW)
  pub is : (f : File) → accepted_file text ≡ some f → (s : State) → state_of (fingerprint text) f state ≡ some s
      → (names : List ℕ) → ColumnsOf f names columns count → LineTaken text f s names values state row new_state new_row r
