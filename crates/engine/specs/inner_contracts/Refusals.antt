-- The number of each refusal, and the answer of a call.
use Rattle.std.specs.Prelude.{ℕ, Result, Ok, Err}
use Rattle.text.specs.definitions.Answers.{refusal_answer as placed}
use Rattle.checking.specs.inner_contracts.FoundFaults.{fault_code}
use Rattle.senders.specs.inner_contracts.Judging.{code_of as line_code}
use Rattle.days.specs.inner_contracts.SheetMemory.{code_of as sheet_code}
use Rattle.engine.specs.declared.refusal.Refusal.{Refusal}
use Rattle.engine.specs.declared.refusal.Refusal.TheVariants.{ShortMemory, NoBench, NoState, Header, IllFormedSender, Text, Line, Sheet}
use Rattle.engine.specs.definitions.Calls.{length_answer}

-- document 01's number
abbrev pub code_of : Refusal → ℕ
code_of Header = 22
code_of ShortMemory = 31
code_of NoBench = 32
code_of NoState = 33
code_of IllFormedSender = 43
code_of (Text fault) = fault_code fault.kind
code_of (Line error) = line_code error
code_of (Sheet error) = sheet_code error

-- "the offset of a refusal of a text" stands above its number
abbrev pub refusal_answer : Refusal → ℕ
refusal_answer Header = 22
refusal_answer ShortMemory = 31
refusal_answer NoBench = 32
refusal_answer NoState = 33
refusal_answer IllFormedSender = 43
refusal_answer (Text fault) = placed (fault_code fault.kind) fault.at
refusal_answer (Line error) = line_code error
refusal_answer (Sheet error) = sheet_code error

-- "Acceptance returns 0", with the length of a written row or sheet above it; or the refusal
abbrev pub answer_of : Result ℕ Refusal → ℕ
answer_of (Ok n) = length_answer n
answer_of (Err refusal) = refusal_answer refusal
