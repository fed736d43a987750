-- What a public call answers and leaves of the memory that it is lent, in one form for the code that serves them all.
use Rattle.std.specs.Prelude.{ℕ, List}
use Rattle.engine.specs.definitions.Calls.{AfterCheck, AfterFresh, AfterLine, AfterRow, AfterSheet}

-- the answer, the state's memory, and the memory that is filled: a bench, a row, or a sheet
pub record Served : Type 0 where
  pub answer : ℕ
  pub state : List ℕ
  pub out : List ℕ

abbrev pub served_check : AfterCheck → List ℕ → Served
served_check r state = record { answer = r.answer; state = state; out = r.bench }

abbrev pub served_fresh : AfterFresh → List ℕ → Served
served_fresh r out = record { answer = r.answer; state = r.state; out = out }

abbrev pub served_line : AfterLine → Served
served_line r = record { answer = r.answer; state = r.state; out = r.row }

abbrev pub served_row : AfterRow → List ℕ → Served
served_row r state = record { answer = r.answer; state = state; out = r.row }

abbrev pub served_sheet : AfterSheet → List ℕ → Served
served_sheet r state = record { answer = r.answer; state = state; out = r.sheet }

-- the most bytes of a text that is served with less memory to clear
abbrev pub SHORT_TEXT : ℕ
SHORT_TEXT = 4096
