-- What a record does to a state in memory, on a checked bench in columns, whose rules' names are resolved.
use Rattle.std.specs.Prelude.{ℕ, ◌≡◌, Bool, List, map, length}
use Rattle.std.proofs.Math.Option.{some}
use Rattle.text.specs.definitions.Syntax.{File}
use Rattle.checking.specs.inner_contracts.Directory.{Bench}
use Rattle.checking.specs.inner_contracts.DirectoryReads.{Few}
use Rattle.checking.specs.inner_contracts.CheckedBench.{CheckedBench}
use Rattle.checking.specs.inner_contracts.Resolution.{References, Scopes}
use Rattle.cycles.specs.definitions.Header.{Column, header}
use Rattle.cycles.specs.definitions.Record.{Sent, record_of, Input, inputs_in, inputs_of}
use Rattle.cycles.specs.definitions.Planes.{entity_count}
use Rattle.cycles.specs.inner_contracts.ReadSets.{ReadsAre}
use Rattle.cycles.specs.inner_contracts.HeaderReads.{column_number, backwards}
use Rattle.senders.specs.inner_contracts.Judging.{Judged}
use Rattle.senders.specs.definitions.Sender.{State, Line, kept}
use Rattle.senders.specs.definitions.Answer.{Answer, refused, accepted}
use Rattle.senders.specs.definitions.Line.{Accepted, new, resent, Reading, is_resent, line_in, line}
use Rattle.senders.specs.definitions.StateImage.{state_of, with_state}
use Rattle.senders.specs.inner_contracts.TotalFollow.{follow}
use Rattle.senders.specs.inner_contracts.SenderMemory.{place}
use Rattle.senders.specs.inner_contracts.Judging.{judgement, InputsStand}

-- a checked bench in columns, with its rules' names resolved
pub record ResolvedBench (text classes offsets lengths literals d refs scopes : List ℕ) : Type 0 where
  pub checked : CheckedBench text classes offsets lengths literals d
  pub references : References text classes offsets lengths d refs
  pub scopes_are : Scopes text classes offsets lengths d scopes
  pub reads_are : ReadsAre text classes offsets lengths d scopes

-- the memory that a line leaves of a state's: a refused line and a retransmission leave it
unfoldable pub state_memory : ℕ → File → State → Answer Accepted → List ℕ → List ℕ
unfolding with_state follow
state_memory print f s (refused code) m = m
state_memory print f s (accepted (resent l)) m = m
state_memory print f s (accepted (new l)) m = with_state print f (follow f s (new l)) m

pub record Moves (print : ℕ) (f : File) (s : State) (a : Answer Accepted) (state new_state : List ℕ) (r : Judged) : Type 0 where
  pub judged : r ≡ judgement s.senders a
  pub left : new_state ≡ state_memory print f s a state

-- the last number of the sender at a place, 0 for one that is not known
pub record LastRead (state : List ℕ) (n at r : ℕ) : Type 0 where
  pub is : (f : File) → entity_count f ≡ n → (print : ℕ) (s : State) → state_of print f state ≡ some s
      → (name : List ℕ) → at ≡ place name s.senders → r ≡ (kept name s.senders).last

-- is a line of the sender at a place resent?
pub record ResentRead (classes d state : List ℕ) (at number : ℕ) (flags cells : List ℕ) (r : Bool) : Type 0 where
  pub is : (text offsets lengths : List ℕ) (w : Bench text classes offsets lengths d) → Few w.file
      → (print : ℕ) (s : State) → state_of print w.file state ≡ some s
      → (l : Line) → at ≡ place l.sender s.senders → l.number ≡ number → InputsStand w.file flags cells l.inputs
      → r ≡ is_resent w.file s l

-- a new line of the sender at a place
pub record Followed (classes literals d refs scopes name : List ℕ) (at number : ℕ) (flags cells state new_state : List ℕ) : Type 0 where
  pub is : (text offsets lengths : List ℕ) (b : ResolvedBench text classes offsets lengths literals d refs scopes)
      → (print : ℕ) (s : State) → state_of print b.checked.bench.file state ≡ some s
      → (l : Line) → l.sender ≡ name → l.number ≡ number → at ≡ place name s.senders → InputsStand b.checked.bench.file flags cells l.inputs
      → new_state ≡ with_state print b.checked.bench.file (follow b.checked.bench.file s (new l)) state

-- what a record says, of which the values are read
abbrev pub reading_with : Sent → List Input → Reading
reading_with x is = record { sender = x.sender; number = x.number; inputs = is }

-- a line that is read, of the sender at a place: its number, and its inputs in areas of their own
pub record Settled (classes literals d refs scopes name : List ℕ) (at number : ℕ) (flags cells state new_state : List ℕ) (r : Judged) : Type 0 where
  pub is : (text offsets lengths : List ℕ) (b : ResolvedBench text classes offsets lengths literals d refs scopes)
      → (print : ℕ) (s : State) → state_of print b.checked.bench.file state ≡ some s
      → (names values : List ℕ) (cs : List Column) → header b.checked.bench.file names ≡ some cs
      → (x : Sent) → record_of (length cs) values ≡ some x → (is : List Input) → inputs_in cs x.texts ≡ some is
      → x.sender ≡ name → x.number ≡ number → at ≡ place name s.senders
      → InputsStand b.checked.bench.file flags cells (inputs_of is)
      → Moves print b.checked.bench.file s (line_in b.checked.bench.file s (reading_with x is)) state new_state r

-- a record whose sender and number are read
pub record SentTaken (classes literals d refs scopes columns : List ℕ) (count : ℕ) (values name : List ℕ) (number : ℕ) (state new_state : List ℕ)
    (r : Judged) : Type 0 where
  pub is : (text offsets lengths : List ℕ) (b : ResolvedBench text classes offsets lengths literals d refs scopes)
      → (print : ℕ) (s : State) → state_of print b.checked.bench.file state ≡ some s
      → (names : List ℕ) (cs : List Column) → header b.checked.bench.file names ≡ some cs → map column_number cs ≡ backwards count columns
      → (x : Sent) → record_of count values ≡ some x → x.sender ≡ name → x.number ≡ number
      → Moves print b.checked.bench.file s (line b.checked.bench.file s names values) state new_state r

-- a record under a header, whose columns' numbers stand in memory
pub record Advanced (classes literals d refs scopes columns : List ℕ) (count : ℕ) (values state new_state : List ℕ) (r : Judged) : Type 0 where
  pub is : (text offsets lengths : List ℕ) (b : ResolvedBench text classes offsets lengths literals d refs scopes)
      → (print : ℕ) (s : State) → state_of print b.checked.bench.file state ≡ some s
      → (names : List ℕ) (cs : List Column) → header b.checked.bench.file names ≡ some cs → map column_number cs ≡ backwards count columns
      → Moves print b.checked.bench.file s (line b.checked.bench.file s names values) state new_state r
