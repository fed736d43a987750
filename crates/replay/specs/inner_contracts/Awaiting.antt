-- A replay line by line: what is awaited, what a line prints then, and what is awaited after it. Nobody has to believe this: that all lines
-- together print what `replay` says is proved (proofs/AwaitingLaws.antt).
use Rattle.std.specs.Prelude.{ℕ, ◌≡◌, List, [], ◌∷◌, ◌++◌}
use Rattle.std.proofs.Math.Option.{Option, none, some}
use Rattle.text.specs.definitions.Syntax.{File}
use Rattle.checking.specs.definitions.Verdict.{Verdict, accepted_file}
use Rattle.cycles.specs.definitions.Header.{Column, header}
use Rattle.cycles.specs.definitions.Readings.{PartOfLine, lines}
use Rattle.cycles.specs.definitions.Row.{row_header}
use Rattle.senders.specs.definitions.Sender.{State}
use Rattle.senders.specs.definitions.Line.{line}
use Rattle.senders.specs.definitions.Follow.{fresh}
use Rattle.senders.specs.definitions.Turns.{state_after}
use Rattle.senders.specs.definitions.Fingerprint.{fingerprint}
use Rattle.senders.specs.definitions.StateImage.{state_of}
use Rattle.engine.specs.inner_contracts.LineMemory.{HeaderRead}
use Rattle.replay.specs.definitions.Replay.{refusal, bench_refusal, row_for}
use Rattle.replay.specs.declared.Stage.{Stage}
use Rattle.replay.specs.declared.Stage.TheVariants.{Names, Values, Closed}

-- the line of names of a bench; a line of values under a line of names, in a state; nothing more, after a refusal of bench or names
pub data Awaits : Type 0 where
  names : File → Awaits
  values : File → List ℕ → State → Awaits
  nothing : Awaits

-- ---- one line

unfoldable pub names_row : File → Option (List Column) → List ℕ
unfolding refusal row_header
names_row f none = refusal 22 ++ 10 ∷ []
names_row f (some cs) = row_header f ++ 10 ∷ []

unfoldable pub awaited_under : File → List ℕ → Option (List Column) → Awaits
unfolding fresh
awaited_under f l none = nothing
awaited_under f l (some cs) = values f l (fresh f)

unfoldable pub prints : Awaits → List ℕ → List ℕ
unfolding names_row header row_for line state_after
prints (names f) l = names_row f (header f l)
prints (values f ns s) l = row_for f (line f s ns l) (state_after f s (line f s ns l)) ++ 10 ∷ []
prints nothing l = []

unfoldable pub awaited_after : Awaits → List ℕ → Awaits
unfolding awaited_under header state_after line
awaited_after (names f) l = awaited_under f l (header f l)
awaited_after (values f ns s) l = values f ns (state_after f s (line f s ns l))
awaited_after nothing l = nothing

-- ---- all lines

-- a line of names is there, if only an empty one
unfoldable pub prints_at_end : Awaits → List ℕ
unfolding prints
prints_at_end (names f) = prints (names f) []
prints_at_end (values f ns s) = []
prints_at_end nothing = []

unfoldable pub prints_lines : Awaits → List (List ℕ) → List ℕ
unfolding prints_at_end prints awaited_after
prints_lines a [] = prints_at_end a
prints_lines a (l ∷ ls) = prints a l ++ prints_lines (awaited_after a l) ls

unfoldable pub awaited_after_lines : Awaits → List (List ℕ) → Awaits
unfolding awaited_after
awaited_after_lines a [] = a
awaited_after_lines a (l ∷ ls) = awaited_after_lines (awaited_after a l) ls

-- what is still to be printed where this text is left
unfoldable pub to_print : Awaits → List ℕ → List ℕ
unfolding prints_lines lines
to_print a t = prints_lines a (lines t)

-- what is awaited after it: the state that is left
unfoldable pub left_after : Awaits → List ℕ → Awaits
unfolding awaited_after_lines lines
left_after a t = awaited_after_lines a (lines t)

-- ---- the beginning

unfoldable pub opening : Verdict → List ℕ
unfolding bench_refusal
opening (Verdict.refused_at code at) = bench_refusal code at ++ 10 ∷ []
opening (Verdict.accepted f) = []

unfoldable pub awaited_first : Verdict → Awaits
awaited_first (Verdict.refused_at code at) = nothing
awaited_first (Verdict.accepted f) = names f

-- ---- in memory

-- what code keeps between two calls: the text of the bench, what is awaited, the numbers of the header's columns, the bytes of a line that wait for
-- its end, and the state image
pub record Memory : Type 0 where
  pub text : List ℕ
  pub stage : Stage
  pub columns : List ℕ
  pub waiting : List ℕ
  pub state : List ℕ

abbrev pub memory_of : (text : List ℕ) → Stage → (columns waiting state : List ℕ) → Memory
memory_of text stage columns waiting state = record { text = text; stage = stage; columns = columns; waiting = waiting; state = state }

pub record AtNames (text : List ℕ) (f : File) (state : List ℕ) : Type 0 where
  pub accepted : accepted_file text ≡ some f
  pub state_is : state_of (fingerprint text) f state ≡ some (fresh f)

-- `columns` has the numbers of the header's columns
pub record AtValues (text : List ℕ) (f : File) (ns : List ℕ) (s : State) (count : ℕ) (columns state : List ℕ) : Type 0 where
  pub accepted : accepted_file text ≡ some f
  pub state_is : state_of (fingerprint text) f state ≡ some s
  pub header_is : HeaderRead text ns columns count

abbrev pub StandsAt : List ℕ → Awaits → Stage → List ℕ → List ℕ → Type 0
StandsAt text (names f) Names columns state = AtNames text f state
StandsAt text (names f) (Values count) columns state = ⊥
StandsAt text (names f) Closed columns state = ⊥
StandsAt text (values f ns s) Names columns state = ⊥
StandsAt text (values f ns s) (Values count) columns state = AtValues text f ns s count columns state
StandsAt text (values f ns s) Closed columns state = ⊥
StandsAt text nothing Names columns state = ⊥
StandsAt text nothing (Values count) columns state = ⊥
StandsAt text nothing Closed columns state = Unit {0}

-- memory stands for what is awaited
abbrev pub Stands : Memory → Awaits → Type 0
Stands m a = StandsAt m.text a m.stage m.columns m.state

-- .. for something, and what waits is a part of a line
pub record Stood (m : Memory) : Type 0 where
  pub awaits : Awaits
  pub stands : Stands m awaits
  pub part : PartOfLine m.waiting
