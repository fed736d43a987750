-- The rules that a line tries, by the states before it and after it, as a function of the lent bytes. It is no call of the engine, but its numbers
-- and its refusals are as theirs.
use Rattle.std.specs.Prelude.{ℕ, ◌+◌, ◌*◌, ◌≡◌, List, [], ◌∷◌, ◌++◌, map, Bool, true, false, not, cond, ◌||◌, ltb, length, drop}
use Rattle.std.proofs.Math.Option.{Option, none, some}
use Rattle.values.specs.definitions.Bytes.{low_first}
use Rattle.text.specs.definitions.Syntax.{File}
use Rattle.cycles.specs.definitions.Store.{Store}
use Rattle.cycles.specs.definitions.Quiescence.{is_quiescent}
use Rattle.senders.specs.definitions.Sender.{State}
use Rattle.senders.specs.definitions.StateImage.{STATE, state_of}
use Rattle.engine.specs.definitions.BenchImage.{BENCH, bench_of}
use Rattle.engine.specs.definitions.Calls.{fingerprint_of}

-- the number of these bits, of which the first is bit 0
unfoldable pub bits_of : List Bool → ℕ
bits_of [] = 0
bits_of (b ∷ bs) = cond b 1 0 + 2 * bits_of bs

-- the set of the rules that are not quiescent, a bit for each by its number
unfoldable pub tried_set : File → Store → Store → ℕ
unfolding bits_of is_quiescent
tried_set f now previous = bits_of (map (λ r. not (is_quiescent f now previous r)) f.rules)

-- what the rules saw in the line that left a state: it is kept as the previous store
abbrev pub seen_before : State → Store
seen_before s = s.stores.previous

-- the set's bytes, the lowest first
abbrev pub SET_BYTES : ℕ
SET_BYTES = 8

-- what is answered, and the memory for the set as it is left
pub record AfterTried : Type 0 where
  pub answer : ℕ
  pub tried : List ℕ

-- the set stands at the front of its memory
unfoldable pub tried_written : ℕ → List ℕ → AfterTried
tried_written set m = record { answer = 0; tried = low_first SET_BYTES set ++ drop SET_BYTES m }

-- the rules see now what the state after the line keeps, and saw before what the one before it keeps
unfoldable pub tried_between : File → Option State → Option State → List ℕ → AfterTried
unfolding tried_written tried_set
tried_between f none after m = record { answer = 33; tried = m }
tried_between f (some b) none m = record { answer = 33; tried = m }
tried_between f (some b) (some a) m = tried_written (tried_set f (seen_before a) (seen_before b)) m

-- 32, where the image is no bench; 33, where `before` or `after` is no state of it
unfoldable pub tried_on_bench : ℕ → Option File → List ℕ → List ℕ → List ℕ → AfterTried
unfolding tried_between state_of
tried_on_bench print none before after m = record { answer = 32; tried = m }
tried_on_bench print (some f) before after m = tried_between f (state_of print f before) (state_of print f after) m

-- 31, where any memory is shorter than its stated size
unfoldable pub tried_call : List ℕ → List ℕ → List ℕ → List ℕ → AfterTried
unfolding tried_on_bench fingerprint_of bench_of
tried_call bench before after m = elim (ltb (length bench) BENCH || ltb (length before) STATE || ltb (length after) STATE || ltb (length m) SET_BYTES) [
  | true ↦ record { answer = 31; tried = m }
  | false ↦ tried_on_bench (fingerprint_of bench) (bench_of bench) before after m
]

-- what is answered, and the memory that is left, on all input
abbrev pub TriedContract : (bench before after tried new_tried : List ℕ) → ℕ → Type 0
TriedContract bench before after tried new_tried r = record { answer = r; tried = new_tried } ≡ tried_call bench before after tried
