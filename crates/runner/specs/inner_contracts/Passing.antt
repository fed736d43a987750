-- Steps of a run (`Writes`, crate replay) that code has made. That `printed` is what was written, and that the chunks are what was read, no
-- contract can say.
use Rattle.std.specs.Prelude.{ℕ, ◌≡◌, List, [], ◌++◌}
use Rattle.replay.specs.inner_contracts.Awaiting.{Memory}
use Rattle.replay.specs.definitions.InChunks.{Writes, WritesOn}

-- from a chunk over the chunks `more` to the rest of another: whatever is written from there on, `printed` comes before it
pub record Passed (m : Memory) (chunk : List ℕ) (more : List (List ℕ)) (n : Memory) (rest : List ℕ) : Type 0 where
  pub printed : List ℕ
  pub goes : (later : List (List ℕ)) (all : List ℕ) → Writes n rest later all → Writes m chunk (more ++ later) (printed ++ all)

-- over chunks that were read, to the end of the last one
pub record FilePassed (m n : Memory) : Type 0 where
  pub chunks : List (List ℕ)
  pub passed : Passed m [] chunks n []

-- ---- the same on one bench, and of runs on one bench

pub record PassedOn (m : Memory) (chunk : List ℕ) (more : List (List ℕ)) (n : Memory) (rest : List ℕ) : Type 0 where
  pub same : n.text ≡ m.text
  pub printed : List ℕ
  pub goes : (later : List (List ℕ)) (all : List ℕ) → Writes n rest later all → Writes m chunk (more ++ later) (printed ++ all)
  pub goes_on_bench : (later : List (List ℕ)) (all : List ℕ) → WritesOn n rest later all → WritesOn m chunk (more ++ later) (printed ++ all)

pub record FilePassedOn (m n : Memory) : Type 0 where
  pub chunks : List (List ℕ)
  pub passed : PassedOn m [] chunks n []
