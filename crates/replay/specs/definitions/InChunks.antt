-- A replay of the runner over a text that is read in chunks: each step is as the contract of its function allows it, whatever bench is left,
-- and what stands in the buffer after a step is written.
use Rattle.std.specs.Prelude.{ℕ, ◌≡◌, true, List, [], ◌∷◌, ◌++◌, take, drop}
use Rattle.replay.specs.inner_contracts.Awaiting.{Memory}
use Rattle.replay.specs.inner_contracts.Feeding.{Fed, FedOn, Finished, Started, StartedOn, BenchRefused, is_closed}
use Rattle.replay.specs.declared.Progress.{Progress}

unfoldable pub joined : List (List ℕ) → List ℕ
joined [] = []
joined (c ∷ cs) = c ++ joined cs

-- `Writes m chunk later all`: from here on, with memory m, the chunk and the chunks `later` to be read, all that is written is `all`
pub data Writes : Memory → List ℕ → List (List ℕ) → List ℕ → Type 0 where
  feeds : {m n : Memory} {chunk out all : List ℕ} {later : List (List ℕ)} {r : Progress}
      → Fed m chunk n out r → Writes n (drop r.taken chunk) later all
      → Writes m chunk later (take r.used out ++ all)
  reads : {m : Memory} {more all : List ℕ} {later : List (List ℕ)} → Writes m more later all → Writes m [] (more ∷ later) all
  ends : {m : Memory} {out : List ℕ} {r : ℕ} → Finished m out r → Writes m [] [] (take r out)
  -- where nothing is awaited, the rest need not be read
  closes : {m : Memory} {chunk : List ℕ} {later : List (List ℕ)} → is_closed m.stage ≡ true → Writes m chunk later []

-- all that is written, from the first byte on
pub data Replays (text : List ℕ) (chunks : List (List ℕ)) : List ℕ → Type 0 where
  begins : {m : Memory} {all : List ℕ} → Started text m → Writes m [] chunks all → Replays text chunks all
  refuses : {out : List ℕ} {used : ℕ} → BenchRefused text out used → Replays text chunks (take used out)

-- ---- the same on one bench, that of the text: each step is as the contract of its function allows it

pub data WritesOn : Memory → List ℕ → List (List ℕ) → List ℕ → Type 0 where
  feeds : {m n : Memory} {chunk out all : List ℕ} {later : List (List ℕ)} {r : Progress}
      → FedOn m chunk n out r → WritesOn n (drop r.taken chunk) later all
      → WritesOn m chunk later (take r.used out ++ all)
  reads : {m : Memory} {more all : List ℕ} {later : List (List ℕ)} → WritesOn m more later all → WritesOn m [] (more ∷ later) all
  ends : {m : Memory} {out : List ℕ} {r : ℕ} → Finished m out r → WritesOn m [] [] (take r out)
  closes : {m : Memory} {chunk : List ℕ} {later : List (List ℕ)} → is_closed m.stage ≡ true → WritesOn m chunk later []

pub data ReplaysOn (text : List ℕ) (chunks : List (List ℕ)) : List ℕ → Type 0 where
  begins : {m : Memory} {all : List ℕ} → StartedOn text m → WritesOn m [] chunks all → ReplaysOn text chunks all
  refuses : {out : List ℕ} {used : ℕ} → BenchRefused text out used → ReplaysOn text chunks (take used out)
