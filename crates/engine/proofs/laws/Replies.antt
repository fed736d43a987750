-- A run, worked out: what the contracts leave is one list of replies, from one memory.
use Prim.Native.Nat.{ℕ, ◌≤◌}
use mathlib.Core.Path.{◌≡◌, refl, ap, ap₂, ◌∙◌}
use mathlib.Core.List.{List, [], ◌∷◌}
use lib.ListN.{length}
use Rattle.senders.specs.definitions.StateImage.{STATE}
use Rattle.engine.specs.definitions.BenchImage.{BENCH}
use Rattle.engine.specs.definitions.Calls.{AfterCheck, check_call, AfterFresh, fresh_call, AfterLine, line_call}
use Rattle.engine.specs.definitions.Runs.{Request, RunStart, Run, ends, goes_on, replies}

pub run_replies : {bench state : List ℕ} {qs : List Request} {rs : List AfterLine} → Run bench state qs rs → rs ≡ replies bench state qs
unfolding replies
run_replies ends = refl
run_replies {bench} {state} (goes_on {q = q} {qs = qs} {r = r} {rs = rs} c others) =
    ap₂ (λ (x : AfterLine) (xs : List AfterLine). x ∷ xs) c (run_replies others ∙ ap (λ (x : AfterLine). replies bench x.state qs) c)

-- the memory of bench and state from which a run starts: as check and fresh leave what was lent to them
unfoldable pub start_bench : List ℕ → List ℕ → List ℕ
unfolding check_call
start_bench text bench = (check_call text bench).bench

unfoldable pub start_state : List ℕ → List ℕ → List ℕ → List ℕ
unfolding fresh_call start_bench
start_state text bench state = (fresh_call (start_bench text bench) state).state

pub begins_bench : {text bench state : List ℕ} (b : RunStart text bench state) → bench ≡ start_bench text b.lent_bench
unfolding start_bench
begins_bench b = ap (λ (r : AfterCheck). r.bench) b.is_checked

pub begins_state : {text bench state : List ℕ} (b : RunStart text bench state) → state ≡ start_state text b.lent_bench b.lent_state
unfolding start_state
begins_state b =
    ap (λ (r : AfterFresh). r.state) b.is_fresh ∙ ap (λ (m : List ℕ). (fresh_call m b.lent_state).state) (begins_bench b)

-- every text and memory has such a beginning, and every list of requests a run
pub begins_so : (text bench state : List ℕ) → BENCH ≤ length bench → STATE ≤ length state
    → RunStart text (start_bench text bench) (start_state text bench state)
unfolding start_bench start_state
begins_so text bench state h g = record {
  lent_bench = bench;
  lent_state = state;
  bench_size = h;
  state_size = g;
  check_answer = (check_call text bench).answer;
  fresh_answer = (fresh_call (start_bench text bench) state).answer;
  is_checked = refl;
  is_fresh = refl;
}

pub replies_run : (bench state : List ℕ) (qs : List Request) → Run bench state qs (replies bench state qs)
unfolding replies
replies_run bench state [] = ends
replies_run bench state (q ∷ qs) = goes_on refl (replies_run bench (line_call bench state q.names q.values q.row).state qs)
