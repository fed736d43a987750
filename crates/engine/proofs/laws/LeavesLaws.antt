-- What a public call leaves in memory of the stated sizes where it accepts.
use mathlib.Core.Path.{◌≡◌, ◌∙◌}
use mathlib.Core.List.{List}
use mathlib.Core.Option.{some}
use Prim.Native.Nat.{ℕ, ◌≤◌}
use lib.ListN.{length}
use borrow.Author.Tests.{le-ltb}
use Rattle.text.specs.definitions.Syntax.{File}
use Rattle.checking.specs.definitions.Verdict.{Verdict, verdict}
use Rattle.checking.proofs.laws.WithinCounts.{WithinCounts}
use Rattle.checking.proofs.laws.VerdictLaws.{accepted_length, accepted_is_file}
use Rattle.senders.specs.definitions.Sender.{State}
use Rattle.senders.specs.definitions.SoundState.{SoundState}
use Rattle.senders.specs.definitions.Follow.{fresh}
use Rattle.senders.specs.inner_contracts.TotalFollow.{follow}
use Rattle.senders.specs.definitions.Answer.{accepted}
use Rattle.senders.specs.definitions.Line.{Accepted, new, resent, line}
use Rattle.senders.specs.definitions.StateImage.{STATE, state_of}
use Rattle.senders.proofs.laws.StateLaws.{state_written}
use Rattle.engine.specs.definitions.BenchImage.{BENCH, bench_of}
use Rattle.engine.specs.definitions.Calls.{
  ROW,
  fingerprint_of,
  checked,
  check_call,
  freshened,
  fresh_call,
  followed,
  line_accepted,
  line_answered,
  line_in_state,
  line_on_bench,
  line_call,
}
use Rattle.engine.proofs.laws.BenchLaws.{bench_written, print_of_below}

pub check_leaves : (text bench : List ℕ) {f : File} → verdict text ≡ Verdict.accepted f → BENCH ≤ length bench
    → bench_of (check_call text bench).bench ≡ some f
unfolding check_call checked
check_leaves text bench v b =
    rw (le-ltb (length bench) BENCH b, v, check_call) (bench_written text bench (accepted_length text v) ∙ accepted_is_file text v)

module _ (bench state : List ℕ) (f : File) (b : BENCH ≤ length bench) (l : STATE ≤ length state) (is : bench_of bench ≡ some f) (w : WithinCounts f) where
  pub fresh_leaves : SoundState f (fresh f) → state_of (fingerprint_of bench) f (fresh_call bench state).state ≡ some (fresh f)
  unfolding fresh_call freshened
  fresh_leaves s =
      rw (le-ltb (length bench) BENCH b, le-ltb (length state) STATE l, is, fresh_call)
      (state_written f w (fingerprint_of bench) (print_of_below bench) (fresh f) s state)

  -- a line that is sent again leaves the state as it was, which `follow` does too
  pub line_leaves : (names values row : List ℕ) (s : State) (a : Accepted) → ROW ≤ length row → state_of (fingerprint_of bench) f state ≡ some s
      → line f s names values ≡ accepted a → SoundState f (follow f s a)
      → state_of (fingerprint_of bench) f (line_call bench state names values row).state ≡ some (follow f s a)
  unfolding line_call line_on_bench line_in_state line_answered line_accepted followed follow
  line_leaves names values row s a r e h g =
      rw (le-ltb (length bench) BENCH b, le-ltb (length state) STATE l, le-ltb (length row) ROW r, is, e, h, line_call) (go a g)
    where
      go : (a : Accepted) → SoundState f (follow f s a) → state_of (fingerprint_of bench) f (followed (fingerprint_of bench) f s a state) ≡ some (follow f s a)
      go (resent l) g = e
      go (new l) g = state_written f w (fingerprint_of bench) (print_of_below bench) (follow f s (new l)) g state
