-- Theorem: what a call leaves in memory stands for what the machine has. So every call finds the bench and the state that the one before it left.
use mathlib.Core.Path.{◌≡◌}
use mathlib.Core.List.{List}
use mathlib.Core.Option.{some}
use Prim.Native.Nat.{ℕ, ◌≤◌}
use lib.ListN.{length}
use Rattle.text.specs.definitions.Syntax.{File}
use Rattle.checking.specs.definitions.Verdict.{Verdict, verdict}
use Rattle.checking.proofs.laws.VerdictLaws.{accepted_verdict}
use Rattle.checking.proofs.laws.AcceptedLaws.{within_counts}
use Rattle.senders.specs.definitions.Sender.{State}
use Rattle.senders.specs.definitions.Answer.{accepted}
use Rattle.senders.specs.definitions.Line.{Accepted, line}
use Rattle.senders.specs.definitions.Follow.{fresh}
use Rattle.senders.specs.inner_contracts.TotalFollow.{follow}
use Rattle.senders.specs.definitions.StateImage.{STATE, state_of}
use Rattle.senders.proofs.laws.StateLaws.{state_decoded_sound}
use Rattle.senders.proofs.laws.SoundFollow.{fresh_sound}
use Rattle.senders.proofs.theorems.AcceptedSound.{accepted_sound}
use Rattle.engine.specs.definitions.BenchImage.{BENCH, bench_of}
use Rattle.engine.specs.definitions.Calls.{ROW, fingerprint_of, check_call, fresh_call, line_call}
use Rattle.engine.proofs.laws.BenchLaws.{bench_accepted}
use Rattle.engine.proofs.laws.LeavesLaws.{check_leaves, fresh_leaves, line_leaves}

pub record ImageRoundTrip : Type 0 where
  -- what check leaves stands for the accepted file
  pub check : (text bench : List ℕ) (f : File) → verdict text ≡ Verdict.accepted f → BENCH ≤ length bench
      → bench_of (check_call text bench).bench ≡ some f
  -- what fresh leaves stands for the fresh state
  pub fresh : (bench state : List ℕ) (f : File) → BENCH ≤ length bench → STATE ≤ length state → bench_of bench ≡ some f
      → state_of (fingerprint_of bench) f (fresh_call bench state).state ≡ some (fresh f)
  -- what an accepted line leaves stands for the machine's state after it
  pub line : (bench state names values row : List ℕ) (f : File) (s : State) (a : Accepted)
      → BENCH ≤ length bench → STATE ≤ length state → ROW ≤ length row
      → bench_of bench ≡ some f → state_of (fingerprint_of bench) f state ≡ some s → line f s names values ≡ accepted a
      → state_of (fingerprint_of bench) f (line_call bench state names values row).state ≡ some (follow f s a)

pub image_round_trip : ImageRoundTrip
image_round_trip = record {
  check = λ text bench f. check_leaves text bench;
  fresh = λ bench state f b l is.
      let t = bench_accepted bench is in
      fresh_leaves bench state f b l is (within_counts f (accepted_verdict t.text t.is_accepted)) (fresh_sound t.text f t.is_accepted);
  line = λ bench state names values row f s k b l r is e a.
      let t = bench_accepted bench is in
      let w = within_counts f (accepted_verdict t.text t.is_accepted) in
      let so = state_decoded_sound f w (fingerprint_of bench) state s e in
      line_leaves bench state f b l is w names values row s k r e a (accepted_sound t.text f t.is_accepted s so names values k a).1;
}
