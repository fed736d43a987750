-- For an accepted bench text the reference machine is never stuck and agrees with the total machine: at the fresh state, which is sound, and at a line
-- from any sound state, where the state stays sound.
use Prim.Native.Nat.{ℕ}
use mathlib.Core.Path.{◌≡◌}
use mathlib.Core.List.{List}
use Rattle.text.specs.definitions.Syntax.{File}
use Rattle.checking.specs.definitions.Verdict as Verdict
use Rattle.checking.specs.definitions.Verdict.{verdict}
use Rattle.checking.proofs.laws.VerdictLaws.{accepted_verdict}
use Rattle.cycles.specs.definitions.Outcome.{running}
use Rattle.senders.specs.definitions.Sender.{State}
use Rattle.senders.specs.definitions.Answer.{accepted}
use Rattle.senders.specs.definitions.Line.{Accepted, line}
use Rattle.senders.specs.definitions.Follow.{ref_follow, fresh, ref_fresh}
use Rattle.senders.specs.definitions.SoundState.{SoundState}
use Rattle.senders.specs.inner_contracts.TotalFollow.{follow}
use Rattle.senders.proofs.laws.SoundLine.{accepted_line_sound}
use Rattle.senders.proofs.laws.SoundFollow.{follow_sound, fresh_sound, fresh_runs}

pub accepted_sound : (text : List ℕ) (f : File) → verdict text ≡ Verdict.accepted f → (s : State) → SoundState f s
    → (names values : List ℕ) (a : Accepted) → line f s names values ≡ accepted a
    → (ref_follow f s a ≡ running (follow f s a)) × SoundState f (follow f s a)
accepted_sound text f h s i names values a t = follow_sound f (accepted_verdict text h) s i a (accepted_line_sound f s names values a t)

pub accepted_fresh : (text : List ℕ) (f : File) → verdict text ≡ Verdict.accepted f → (ref_fresh f ≡ running (fresh f)) × SoundState f (fresh f)
accepted_fresh text f h = (fresh_runs text f h, fresh_sound text f h)
