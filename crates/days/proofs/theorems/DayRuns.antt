-- Theorem: the records of a text, run on from any state image of an accepted bench, are those of the reference machine, which is never stuck.
use Prim.Native.Nat.{ℕ}
use mathlib.Core.Path.{◌≡◌, refl}
use mathlib.Core.List.{List, [], ◌∷◌}
use mathlib.Core.Option.{some}
use Rattle.text.specs.definitions.Syntax.{File}
use Rattle.checking.specs.definitions.Verdict as Verdict
use Rattle.checking.specs.definitions.Verdict.{verdict, file_verdict}
use Rattle.checking.proofs.laws.VerdictLaws.{accepted_verdict}
use Rattle.checking.proofs.laws.AcceptedLaws.{within_counts}
use Rattle.cycles.specs.definitions.Outcome.{running, proceed}
use Rattle.senders.specs.definitions.Sender.{State}
use Rattle.senders.specs.definitions.Answer.{Answer, refused, accepted}
use Rattle.senders.specs.definitions.Line.{Accepted, line}
use Rattle.senders.specs.definitions.Turns.{state_after, turns}
use Rattle.senders.specs.definitions.SoundState.{SoundState}
use Rattle.senders.specs.definitions.StateImage.{state_of}
use Rattle.senders.proofs.laws.StateLaws.{state_decoded_sound}
use Rattle.senders.proofs.laws.SoundLine.{accepted_line_sound}
use Rattle.senders.proofs.laws.SoundFollow.{follow_sound}
use Rattle.days.specs.definitions.ReferenceDay.{ref_state_after, ref_turns}

module _ (f : File) (v : file_verdict f ≡ Verdict.accepted f) where
  after_sound : (s : State) → SoundState f s → (names values : List ℕ) (a : Answer Accepted) → line f s names values ≡ a
      → (ref_state_after f s a ≡ running (state_after f s a)) × SoundState f (state_after f s a)
  unfolding ref_state_after state_after
  after_sound s sound names values (refused code) e = (refl, sound)
  after_sound s sound names values (accepted a) e = follow_sound f v s sound a (accepted_line_sound f s names values a e)

  turns_run : (names : List ℕ) (s : State) → SoundState f s → (vs : List (List ℕ)) → ref_turns f names s vs ≡ running (turns f names s vs)
  unfolding ref_turns turns proceed
  turns_run names s sound [] = refl
  turns_run names s sound (x ∷ vs) =
      let a = after_sound s sound names x (line f s names x) refl in
      rw (a.0, turns_run names (state_after f s (line f s names x)) a.1 vs)

pub day_runs : (text : List ℕ) (f : File) → verdict text ≡ Verdict.accepted f → (print : ℕ) (m : List ℕ) (s : State) → state_of print f m ≡ some s
    → (names : List ℕ) (vs : List (List ℕ)) → ref_turns f names s vs ≡ running (turns f names s vs)
day_runs text f h print m s i names vs =
    let v = accepted_verdict text h in
    turns_run f v names s (state_decoded_sound f (within_counts f v) print m s i) vs
