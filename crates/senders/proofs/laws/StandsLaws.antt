-- A line on a state in memory: the state after it stands in the memory that it leaves. And the fingerprint of a text fits its place there.
use Prim.Native.Nat.{ℕ, ◌+◌, ◌*◌, ◌%◌, ◌<◌}
use native.Mathlib.Omega.{arith}
use mathlib.Core.Path.{◌≡◌, refl}
use mathlib.Core.List.{List, [], ◌∷◌}
use mathlib.Core.Option.{some}
use Rattle.text.specs.definitions.Syntax.{File}
use Rattle.checking.proofs.laws.VerdictLaws.{accepted_verdict}
use Rattle.cycles.proofs.laws.CellTokenLaws.{few_within}
use Rattle.senders.specs.definitions.Sender.{State}
use Rattle.senders.specs.definitions.Answer.{Answer, refused, accepted}
use Rattle.senders.specs.definitions.Line.{Accepted, new, resent, line}
use Rattle.senders.specs.definitions.Turns.{state_after}
use Rattle.senders.specs.definitions.Fingerprint.{PRIME, fingerprint_from, fingerprint}
use Rattle.senders.specs.definitions.StateImage.{state_of}
use Rattle.senders.specs.inner_contracts.TotalFollow.{follow}
use Rattle.senders.specs.inner_contracts.Advancing.{ResolvedBench, state_memory}
use Rattle.senders.proofs.laws.SoundLine.{accepted_line_sound}
use Rattle.senders.proofs.laws.SoundFollow.{follow_sound}
use Rattle.senders.proofs.laws.StateLaws.{state_decoded_sound, state_written}

-- ---- the fingerprint

print_from_below : (acc : ℕ) (text : List ℕ) → acc < 4294967296 → fingerprint_from acc text < 4294967296
unfolding fingerprint_from
print_from_below acc [] h = h
print_from_below acc (b ∷ bs) h = print_from_below ((acc * 257 + b + 1) % PRIME) bs (omega arith)

pub fingerprint_below : (text : List ℕ) → fingerprint text < 4294967296
unfolding fingerprint
fingerprint_below text = print_from_below 0 text (omega arith)

-- ---- the memory that a line leaves

module _ {text classes offsets lengths literals d refs scopes : List ℕ} (b : ResolvedBench text classes offsets lengths literals d refs scopes)
    (print : ℕ) (small : print < 4294967296) (m : List ℕ) (s : State) where
  abbrev f : File
  f = b.checked.bench.file

  -- where a state stands, the state after the line stands in that memory
  pub memory_stands : state_of print f m ≡ some s → (names values : List ℕ)
      → state_of print f (state_memory print f s (line f s names values) m) ≡ some (state_after f s (line f s names values))
  unfolding state_memory state_after follow
  memory_stands h names values = go (line f s names values) refl
    where
      go : (a : Answer Accepted) → line f s names values ≡ a → state_of print f (state_memory print f s a m) ≡ some (state_after f s a)
      go (refused code) i = h
      go (accepted (resent l)) i = h
      go (accepted (new l)) i =
          let within = few_within f b.checked.few in
          let sound =
          follow_sound f (accepted_verdict text b.checked.accepts) s (state_decoded_sound f within print m s h) (new l)
          (accepted_line_sound f s names values (new l) i) in
          state_written f within print small (follow f s (new l)) sound.1 m
