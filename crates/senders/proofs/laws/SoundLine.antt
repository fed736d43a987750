-- An accepted line: only the bench's events have readings, each of its cell's kind, and only its entities presence; its sender's name is well formed.
use Prim.Native.Nat.{ℕ, ◌≤◌}
use native.Mathlib.Omega.{arith}
use mathlib.Core.Path.{◌≡◌, subst}
use mathlib.Core.Bool.{true}
use mathlib.Core.List.{List}
use lib.Dec.{T}
use Rattle.text.specs.definitions.Syntax.{File}
use Rattle.text.proofs.laws.ListLaws.{All}
use Rattle.cycles.specs.definitions.Record.{inputs_in}
use Rattle.cycles.specs.definitions.SoundStores.{SoundInputs}
use Rattle.cycles.proofs.laws.SoundLine.{SoundInput, header_sound, inputs_sound, all_inputs_sound}
use Rattle.senders.specs.definitions.Sender.{State, Line, is_sender, has_place}
use Rattle.senders.specs.definitions.Answer.{accepted}
use Rattle.senders.specs.definitions.Line.{addressed, Reading, reading_of, reading, line_of, GREATEST_NUMBER, Accepted, new, resent, its_line, line}
use Rattle.senders.specs.definitions.SoundState.{SoundSenders}
use Rattle.senders.proofs.laws.AnswerLaws.{accepted_injective, or_refused_of, if_accepted_of, addressed_of, InTurn, line_read}
use Rattle.senders.proofs.laws.StateLaws.{sound_kept}

pub reading_sound : (f : File) (names values : List ℕ) (r : Reading) → reading f names values ≡ accepted r → All (SoundInput f) r.inputs
unfolding reading reading_of
reading_sound f names values r h =
    let (x, e, i) = if_accepted_of (addressed f names values) reading_of h in
    let (is, p, q) = or_refused_of 23 (inputs_in x.columns x.sent.texts) _ i in
    subst (λ (r : Reading). All (SoundInput f) r.inputs) (accepted_injective q)
    (inputs_sound f x.columns x.sent.texts (header_sound f names (addressed_of f names values e).0) p)

-- what a state takes
pub record SoundLine (f : File) (s : State) (a : Accepted) : Type 0 where
  pub inputs : SoundInputs f (its_line a).inputs
  pub sender : T (is_sender (its_line a).sender)
  pub room : has_place (its_line a).sender s.senders ≡ true
  pub turn : InTurn f s a

pub accepted_line_sound : (f : File) (s : State) (names values : List ℕ) (a : Accepted) → line f s names values ≡ accepted a → SoundLine f s a
unfolding line_of
accepted_line_sound f s names values a h =
    let r = line_read f s names values h in
    record {
      inputs =
          subst (λ (l : Line). SoundInputs f l.inputs) r.is_line
          (all_inputs_sound f r.says.inputs (reading_sound f names values r.says r.is_read));
      sender = rw r.named tt;
      room = r.room;
      turn = r.turn;
    }

-- its number: of a resent line, its sender's last, which a sound state keeps within the bounds
pub line_number_sound : (f : File) (s : State) → SoundSenders f s.senders → (a : Accepted) → InTurn f s a
    → (1 ≤ (its_line a).number) × ((its_line a).number ≤ GREATEST_NUMBER)
unfolding its_line
line_number_sound f s h (new l) t = let e = t.next in (omega arith, t.most)
line_number_sound f s h (resent l) t =
    let k = sound_kept f l.sender s.senders h t.known in
    let e = t.last in
    let a = k.least in
    let b = k.most in
    (omega arith, omega arith)
