-- What memory stands for hangs on the bytes of the state image alone: a copy of as many bytes as the stated size stands for the same state.
use Prim.Native.Nat.{ℕ, ◌≤◌, ◌<◌}
use mathlib.Core.Path.{◌≡◌, ap, ◌∙◌}
use mathlib.Core.List.{List}
use mathlib.Core.Option.{some}
use lib.ListN.{length, get_or, take, drop}
use lib.Seq.{take-take}
use Rattle.text.specs.definitions.Syntax.{File}
use Rattle.checking.proofs.laws.WithinCounts.{WithinCounts}
use Rattle.cycles.specs.definitions.Planes.{entity_count}
use Rattle.cycles.proofs.laws.TableLaws.{begins_with}
use Rattle.senders.specs.definitions.Sender.{State}
use Rattle.senders.specs.definitions.StateImage.{image_size, STATE, encode, state_of}
use Rattle.senders.proofs.laws.StateLaws.{image_fits, image_stands, state_decoded_sound}
use Rattle.senders.proofs.laws.StateCanonical.{state_canonical}

pub state_front : (f : File) → WithinCounts f → (print : ℕ) → print < 4294967296 → (m : List ℕ) → STATE ≤ length m → ((i : ℕ) → get_or m i 0 < 256)
    → (s : State) → state_of print f m ≡ some s → state_of print f (take STATE m) ≡ some s
state_front f w print small m l low s h =
    let n = entity_count f in
    let size = image_size n (length s.senders) in
    let sound = state_decoded_sound f w print m s h in
    let front = take STATE m in
    let begins : take size front ≡ encode print f s =
    take-take size STATE m (image_fits n (length s.senders) w.entities sound.few) ∙ state_canonical print f m h w.entities l low in
    ap (state_of print f) (begins_with front (encode print f s) size begins) ∙ image_stands f w print small s sound (drop size front)
