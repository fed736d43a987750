-- A state of a bench: sound stores, and at most eight senders of well-formed names that are pairwise different, each with a number of at least 1, readings
-- at events of their kinds, and fired actions at actions of their kinds.
use Rattle.std.specs.Prelude.{ℕ, ◌≤◌, ◌≡◌, List, [], ◌∷◌, false, T, length}
use Rattle.std.proofs.Math.Option.{some}
use Rattle.values.specs.declared.Value.TheVariants.{Unset}
use Rattle.values.specs.definitions.Storable.{storable}
use Rattle.text.specs.definitions.Syntax.{Member, File}
use Rattle.checking.specs.definitions.Scope.{member_of, is_action}
use Rattle.cycles.specs.definitions.Cycle.{is_sort}
use Rattle.cycles.specs.definitions.SoundStores.{SoundInputs, SoundStores}
use Rattle.senders.specs.definitions.Sender.{Sender, State, is_sender, is_known_sender, MOST_SENDERS}
use Rattle.senders.specs.definitions.Line.{GREATEST_NUMBER}

pub record SoundSender (f : File) (x : Sender) : Type 0 where
  pub name : T (is_sender x.name)
  pub least : 1 ≤ x.last
  pub most : x.last ≤ GREATEST_NUMBER
  pub inputs : SoundInputs f x.inputs
  pub fired : (e m : ℕ) (y : Member) → member_of f e m ≡ some y → T (storable y.kind (x.fired e m))
  pub elsewhere : (e m : ℕ) → is_sort is_action (member_of f e m) ≡ false → x.fired e m ≡ Unset

abbrev pub SoundSenders : File → List Sender → Type 0
SoundSenders f [] = Unit {0}
SoundSenders f (x ∷ xs) = SoundSender f x × (is_known_sender x.name xs ≡ false) × SoundSenders f xs

pub record SoundState (f : File) (s : State) : Type 0 where
  pub stores : SoundStores f s.stores
  pub few : length s.senders ≤ MOST_SENDERS
  pub senders : SoundSenders f s.senders
