-- Senders (document 02, order 5): "The state keeps for each sender its last number, last readings and the actions then fired".
use Rattle.std.specs.Prelude.{ℕ, List, [], ◌∷◌, Bool, false, ◌&&◌, ◌||◌, cond, leb, ltb, length}
use Rattle.std.proofs.Math.Option.{Option, none, some, get_or}
use Rattle.values.specs.declared.Value.{Value}
use Rattle.values.specs.declared.Value.TheVariants.{Unset}
use Rattle.values.specs.definitions.Bytes.{same_bytes}
use Rattle.text.specs.definitions.Bytes.{is_letter, is_name_byte}
use Rattle.checking.specs.definitions.Scope.{is_found}
use Rattle.cycles.specs.definitions.Store.{Inputs, Stores}
use Rattle.cycles.specs.definitions.Spots.{every}

-- what is kept of a sender
pub record Sender : Type 0 where
  pub name : List ℕ
  pub last : ℕ
  pub inputs : Inputs
  pub fired : ℕ → ℕ → Value

-- the machine's stores; the known senders, in the order of their first taken lines
pub record State : Type 0 where
  pub stores : Stores
  pub senders : List Sender

-- what a line says: its sender, that sender's number, its readings
pub record Line : Type 0 where
  pub sender : List ℕ
  pub number : ℕ
  pub inputs : Inputs

-- ---- names

unfoldable pub starts_with_letter : List ℕ → Bool
unfolding is_letter
starts_with_letter [] = false
starts_with_letter (b ∷ bs) = is_letter b

-- "24 bytes at most"
abbrev pub MOST_NAME_BYTES : ℕ
MOST_NAME_BYTES = 24

-- "the sender's name (form as in bench files, reserved words allowed)": a letter, then letters, digits or `_`
unfoldable pub is_sender : List ℕ → Bool
unfolding starts_with_letter every is_name_byte
is_sender x = starts_with_letter x && (every is_name_byte x && leb (length x) MOST_NAME_BYTES)

-- ---- the known senders

unfoldable pub sender_named : List ℕ → List Sender → Option Sender
unfolding same_bytes
sender_named n [] = none
sender_named n (x ∷ xs) = cond (same_bytes n x.name) (some x) (sender_named n xs)

unfoldable pub is_known_sender : List ℕ → List Sender → Bool
unfolding is_found sender_named
is_known_sender n xs = is_found (sender_named n xs)

unfoldable pub no_inputs : Inputs
no_inputs = record { presence = λ e. none; given = λ e m. none }

-- of a sender that is not known: the number 0, no readings, nothing fired
unfoldable pub unknown : List ℕ → Sender
unfolding no_inputs
unknown n = record { name = n; last = 0; inputs = no_inputs; fired = λ e m. Unset }

-- what is kept of the sender of that name
unfoldable pub kept : List ℕ → List Sender → Sender
unfolding sender_named unknown
kept n xs = get_or (sender_named n xs) (unknown n)

-- a sender's entry in place of the one before, or after the others
unfoldable pub with_sender : Sender → List Sender → List Sender
unfolding same_bytes
with_sender x [] = x ∷ []
with_sender x (y ∷ ys) = cond (same_bytes x.name y.name) (x ∷ ys) (y ∷ with_sender x ys)

-- "Up to eight senders are known"
abbrev pub MOST_SENDERS : ℕ
MOST_SENDERS = 8

-- 42: "A ninth is refused"
unfoldable pub has_place : List ℕ → List Sender → Bool
unfolding is_known_sender
has_place n xs = is_known_sender n xs || ltb (length xs) MOST_SENDERS
