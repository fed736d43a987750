-- A record, which document 01 calls a line of values ("Lines of readings"; document 02, order 5).
use Rattle.std.specs.Prelude.{ℕ, List, [], ◌∷◌, Bool, true, false, not, ◌&&◌, ◌||◌, cond, leb, eqb, length, Option as Read, Some, None, Ok, Err}
use Rattle.std.proofs.Math.Option.{Option, none, some}
use Rattle.values.specs.declared.Value.{Value}
use Rattle.values.specs.declared.Value.TheVariants.{Whole, Truth, Real, Unset}
use Rattle.values.specs.definitions.Bytes.{same_bytes}
use Rattle.values.specs.definitions.Forms.{Field, digit_of, led, magnitude, event_field, presence_field}
use Rattle.checking.specs.definitions.Scope.{is_found}
use Rattle.cycles.specs.definitions.Store.{Store, Inputs}
use Rattle.cycles.specs.definitions.Spots.{every}
use Rattle.cycles.specs.definitions.Cycle.{present_after}
use Rattle.cycles.specs.definitions.Fields.{fields, is_empty, has_byte}
use Rattle.cycles.specs.definitions.Header.{Column, is_presence, is_member_number}

-- what a record says before its values are read: a sender, not yet of any form, a number, and the texts of the values
pub record Sent : Type 0 where
  pub sender : List ℕ
  pub number : ℕ
  pub texts : List (List ℕ)

unfoldable pub sent_as : List ℕ → Read ℕ → List (List ℕ) → Option Sent
sent_as x None xs = none
sent_as x (Some n) xs = some (record { sender = x; number = n; texts = xs })

-- "wrong field count, .. or form of `n`", for so many columns; "each line of values [begins] with the sender's name .. and that sender's number"
unfoldable pub sent_fields : ℕ → List (List ℕ) → Option Sent
unfolding sent_as digit_of led
sent_fields count [] = none
sent_fields count (x ∷ []) = none
sent_fields count (x ∷ n ∷ xs) = cond (eqb (length xs) count) (sent_as x (magnitude n) xs) none

-- "at most 8,192 bytes"
abbrev pub MOST_RECORD_BYTES : ℕ
MOST_RECORD_BYTES = 8192

-- "at most 8,192 bytes; one space between fields, no line feed inside"; "(an empty field too)"
unfoldable pub record_of : ℕ → List ℕ → Option Sent
unfolding fields is_empty has_byte every sent_fields
record_of count bs =
    elim (leb (length bs) MOST_RECORD_BYTES && (not (has_byte 10 bs) && every (λ x. not (is_empty x)) (fields bs))) [
      | true ↦ sent_fields count (fields bs)
      | false ↦ none
    ]

-- what a record says in a column: no reading, or a value, which may be unset
pub record Input : Type 0 where
  pub column : Column
  pub says : Option Value

unfoldable pub field_in : Column → List ℕ → Field
unfolding same_bytes digit_of led
field_in c x = elim c.event [ none ↦ presence_field x | some p ↦ event_field p.what.kind x ]

unfoldable pub input_before : Column → Field → Option (List Input) → Option (List Input)
input_before c (Err e) rest = none
input_before c (Ok None) none = none
input_before c (Ok None) (some is) = some (record { column = c; says = none } ∷ is)
input_before c (Ok (Some v)) none = none
input_before c (Ok (Some v)) (some is) = some (record { column = c; says = some v } ∷ is)

-- none where a value is "ill formed, of another kind"
unfoldable pub inputs_in : List Column → List (List ℕ) → Option (List Input)
unfolding input_before field_in
inputs_in [] xs = some []
inputs_in (c ∷ cs) [] = some []
inputs_in (c ∷ cs) (x ∷ xs) = input_before c (field_in c x) (inputs_in cs xs)

unfoldable pub as_truth : Option Value → Option Bool
as_truth none = none
as_truth (some (Whole z)) = none
as_truth (some (Truth b)) = some b
as_truth (some (Real x)) = none
as_truth (some Unset) = none

-- the readings per entity and per cell, "a missing column being `-`"
unfoldable pub presence_in : List Input → ℕ → Option Bool
unfolding is_presence as_truth
presence_in [] e = none
presence_in (i ∷ is) e = cond (eqb i.column.entity e && is_presence i.column.event) (as_truth i.says) (presence_in is e)

unfoldable pub given_in : List Input → ℕ → ℕ → Option Value
unfolding is_member_number
given_in [] e m = none
given_in (i ∷ is) e m = cond (eqb i.column.entity e && is_member_number m i.column.event) i.says (given_in is e m)

unfoldable pub inputs_of : List Input → Inputs
unfolding presence_in given_in
inputs_of is = record { presence = presence_in is; given = given_in is }

-- "An entity absent after the line takes only `-` for events"
unfoldable pub takes_input : Store → Inputs → Input → Bool
unfolding is_presence is_found present_after
takes_input s all i = is_presence i.column.event || (not (is_found i.says) || present_after s all i.column.entity)
