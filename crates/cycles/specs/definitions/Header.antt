-- A header, which document 01 calls a line of names ("Lines of readings"; document 02, order 5).
use Rattle.std.specs.Prelude.{ℕ, List, [], ◌∷◌, Bool, true, false, ◌&&◌, ◌||◌, cond, leb, eqb, length}
use Rattle.std.proofs.Math.Option.{Option, none, some}
use Rattle.values.specs.definitions.Bytes.{same_bytes}
use Rattle.text.specs.definitions.Syntax.{attribute, event, action, Entity, File}
use Rattle.checking.specs.definitions.Scope.{Indexed, entity_named}
use Rattle.cycles.specs.definitions.Spots.{Spot, spot_of}
use Rattle.cycles.specs.definitions.Fields.{split, fields}

-- a column: the presence of an entity, or an event of it
pub record Column : Type 0 where
  pub entity : ℕ
  pub event : Option Spot

unfoldable pub presence_column : Option (Indexed Entity) → Option Column
presence_column none = none
presence_column (some e) = some (record { entity = e.number; event = none })

-- "`entity.event` (no actions)"
unfoldable pub event_column : Option Spot → Option Column
event_column none = none
event_column (some p) = elim p.what.sort [
  | attribute ↦ none
  | event ↦ some (record { entity = p.entity; event = some p })
  | action ↦ none
]

unfoldable pub column_of_entity : File → Option (Indexed Entity) → List ℕ → Option Column
unfolding event_column spot_of
column_of_entity f none m = none
column_of_entity f (some e) m = event_column (spot_of f e.number m)

-- "`entity.event` .. or `entity` (presence), each known to the bench", by the parts between the dots
unfoldable pub column : File → List (List ℕ) → Option Column
unfolding presence_column column_of_entity entity_named
column f [] = none
column f (x ∷ []) = presence_column (entity_named f x)
column f (x ∷ m ∷ []) = column_of_entity f (entity_named f x) m
column f (x ∷ m ∷ y ∷ ys) = none

unfoldable pub is_member_number : ℕ → Option Spot → Bool
is_member_number m none = false
is_member_number m (some p) = eqb p.member m

unfoldable pub is_presence : Option Spot → Bool
is_presence none = true
is_presence (some p) = false

unfoldable pub same_event : Option Spot → Option Spot → Bool
unfolding is_presence is_member_number
same_event none q = is_presence q
same_event (some p) q = is_member_number p.member q

unfoldable pub same_column : Column → Column → Bool
unfolding same_event
same_column a b = eqb a.entity b.entity && same_event a.event b.event

unfoldable pub is_column_among : Column → List Column → Bool
unfolding same_column
is_column_among c [] = false
is_column_among c (d ∷ ds) = same_column c d || is_column_among c ds

unfoldable pub column_before : Option Column → Option (List Column) → Option (List Column)
unfolding is_column_among
column_before none cs = none
column_before (some c) none = none
column_before (some c) (some cs) = cond (is_column_among c cs) none (some (c ∷ cs))

-- "no column twice"
unfoldable pub columns : File → List (List ℕ) → Option (List Column)
unfolding column_before column split
columns f [] = some []
columns f (x ∷ xs) = column_before (column f (split 46 x)) (columns f xs)

-- "`n`, then .."
unfoldable pub columns_after_n : File → List (List ℕ) → Option (List Column)
unfolding columns same_bytes
columns_after_n f [] = none
columns_after_n f (x ∷ xs) = cond (same_bytes x (110 ∷ [])) (columns f xs) none

-- "The line of names begins `by n`": columns begin after it, so that `by` and `n` may be entities' names too
unfoldable pub columns_after_by : File → List (List ℕ) → Option (List Column)
unfolding columns_after_n same_bytes
columns_after_by f [] = none
columns_after_by f (x ∷ xs) = cond (same_bytes x (98 ∷ 121 ∷ [])) (columns_after_n f xs) none

-- "at most 32,768 bytes"
abbrev pub MOST_HEADER_BYTES : ℕ
MOST_HEADER_BYTES = 32768

-- "A line of names: .., at most 32,768 bytes"
unfoldable pub header : File → List ℕ → Option (List Column)
unfolding columns_after_by fields
header f bs = elim (leb (length bs) MOST_HEADER_BYTES) [ true ↦ columns_after_by f (fields bs) | false ↦ none ]
