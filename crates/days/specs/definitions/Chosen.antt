-- The chosen cells of a day sheet: "up to five chosen cells (`entity.member`, one space between)".
use Rattle.std.specs.Prelude.{ℕ, List, [], ◌∷◌, Bool, true, false, leb, length}
use Rattle.std.proofs.Math.Option.{Option, none, some}
use Rattle.values.specs.declared.Kind.{Kind}
use Rattle.values.specs.declared.Kind.TheVariants.{Wholes, Bools, Reals}
use Rattle.text.specs.definitions.Syntax.{Entity, File}
use Rattle.checking.specs.definitions.Scope.{Indexed, entity_named}
use Rattle.cycles.specs.definitions.Spots.{Spot, spot_of}
use Rattle.cycles.specs.definitions.Fields.{split, fields}
use Rattle.sheets.specs.definitions.Layout.{MOST_CHOSEN}

unfoldable pub spot_of_entity : File → Option (Indexed Entity) → List ℕ → Option Spot
unfolding spot_of
spot_of_entity f none m = none
spot_of_entity f (some e) m = spot_of f e.number m

-- "`entity.member`", by the parts between the dots: a member of any sort
unfoldable pub spot_named : File → List (List ℕ) → Option Spot
unfolding spot_of_entity entity_named
spot_named f [] = none
spot_named f (x ∷ []) = none
spot_named f (x ∷ m ∷ []) = spot_of_entity f (entity_named f x) m
spot_named f (x ∷ m ∷ y ∷ ys) = none

unfoldable pub spot_before : Option Spot → Option (List Spot) → Option (List Spot)
spot_before none ps = none
spot_before (some p) none = none
spot_before (some p) (some ps) = some (p ∷ ps)

unfoldable pub spots_named : File → List (List ℕ) → Option (List Spot)
unfolding spot_before spot_named split
spots_named f [] = some []
spots_named f (x ∷ xs) = spot_before (spot_named f (split 46 x)) (spots_named f xs)

-- 41: "No cell, more than five, or an unknown one"; a text without a field has one empty field, which names no cell
unfoldable pub chosen : File → List ℕ → Option (List Spot)
unfolding spots_named fields
chosen f bs = elim (leb (length (fields bs)) MOST_CHOSEN) [ true ↦ spots_named f (fields bs) | false ↦ none ]

unfoldable pub is_real_kind : Kind → Bool
is_real_kind Wholes = false
is_real_kind Bools = false
is_real_kind Reals = true

-- a "real column"
unfoldable pub is_real_spot : Spot → Bool
unfolding is_real_kind
is_real_spot p = is_real_kind p.what.kind
