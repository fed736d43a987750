-- The cells of a bench: each a member of an entity, found by names, or one after another.
use Rattle.std.specs.Prelude.{ℕ, suc, Bool, true, ◌&&◌}
use mathlib.Core.List.{List, [], ◌∷◌, map, flat_map}
use Rattle.std.proofs.Math.Option.{Option, none, some}
use Rattle.std.proofs.Math.ListN.{get_elem?}
use Rattle.text.specs.definitions.Syntax.{Member, Interface, Entity, File}
use Rattle.checking.specs.definitions.Scope.{Indexed, entity_named, member_named, interface_of, Variable, variable_named}

-- where a cell is, by the numbers of its entity and member, and what it is
pub record Spot : Type 0 where
  pub entity : ℕ
  pub member : ℕ
  pub what : Member

-- for an entity's or a variable's name and a member's: their cell, if both are found
abbrev pub Spots : Type 0
Spots = List ℕ → List ℕ → Option Spot

unfoldable pub spot_at : ℕ → Option (Indexed Member) → Option Spot
spot_at e none = none
spot_at e (some m) = some (record { entity = e; member = m.number; what = m.item })

unfoldable pub spot_among : ℕ → Option Interface → List ℕ → Option Spot
unfolding spot_at member_named
spot_among e none m = none
spot_among e (some i) m = spot_at e (member_named i m)

-- the member of that name of entity number e
unfoldable pub spot_of : File → ℕ → List ℕ → Option Spot
unfolding spot_among interface_of
spot_of f e m = spot_among e (interface_of f e) m

unfoldable pub meant_by : Option (Indexed Entity) → Option (Indexed Variable) → List ℕ → Option ℕ
meant_by none none binding = none
meant_by none (some v) binding = get_elem? binding v.number
meant_by (some e) v binding = some e.number

-- the entity that a name means, where a binding gives an entity for each of a rule's variables; an entity comes before a variable
unfoldable pub meant : File → List Variable → List ℕ → List ℕ → Option ℕ
unfolding meant_by entity_named variable_named
meant f vs binding n = meant_by (entity_named f n) (variable_named vs n) binding

unfoldable pub spot_if_meant : File → Option ℕ → List ℕ → Option Spot
unfolding spot_of
spot_if_meant f none m = none
spot_if_meant f (some e) m = spot_of f e m

unfoldable pub spots : File → List Variable → List ℕ → Spots
unfolding spot_if_meant meant
spots f vs binding n m = spot_if_meant f (meant f vs binding n) m

module _ {A : Type 0} where
  -- the items of a list with their numbers, from n on
  unfoldable pub numbered : ℕ → List A → List (Indexed A)
  numbered n [] = []
  numbered n (x ∷ xs) = record { number = n; item = x } ∷ numbered (suc n) xs

  unfoldable pub every : (A → Bool) → List A → Bool
  every test [] = true
  every test (x ∷ xs) = test x && every test xs

unfoldable pub members_of : Option Interface → List Member
members_of none = []
members_of (some i) = i.members

unfoldable pub entity_cells : File → ℕ → List Spot
unfolding numbered members_of interface_of
entity_cells f e = map (λ m. record { entity = e; member = m.number; what = m.item }) (numbered 0 (members_of (interface_of f e)))

-- all cells, "in entity and member order"
unfoldable pub cells : File → List Spot
unfolding flat_map entity_cells numbered
cells f = flat_map (λ e. entity_cells f e.number) (numbered 0 f.entities)
