-- The fields of fired actions in a row, and the header of rows (document 01, "Rows and names").
use Rattle.std.specs.Prelude.{ℕ, true, false}
use mathlib.Core.List.{List, [], ◌∷◌, ◌++◌, flat_map}
use Rattle.std.proofs.Math.ListN.{get_elem?}
use Rattle.text.specs.definitions.Syntax.{File}
use Rattle.checking.specs.definitions.Scope.{is_action}
use Rattle.checking.specs.definitions.Verdict.{name_if_found}
use Rattle.cycles.specs.definitions.Spots.{Spot, cells}

-- "The stated size of memory for a row is 32,768 bytes at most"
abbrev pub MOST_ROW_BYTES : ℕ
MOST_ROW_BYTES = 32768

-- "every action cell .., in entity and member order"
unfoldable pub action_cells : File → List Spot
unfolding flat_map is_action cells
action_cells f = flat_map (λ p. elim (is_action p.what.sort) [ true ↦ p ∷ [] | false ↦ [] ]) (cells f)

-- a space and a field for each of them: "one space between fields"
unfoldable pub action_fields : File → (Spot → List ℕ) → List ℕ
unfolding flat_map action_cells
action_fields f field = flat_map (λ p. 32 ∷ field p) (action_cells f)

-- "`n` and every action cell as `entity.action`"; "their header [begins] with `by n`" (document 02, order 5)
unfoldable pub row_header : File → List ℕ
unfolding action_fields name_if_found
row_header f = 98 ∷ 121 ∷ 32 ∷ 110 ∷ action_fields f (λ p. name_if_found (get_elem? f.entities p.entity) ++ 46 ∷ p.what.name.bytes)
