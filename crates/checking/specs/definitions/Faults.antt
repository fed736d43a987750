-- Faults of a bench file: a refusal code of document 01's table and an offset.
use Rattle.std.specs.Prelude.{ℕ, List, [], ◌∷◌, Bool, true, false, leb}
use Rattle.std.proofs.Math.Option.{Option, none, some}

pub record Fault : Type 0 where
  pub code : ℕ
  pub at : ℕ

abbrev pub fault : ℕ → ℕ → Fault
fault c p = record { code = c; at = p }

-- a fault unless the test passes
unfoldable pub fault_unless : Bool → ℕ → ℕ → List Fault
fault_unless true c p = []
fault_unless false c p = fault c p ∷ []

unfoldable pub earlier : Fault → Option Fault → Fault
earlier f none = f
earlier f (some g) = elim (leb f.at g.at) [ true ↦ f | false ↦ g ]

-- "the earliest place first"
unfoldable pub earliest : List Fault → Option Fault
unfolding earlier
earliest [] = none
earliest (f ∷ fs) = some (earlier f (earliest fs))
