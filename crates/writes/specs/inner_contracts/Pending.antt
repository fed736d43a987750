-- Memory of pending cells: the bytes of the cells and, from number `stamps` on, a byte for each cell: its stamp. The stamp is 0 where nothing was
-- written yet, else the priority of the write that stands there, plus 1.
use Rattle.std.specs.Prelude.{ℕ, ◌+◌, List, cond, ltb, get_or, set}
use Rattle.std.proofs.Math.Option.{Option, none, some}
use Rattle.values.specs.declared.Value.{Value}
use Rattle.values.specs.definitions.Cells.{with_cell}
use Rattle.writes.specs.definitions.Writes.{Write}

-- the stamp of a cell, by the write that stands there
unfoldable pub stamp_of : Option Write → ℕ
stamp_of none = 0
stamp_of (some w) = w.priority + 1

-- the memory after a write to cell number i: as it was, if a write of its priority or a higher one was made before
unfoldable pub pended : (stamps : ℕ) → List ℕ → (i priority : ℕ) → Value → List ℕ
pended stamps area i priority v = cond (ltb priority (get_or area (stamps + i) 0)) area (set (with_cell area i v) (stamps + i) (priority + 1))
