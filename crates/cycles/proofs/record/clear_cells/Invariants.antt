-- So many cells are put, and the others stay.
use Rattle.cycles.specs.definitions.Planes.{input_bytes, table}
use Rattle.std.proofs.Common.{drop, ◌*◌, ◌++◌, ◌≡◌}
use Rattle.std.proofs.Math.Option.{none}
use Rattle.cycles.proofs.record.clear_cells.Given as goal

abbrev pub invariant-loop-i : goal.invariant-loop-i
invariant-loop-i l = l.cells ≡ table (λ k. input_bytes none) 0 l.i ++ drop (l.i * 9) l.fn.cells
