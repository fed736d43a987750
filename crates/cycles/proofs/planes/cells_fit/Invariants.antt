-- The cells before number i pass.
use Rattle.cycles.proofs.laws.PlaneTestLaws.{CellsPassed}
use Rattle.cycles.proofs.planes.cells_fit.Given as goal

abbrev pub invariant-loop-i : goal.invariant-loop-i
invariant-loop-i l = CellsPassed l.plane l.classes l.d l.flags l.cells l.i
