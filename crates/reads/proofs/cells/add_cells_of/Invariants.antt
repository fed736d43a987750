-- What the loop of `add_cells_of` keeps.
use Rattle.reads.specs.inner_contracts.ReadSteps.{CellsAdded}
use Rattle.reads.proofs.steps.SetSteps.{face_below}
use Rattle.reads.proofs.cells.add_cells_of.Given as goal

abbrev pub invariant-loop-e : goal.invariant-loop-e
invariant-loop-e l = CellsAdded l.k (face_below l.d l.face l.m l.e) l.fn.scopes l.scopes
