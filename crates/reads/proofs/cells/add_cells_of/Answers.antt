-- What is left of `add_cells_of`.
use Rattle.std.proofs.Common.{arith, sym, ◌∙◌}
use Rattle.reads.proofs.steps.SetSteps.{faces_start, face_added, face_passed, faces_counted, faces_all}
use Rattle.reads.proofs.cells.add_cells_of.Goals as goal

pub loop-e-init : goal.loop-e-init
loop-e-init c = faces_start _ _ _ _

pub returns-then-count-e : goal.returns-then-count-e
returns-then-count-e c = faces_counted _ _ _ _ c.loop-e.invariant (omega (arith, c.row-count.ensures.0))

pub loop-e-preserved-then-row-face : goal.loop-e-preserved-then-row-face
loop-e-preserved-then-row-face c =
    face_passed _ _ _ _ c.loop-e.invariant (omega (arith, c.row-count.ensures.0)) (λ q. c.if-row-face.true (c.row.ensures.0 ∙ q))

pub loop-e-preserved : goal.loop-e-preserved
loop-e-preserved c =
    face_added _ _ _ _ c.loop-e.invariant (omega (arith, c.row-count.ensures.0)) (sym c.row.ensures.0 ∙ c.if-row-face.false) c.add_cell.ensures

pub returns : goal.returns
returns c = faces_all _ _ _ _ c.loop-e.invariant c.loop-e-test.false
