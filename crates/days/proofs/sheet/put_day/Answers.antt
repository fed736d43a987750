-- What is left of `put_day`.
use Rattle.days.proofs.steps.DaySteps.{going_begin, going_passes, going_prints, going_ends}
use Rattle.days.proofs.sheet.put_day.Goals as goal
use Rattle.days.proofs.sheet.put_day.Goals.{in-Some, in_default}

pub loop-at-init : goal.loop-at-init
loop-at-init c = going_begin _ _ _ _ _ _ _ _ _ _ _ _ _ c.requires.state c.requires.room c.no_folds-folds.ensures

pub loop-at-preserved : goal.loop-at-preserved
loop-at-preserved c =
    elim c.match-step.branch [
      | in-Some w ↦
          rw (w.end-is, w.sheet-is, w.folds-is)
          (going_prints _ _ _ _ _ _ _ _ _ _ _ _ _ c.loop-at.invariant c.loop-at-test.true c.line_end-stop.ensures c.step.auto.state c.step.ensures
          w.in-Some.is w.read_chosen-read.ensures c.args.chosen.now.few w.put_line-end.ensures w.folded_values-more.ensures)
      | in_default w ↦
          rw (w.end-is, w.sheet-is, w.folds-is)
          (going_passes _ _ _ _ _ _ _ _ _ _ _ _ _ c.loop-at.invariant c.loop-at-test.true c.line_end-stop.ensures c.step.auto.state c.step.ensures
          w.in_default.is)
    ]

pub returns : goal.returns
returns c = going_ends _ _ _ _ _ _ _ _ _ _ _ _ _ c.loop-at.invariant c.loop-at-test.false c.real_cells-told.ensures c.put_closings.ensures
