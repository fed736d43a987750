-- What is printed so far, and what is left.
use Rattle.std.proofs.Common.{◌-◌, length}
use Rattle.days.proofs.steps.DaySteps.{Going}
use Rattle.days.proofs.sheet.put_day.Given as goal

abbrev pub invariant-loop-at : goal.invariant-loop-at
invariant-loop-at l =
    Going l.rules.columns.classes.now l.rules.literals.now l.rules.columns.d.now l.rules.references.now l.rules.scopes.now l.header.columns.now
    (length l.header.columns.now) l.chosen.spots.now (length l.chosen.spots.now) l.readings l.from l.fn.state l.fn.sheet l.at l.end l.state l.sheet
    l.folds

abbrev pub decreases-loop-at : goal.decreases-loop-at
decreases-loop-at l = length l.readings - l.at
