-- What is left of the cells says the same as all of them.
use Rattle.senders.proofs.steps.JudgeSteps.{ReadingsPassed}
use Rattle.std.proofs.Common.{◌*◌}
use Rattle.senders.proofs.judge.same_readings.Given as goal

abbrev pub invariant-loop-i : goal.invariant-loop-i
invariant-loop-i l = ReadingsPassed l.columns.classes.now l.columns.d.now l.kept l.inputs.cells.now (12 * l.n) l.i
