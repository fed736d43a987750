-- What is left of `same_readings`.
use Rattle.senders.proofs.steps.JudgeSteps.{cells_compared, reading_differs, readings_end}
use Rattle.std.proofs.Common.{ap, arith, rules}
use mathlib.Core.Bool.{not}
use Rattle.senders.proofs.judge.same_readings.Goals as goal

pub returns-then-not-same_reading : goal.returns-then-not-same_reading
returns-then-not-same_reading c =
    cells_compared c.row-n.ensures.0 (omega arith) (omega arith) (search rules) c.same_bytes.ensures c.if-not-same_bytes.false
    (reading_differs c.loop-i.invariant (omega arith) c.same_reading.ensures (ap not c.if-not-same_reading.true))

pub returns : goal.returns
returns c =
    cells_compared c.row-n.ensures.0 (omega arith) (omega arith) (search rules) c.same_bytes.ensures c.if-not-same_bytes.false
    (readings_end c.loop-i.invariant (omega arith))
