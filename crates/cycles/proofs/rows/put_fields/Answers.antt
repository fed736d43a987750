-- What is left of `put_fields`.
use Rattle.cycles.proofs.laws.RowPuts.{fields_end, fired_at, fired_begin, fired_next, fired_rest}
use Rattle.std.proofs.Common.{arith}
use Rattle.cycles.proofs.rows.put_fields.Goals as goal
use Rattle.cycles.proofs.rows.put_fields.Goals.{else-loop-m-test, then-loop-m-test+then-token-ge-NO_TOKEN}

pub loop-e-init : goal.loop-e-init
loop-e-init c = fired_begin _ _

pub loop-m-preserved : goal.loop-m-preserved
loop-m-preserved c = fired_at (fired_next c.loop-m.invariant c.cell_token-token.ensures c.put_fired-next.auto.row c.put_fired-next.ensures) (omega arith)

pub loop-e-preserved : goal.loop-e-preserved
loop-e-preserved c = elim c.loop-m-test.branch [
  | else-loop-m-test w ↦ fired_at c.loop-m.invariant (omega (arith, w.loop-m-test.false, c.loop-m.auto.m-end))
  | then-loop-m-test+then-token-ge-NO_TOKEN w ↦ fired_rest c.loop-m.invariant w.cell_token-token.ensures w.if-token-ge-NO_TOKEN.true (omega (arith, w.loop-m-test.true))
]

pub returns : goal.returns
returns c = fields_end c.row-n.ensures.0 c.loop-e.invariant (omega arith) (omega arith) c.if-n-gt-MOST_ENTITIES.false
