-- What is left of `see_cells`.
use Rattle.cycles.proofs.steps.SeenLaws.{member_put, members_at, members_begin, members_rest}
use Rattle.std.proofs.Common.{arith, rules}
use Rattle.cycles.proofs.cycle.see_cells.Goals as goal
use Rattle.cycles.proofs.cycle.see_cells.Goals.{else-loop-m-test, then-loop-m-test+then-cell_token-ge-NO_TOKEN}

pub loop-e-init : goal.loop-e-init
loop-e-init c = search (rules, members_begin)

pub loop-m-preserved : goal.loop-m-preserved
loop-m-preserved c = members_at _ _ (member_put _ _ c.loop-m.invariant c.seen_value.ensures c.put_cell.ensures (omega arith)) (omega arith)

pub loop-e-preserved : goal.loop-e-preserved
loop-e-preserved c = elim c.loop-m-test.branch [
  | else-loop-m-test w ↦ members_at _ _ c.loop-m.invariant (omega (arith, w.loop-m-test.false, c.loop-m.auto.m-end))
  | then-loop-m-test+then-cell_token-ge-NO_TOKEN w ↦ members_rest _ _ c.loop-m.invariant w.cell_token.ensures w.if-cell_token-ge-NO_TOKEN.true (omega (arith, w.loop-m-test.true))
]
