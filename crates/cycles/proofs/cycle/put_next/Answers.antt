-- What is left of `put_next`.
use Rattle.cycles.proofs.steps.SeenLaws.{members_at, members_begin, members_rest, seen_put}
use Rattle.std.proofs.Common.{arith, rules}
use Rattle.cycles.proofs.cycle.put_next.Goals as goal
use Rattle.cycles.proofs.cycle.put_next.Goals.{else-loop-m-test, then-loop-m-test+then-token-ge-NO_TOKEN}

pub loop-e-init : goal.loop-e-init
loop-e-init c = search (rules, members_begin)

pub loop-m-preserved : goal.loop-m-preserved
loop-m-preserved c = members_at _ _ (seen_put _ c.loop-m.invariant c.cell_token-token.ensures c.put_seen.ensures (omega arith)) (omega arith)

pub loop-e-preserved : goal.loop-e-preserved
loop-e-preserved c = elim c.loop-m-test.branch [
  | else-loop-m-test w ↦ members_at _ _ c.loop-m.invariant (omega (arith, w.loop-m-test.false, c.loop-m.auto.m-end))
  | then-loop-m-test+then-token-ge-NO_TOKEN w ↦ members_rest _ _ c.loop-m.invariant w.cell_token-token.ensures w.if-token-ge-NO_TOKEN.true (omega (arith, w.loop-m-test.true))
]
