-- What is left of `put_kept`.
use Rattle.senders.proofs.steps.KeptSteps.{none_kept, member_kept, rest_kept, kept_until, all_kept}
use Rattle.std.proofs.Common.{arith}
use Rattle.senders.proofs.parts.put_kept.Goals as goal
use Rattle.senders.proofs.parts.put_kept.Goals.{else-loop-m-test, then-loop-m-test+then-token-ge-NO_TOKEN}

pub loop-e-init : goal.loop-e-init
loop-e-init c = none_kept

pub loop-m-preserved : goal.loop-m-preserved
loop-m-preserved c =
    kept_until (member_kept c.loop-m.invariant c.cell_token-token.ensures (omega arith) c.put_kept_cell.ensures (omega arith)) (omega arith)

pub loop-e-preserved : goal.loop-e-preserved
loop-e-preserved c = elim c.loop-m-test.branch [
  | else-loop-m-test w ↦ kept_until c.loop-m.invariant (omega (arith, w.loop-m-test.false, c.loop-m.auto.m-end))
  | then-loop-m-test+then-token-ge-NO_TOKEN w ↦
      rest_kept c.loop-m.invariant w.cell_token-token.ensures (omega arith) w.if-token-ge-NO_TOKEN.true (omega (arith, w.loop-m-test.true)) (omega arith)
]

pub returns : goal.returns
returns c = all_kept c.loop-e.invariant _ (omega arith) (omega arith)
