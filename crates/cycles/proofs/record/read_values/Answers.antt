-- What is left of `read_values`.
use Rattle.cycles.proofs.steps.ValuesLaws.{values_begin, values_end, values_ill_formed, values_next}
use Rattle.cycles.proofs.record.read_values.Goals as goal

pub loop-k-init : goal.loop-k-init
loop-k-init c = values_begin _ _ _ _ _ _ _

pub returns-then-not-put_input : goal.returns-then-not-put_input
returns-then-not-put_input c = values_ill_formed _ _ _ _ _ _ _ c.loop-k.invariant c.loop-k-test.true c.field_start-start.ensures (rw c.from-column.ensures at c.put_input.ensures) c.if-not-put_input.true

pub loop-k-preserved : goal.loop-k-preserved
loop-k-preserved c =
    values_next _ _ _ _ _ _ _ c.loop-k.invariant c.loop-k-test.true c.field_start-start.ensures (rw c.from-column.ensures at c.put_input.ensures) c.if-not-put_input.false
    c.if-start-eq0.false

pub returns : goal.returns
returns c = values_end _ _ _ _ _ _ _ c.loop-k.invariant c.loop-k-test.false
