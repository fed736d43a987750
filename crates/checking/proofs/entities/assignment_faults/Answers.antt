-- What is left of `assignment_faults`.
use Rattle.checking.proofs.steps.BodyLaws.{assigning_on}
use Rattle.checking.proofs.entities.assignment_faults.Goals as goal

pub loop-q-preserved : goal.loop-q-preserved
loop-q-preserved c =
    assigning_on c.loop-q-test.true c.offset-at.ensures c.sets-before.ensures c.unless.ensures c.earlier-again.ensures c.name.ensures.bytes c.member-m.ensures
    c.attribute_fault.ensures c.earlier-members.ensures c.assignment_end-last.ensures c.kind_fault.ensures c.earlier-kinds.ensures c.loop-q.invariant
    c.class_at.ensures c.if-class_at-ne-NAME.false
