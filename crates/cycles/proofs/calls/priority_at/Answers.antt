-- What is left of `priority_at`.
use Rattle.cycles.proofs.steps.CallWrites.{priority_said, priority_unsaid}
use Rattle.cycles.proofs.calls.priority_at.Goals as goal

pub returns-then-class_at-ne-RANK : goal.returns-then-class_at-ne-RANK
returns-then-class_at-ne-RANK c = priority_unsaid _ c.class_at.ensures c.if-class_at-ne-RANK.true

pub returns : goal.returns
returns c = priority_said _ c.class_at.ensures c.if-class_at-ne-RANK.false c.skip.ensures c.value_at-n.ensures c.if-n-gt-MOST_PRIORITY.false
