-- What is left of `call_guard`.
use Rattle.cycles.proofs.steps.RuleGuards.{call_a_guard}
use Rattle.cycles.proofs.finding.call_guard.Goals as goal

pub returns : goal.returns
returns c =
    call_a_guard c.skip.ensures c.skip-opener.ensures c.skip-2.ensures c.expression_end.ensures c.skip-on.ensures c.skip-target.ensures
    c.target_end-with.ensures c.class_at.ensures c.if-class_at-ne-WITH.false c.skip-name.ensures c.skip-3.ensures c.skip-inside.ensures
    c.expression_end-next.ensures c.class_at-2.ensures c.if-class_at-eq-COMMA.false c.put_part.ensures
