-- What is left of `call`.
use Rattle.cycles.proofs.steps.CallWrites.{call_is}
use Rattle.cycles.proofs.steps.ConditionValues.{and_asked, and_not_asked}
use Rattle.std.proofs.Common.{◌∙◌}
use Rattle.cycles.proofs.calls.call.Goals as goal
use Rattle.cycles.proofs.calls.call.Goals.{then-is_present_at, else-is_present_at, then-f, else-f}

pub returns : goal.returns
returns c =
    call_is c.skip-name.ensures c.skip-opener.ensures c.skip.ensures c.expression-x.ensures c.skip-on.ensures c.skip-target.ensures
    c.owner.ensures c.bound-e.ensures c.target_end.ensures c.filter-f.ensures c.is_present_at.ensures
    (elim c.if-is_present_at.branch [
      | then-is_present_at w ↦ and_asked w.if-is_present_at.true w.value-is
      | else-is_present_at w ↦ and_not_asked _ w.if-is_present_at.false w.value-is
    ])
    (elim c.if-f.branch [
      | then-f w ↦ and_asked w.if-f.true (w.made-is ∙ w.is_set-made.ensures)
      | else-f w ↦ and_not_asked _ w.if-f.false w.made-is
    ])
    c.member-m.ensures c.put.ensures
