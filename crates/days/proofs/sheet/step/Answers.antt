-- What is left of `step`.
use Rattle.std.proofs.Common.{sym, ap, ◌∙◌}
use Rattle.std.specs.Prelude.{Ok}
use Rattle.senders.specs.inner_contracts.Judging.{judged_as}
use Rattle.days.proofs.steps.LineSteps.{judged_number, stepped}
use Rattle.days.proofs.sheet.step.Goals as goal

pub returns-in-Ok-New : goal.returns-in-Ok-New
unfolding judged_number
returns-in-Ok-New c = stepped c.advance.ensures (sym (ap (λ r. judged_number (judged_as r)) (c.in-Ok-New.is ∙ ap Ok c.in-Ok-New.field-0-is)))

pub returns-in-Ok-Retransmission : goal.returns-in-Ok-Retransmission
unfolding judged_number
returns-in-Ok-Retransmission c =
    stepped c.advance.ensures (sym (ap (λ r. judged_number (judged_as r)) (c.in-Ok-Retransmission.is ∙ ap Ok c.in-Ok-Retransmission.field-0-is)))

pub returns-in-Err : goal.returns-in-Err
unfolding judged_number
returns-in-Err c = stepped c.advance.ensures (sym (ap (λ r. judged_number (judged_as r)) c.in-Err.is))
