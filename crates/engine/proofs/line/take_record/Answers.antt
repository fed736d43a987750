use Rattle.std.proofs.Common.{ap, ◌∙◌}
use Rattle.std.specs.Prelude.{Ok}
use Rattle.senders.specs.inner_contracts.Judging.{judged_as}
use Rattle.engine.proofs.laws.LineLaws.{told_err, record_refused, record_resent, record_new}
use Rattle.engine.proofs.line.take_record.Goals as goal

pub returns-in_err-place-clause-taken : goal.returns-in_err-place-clause-taken
returns-in_err-place-clause-taken c text offsets lengths b = rw (told_err c.from_residual.ensures.1) (record_refused b c.advance.ensures (ap judged_as c.in_err-place.was))

pub returns-in-New-clause-taken : goal.returns-in-New-clause-taken
returns-in-New-clause-taken c text offsets lengths b = record_new b c.advance.ensures c.show_place.ensures (ap judged_as (c.in_ok-place.was ∙ ap Ok c.in-New.is))

pub returns-in-Retransmission-clause-taken : goal.returns-in-Retransmission-clause-taken
returns-in-Retransmission-clause-taken c text offsets lengths b =
    record_resent b c.advance.ensures c.show_place-in-Retransmission.ensures (ap judged_as (c.in_ok-place.was ∙ ap Ok c.in-Retransmission.is))
