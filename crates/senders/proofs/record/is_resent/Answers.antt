-- What is left of `is_resent`.
use Rattle.cycles.proofs.laws.PlaneTestLaws.{behind_all}
use Rattle.senders.proofs.steps.ResentSteps.{resent_read}
use Rattle.std.proofs.Common.{◌+◌}
use Rattle.senders.proofs.record.is_resent.Goals as goal

pub returns : goal.returns
returns c =
    resent_read c.row-n.ensures.0 c.if-state-place.false c.last_of.ensures c.if-line-last_of.false c.part_at-plane.ensures
    (behind_all (c.part_at-plane.result + 29) c.args.state.now) c.same_readings.ensures
