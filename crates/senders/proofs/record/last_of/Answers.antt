-- What is left of `last_of`.
use Rattle.cycles.proofs.laws.PlaneTestLaws.{behind_all}
use Rattle.senders.proofs.steps.ResentSteps.{last_known_read}
use Rattle.std.proofs.Common.{◌+◌}
use Rattle.senders.proofs.record.last_of.Goals as goal

pub returns : goal.returns
returns c = last_known_read c.if-state-place.false c.part_at-at.ensures (behind_all (c.part_at-at.result + 25) c.args.state.now) c.number.ensures
