-- of the rows below number k those that meet the byte are added
use Rattle.std.proofs.Common.{◌≡◌, ◌+◌, ◌*◌}
use Rattle.cell_sets.specs.definitions.Sets.{has_bit}
use Rattle.cell_sets.specs.inner_contracts.Adding.{Added}
use Rattle.cell_sets.specs.inner_contracts.Meeting.{byte_meets}
use Rattle.cell_sets.proofs.meeting.add_meeting.Given as goal

abbrev pub invariant-loop-k : goal.invariant-loop-k
invariant-loop-k l =
    (l.at ≡ l.base + l.j + l.size * l.k) × Added (byte_meets l.rows (l.base + l.j) l.size l.byte) 0 l.k (has_bit l.met) (has_bit l.all)
