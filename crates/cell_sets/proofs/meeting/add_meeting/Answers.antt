-- the row of number k meets the byte and is added, or does not and is not
use Rattle.std.proofs.Common.{arith, zero-le}
use Rattle.cell_sets.proofs.steps.AddingSteps.{added_pass, added_skip}
use Rattle.cell_sets.proofs.steps.MeetingSteps.{row_next, meets_here, apart_here, bits_same}
use Rattle.cell_sets.proofs.meeting.add_meeting.Goals as goal
use Rattle.cell_sets.proofs.meeting.add_meeting.Goals.{then-rows-at-ne0, else-rows-at-ne0}

pub loop-k-preserved : goal.loop-k-preserved
loop-k-preserved c =
    let l = c.loop-k in
    let n = row_next c.args.size l.k in (
      omega arith,
      elim c.if-rows-at-ne0.branch [
        | then-rows-at-ne0 w ↦
            bits_same w.all-is (added_pass l.invariant.1 zero-le (meets_here _ _ _ _ l.k l.at l.invariant.0 w.if-rows-at-ne0.true) w.with_bit-all.ensures)
        | else-rows-at-ne0 w ↦ bits_same w.all-is (added_skip l.invariant.1 zero-le (apart_here _ _ _ _ l.k l.at l.invariant.0 w.if-rows-at-ne0.false))
      ],
    )
