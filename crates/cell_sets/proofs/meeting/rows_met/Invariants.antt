-- the bits are the rows that have a number in common with the set, by the bytes below number j
use Rattle.cell_sets.proofs.steps.MeetingSteps.{MetBelow}
use Rattle.cell_sets.proofs.meeting.rows_met.Given as goal

abbrev pub invariant-loop-j : goal.invariant-loop-j
invariant-loop-j l = MetBelow l.rows l.base l.size l.count l.set l.j l.met
