use Rattle.std.proofs.Common.{arith, []}
use Rattle.replay.proofs.steps.LineLaws.{names_put, values_put, nothing_put, names_put_on, values_put_on, nothing_put_on, still_stood}
use Rattle.replay.proofs.Replay.put_line.Goals.{in-Names, in-Values, in-Closed}
use Rattle.replay.proofs.Replay.put_line.Goals as goal

pub invariant_of-self : goal.invariant_of-self
invariant_of-self c =
    elim c.match-stage.branch [
      | in-Names w ↦ rw w.self-inside-is (omega arith, still_stood c.self.invariant.1 (names_put _ c.self.invariant.1.part w.in-Names.is w.take_names-row.ensures w.end_row.ensures))
      | in-Values w ↦ rw w.self-inside-is (omega arith, still_stood c.self.invariant.1 (values_put _ c.self.invariant.1.part w.in-Values.is w.take_record-row.ensures w.end_row-in-Values.ensures))
      | in-Closed w ↦ rw w.self-inside-is (omega arith, still_stood c.self.invariant.1 (nothing_put _ c.self.invariant.1.part [] w.in-Closed.is))
    ]

pub returns : goal.returns
returns c =
    rw (← c.self.view_is)
    (elim c.match-stage.branch [
      | in-Names w ↦
          rw (w.self-inside-is, w.out-is, w.result-is) (names_put_on _ c.self.invariant.1.part w.in-Names.is w.take_names-row.ensures w.end_row.ensures)
      | in-Values w ↦
          rw (w.self-inside-is, w.out-is, w.result-is)
          (values_put_on _ c.self.invariant.1.part w.in-Values.is w.take_record-row.ensures w.end_row-in-Values.ensures)
      | in-Closed w ↦ rw (w.self-inside-is, w.out-is, w.result-is) (nothing_put_on _ c.self.invariant.1.part _ w.in-Closed.is)
    ])
