-- So many fields from the last on are passed, none of them empty.
use Rattle.cycles.proofs.laws.FieldLaws.{FieldsPassed}
use Rattle.cycles.proofs.fields.first_size.Given as goal

abbrev pub invariant-loop-end : goal.invariant-loop-end
invariant-loop-end l = FieldsPassed l.line l.end l.passed

abbrev pub decreases-loop-end : goal.decreases-loop-end
decreases-loop-end l = l.end
