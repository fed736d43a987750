-- No mark stands from where the loop is to the field's end.
use Rattle.cycles.proofs.laws.FieldLaws.{RunsFrom}
use Rattle.cycles.proofs.fields.field_start.Given as goal

abbrev pub invariant-loop-i : goal.invariant-loop-i
invariant-loop-i l = RunsFrom l.mark l.line l.end l.i
