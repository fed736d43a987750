-- The fields of the cells of the entities before number e are put, and of its members before number m.
use Rattle.cycles.proofs.laws.RowPuts.{FiredSoFar}
use Rattle.std.proofs.Common.{◌*◌, ◌+◌}
use Rattle.cycles.proofs.rows.put_fields.Given as goal

abbrev pub invariant-loop-e : goal.invariant-loop-e
invariant-loop-e l = FiredSoFar l.classes l.d l.cells l.fn.row l.at (12 * l.e) l.row l.next

abbrev pub invariant-loop-m : goal.invariant-loop-m
invariant-loop-m l = FiredSoFar l.classes l.d l.cells l.fn.row l.at (12 * l.e + l.m) l.row l.next
