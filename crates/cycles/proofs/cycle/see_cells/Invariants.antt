-- The cells of the entities before number e are put, and of its members before number m, or stand as they are.
use Rattle.cycles.specs.inner_contracts.CycleMemory.{MembersPut, any_sort, seen_value}
use Rattle.std.proofs.Common.{◌*◌, ◌+◌}
use Rattle.cycles.proofs.cycle.see_cells.Given as goal

abbrev pub invariant-loop-e : goal.invariant-loop-e
invariant-loop-e l = MembersPut l.rules.columns.classes.now l.rules.columns.d.now any_sort (seen_value l.line.before.now.flags l.line.seen.now l.line.before.now.cells l.line.inputs.now.cells.now) (12 * l.e) l.fn.out l.out

abbrev pub invariant-loop-m : goal.invariant-loop-m
invariant-loop-m l = MembersPut l.rules.columns.classes.now l.rules.columns.d.now any_sort (seen_value l.line.before.now.flags l.line.seen.now l.line.before.now.cells l.line.inputs.now.cells.now) (12 * l.e + l.m) l.fn.out l.out
