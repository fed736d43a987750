-- The cells of the entities before number e are put, and of its members before number m, or stand as they are.
use Rattle.cycles.specs.inner_contracts.CycleMemory.{MembersPut, next_value, no_action}
use Rattle.std.proofs.Common.{◌*◌, ◌+◌}
use Rattle.cycles.proofs.cycle.put_next.Given as goal

abbrev pub invariant-loop-e : goal.invariant-loop-e
invariant-loop-e l = MembersPut l.rules.columns.classes.now l.rules.columns.d.now no_action (next_value l.cells l.fn.area) (12 * l.e) l.fn.area l.area

abbrev pub invariant-loop-m : goal.invariant-loop-m
invariant-loop-m l = MembersPut l.rules.columns.classes.now l.rules.columns.d.now no_action (next_value l.cells l.fn.area) (12 * l.e + l.m) l.fn.area l.area
