-- So many flags are put, and the others stay.
use Rattle.cycles.specs.definitions.Planes.{table}
use Rattle.cycles.specs.inner_contracts.CycleMemory.{seen_flag}
use Rattle.std.proofs.Common.{drop, ◌++◌, ◌≡◌}
use Rattle.cycles.proofs.cycle.see_flags.Given as goal

abbrev pub invariant-loop-e : goal.invariant-loop-e
invariant-loop-e l = l.seen ≡ table (seen_flag l.present l.inputs.flags.now) 0 l.e ++ drop l.e l.fn.seen
