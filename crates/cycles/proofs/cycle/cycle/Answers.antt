-- What is left of `cycle`.
use Rattle.cycles.proofs.steps.CycleMemoryLaws.{cycled, zeros_blank, zeros_unset_cells}
use Rattle.std.proofs.Common.{rules}
use Rattle.cycles.proofs.cycle.cycle.Goals as goal

pub returns : goal.returns
returns c = search (rules, cycled, zeros_blank, zeros_unset_cells)
