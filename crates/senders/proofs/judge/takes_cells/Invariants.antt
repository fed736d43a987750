-- What is left of the cells says the same as all of them.
use Rattle.cycles.specs.definitions.Planes.{each}
use Rattle.senders.specs.inner_contracts.Judging.{takes_cell}
use Rattle.std.proofs.Common.{◌*◌, ◌-◌, ◌≡◌}
use Rattle.senders.proofs.judge.takes_cells.Given as goal

abbrev pub invariant-loop-i : goal.invariant-loop-i
invariant-loop-i l =
    each (takes_cell l.present l.inputs.flags.now l.inputs.cells.now) l.i (12 * l.n - l.i) ≡ each (takes_cell l.present l.inputs.flags.now l.inputs.cells.now) 0 (12 * l.n)
