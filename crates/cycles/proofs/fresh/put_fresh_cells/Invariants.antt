-- The cells before number i are put.
use Rattle.cycles.specs.inner_contracts.Bundles.{of_literals}
use Rattle.cycles.specs.inner_contracts.FreshMemory.{FreshCellsPut}
use Rattle.cycles.proofs.fresh.put_fresh_cells.Given as goal

abbrev pub invariant-loop-i : goal.invariant-loop-i
invariant-loop-i l = of_literals FreshCellsPut l.columns l.literals l.i l.fn.state l.at l.state l.end
