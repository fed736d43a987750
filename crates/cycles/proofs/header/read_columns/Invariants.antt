-- So many columns are read, from the last on, and different numbers below 416 are at most 416.
use Rattle.checking.specs.inner_contracts.OfColumns.{of_file}
use Rattle.cycles.proofs.steps.HeaderLaws.{ColumnsGoing}
use Rattle.cycles.proofs.header.read_columns.Given as goal

abbrev pub invariant-loop-end : goal.invariant-loop-end
invariant-loop-end l = of_file ColumnsGoing l.bench l.names l.columns l.end l.count

abbrev pub decreases-loop-end : goal.decreases-loop-end
decreases-loop-end l = l.end
