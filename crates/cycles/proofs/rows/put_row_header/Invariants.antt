-- The names of the cells before number i stand after `by n`.
use Rattle.checking.specs.inner_contracts.OfColumns.{of_file}
use Rattle.cycles.proofs.laws.RowPuts.{NamesSoFar}
use Rattle.cycles.proofs.rows.put_row_header.Given as goal

abbrev pub invariant-loop-i : goal.invariant-loop-i
invariant-loop-i l = of_file NamesSoFar l.columns l.initial.row l.initial.at l.i l.row l.at
