-- The items that the loop has passed do not have the name.
use Rattle.checking.specs.inner_contracts.OfColumns.{of_names}
use Rattle.checking.proofs.laws.CalledLaws.{Passed}
use Rattle.checking.proofs.columns.Columns.first_named.Given as goal

abbrev pub invariant-loop-k : goal.invariant-loop-k
invariant-loop-k l = of_names Passed l.self l.base l.count l.name l.k
