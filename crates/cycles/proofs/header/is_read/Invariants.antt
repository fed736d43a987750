-- What is left to look at has the column exactly where all of them have.
use Rattle.cycles.specs.inner_contracts.HeaderReads.{backwards, is_number_among}
use Rattle.std.proofs.Common.{◌≡◌}
use Rattle.cycles.proofs.header.is_read.Given as goal

abbrev pub invariant-loop-k : goal.invariant-loop-k
invariant-loop-k l = is_number_among l.column (backwards l.k l.columns) ≡ is_number_among l.column (backwards l.count l.columns)
