-- Memory holds the inputs of the fields that were passed.
use Rattle.cycles.proofs.steps.ValuesLaws.{ValuesGoing}
use Rattle.cycles.specs.inner_contracts.Bundles.{of_members}
use Rattle.std.proofs.Common.{length}
use Rattle.cycles.proofs.record.read_values.Given as goal

abbrev pub invariant-loop-k : goal.invariant-loop-k
invariant-loop-k l =
    of_members ValuesGoing l.bench l.values l.header.columns.now (length l.header.columns.now) l.fn.flags l.fn.cells l.flags l.cells l.end l.k
