-- the values passed are put
use Rattle.std.proofs.Common.{take}
use Rattle.values.specs.inner_contracts.Puts.{Put}
use Rattle.sheets.specs.definitions.Rows.{cell_columns}
use Rattle.sheets.proofs.rows.put_columns.Given as goal

abbrev pub invariant-loop-v : goal.invariant-loop-v
invariant-loop-v l = Put (cell_columns l.below (take l.v-index l.values)) l.fn.out l.at l.out l.end
