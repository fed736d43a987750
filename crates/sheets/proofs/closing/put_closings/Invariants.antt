-- the closing rows of the columns passed are put
use Rattle.std.proofs.Common.{take}
use Rattle.values.specs.inner_contracts.Puts.{Put}
use Rattle.sheets.specs.definitions.Closing.{all_closing_rows}
use Rattle.sheets.specs.definitions.Sheet.{with_feeds}
use Rattle.sheets.proofs.closing.put_closings.Given as goal

abbrev pub invariant-loop-k : goal.invariant-loop-k
invariant-loop-k l = Put (with_feeds (all_closing_rows 0 (take l.k l.reals) l.folds)) l.fn.out l.at l.out l.end
