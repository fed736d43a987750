-- What is left of `put_fired`.
use Rattle.cycles.proofs.laws.RowPuts.{fired_put}
use Rattle.std.proofs.Common.{arith}
use Rattle.std.proofs.Math.ListN.{length-set}
use Rattle.values.proofs.laws.FormLaws.{printed_most}
use Rattle.cycles.proofs.rows.put_fired.Goals as goal

pub put_value-requires : goal.put_value-requires
put_value-requires c = simp length-set (omega (arith, printed_most c.cell.result))

pub returns : goal.returns
returns c = fired_put c.is_sort.ensures c.if-not-is_sort.false c.cell.ensures _ _ c.put_value.ensures
