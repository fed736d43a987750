-- What is left of `put_row`.
use Rattle.senders.proofs.steps.RowSteps.{row_put}
use Rattle.std.proofs.Common.{arith, length-set}
use Rattle.values.proofs.laws.DigitLaws.{decimal_length}
use Rattle.senders.proofs.rows.put_row.Goals as goal

pub put_decimal-at-requires : goal.put_decimal-at-requires
put_decimal-at-requires c = simp length-set (omega (arith, decimal_length 10 c.args.last))

pub put_fields-requires-clause-at_in_bounds : goal.put_fields-requires-clause-at_in_bounds
put_fields-requires-clause-at_in_bounds c = let long = simp length-set at c.put_decimal-at.auto.s in omega (arith, decimal_length 10 c.args.last)

pub returns : goal.returns
returns c = row_put c.requires.0 c.requires.2 c.put_bytes-space.ensures c.put_decimal-at.ensures c.put_fields.ensures
