-- one value more
use Rattle.std.proofs.Common.{◌<◌, ◌≤◌, arith, length}
use Rattle.values.specs.declared.Value.TheVariants.{Whole}
use lib.IntN.{pos}
use Rattle.sheets.proofs.laws.RowLaws.{columns_none, columns_next, columns_end}
use Rattle.sheets.proofs.rows.put_columns.Goals as goal

pub loop-v-init : goal.loop-v-init
loop-v-init c = columns_none c.args.out.now c.args.at c.args.below

pub put_half-end-requires : goal.put_half-end-requires
put_half-end-requires c =
    let h : c.loop-v.v-index ≤ length c.args.values.now = omega arith in
    let e = columns_end c.args.below c.args.values.now c.loop-v.v-index h c.loop-v.invariant in
    (omega arith, omega arith)

pub loop-v-preserved : goal.loop-v-preserved
loop-v-preserved c =
    let h : c.loop-v.v-index < length c.args.values.now = omega arith in
    columns_next c.args.below c.args.values.now c.loop-v.v-index (Whole (pos 0)) h c.loop-v.invariant c.put_half-end.ensures
