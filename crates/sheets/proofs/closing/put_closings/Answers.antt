-- one column more
use Rattle.std.proofs.Common.{◌<◌, ◌≤◌, arith, length, false}
use Rattle.sheets.proofs.laws.FoldLaws.{no_fold}
use Rattle.sheets.proofs.laws.ClosingLaws.{closings_none, closings_next, closings_end}
use Rattle.sheets.proofs.closing.put_closings.Goals as goal

pub loop-k-init : goal.loop-k-init
loop-k-init c = closings_none c.args.out.now c.args.at c.args.folds

pub put_closing_if_real-end-requires : goal.put_closing_if_real-end-requires
put_closing_if_real-end-requires c =
    let h : c.loop-k.k ≤ length c.args.reals.now = omega arith in
    let e = closings_end c.args.reals.now c.args.folds c.loop-k.k (omega arith) h c.loop-k.invariant in
    (omega arith, omega arith)

pub loop-k-preserved : goal.loop-k-preserved
loop-k-preserved c =
    let h : c.loop-k.k < length c.args.reals.now = omega arith in
    let g : c.loop-k.k < length c.args.folds = omega arith in
    closings_next c.args.reals.now c.args.folds c.loop-k.k false no_fold h g c.loop-k.invariant c.put_closing_if_real-end.ensures
