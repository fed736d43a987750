-- What is left of `put_fresh_cells`.
use Rattle.cycles.proofs.steps.FreshPlanes.{fresh_cells_begin, fresh_cells_next}
use Rattle.std.proofs.Common.{rules}
use Rattle.cycles.proofs.fresh.put_fresh_cells.Goals as goal

pub loop-i-init : goal.loop-i-init
loop-i-init c = search (rules, fresh_cells_begin)

pub loop-i-preserved : goal.loop-i-preserved
loop-i-preserved c =
    fresh_cells_next c.loop-i.invariant c.fresh_value.ensures (c.pack.ensures.tag, c.pack.ensures.word) (c.put_tagged-end.ensures.end, c.put_tagged-end.ensures.put)
