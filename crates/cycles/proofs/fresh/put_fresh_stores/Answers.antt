-- What is left of `put_fresh_stores`.
use Rattle.cycles.proofs.steps.FreshPlanes.{flags_run, unset_cells_run, fresh_put}
use Rattle.std.proofs.Common.{◌*◌}
use Rattle.cycles.proofs.fresh.put_fresh_stores.Goals as goal

pub returns : goal.returns
returns c =
    let n = c.row-n.result in
    fresh_put c.row-n.ensures.0 (flags_run 1 n c.put_run-flags.ensures) c.put_fresh_cells-cells.ensures (flags_run 0 n c.put_run-previous.ensures)
    (unset_cells_run (12 * n) c.put_run.ensures) c.requires c.if-n-gt-MOST_ENTITIES.false
