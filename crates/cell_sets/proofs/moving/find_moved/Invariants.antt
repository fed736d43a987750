-- the set has the cells of the entities below number e that moved
use Rattle.std.proofs.Common.{◌≡◌, ◌*◌}
use Rattle.cell_sets.specs.inner_contracts.Moving.{MovedSet}
use Rattle.cell_sets.proofs.moving.find_moved.Given as goal

abbrev pub invariant-loop-e : goal.invariant-loop-e
invariant-loop-e l =
    (l.first ≡ l.e * l.per) × MovedSet l.per l.first l.flags.current.now l.cells.current.now l.flags.previous.now l.cells.previous.now l.moved
