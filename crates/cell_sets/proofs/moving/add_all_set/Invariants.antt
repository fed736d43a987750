-- up to cell number i those that pass are added
use Rattle.cell_sets.specs.definitions.Sets.{is_in}
use Rattle.cell_sets.specs.inner_contracts.Adding.{Added}
use Rattle.cell_sets.specs.inner_contracts.Moving.{cell_is_set}
use Rattle.cell_sets.proofs.moving.add_all_set.Given as goal

abbrev pub invariant-loop-i : goal.invariant-loop-i
invariant-loop-i l = Added (cell_is_set l.cells) l.first l.i (is_in l.fn.moved) (is_in l.moved)
