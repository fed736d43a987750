-- What is left of `add_reads`.
use Rattle.std.proofs.Common.{◌∙◌}
use Rattle.reads.proofs.steps.SetSteps.{entity_added, nothing_added, variable_added}
use Rattle.reads.proofs.cells.add_reads.Goals as goal

pub returns-then-r-lt-FIRST_VARIABLE : goal.returns-then-r-lt-FIRST_VARIABLE
returns-then-r-lt-FIRST_VARIABLE c = entity_added _ _ _ _ c.if-r-lt-FIRST_VARIABLE.true c.add_cell.ensures

pub returns-then-v-ge-MOST_VARIABLES : goal.returns-then-v-ge-MOST_VARIABLES
returns-then-v-ge-MOST_VARIABLES c = nothing_added _ _ _ _ c.if-r-lt-FIRST_VARIABLE.false c.if-v-ge-MOST_VARIABLES.true

pub returns : goal.returns
returns c = variable_added _ _ _ _ c.if-r-lt-FIRST_VARIABLE.false c.if-v-ge-MOST_VARIABLES.false (c.from-face.ensures ∙ c.class_at.ensures) c.add_cells_of.ensures
