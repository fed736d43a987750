-- The measures of `atom`, `condition` and `conjunction`: each call leaves fewer openers to come, or as many and has a lower rank. And what the loops keep.
use Rattle.cycles.specs.inner_contracts.Evaluation.{ConditionLoop}
use Rattle.std.proofs.Common.{length, ◌*◌, ◌+◌, ◌-◌}
use Rattle.text.specs.definitions.Grammar.{atom_reader, both_at, condition_reader, conjunction_reader, either_at, is_and, is_or}
use Rattle.text.specs.definitions.Readers.{joined}
use Rattle.cycles.proofs.conditions.+atom_condition_conjunction.Given as goal

abbrev pub decreases-atom : goal.decreases-atom
decreases-atom l = l.depth * 3

abbrev pub decreases-condition : goal.decreases-condition
decreases-condition l = l.depth * 3 + 2

abbrev pub decreases-conjunction : goal.decreases-conjunction
decreases-conjunction l = l.depth * 3 + 1

abbrev pub invariant-condition-loop-right : goal.invariant-condition-loop-right
invariant-condition-loop-right l =
    ConditionLoop l.worlds.rules.now.columns.classes.now l.worlds.rules.now.literals.now l.worlds.rules.now.references.now l.worlds.b l.worlds.stores.now.current.flags l.worlds.stores.now.current.cells l.worlds.stores.now.previous.flags l.worlds.stores.now.previous.cells (condition_reader l.depth) is_or
    (joined (conjunction_reader l.depth) either_at) l.at l.left.value l.left.next

abbrev pub decreases-condition-loop-right : goal.decreases-condition-loop-right
decreases-condition-loop-right l = length l.worlds.rules.now.columns.classes.now - l.left.next

abbrev pub invariant-conjunction-loop-right : goal.invariant-conjunction-loop-right
invariant-conjunction-loop-right l =
    ConditionLoop l.worlds.rules.now.columns.classes.now l.worlds.rules.now.literals.now l.worlds.rules.now.references.now l.worlds.b l.worlds.stores.now.current.flags l.worlds.stores.now.current.cells l.worlds.stores.now.previous.flags l.worlds.stores.now.previous.cells (conjunction_reader l.depth) is_and
    (joined (atom_reader l.depth) both_at) l.at l.left.value l.left.next

abbrev pub decreases-conjunction-loop-right : goal.decreases-conjunction-loop-right
decreases-conjunction-loop-right l = length l.worlds.rules.now.columns.classes.now - l.left.next
