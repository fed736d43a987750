-- What the loop of `+atom_condition_conjunction` keeps.
use Rattle.checking.specs.inner_contracts.RuleParts.{ConditionYields, world_rows}
use Rattle.std.proofs.Common.{length, ◌*◌, ◌+◌, ◌-◌}
use Rattle.text.specs.definitions.Grammar.{atom_reader, both_at, condition_reader, conjunction_reader, either_at, is_and, is_or}
use Rattle.text.specs.definitions.Readers.{joined}
use Rattle.text.specs.inner_contracts.Walks.{Looping}
use Rattle.checking.proofs.conditions.+atom_condition_conjunction.Given as goal

abbrev pub decreases-atom : goal.decreases-atom
decreases-atom l = l.depth * 3

abbrev pub decreases-condition : goal.decreases-condition
decreases-condition l = l.depth * 3 + 2

abbrev pub decreases-conjunction : goal.decreases-conjunction
decreases-conjunction l = l.depth * 3 + 1

abbrev pub decreases-condition-loop-right : goal.decreases-condition-loop-right
decreases-condition-loop-right l = length l.columns.classes.now - l.left.next

abbrev pub invariant-condition-loop-right : goal.invariant-condition-loop-right
invariant-condition-loop-right l = Looping world_rows (ConditionYields l.columns.text.now l.columns.classes.now l.columns.offsets.now l.columns.lengths.now l.columns.d.now l.start) (condition_reader l.depth) is_or (joined (conjunction_reader l.depth) either_at) l.at l.left l.left.next

abbrev pub decreases-conjunction-loop-right : goal.decreases-conjunction-loop-right
decreases-conjunction-loop-right l = length l.columns.classes.now - l.left.next

abbrev pub invariant-conjunction-loop-right : goal.invariant-conjunction-loop-right
invariant-conjunction-loop-right l = Looping world_rows (ConditionYields l.columns.text.now l.columns.classes.now l.columns.offsets.now l.columns.lengths.now l.columns.d.now l.start) (conjunction_reader l.depth) is_and (joined (atom_reader l.depth) both_at) l.at l.left l.left.next
