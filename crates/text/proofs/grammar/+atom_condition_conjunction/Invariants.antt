-- What the loop of `+atom_condition_conjunction` keeps.
use Rattle.std.proofs.Common.{length, ◌*◌, ◌+◌}
use Rattle.text.proofs.laws.CodeReaderLaws.{Going}
use Rattle.text.specs.definitions.Grammar.{atom_reader, both_at, conjunction_reader, either_at}
use Rattle.text.specs.definitions.Readers.{joined}
use Rattle.text.specs.definitions.Tokens.{AND, OR}
use Rattle.text.specs.inner_contracts.ParseAnswers.{Next, classes_from, is_class}
use Rattle.text.proofs.grammar.+atom_condition_conjunction.Given as goal

abbrev pub decreases-atom : goal.decreases-atom
decreases-atom l = length (classes_from l.classes.now (Next l.from)) * 3

abbrev pub decreases-condition : goal.decreases-condition
decreases-condition l = length (classes_from l.classes.now (Next l.from)) * 3 + 2

abbrev pub decreases-conjunction : goal.decreases-conjunction
decreases-conjunction l = length (classes_from l.classes.now (Next l.from)) * 3 + 1

abbrev pub invariant-condition-loop-at : goal.invariant-condition-loop-at
invariant-condition-loop-at l = Going l.classes (is_class OR) (joined (conjunction_reader l.depth) either_at) (Next l.initial.at) (Next l.at)

abbrev pub decreases-condition-loop-at : goal.decreases-condition-loop-at
decreases-condition-loop-at l = length (classes_from l.classes (Next l.at))

abbrev pub invariant-conjunction-loop-at : goal.invariant-conjunction-loop-at
invariant-conjunction-loop-at l = Going l.classes (is_class AND) (joined (atom_reader l.depth) both_at) (Next l.initial.at) (Next l.at)

abbrev pub decreases-conjunction-loop-at : goal.decreases-conjunction-loop-at
decreases-conjunction-loop-at l = length (classes_from l.classes (Next l.at))
