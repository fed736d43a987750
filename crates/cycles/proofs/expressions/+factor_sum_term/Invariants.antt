-- The measures of `factor`, `sum` and `term`: each call leaves fewer openers to come, or as many and has a lower rank. And what the loops keep.
use Rattle.cycles.specs.inner_contracts.Evaluation.{ExpressionLoop}
use Rattle.std.proofs.Common.{length, ◌*◌, ◌+◌, ◌-◌}
use Rattle.text.specs.definitions.Grammar.{apply_at, expression_reader, factor_reader, is_factor_operator, is_term_operator, term_reader}
use Rattle.text.specs.definitions.Readers.{joined}
use Rattle.cycles.proofs.expressions.+factor_sum_term.Given as goal

abbrev pub decreases-factor : goal.decreases-factor
decreases-factor l = l.depth * 3

abbrev pub decreases-sum : goal.decreases-sum
decreases-sum l = l.depth * 3 + 2

abbrev pub decreases-term : goal.decreases-term
decreases-term l = l.depth * 3 + 1

abbrev pub invariant-sum-loop-op : goal.invariant-sum-loop-op
invariant-sum-loop-op l = ExpressionLoop l.world.rules.now.columns.classes.now l.world.rules.now.literals.now l.world.rules.now.references.now l.world.b l.world.store.now.flags l.world.store.now.cells (expression_reader l.depth) is_term_operator (joined (term_reader l.depth) apply_at) l.at l.left.value l.left.next

abbrev pub decreases-sum-loop-op : goal.decreases-sum-loop-op
decreases-sum-loop-op l = length l.world.rules.now.columns.classes.now - l.left.next

abbrev pub invariant-term-loop-op : goal.invariant-term-loop-op
invariant-term-loop-op l = ExpressionLoop l.world.rules.now.columns.classes.now l.world.rules.now.literals.now l.world.rules.now.references.now l.world.b l.world.store.now.flags l.world.store.now.cells (term_reader l.depth) is_factor_operator (joined (factor_reader l.depth) apply_at) l.at l.left.value l.left.next

abbrev pub decreases-term-loop-op : goal.decreases-term-loop-op
decreases-term-loop-op l = length l.world.rules.now.columns.classes.now - l.left.next
