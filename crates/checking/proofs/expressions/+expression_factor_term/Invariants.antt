-- What the loop of `+expression_factor_term` keeps.
use Rattle.checking.specs.inner_contracts.RuleParts.{ExpressionYields, world_rows}
use Rattle.std.proofs.Common.{length, ◌*◌, ◌+◌, ◌-◌}
use Rattle.text.specs.definitions.Grammar.{apply_at, expression_reader, factor_reader, is_factor_operator, is_term_operator, term_reader}
use Rattle.text.specs.definitions.Readers.{joined}
use Rattle.text.specs.inner_contracts.Walks.{Looping}
use Rattle.checking.proofs.expressions.+expression_factor_term.Given as goal

abbrev pub decreases-expression : goal.decreases-expression
decreases-expression l = l.depth * 3 + 2

abbrev pub decreases-factor : goal.decreases-factor
decreases-factor l = l.depth * 3

abbrev pub decreases-term : goal.decreases-term
decreases-term l = l.depth * 3 + 1

abbrev pub decreases-expression-loop-i : goal.decreases-expression-loop-i
decreases-expression-loop-i l = length l.columns.classes.now - l.left.next

abbrev pub invariant-expression-loop-i : goal.invariant-expression-loop-i
invariant-expression-loop-i l = Looping world_rows (ExpressionYields l.columns.text.now l.columns.classes.now l.columns.offsets.now l.columns.lengths.now l.columns.d.now l.start) (expression_reader l.depth) is_term_operator (joined (term_reader l.depth) apply_at) l.at l.left l.left.next

abbrev pub decreases-term-loop-i : goal.decreases-term-loop-i
decreases-term-loop-i l = length l.columns.classes.now - l.left.next

abbrev pub invariant-term-loop-i : goal.invariant-term-loop-i
invariant-term-loop-i l = Looping world_rows (ExpressionYields l.columns.text.now l.columns.classes.now l.columns.offsets.now l.columns.lengths.now l.columns.d.now l.start) (term_reader l.depth) is_factor_operator (joined (factor_reader l.depth) apply_at) l.at l.left l.left.next
