-- What the loop of `+expression_factor_opener_term` keeps.
use Rattle.std.proofs.Common.{length, ◌*◌, ◌+◌}
use Rattle.text.proofs.laws.CodeReaderLaws.{Going}
use Rattle.text.specs.definitions.Grammar.{apply_at, factor_reader, term_reader}
use Rattle.text.specs.definitions.Readers.{joined}
use Rattle.text.specs.definitions.Tokens.{DIVIDE, MINUS, PLUS, TIMES}
use Rattle.text.specs.inner_contracts.ParseAnswers.{Next, classes_from, is_either}
use Rattle.text.proofs.grammar.+expression_factor_opener_term.Given as goal

abbrev pub decreases-expression : goal.decreases-expression
decreases-expression l = length (classes_from l.classes.now (Next l.from)) * 4 + 3

abbrev pub decreases-factor : goal.decreases-factor
decreases-factor l = length (classes_from l.classes.now (Next l.from)) * 4 + 1

abbrev pub decreases-opener : goal.decreases-opener
decreases-opener l = length (classes_from l.classes.now (Next l.from)) * 4

abbrev pub decreases-term : goal.decreases-term
decreases-term l = length (classes_from l.classes.now (Next l.from)) * 4 + 2

abbrev pub invariant-expression-loop-at : goal.invariant-expression-loop-at
invariant-expression-loop-at l = Going l.classes (is_either PLUS MINUS) (joined (term_reader l.depth) apply_at) (Next l.initial.at) (Next l.at)

abbrev pub decreases-expression-loop-at : goal.decreases-expression-loop-at
decreases-expression-loop-at l = length (classes_from l.classes (Next l.at))

abbrev pub invariant-term-loop-at : goal.invariant-term-loop-at
invariant-term-loop-at l = Going l.classes (is_either TIMES DIVIDE) (joined (factor_reader l.depth) apply_at) (Next l.initial.at) (Next l.at)

abbrev pub decreases-term-loop-at : goal.decreases-term-loop-at
decreases-term-loop-at l = length (classes_from l.classes (Next l.at))
