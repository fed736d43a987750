-- What is left of `number`.
use Rattle.text.proofs.laws.CodeReaderLaws.{chosen_answers, expect_answers, give_answers, if_not_answers, seen, unseen}
use Rattle.text.specs.definitions.Grammar.{number_reader}
use Rattle.text.specs.definitions.Tokens.{REAL_NUMBER}
use Rattle.text.proofs.grammar.number.Goals as goal

pub returns-then-next_is : goal.returns-then-next_is
unfolding number_reader
returns-then-next_is c negative = chosen_answers (seen c.if-next_is.ensures) _ λ t. give_answers _ _

pub returns : goal.returns
unfolding number_reader
returns c negative =
    if_not_answers (unseen c.if-next_is.ensures) _
    (expect_answers REAL_NUMBER c.token.ensures λ t. give_answers _ _)
