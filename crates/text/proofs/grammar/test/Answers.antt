-- What is left of `test`.
use Rattle.std.proofs.Common.{rules}
use Rattle.text.proofs.laws.CodeReaderLaws.{and_give_answers, chosen_answers, expect_answers, give_answers, if_not_answers, refused, seen, unfit, unseen}
use Rattle.text.specs.definitions.Grammar.{test_reader}
use Rattle.text.specs.definitions.Tokens.{EQUALS}
use Rattle.text.proofs.grammar.test.Goals as goal

pub returns-in_err-equals : goal.returns-in_err-equals
unfolding test_reader
returns-in_err-equals c =
    unfit
    (if_not_answers (unseen c.if-next_is.ensures) _ (
    expect_answers EQUALS c.in_err-equals.ensures λ q.
    refused))
    (search rules)

pub returns : goal.returns
unfolding test_reader
returns c =
    if_not_answers (unseen c.if-next_is.ensures) _ (
    expect_answers EQUALS c.in_ok-equals.ensures λ q.
    and_give_answers c.expression.ensures _)

pub returns-then-next_is : goal.returns-then-next_is
unfolding test_reader
returns-then-next_is c = chosen_answers (seen c.if-next_is.ensures) _ λ t. give_answers _ _
