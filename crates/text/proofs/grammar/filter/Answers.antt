-- What is left of `filter`.
use Rattle.std.proofs.Common.{rules}
use Rattle.text.proofs.laws.CodeReaderLaws.{and_give_answers, chosen_answers, expect_answers, give_answers, if_not_answers, refused, seen, unfit, unseen}
use Rattle.text.specs.definitions.Grammar.{filter_reader}
use Rattle.text.specs.definitions.Tokens.{EQUALS, NAME}
use Rattle.text.proofs.grammar.filter.Goals as goal

pub returns-in_err-name : goal.returns-in_err-name
unfolding filter_reader
returns-in_err-name c =
    unfit
    (chosen_answers (seen c.if-not-next_is.ensures) _ λ t.
    expect_answers NAME c.in_err-name.ensures λ n.
    refused)
    (search rules)

pub returns-in_err-equals : goal.returns-in_err-equals
unfolding filter_reader
returns-in_err-equals c =
    unfit
    (chosen_answers (seen c.if-not-next_is.ensures) _ λ t.
    expect_answers NAME c.in_ok-name.ensures λ n.
    expect_answers EQUALS c.in_err-equals.ensures λ q.
    refused)
    (search rules)

pub returns : goal.returns
unfolding filter_reader
returns c =
    chosen_answers (seen c.if-not-next_is.ensures) _ λ t.
    expect_answers NAME c.in_ok-name.ensures λ n.
    expect_answers EQUALS c.in_ok-equals.ensures λ q.
    and_give_answers c.expression.ensures _

pub returns-then-not-next_is : goal.returns-then-not-next_is
unfolding filter_reader
returns-then-not-next_is c = if_not_answers (unseen c.if-not-next_is.ensures) _ (give_answers _ _)
