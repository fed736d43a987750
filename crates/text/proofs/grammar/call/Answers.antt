-- What is left of `call`.
use Rattle.std.proofs.Common.{rules}
use Rattle.text.proofs.laws.CodeGrammarLaws.{some_expression, some_target}
use Rattle.text.proofs.laws.CodeReaderLaws.{and_give_answers, and_then_answers, expect_answers, refused, unfit}
use Rattle.text.specs.definitions.Grammar.{call_reader}
use Rattle.text.specs.definitions.Tokens.{ACTION, NAME, ON, ROUND_CLOSE, ROUND_OPEN}
use Rattle.text.proofs.grammar.call.Goals as goal

pub returns-in_err-action : goal.returns-in_err-action
unfolding call_reader
returns-in_err-action c =
    unfit
    (expect_answers ACTION c.in_err-action.ensures λ start.
    refused)
    (search rules)

pub returns-in_err-name : goal.returns-in_err-name
unfolding call_reader
returns-in_err-name c =
    unfit
    (expect_answers ACTION c.in_ok-action.ensures λ start.
    expect_answers NAME c.in_err-name.ensures λ n.
    refused)
    (search rules)

pub returns-in_err-open : goal.returns-in_err-open
unfolding call_reader
returns-in_err-open c =
    unfit
    (expect_answers ACTION c.in_ok-action.ensures λ start.
    expect_answers NAME c.in_ok-name.ensures λ n.
    expect_answers ROUND_OPEN c.in_err-open.ensures λ o.
    refused)
    (search rules)

pub returns-in_err-parameter : goal.returns-in_err-parameter
unfolding call_reader
returns-in_err-parameter c =
    unfit
    (expect_answers ACTION c.in_ok-action.ensures λ start.
    expect_answers NAME c.in_ok-name.ensures λ n.
    expect_answers ROUND_OPEN c.in_ok-open.ensures λ o.
    and_then_answers c.in_err-parameter.ensures some_expression λ e.
    refused)
    (search rules)

pub returns-in_err-close : goal.returns-in_err-close
unfolding call_reader
returns-in_err-close c =
    unfit
    (expect_answers ACTION c.in_ok-action.ensures λ start.
    expect_answers NAME c.in_ok-name.ensures λ n.
    expect_answers ROUND_OPEN c.in_ok-open.ensures λ o.
    and_then_answers c.in_ok-parameter.ensures some_expression λ e.
    expect_answers ROUND_CLOSE c.in_err-close.ensures λ t.
    refused)
    (search rules)

pub returns-in_err-on : goal.returns-in_err-on
unfolding call_reader
returns-in_err-on c =
    unfit
    (expect_answers ACTION c.in_ok-action.ensures λ start.
    expect_answers NAME c.in_ok-name.ensures λ n.
    expect_answers ROUND_OPEN c.in_ok-open.ensures λ o.
    and_then_answers c.in_ok-parameter.ensures some_expression λ e.
    expect_answers ROUND_CLOSE c.in_ok-close.ensures λ t.
    expect_answers ON c.in_err-on.ensures λ u.
    refused)
    (search rules)

pub returns-in_err-place : goal.returns-in_err-place
unfolding call_reader
returns-in_err-place c =
    unfit
    (expect_answers ACTION c.in_ok-action.ensures λ start.
    expect_answers NAME c.in_ok-name.ensures λ n.
    expect_answers ROUND_OPEN c.in_ok-open.ensures λ o.
    and_then_answers c.in_ok-parameter.ensures some_expression λ e.
    expect_answers ROUND_CLOSE c.in_ok-close.ensures λ t.
    expect_answers ON c.in_ok-on.ensures λ u.
    and_then_answers c.in_err-place.ensures some_target λ p.
    refused)
    (search rules)

pub returns : goal.returns
unfolding call_reader
returns c =
    expect_answers ACTION c.in_ok-action.ensures λ start.
    expect_answers NAME c.in_ok-name.ensures λ n.
    expect_answers ROUND_OPEN c.in_ok-open.ensures λ o.
    and_then_answers c.in_ok-parameter.ensures some_expression λ e.
    expect_answers ROUND_CLOSE c.in_ok-close.ensures λ t.
    expect_answers ON c.in_ok-on.ensures λ u.
    and_then_answers c.in_ok-place.ensures some_target λ p.
    and_give_answers c.filter.ensures _
