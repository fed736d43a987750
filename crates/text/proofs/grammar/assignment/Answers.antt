-- What is left of `assignment`.
use Rattle.std.proofs.Common.{rules}
use Rattle.text.proofs.laws.CodeReaderLaws.{and_give_answers, expect_answers, refused, unfit}
use Rattle.text.specs.definitions.Grammar.{assignment_after}
use Rattle.text.specs.definitions.Tokens.{EQUALS}
use Rattle.text.proofs.grammar.assignment.Goals as goal

pub returns-in_err-equals : goal.returns-in_err-equals
unfolding assignment_after
returns-in_err-equals c start =
    unfit
    (expect_answers EQUALS c.in_err-equals.ensures λ e.
    refused)
    (search rules)

pub returns : goal.returns
unfolding assignment_after
returns c start =
    expect_answers EQUALS c.in_ok-equals.ensures λ e.
    and_give_answers c.literal.ensures _
