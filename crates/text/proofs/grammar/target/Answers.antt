-- What is left of `target`.
use Rattle.std.proofs.Common.{rules}
use Rattle.text.proofs.laws.CodeReaderLaws.{chosen_answers, expect_answers, give_answers, if_not_answers, refused, seen, unfit, unseen}
use Rattle.text.specs.definitions.Grammar.{target_reader}
use Rattle.text.specs.definitions.Tokens.{NAME}
use Rattle.text.proofs.grammar.target.Goals as goal

pub returns-in_err-name : goal.returns-in_err-name
unfolding target_reader
returns-in_err-name c =
    unfit
    (expect_answers NAME c.in_err-name.ensures λ n.
    refused)
    (search rules)

pub returns : goal.returns
unfolding target_reader
returns c =
    expect_answers NAME c.in_ok-name.ensures λ n.
    chosen_answers (seen c.if-not-next_is.ensures) _ λ t.
    expect_answers NAME c.token-2.ensures λ i.
    give_answers _ _

pub returns-then-not-next_is : goal.returns-then-not-next_is
unfolding target_reader
returns-then-not-next_is c =
    expect_answers NAME c.in_ok-name.ensures λ n.
    if_not_answers (unseen c.if-not-next_is.ensures) _ (give_answers _ _)
