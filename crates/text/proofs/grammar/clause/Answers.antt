-- What is left of `clause`.
use Rattle.std.proofs.Common.{rules}
use Rattle.std.proofs.Math.Option.{none}
use Rattle.text.proofs.laws.CodeGrammarLaws.{some_target}
use Rattle.text.proofs.laws.CodeReaderLaws.{and_give_answers, and_then_answers, expect_answers, refused, unfit}
use Rattle.text.specs.definitions.Grammar.{clause_reader}
use Rattle.text.specs.definitions.Tokens.{EVENT, FROM, NAME, VALUE}
use Rattle.text.proofs.grammar.clause.Goals as goal

pub returns-in_err-event : goal.returns-in_err-event
unfolding clause_reader
returns-in_err-event c =
    unfit
    (expect_answers EVENT c.in_err-event.ensures λ start.
    refused)
    (search rules)

pub returns-in_err-name : goal.returns-in_err-name
unfolding clause_reader
returns-in_err-name c =
    unfit
    (expect_answers EVENT c.in_ok-event.ensures λ start.
    expect_answers NAME c.in_err-name.ensures λ n.
    refused)
    (search rules)

pub returns-in_err-source : goal.returns-in_err-source
unfolding clause_reader
returns-in_err-source c =
    unfit
    (expect_answers EVENT c.in_ok-event.ensures λ start.
    expect_answers NAME c.in_ok-name.ensures λ n.
    expect_answers FROM c.in_err-source.ensures λ t.
    refused)
    (search rules)

pub returns-in_err-place : goal.returns-in_err-place
unfolding clause_reader
returns-in_err-place c =
    unfit
    (expect_answers EVENT c.in_ok-event.ensures λ start.
    expect_answers NAME c.in_ok-name.ensures λ n.
    expect_answers FROM c.in_ok-source.ensures λ t.
    and_then_answers c.in_err-place.ensures some_target λ p.
    refused)
    (search rules)

pub returns-in_err-with : goal.returns-in_err-with
unfolding clause_reader
returns-in_err-with c =
    unfit
    (expect_answers EVENT c.in_ok-event.ensures λ start.
    expect_answers NAME c.in_ok-name.ensures λ n.
    expect_answers FROM c.in_ok-source.ensures λ t.
    and_then_answers c.in_ok-place.ensures some_target λ p.
    and_then_answers c.in_err-with.ensures none λ f.
    refused)
    (search rules)

pub returns-in_err-value : goal.returns-in_err-value
unfolding clause_reader
returns-in_err-value c =
    unfit
    (expect_answers EVENT c.in_ok-event.ensures λ start.
    expect_answers NAME c.in_ok-name.ensures λ n.
    expect_answers FROM c.in_ok-source.ensures λ t.
    and_then_answers c.in_ok-place.ensures some_target λ p.
    and_then_answers c.in_ok-with.ensures none λ f.
    expect_answers VALUE c.in_err-value.ensures λ v.
    refused)
    (search rules)

pub returns : goal.returns
unfolding clause_reader
returns c =
    expect_answers EVENT c.in_ok-event.ensures λ start.
    expect_answers NAME c.in_ok-name.ensures λ n.
    expect_answers FROM c.in_ok-source.ensures λ t.
    and_then_answers c.in_ok-place.ensures some_target λ p.
    and_then_answers c.in_ok-with.ensures none λ f.
    expect_answers VALUE c.in_ok-value.ensures λ v.
    and_give_answers c.test.ensures _
