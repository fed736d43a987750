-- What is left of `entity`.
use Rattle.std.proofs.Common.{rules, []}
use Rattle.text.proofs.laws.CodeReaderLaws.{and_then_answers, expect_answers, give_answers, refused, unfit}
use Rattle.text.specs.definitions.Grammar.{entity_after}
use Rattle.text.specs.definitions.Tokens.{BRACE_CLOSE, BRACE_OPEN, COLON, NAME}
use Rattle.text.proofs.grammar.entity.Goals as goal

pub returns-in_err-name : goal.returns-in_err-name
unfolding entity_after
returns-in_err-name c start =
    unfit
    (expect_answers NAME c.in_err-name.ensures λ n.
    refused)
    (search rules)

pub returns-in_err-colon : goal.returns-in_err-colon
unfolding entity_after
returns-in_err-colon c start =
    unfit
    (expect_answers NAME c.in_ok-name.ensures λ n.
    expect_answers COLON c.in_err-colon.ensures λ t.
    refused)
    (search rules)

pub returns-in_err-interface : goal.returns-in_err-interface
unfolding entity_after
returns-in_err-interface c start =
    unfit
    (expect_answers NAME c.in_ok-name.ensures λ n.
    expect_answers COLON c.in_ok-colon.ensures λ t.
    expect_answers NAME c.in_err-interface.ensures λ i.
    refused)
    (search rules)

pub returns-in_err-open : goal.returns-in_err-open
unfolding entity_after
returns-in_err-open c start =
    unfit
    (expect_answers NAME c.in_ok-name.ensures λ n.
    expect_answers COLON c.in_ok-colon.ensures λ t.
    expect_answers NAME c.in_ok-interface.ensures λ i.
    expect_answers BRACE_OPEN c.in_err-open.ensures λ o.
    refused)
    (search rules)

pub returns-in_err-set : goal.returns-in_err-set
unfolding entity_after
returns-in_err-set c start =
    unfit
    (expect_answers NAME c.in_ok-name.ensures λ n.
    expect_answers COLON c.in_ok-colon.ensures λ t.
    expect_answers NAME c.in_ok-interface.ensures λ i.
    expect_answers BRACE_OPEN c.in_ok-open.ensures λ o.
    and_then_answers c.in_err-set.ensures [] λ set.
    refused)
    (search rules)

pub returns : goal.returns
unfolding entity_after
returns c start =
    expect_answers NAME c.in_ok-name.ensures λ n.
    expect_answers COLON c.in_ok-colon.ensures λ t.
    expect_answers NAME c.in_ok-interface.ensures λ i.
    expect_answers BRACE_OPEN c.in_ok-open.ensures λ o.
    and_then_answers c.in_ok-set.ensures [] λ set.
    expect_answers BRACE_CLOSE c.token-5.ensures λ u.
    give_answers _ _
