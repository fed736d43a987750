-- What is left of `interface`.
use Rattle.std.proofs.Common.{rules, []}
use Rattle.text.proofs.laws.CodeReaderLaws.{and_then_answers, expect_answers, give_answers, refused, unfit}
use Rattle.text.specs.definitions.Grammar.{interface_after}
use Rattle.text.specs.definitions.Syntax.{attribute, event}
use Rattle.text.specs.definitions.Tokens.{BRACE_CLOSE, BRACE_OPEN, NAME}
use Rattle.text.proofs.grammar.interface.Goals as goal

pub returns-in_err-name : goal.returns-in_err-name
unfolding interface_after
returns-in_err-name c start =
    unfit
    (expect_answers NAME c.in_err-name.ensures λ n.
    refused)
    (search rules)

pub returns-in_err-open : goal.returns-in_err-open
unfolding interface_after
returns-in_err-open c start =
    unfit
    (expect_answers NAME c.in_ok-name.ensures λ n.
    expect_answers BRACE_OPEN c.in_err-open.ensures λ o.
    refused)
    (search rules)

pub returns-in_err-attributes : goal.returns-in_err-attributes
unfolding interface_after
returns-in_err-attributes c start =
    unfit
    (expect_answers NAME c.in_ok-name.ensures λ n.
    expect_answers BRACE_OPEN c.in_ok-open.ensures λ o.
    and_then_answers (c.in_err-attributes.ensures attribute) [] λ attributes.
    refused)
    (search rules)

pub returns-in_err-events : goal.returns-in_err-events
unfolding interface_after
returns-in_err-events c start =
    unfit
    (expect_answers NAME c.in_ok-name.ensures λ n.
    expect_answers BRACE_OPEN c.in_ok-open.ensures λ o.
    and_then_answers (c.in_ok-attributes.ensures attribute) [] λ attributes.
    and_then_answers (c.in_err-events.ensures event) [] λ events.
    refused)
    (search rules)

pub returns-in_err-actions : goal.returns-in_err-actions
unfolding interface_after
returns-in_err-actions c start =
    unfit
    (expect_answers NAME c.in_ok-name.ensures λ n.
    expect_answers BRACE_OPEN c.in_ok-open.ensures λ o.
    and_then_answers (c.in_ok-attributes.ensures attribute) [] λ attributes.
    and_then_answers (c.in_ok-events.ensures event) [] λ events.
    and_then_answers c.in_err-actions.ensures [] λ actions.
    refused)
    (search rules)

pub returns : goal.returns
unfolding interface_after
returns c start =
    expect_answers NAME c.in_ok-name.ensures λ n.
    expect_answers BRACE_OPEN c.in_ok-open.ensures λ o.
    and_then_answers (c.in_ok-attributes.ensures attribute) [] λ attributes.
    and_then_answers (c.in_ok-events.ensures event) [] λ events.
    and_then_answers c.in_ok-actions.ensures [] λ actions.
    expect_answers BRACE_CLOSE c.token-3.ensures λ t.
    give_answers _ _
