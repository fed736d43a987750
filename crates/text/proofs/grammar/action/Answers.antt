-- What is left of `action`.
use Rattle.std.proofs.Common.{rules}
use Rattle.values.specs.declared.Kind.TheVariants.{Wholes}
use Rattle.text.proofs.laws.CodeReaderLaws.{and_then_answers, expect_answers, give_answers, refused, unfit}
use Rattle.text.specs.definitions.Grammar.{action_after}
use Rattle.text.specs.definitions.Tokens.{NAME, ROUND_CLOSE, ROUND_OPEN}
use Rattle.text.proofs.grammar.action.Goals as goal

pub returns-in_err-name : goal.returns-in_err-name
unfolding action_after
returns-in_err-name c start =
    unfit
    (expect_answers NAME c.in_err-name.ensures λ n.
    refused)
    (search rules)

pub returns-in_err-open : goal.returns-in_err-open
unfolding action_after
returns-in_err-open c start =
    unfit
    (expect_answers NAME c.in_ok-name.ensures λ n.
    expect_answers ROUND_OPEN c.in_err-open.ensures λ o.
    refused)
    (search rules)

pub returns-in_err-kind : goal.returns-in_err-kind
unfolding action_after
returns-in_err-kind c start =
    unfit
    (expect_answers NAME c.in_ok-name.ensures λ n.
    expect_answers ROUND_OPEN c.in_ok-open.ensures λ o.
    and_then_answers c.in_err-kind.ensures Wholes λ k.
    refused)
    (search rules)

pub returns : goal.returns
unfolding action_after
returns c start =
    expect_answers NAME c.in_ok-name.ensures λ n.
    expect_answers ROUND_OPEN c.in_ok-open.ensures λ o.
    and_then_answers c.in_ok-kind.ensures Wholes λ k.
    expect_answers ROUND_CLOSE c.token-3.ensures λ t.
    give_answers _ _
