-- What is left of `rule`.
use Rattle.std.proofs.Common.{rules, []}
use Rattle.std.proofs.Math.Option.{none}
use Rattle.text.proofs.laws.CodeGrammarLaws.{some_call, some_condition}
use Rattle.text.proofs.laws.CodeReaderLaws.{and_then_answers, expect_answers, give_answers, refused, unfit}
use Rattle.text.specs.definitions.Grammar.{rule_after}
use Rattle.text.specs.definitions.Tokens.{END, TRIGGER}
use Rattle.text.proofs.grammar.rule.Goals as goal

pub returns-in_err-priority : goal.returns-in_err-priority
unfolding rule_after
returns-in_err-priority c start =
    unfit
    (and_then_answers c.in_err-priority.ensures none λ k.
    refused)
    (search rules)

pub returns-in_err-condition : goal.returns-in_err-condition
unfolding rule_after
returns-in_err-condition c start =
    unfit
    (and_then_answers c.in_ok-priority.ensures none λ k.
    and_then_answers c.in_err-condition.ensures some_condition λ d.
    refused)
    (search rules)

pub returns-in_err-trigger : goal.returns-in_err-trigger
unfolding rule_after
returns-in_err-trigger c start =
    unfit
    (and_then_answers c.in_ok-priority.ensures none λ k.
    and_then_answers c.in_ok-condition.ensures some_condition λ d.
    expect_answers TRIGGER c.in_err-trigger.ensures λ t.
    refused)
    (search rules)

pub returns-in_err-first : goal.returns-in_err-first
unfolding rule_after
returns-in_err-first c start =
    unfit
    (and_then_answers c.in_ok-priority.ensures none λ k.
    and_then_answers c.in_ok-condition.ensures some_condition λ d.
    expect_answers TRIGGER c.in_ok-trigger.ensures λ t.
    and_then_answers c.in_err-first.ensures some_call λ first.
    refused)
    (search rules)

pub returns-in_err-others : goal.returns-in_err-others
unfolding rule_after
returns-in_err-others c start =
    unfit
    (and_then_answers c.in_ok-priority.ensures none λ k.
    and_then_answers c.in_ok-condition.ensures some_condition λ d.
    expect_answers TRIGGER c.in_ok-trigger.ensures λ t.
    and_then_answers c.in_ok-first.ensures some_call λ first.
    and_then_answers c.in_err-others.ensures [] λ others.
    refused)
    (search rules)

pub returns : goal.returns
unfolding rule_after
returns c start =
    and_then_answers c.in_ok-priority.ensures none λ k.
    and_then_answers c.in_ok-condition.ensures some_condition λ d.
    expect_answers TRIGGER c.in_ok-trigger.ensures λ t.
    and_then_answers c.in_ok-first.ensures some_call λ first.
    and_then_answers c.in_ok-others.ensures [] λ others.
    expect_answers END c.token-2.ensures λ u.
    give_answers _ _
