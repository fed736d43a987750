-- What is left of `member`.
use Rattle.std.proofs.Common.{rules}
use Rattle.text.proofs.laws.CodeReaderLaws.{and_give_answers, expect_answers, refused, unfit}
use Rattle.text.specs.definitions.Grammar.{member_after}
use Rattle.text.specs.definitions.Tokens.{COLON, NAME}
use Rattle.text.proofs.grammar.member.Goals as goal

pub returns-in_err-name : goal.returns-in_err-name
unfolding member_after
returns-in_err-name c s start =
    unfit
    (expect_answers NAME c.in_err-name.ensures λ n.
    refused)
    (search rules)

pub returns-in_err-colon : goal.returns-in_err-colon
unfolding member_after
returns-in_err-colon c s start =
    unfit
    (expect_answers NAME c.in_ok-name.ensures λ n.
    expect_answers COLON c.in_err-colon.ensures λ t.
    refused)
    (search rules)

pub returns : goal.returns
unfolding member_after
returns c s start =
    expect_answers NAME c.in_ok-name.ensures λ n.
    expect_answers COLON c.in_ok-colon.ensures λ t.
    and_give_answers c.kind.ensures _
