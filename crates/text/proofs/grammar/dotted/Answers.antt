-- What is left of `dotted`.
use Rattle.std.proofs.Common.{rules}
use Rattle.text.proofs.laws.CodeReaderLaws.{expect_answers, give_answers, refused, unfit}
use Rattle.text.specs.definitions.Grammar.{member_reader}
use Rattle.text.specs.definitions.Tokens.{DOT, NAME}
use Rattle.text.proofs.grammar.dotted.Goals as goal

pub returns-in_err-name : goal.returns-in_err-name
unfolding member_reader
returns-in_err-name c =
    unfit
    (expect_answers NAME c.in_err-name.ensures λ n.
    refused)
    (search rules)

pub returns-in_err-dot : goal.returns-in_err-dot
unfolding member_reader
returns-in_err-dot c =
    unfit
    (expect_answers NAME c.in_ok-name.ensures λ n.
    expect_answers DOT c.in_err-dot.ensures λ t.
    refused)
    (search rules)

pub returns : goal.returns
unfolding member_reader
returns c =
    expect_answers NAME c.in_ok-name.ensures λ n.
    expect_answers DOT c.in_ok-dot.ensures λ t.
    expect_answers NAME c.token-3.ensures λ m.
    give_answers _ _
