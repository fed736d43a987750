-- What is left of `file`.
use Rattle.std.proofs.Common.{rules, []}
use Rattle.text.proofs.laws.CodeReaderLaws.{and_then_answers, expect_answers, give_answers, refused, unfit}
use Rattle.text.specs.definitions.Grammar.{file_reader}
use Rattle.text.specs.definitions.Tokens.{END, RULES}
use Rattle.text.proofs.grammar.file.Goals as goal

pub returns-in_err-interfaces : goal.returns-in_err-interfaces
unfolding file_reader
returns-in_err-interfaces c =
    unfit
    (and_then_answers c.in_err-interfaces.ensures [] λ is.
    refused)
    (search rules)

pub returns-in_err-entities : goal.returns-in_err-entities
unfolding file_reader
returns-in_err-entities c =
    unfit
    (and_then_answers c.in_ok-interfaces.ensures [] λ is.
    and_then_answers c.in_err-entities.ensures [] λ es.
    refused)
    (search rules)

pub returns-in_err-start : goal.returns-in_err-start
unfolding file_reader
returns-in_err-start c =
    unfit
    (and_then_answers c.in_ok-interfaces.ensures [] λ is.
    and_then_answers c.in_ok-entities.ensures [] λ es.
    expect_answers RULES c.in_err-start.ensures λ t.
    refused)
    (search rules)

pub returns-in_err-rules : goal.returns-in_err-rules
unfolding file_reader
returns-in_err-rules c =
    unfit
    (and_then_answers c.in_ok-interfaces.ensures [] λ is.
    and_then_answers c.in_ok-entities.ensures [] λ es.
    expect_answers RULES c.in_ok-start.ensures λ t.
    and_then_answers c.in_err-rules.ensures [] λ rs.
    refused)
    (search rules)

pub returns : goal.returns
unfolding file_reader
returns c =
    and_then_answers c.in_ok-interfaces.ensures [] λ is.
    and_then_answers c.in_ok-entities.ensures [] λ es.
    expect_answers RULES c.in_ok-start.ensures λ t.
    and_then_answers c.in_ok-rules.ensures [] λ rs.
    expect_answers END c.token-2.ensures λ u.
    give_answers _ _
