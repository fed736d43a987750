-- What is left of `priority`.
use Rattle.text.proofs.laws.CodeReaderLaws.{chosen_answers, expect_answers, give_answers, if_not_answers, seen, unseen}
use Rattle.text.specs.definitions.Grammar.{priority_reader}
use Rattle.text.specs.definitions.Tokens.{WHOLE_NUMBER}
use Rattle.text.proofs.grammar.priority.Goals as goal

pub returns-then-not-next_is : goal.returns-then-not-next_is
unfolding priority_reader
returns-then-not-next_is c = if_not_answers (unseen c.if-not-next_is.ensures) _ (give_answers _ _)

pub returns : goal.returns
unfolding priority_reader
returns c =
    chosen_answers (seen c.if-not-next_is.ensures) _ λ t.
    expect_answers WHOLE_NUMBER c.token.ensures λ n.
    give_answers _ _
