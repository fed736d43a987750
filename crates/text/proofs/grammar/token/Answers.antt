-- What is left of `token`.
use Rattle.text.proofs.laws.CodeReaderLaws.{seen, seen_answers, unfit_answers, unseen}
use Rattle.text.specs.definitions.Readers.{give}
use Rattle.text.proofs.grammar.token.Goals as goal

pub returns-then-next_is : goal.returns-then-next_is
returns-then-next_is c = seen_answers (seen c.if-next_is.ensures)

pub returns : goal.returns
returns c = unfit_answers (unseen c.if-next_is.ensures) give
