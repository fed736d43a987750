-- What is left of `next_is_either`.
use Rattle.text.proofs.laws.CodeReaderLaws.{either_first, either_second, first_of_two, second_of_two}
use Rattle.text.specs.inner_contracts.ParseAnswers.{is_either}
use Rattle.text.proofs.grammar.next_is_either.Goals as goal

pub returns-then-next_is : goal.returns-then-next_is
returns-then-next_is c = rw c.if-next_is.true (first_of_two {k = is_either c.args.class c.args.other} (either_first c.args.class c.args.other) c.if-next_is.ensures)

pub returns-else-next_is : goal.returns-else-next_is
returns-else-next_is c = second_of_two {k = is_either c.args.class c.args.other} (either_second c.args.class c.args.other) c.if-next_is.ensures c.next_is-else-next_is.ensures
