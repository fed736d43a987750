-- What is left of `next_is_unsigned`.
use Rattle.text.proofs.laws.CodeReaderLaws.{first_of_two, second_of_two, unsigned_first, unsigned_second}
use Rattle.text.specs.inner_contracts.ParseAnswers.{is_unsigned}
use Rattle.text.proofs.grammar.next_is_unsigned.Goals as goal

pub returns-then-next_is_either : goal.returns-then-next_is_either
returns-then-next_is_either c = rw c.if-next_is_either.true (first_of_two {k = is_unsigned} unsigned_first c.if-next_is_either.ensures)

pub returns-else-next_is_either : goal.returns-else-next_is_either
returns-else-next_is_either c = second_of_two {k = is_unsigned} unsigned_second c.if-next_is_either.ensures c.next_is_either-else-next_is_either.ensures
