-- What is left of `next_is`.
use Rattle.text.proofs.laws.CodeReaderLaws.{class_passes}
use Rattle.text.proofs.grammar.next_is.Goals as goal

pub returns : goal.returns
returns c = class_passes _ _ _ (rw c.next.ensures at c.eq.ensures)
