-- What is left of `atom_end`.
use Rattle.text.proofs.steps.EndLaws.{answer_ends}
use Rattle.text.proofs.walks.atom_end.Goals as goal

pub returns : goal.returns
returns c = answer_ends c.atom.result c.atom.ensures c.unwrap_or.ensures
