-- What the loop of `link_entities` keeps.
use Rattle.checking.proofs.steps.LinkLaws.{Linking}
use Rattle.checking.proofs.entities.link_entities.Given as goal

abbrev pub invariant-loop-e : goal.invariant-loop-e
invariant-loop-e l = Linking l.text l.offsets l.lengths l.fn.d l.d l.e
