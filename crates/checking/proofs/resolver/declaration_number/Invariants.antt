-- What the loop of `declaration_number` keeps.
use Rattle.checking.proofs.steps.ScopeLaws.{Counting}
use Rattle.checking.proofs.resolver.declaration_number.Given as goal

abbrev pub invariant-loop-n : goal.invariant-loop-n
invariant-loop-n l = Counting l.classes l.start l.v l.n l.left
