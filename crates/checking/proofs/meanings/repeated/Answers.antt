-- What is left of `repeated`.
use Rattle.checking.proofs.steps.RuleNames.{repeating_end, repeating_over}
use Rattle.checking.proofs.meanings.repeated.Goals as goal

pub returns-then-class-eq-END : goal.returns-then-class-eq-END
returns-then-class-eq-END c = repeating_end c.loop-n.invariant c.class_at-class.ensures c.if-class-eq-END.true

pub returns : goal.returns
returns c = repeating_over c.loop-n.invariant c.loop-n-test.false
