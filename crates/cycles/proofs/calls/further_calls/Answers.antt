-- What is left of `further_calls`.
use Rattle.cycles.proofs.steps.CallWrites.{call_turns, calls_begin, calls_stop}
use Rattle.cycles.proofs.calls.further_calls.Goals as goal

pub loop-i-init : goal.loop-i-init
loop-i-init c = calls_begin _ _

pub loop-i-preserved : goal.loop-i-preserved
loop-i-preserved c = call_turns _ _ c.loop-i.invariant c.class_at.ensures c.loop-i-test.true c.skip.ensures c.call-i.ensures

pub returns : goal.returns
returns c = calls_stop _ _ c.loop-i.invariant c.class_at.ensures c.loop-i-test.false
