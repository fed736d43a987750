-- What the loop of `further_calls` keeps.
use Rattle.cycles.proofs.steps.CallWrites.{CallsLoop}
use Rattle.std.proofs.Common.{length, ◌-◌}
use Rattle.cycles.proofs.calls.further_calls.Given as goal

abbrev pub invariant-loop-i : goal.invariant-loop-i
invariant-loop-i l = CallsLoop l.world.rules.now.columns.classes.now l.world.rules.now.literals.now l.world.rules.now.references.now l.world.b l.world.store.now.flags l.world.store.now.cells l.priority l.fn.area l.at l.area l.i

abbrev pub decreases-loop-i : goal.decreases-loop-i
decreases-loop-i l = length l.world.rules.now.columns.classes.now - l.i
