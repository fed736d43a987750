-- The cells of the entities before number e are what is kept, and of its members before number m.
use Rattle.senders.proofs.steps.KeptSteps.{KeptSoFar}
use Rattle.std.proofs.Common.{◌*◌, ◌+◌}
use Rattle.senders.proofs.parts.put_kept.Given as goal

abbrev pub invariant-loop-e : goal.invariant-loop-e
invariant-loop-e l = KeptSoFar l.columns.classes.now l.columns.d.now l.fn.inputs l.fired (12 * l.e) l.fn.inputs l.inputs

abbrev pub invariant-loop-m : goal.invariant-loop-m
invariant-loop-m l = KeptSoFar l.columns.classes.now l.columns.d.now l.fn.inputs l.fired (12 * l.e + l.m) l.fn.inputs l.inputs
