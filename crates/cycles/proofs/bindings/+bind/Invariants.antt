-- The measure is how many variables may still get an entity; the loop keeps which writes are left.
use Rattle.cycles.proofs.steps.BindingPuts.{TurnsLeft}
use Rattle.std.proofs.Common.{◌-◌}
use Rattle.cycles.proofs.bindings.+bind.Given as goal

abbrev pub decreases-bind : goal.decreases-bind
decreases-bind l = 3 - l.level

abbrev pub invariant-loop-e : goal.invariant-loop-e
invariant-loop-e l =
    TurnsLeft l.worlds.rules.now.columns.classes.now l.worlds.rules.now.literals.now l.worlds.rules.now.columns.d.now l.worlds.rules.now.references.now l.worlds.rules.now.scopes.now l.worlds.stores.now.current.flags l.worlds.stores.now.current.cells l.worlds.stores.now.previous.flags l.worlds.stores.now.previous.cells l.trial.k l.level l.worlds.b l.fn.area l.e l.area
