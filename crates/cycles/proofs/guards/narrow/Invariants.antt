-- What the loop of `narrow` keeps.
use Rattle.cycles.specs.inner_contracts.GuardKinds.{Narrowed}
use Rattle.cycles.proofs.guards.narrow.Given as goal

abbrev pub invariant-loop-guard : goal.invariant-loop-guard
invariant-loop-guard l =
    Narrowed l.worlds.rules.now.columns.classes.now l.worlds.rules.now.literals.now l.worlds.rules.now.references.now l.worlds.stores.now.current.flags l.worlds.stores.now.current.cells l.worlds.stores.now.previous.flags l.worlds.stores.now.previous.cells l.worlds.b l.guards
    l.candidates.level l.candidates.first l.candidates.end l.fn.marks l.marks
