-- Of which rules the writes are left.
use Rattle.cycles.proofs.steps.RulePuts.{RulesLeft}
use Rattle.cycles.proofs.bindings.try_rules.Given as goal

abbrev pub invariant-loop-k : goal.invariant-loop-k
invariant-loop-k l =
    RulesLeft l.rules.columns.classes.now l.rules.literals.now l.rules.columns.d.now l.rules.references.now l.rules.scopes.now l.stores.current.flags l.stores.current.cells l.stores.previous.flags l.stores.previous.cells l.set l.fn.area l.k l.area
