-- What is left of `clause_guards`.
use Rattle.cycles.proofs.steps.GuardWalks.{clause_guards_are}
use Rattle.cycles.proofs.finding.clause_guards.Goals as goal

pub returns : goal.returns
returns c =
    clause_guards_are c.skip-name.ensures c.skip.ensures c.skip-target.ensures c.target_end.ensures c.filter_guard-next.ensures
    c.skip-2.ensures c.test_guards.ensures
