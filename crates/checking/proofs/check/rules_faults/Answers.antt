-- What is left of `rules_faults`.
use Rattle.std.proofs.Common.{arith, refl}
use Rattle.checking.specs.inner_contracts.FoundFaults.{found_as}
use Rattle.checking.proofs.steps.RulesLaws.{ruled_none, ruled_next, ruled_all}
use Rattle.checking.proofs.check.rules_faults.Goals as goal

pub loop-k-init : goal.loop-k-init
unfolding found_as
loop-k-init c = ruled_none refl refl

pub loop-k-preserved : goal.loop-k-preserved
loop-k-preserved c =
    ruled_next c.rules-k-end.ensures c.loop-k.invariant (omega arith) c.row.ensures.0 c.rule_faults.ensures c.join-found.ensures.names c.join-found.ensures.kinds

pub returns : goal.returns
returns c = ruled_all c.rules-k-end.ensures c.loop-k.invariant (omega arith)
