-- What is left of `entity_faults`.
use Rattle.std.proofs.Common.{arith, refl}
use Rattle.checking.specs.inner_contracts.FoundFaults.{found_as}
use Rattle.checking.proofs.steps.EntityLaws.{walked_all, walked_next, walked_none}
use Rattle.checking.proofs.entities.entity_faults.Goals as goal

pub loop-e-init : goal.loop-e-init
unfolding found_as
loop-e-init c = walked_none c.entities-count.ensures c.repeated.ensures refl

pub loop-e-preserved : goal.loop-e-preserved
loop-e-preserved c =
    walked_next c.entities-count.ensures c.loop-e.invariant (omega arith) c.faults_of.ensures c.join-found.ensures.names c.join-found.ensures.kinds

pub returns : goal.returns
returns c = walked_all c.entities-count.ensures c.loop-e.invariant (omega arith)
