-- What is left of `priority_fault`.
use Rattle.checking.proofs.steps.PriorityScanLaws.{prioritizing_starts}
use Rattle.checking.specs.inner_contracts.FoundFaults.{found_as}
use Rattle.std.proofs.Common.{refl}
use Rattle.checking.proofs.priorities.priority_fault.Goals as goal

pub loop-i-init : goal.loop-i-init
unfolding found_as
loop-i-init c = prioritizing_starts _ _ _ _ refl
