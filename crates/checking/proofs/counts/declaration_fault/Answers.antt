-- What is left of `declaration_fault`.
use Rattle.checking.proofs.steps.CountScanLaws.{declaring_starts}
use Rattle.checking.specs.inner_contracts.FoundFaults.{found_as}
use Rattle.std.proofs.Common.{refl}
use Rattle.checking.proofs.counts.declaration_fault.Goals as goal

pub loop-i-init : goal.loop-i-init
unfolding found_as
loop-i-init c = declaring_starts _ _ _ refl
