-- What is left of `rule_fault`.
use Rattle.checking.proofs.steps.CountScanLaws.{ruling_starts}
use Rattle.checking.specs.inner_contracts.FoundFaults.{found_as}
use Rattle.std.proofs.Common.{refl}
use Rattle.checking.proofs.counts.rule_fault.Goals as goal

pub loop-i-init : goal.loop-i-init
unfolding found_as
loop-i-init c = ruling_starts _ _ _ _ refl
