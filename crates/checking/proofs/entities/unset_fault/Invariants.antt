-- What the loop of `unset_fault` keeps.
use Rattle.checking.specs.inner_contracts.OfColumns.{of_file}
use Rattle.checking.proofs.steps.UnsetLaws.{Settled}
use Rattle.checking.proofs.entities.unset_fault.Given as goal

abbrev pub invariant-loop-m : goal.invariant-loop-m
invariant-loop-m l = of_file Settled l.columns l.face l.from l.to l.m
