-- What the loop of `find_in_rule` keeps.
use Rattle.cycles.specs.inner_contracts.Bundles.{of_members}
use Rattle.reads.proofs.steps.ScanSteps.{Scanning}
use Rattle.reads.proofs.conditions.find_in_rule.Given as goal

abbrev pub invariant-loop-i : goal.invariant-loop-i
invariant-loop-i l = of_members Scanning l.columns l.refs l.k l.fn.scopes l.i l.scopes
