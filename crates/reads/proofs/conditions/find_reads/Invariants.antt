-- What the loop of `find_reads` keeps.
use Rattle.cycles.specs.inner_contracts.Bundles.{of_members}
use Rattle.reads.proofs.steps.RuleSteps.{Finding}
use Rattle.reads.proofs.conditions.find_reads.Given as goal

abbrev pub invariant-loop-k : goal.invariant-loop-k
invariant-loop-k l = of_members Finding l.columns l.refs l.initial.scopes l.k l.scopes
