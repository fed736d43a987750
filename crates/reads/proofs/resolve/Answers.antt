-- What is left of `resolve`.
use Rattle.reads.proofs.steps.RuleSteps.{rules_resolved}
use Rattle.reads.proofs.resolve.Goals as goal

pub returns : goal.returns
returns c = rules_resolved c.requires.1 c.resolve.ensures c.find_reads.ensures
