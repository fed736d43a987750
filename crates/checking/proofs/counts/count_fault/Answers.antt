-- What is left of `count_fault`.
use Rattle.checking.proofs.steps.ColumnCountLaws.{count_checked}
use Rattle.checking.proofs.counts.count_fault.Goals as goal

pub returns : goal.returns
returns c = count_checked _ _ _ _ _ _ c.first_of-rules.ensures c.declaration_fault.ensures c.rule_fault.ensures c.earlier.ensures
