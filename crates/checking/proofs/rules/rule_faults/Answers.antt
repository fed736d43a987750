-- What is left of `rule_faults`.
use Rattle.checking.proofs.steps.RuleWalks.{rule_found}
use Rattle.checking.proofs.rules.rule_faults.Goals as goal

pub returns : goal.returns
returns c =
    rule_found c.skip.ensures c.priority_end.ensures c.condition-c.ensures c.skip-2.ensures c.call-first.ensures c.further_calls-others.ensures
    c.joined.ensures c.joined-2.ensures c.repeated-again.ensures c.earlier.ensures
