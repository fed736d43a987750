-- What is left of `rule_at`.
use Rattle.cycles.proofs.steps.CallWrites.{rule_fires, rule_idle}
use Rattle.std.proofs.lemmas.Bool.{not-false, not-true}
use Rattle.cycles.proofs.calls.rule_at.Goals as goal

pub returns-then-not-c : goal.returns-then-not-c
returns-then-not-c c = rule_idle c.priority_end.ensures c.condition-c.ensures (not-true _ c.if-not-c.true)

pub returns : goal.returns
returns c =
    rule_fires c.priority_end.ensures c.condition-c.ensures (not-false _ c.if-not-c.false) c.priority_at-priority.ensures c.skip.ensures
    c.call-next.ensures c.further_calls.ensures
