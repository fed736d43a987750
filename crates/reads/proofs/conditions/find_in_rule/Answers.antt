-- What is left of `find_in_rule`.
use Rattle.std.proofs.Common.{sym, ◌∙◌}
use Rattle.reads.proofs.steps.ScanSteps.{scanning_starts, scanning_passes, scanning_adds, scanning_ends, scanning_over}
use Rattle.reads.proofs.conditions.find_in_rule.Goals as goal

pub loop-i-init : goal.loop-i-init
loop-i-init c = scanning_starts c.row-first.ensures.0

pub returns-then-class-eq-ACTION : goal.returns-then-class-eq-ACTION
returns-then-class-eq-ACTION c = scanning_ends c.loop-i.invariant c.class_at-class.ensures c.if-class-eq-ACTION.true

pub loop-i-preserved-then-not-is_before_member : goal.loop-i-preserved-then-not-is_before_member
loop-i-preserved-then-not-is_before_member c =
    scanning_passes c.loop-i.invariant c.class_at-class.ensures c.if-class-eq-ACTION.false
    (sym c.is_before_member.ensures ∙ c.if-not-is_before_member.true)

pub loop-i-preserved : goal.loop-i-preserved
loop-i-preserved c =
    scanning_adds c.loop-i.invariant c.class_at-class.ensures (sym c.is_before_member.ensures ∙ c.if-not-is_before_member.false) c.add_mention.ensures

pub returns : goal.returns
returns c = scanning_over c.loop-i.invariant c.loop-i-test.false
