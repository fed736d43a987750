-- What is left of `narrow_by`.
use Rattle.cycles.proofs.steps.GuardLaws.{by_change, by_group, by_value_before, by_value_now, taken_for}
use Rattle.std.proofs.Common.{rules}
use Rattle.cycles.proofs.guards.narrow_by.Goals as goal

pub returns-in-EqualNow : goal.returns-in-EqualNow
returns-in-EqualNow c = taken_for (λ e. by_value_now c.in-EqualNow.is) c.keep_by_value.ensures

pub returns-in-UnequalBefore : goal.returns-in-UnequalBefore
returns-in-UnequalBefore c = taken_for (λ e. by_value_before c.in-UnequalBefore.is) c.keep_by_value-in-UnequalBefore.ensures

pub returns-in-Changes : goal.returns-in-Changes
returns-in-Changes c = taken_for (λ e f. by_change c.in-Changes.is (record { binding = f.binding; added = f.added; fails = search rules })) c.keep.ensures

pub returns-in-Holds : goal.returns-in-Holds
returns-in-Holds c = taken_for (λ e f. by_group c.in-Holds.is (record { binding = f.binding; added = f.added; fails = search rules })) c.keep-in-Holds.ensures
