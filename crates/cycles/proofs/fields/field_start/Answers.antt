-- What is left of `field_start`.
use Rattle.cycles.proofs.laws.FieldLaws.{runs_more, starts_after_mark}
use Rattle.std.proofs.Common.{◌≡◌, ◌+◌, ◌-◌, arith}
use Rattle.cycles.proofs.fields.field_start.Goals as goal

pub returns-then-line-i : goal.returns-then-line-i
returns-then-line-i c =
    let n : c.loop-i.i - 1 + 1 ≡ c.loop-i.i = omega arith in
    rw n (starts_after_mark _ _ _ _ c.loop-i.invariant c.loop-i-test.true c.requires c.if-line-i.true)

pub loop-i-preserved : goal.loop-i-preserved
loop-i-preserved c = runs_more _ _ _ _ c.loop-i.invariant c.loop-i-test.true c.requires c.if-line-i.false
