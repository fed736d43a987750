-- What is left of `mark`.
use Rattle.checking.proofs.steps.PlaceLaws.{marking_above, marking_below, marking_full, marking_puts}
use Rattle.checking.proofs.directory.mark.Goals as goal

pub loop-i-preserved-then-class-low : goal.loop-i-preserved-then-class-low
loop-i-preserved-then-class-low c = marking_below _ _ _ _ _ _ _ _ c.loop-i.invariant c.loop-i-test.true c.class_at-class.ensures c.if-class-low.true

pub loop-i-preserved-then-high-class : goal.loop-i-preserved-then-high-class
loop-i-preserved-then-high-class c = marking_above _ _ _ _ _ _ _ _ c.loop-i.invariant c.loop-i-test.true c.class_at-class.ensures c.if-class-low.false c.if-high-class.true

pub loop-i-preserved-then-most-n : goal.loop-i-preserved-then-most-n
loop-i-preserved-then-most-n c = marking_full _ _ _ _ _ _ _ _ c.loop-i.invariant c.loop-i-test.true c.class_at-class.ensures c.if-class-low.false c.if-high-class.false c.if-most-n.true

pub loop-i-preserved : goal.loop-i-preserved
loop-i-preserved c = marking_puts _ _ _ _ _ _ _ _ c.loop-i.invariant c.loop-i-test.true c.class_at-class.ensures c.if-class-low.false c.if-high-class.false c.if-most-n.false c.put.ensures
