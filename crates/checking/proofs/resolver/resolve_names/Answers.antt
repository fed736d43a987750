-- What is left of `resolve_names`.
use Rattle.checking.proofs.steps.ResolvedNames.{naming_ends, naming_name, naming_other, naming_when}
use Rattle.checking.proofs.resolver.resolve_names.Goals as goal

pub loop-i-preserved-then-class-eq-WHEN : goal.loop-i-preserved-then-class-eq-WHEN
loop-i-preserved-then-class-eq-WHEN c = naming_when c.loop-i.invariant c.class_at-class.ensures c.if-class-eq-WHEN.true

pub loop-i-preserved-then-class-ne-NAME : goal.loop-i-preserved-then-class-ne-NAME
loop-i-preserved-then-class-ne-NAME c =
    naming_other c.loop-i.invariant c.class_at-class.ensures c.if-class-eq-WHEN.false c.if-class-ne-NAME.true

pub loop-i-preserved : goal.loop-i-preserved
loop-i-preserved c =
    naming_name c.loop-i.invariant c.class_at-class.ensures c.if-class-eq-WHEN.false c.requires c.loop-i-test.true c.row_resolved.ensures

pub returns : goal.returns
returns c = naming_ends c.loop-i.invariant c.loop-i-test.false
