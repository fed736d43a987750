-- What is left of `clause`.
use Rattle.cycles.proofs.steps.ConditionValues.{and_asked, and_not_asked, clause_is}
use Rattle.std.proofs.Common.{refl}
use Rattle.cycles.proofs.conditions.clause.Goals as goal
use Rattle.cycles.proofs.conditions.clause.Goals.{then-is_present_at, else-is_present_at}

pub returns-then-f : goal.returns-then-f
returns-then-f c =
    clause_is _ c.skip-name.ensures c.skip-from.ensures c.skip-target.ensures c.target_end-end.ensures c.owner.ensures c.bound-e.ensures
    c.member-m.ensures c.filter-f.ensures c.skip.ensures c.test-t.ensures c.is_present_at.ensures
    (elim c.if-is_present_at.branch [
      | then-is_present_at w ↦ and_asked w.if-is_present_at.true w.value-is
      | else-is_present_at w ↦ and_not_asked _ w.if-is_present_at.false w.value-is
    ])
    (and_asked c.if-f.true refl)

pub returns-else-f : goal.returns-else-f
returns-else-f c =
    clause_is _ c.skip-name.ensures c.skip-from.ensures c.skip-target.ensures c.target_end-end.ensures c.owner.ensures c.bound-e.ensures
    c.member-m.ensures c.filter-f.ensures c.skip.ensures c.test-t.ensures c.is_present_at.ensures
    (elim c.if-is_present_at.branch [
      | then-is_present_at w ↦ and_asked w.if-is_present_at.true w.value-is
      | else-is_present_at w ↦ and_not_asked _ w.if-is_present_at.false w.value-is
    ])
    (and_not_asked _ c.if-f.false refl)
