-- What is left of `atom`, `condition` and `conjunction`.
use Rattle.cycles.proofs.steps.ConditionValues.{and_asked, and_joins, and_not_asked, atom_inside, atom_is_clause, condition_turns, conditions_stop, or_asked, or_joins, or_not_asked}
use Rattle.std.proofs.Common.{refl}
use Rattle.text.proofs.laws.ConditionWalks.{atom_closed, condition_begins, conjunction_begins}
use Rattle.cycles.proofs.conditions.+atom_condition_conjunction.Goals as goal
use Rattle.cycles.proofs.conditions.+atom_condition_conjunction.Goals.{atom-then-depth-eq0-via-then-depth-eq0, atom-then-depth-eq0-via-else-depth-eq0+then-class_at-ne-ROUND_OPEN}

pub atom-returns-then-depth-eq0 : goal.atom-returns-then-depth-eq0
atom-returns-then-depth-eq0 t c = elim c.then-depth-eq0.branch [
  | atom-then-depth-eq0-via-then-depth-eq0 w ↦ atom_closed _ w.if-depth-eq0.true c.clause.ensures
  | atom-then-depth-eq0-via-else-depth-eq0+then-class_at-ne-ROUND_OPEN w ↦
      atom_is_clause _ w.if-depth-eq0.false w.class_at.ensures w.if-class_at-ne-ROUND_OPEN.true c.clause.ensures
]

pub atom-returns : goal.atom-returns
atom-returns t c = atom_inside _ c.if-depth-eq0.false c.class_at.ensures c.if-class_at-ne-ROUND_OPEN.false c.skip.ensures c.condition-x.ensures c.skip-2.ensures

pub condition-loop-right-init : goal.condition-loop-right-init
condition-loop-right-init t c = condition_begins _ c.conjunction-left.ensures

pub condition-loop-right-preserved-then-left : goal.condition-loop-right-preserved-then-left
condition-loop-right-preserved-then-left t c =
    condition_turns or_joins _ c.loop-right.invariant c.class_at.ensures c.loop-right-test.true c.skip.ensures c.conjunction-right.ensures
    (or_not_asked _ c.if-left.true refl)

pub condition-loop-right-preserved : goal.condition-loop-right-preserved
condition-loop-right-preserved t c =
    condition_turns or_joins _ c.loop-right.invariant c.class_at.ensures c.loop-right-test.true c.skip.ensures c.conjunction-right.ensures
    (or_asked c.if-left.false refl)

pub condition-returns : goal.condition-returns
condition-returns t c = conditions_stop or_joins _ c.loop-right.invariant c.class_at.ensures c.loop-right-test.false

pub conjunction-loop-right-init : goal.conjunction-loop-right-init
conjunction-loop-right-init t c = conjunction_begins _ c.atom-left.ensures

pub conjunction-loop-right-preserved-then-left : goal.conjunction-loop-right-preserved-then-left
conjunction-loop-right-preserved-then-left t c =
    condition_turns and_joins _ c.loop-right.invariant c.class_at.ensures c.loop-right-test.true c.skip.ensures c.atom-right.ensures
    (and_asked c.if-left.true refl)

pub conjunction-loop-right-preserved : goal.conjunction-loop-right-preserved
conjunction-loop-right-preserved t c =
    condition_turns and_joins _ c.loop-right.invariant c.class_at.ensures c.loop-right-test.true c.skip.ensures c.atom-right.ensures
    (and_not_asked _ c.if-left.false refl)

pub conjunction-returns : goal.conjunction-returns
conjunction-returns t c = conditions_stop and_joins _ c.loop-right.invariant c.class_at.ensures c.loop-right-test.false
