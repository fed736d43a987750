-- What is left of `+atom_condition_conjunction`.
use Rattle.checking.proofs.steps.RuleWalks.{both_checked, closed_condition, either_checked}
use Rattle.std.proofs.Common.{eq-eqb, ne_eqb, refl, sym, ◌∙◌}
use Rattle.text.proofs.laws.ConditionWalks.{atom_clause, atom_closed, atom_round, condition_begins, conjunction_begins}
use Rattle.text.proofs.laws.WalkLaws.{chain_turns, turn_less, walk_next, walk_stops}
use Rattle.text.specs.definitions.Grammar.{is_and, is_or}
use Rattle.text.specs.definitions.Tokens.{AND, OR}
use Rattle.checking.proofs.conditions.+atom_condition_conjunction.Goals as goal

pub atom-returns-then-depth-eq0 : goal.atom-returns-then-depth-eq0
atom-returns-then-depth-eq0 t c = atom_closed _ c.if-depth-eq0.true c.clause.ensures

pub atom-returns-then-class_at-ne-ROUND_OPEN : goal.atom-returns-then-class_at-ne-ROUND_OPEN
atom-returns-then-class_at-ne-ROUND_OPEN t c = atom_clause _ c.if-depth-eq0.false (λ z. c.if-class_at-ne-ROUND_OPEN.true (c.class_at.ensures ∙ z)) c.clause-then-class_at-ne-ROUND_OPEN.ensures

pub atom-returns : goal.atom-returns
atom-returns t c =
    atom_round _ c.if-depth-eq0.false (sym c.class_at.ensures ∙ c.if-class_at-ne-ROUND_OPEN.false) c.skip.ensures c.condition-inside.ensures c.skip-2.ensures
    λ w a x. closed_condition w a x

pub condition-loop-right-init : goal.condition-loop-right-init
condition-loop-right-init t c = condition_begins _ c.conjunction-left.ensures

pub condition-loop-right-smaller : goal.condition-loop-right-smaller
unfolding is_or
condition-loop-right-smaller t c =
    turn_less is_or c.args.columns.now.classes.now refl (eq-eqb _ OR (sym c.class_at.ensures ∙ c.loop-right-test.true))
    c.skip.ensures c.conjunction-right.ensures.onward c.joined-left.ensures.next_is

pub condition-loop-right-preserved : goal.condition-loop-right-preserved
unfolding is_or
condition-loop-right-preserved t c =
    chain_turns _ _ _ _ _ c.loop-right.invariant refl (eq-eqb _ OR (sym c.class_at.ensures ∙ c.loop-right-test.true))
    c.skip.ensures (walk_next c.joined-left.ensures.next_is c.conjunction-right.ensures)
    λ w a b s x y. either_checked c.joined-left.ensures w _ a b x y

pub condition-returns : goal.condition-returns
unfolding is_or
condition-returns t c = walk_stops _ _ _ _ c.loop-right.invariant (ne_eqb _ OR (λ z. c.loop-right-test.false (c.class_at.ensures ∙ z)))

pub conjunction-loop-right-init : goal.conjunction-loop-right-init
conjunction-loop-right-init t c = conjunction_begins _ c.atom-left.ensures

pub conjunction-loop-right-smaller : goal.conjunction-loop-right-smaller
unfolding is_and
conjunction-loop-right-smaller t c =
    turn_less is_and c.args.columns.now.classes.now refl (eq-eqb _ AND (sym c.class_at.ensures ∙ c.loop-right-test.true))
    c.skip.ensures c.atom-right.ensures.onward c.joined-left.ensures.next_is

pub conjunction-loop-right-preserved : goal.conjunction-loop-right-preserved
unfolding is_and
conjunction-loop-right-preserved t c =
    chain_turns _ _ _ _ _ c.loop-right.invariant refl (eq-eqb _ AND (sym c.class_at.ensures ∙ c.loop-right-test.true))
    c.skip.ensures (walk_next c.joined-left.ensures.next_is c.atom-right.ensures)
    λ w a b s x y. both_checked c.joined-left.ensures w _ a b x y

pub conjunction-returns : goal.conjunction-returns
unfolding is_and
conjunction-returns t c = walk_stops _ _ _ _ c.loop-right.invariant (ne_eqb _ AND (λ z. c.loop-right-test.false (c.class_at.ensures ∙ z)))
