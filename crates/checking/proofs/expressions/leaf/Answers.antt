-- What is left of `leaf`.
use Rattle.checking.specs.inner_contracts.RuleParts.{world_scope}
use Rattle.std.proofs.Common.{refl, sym, ◌∙◌}
use Rattle.text.proofs.laws.ExpressionWalks.{leaf_end, leaf_false, leaf_member, leaf_other, leaf_real, leaf_true, leaf_whole}
use Rattle.text.proofs.laws.WalkLaws.{walk_next}
use Rattle.text.specs.definitions.Syntax.{literal_kind}
use Rattle.checking.proofs.expressions.leaf.Goals as goal

pub returns-then-size-at : goal.returns-then-size-at
returns-then-size-at c = walk_next c.literal.ensures.next_is (leaf_end c.if-size-at.true)

pub returns-then-class-eq-NAME : goal.returns-then-class-eq-NAME
returns-then-class-eq-NAME c = leaf_member (sym c.class_at-class.ensures ∙ c.if-class-eq-NAME.true) c.member.ensures

pub returns-then-class-eq-TRUE : goal.returns-then-class-eq-TRUE
unfolding literal_kind
returns-then-class-eq-TRUE c =
    walk_next c.literal-then-class-eq-TRUE.ensures.next_is
    (leaf_true (sym c.class_at-class.ensures ∙ c.if-class-eq-TRUE.true) c.skip-next.ensures λ w. c.literal-then-class-eq-TRUE.ensures.checked (world_scope w) _ refl)

pub returns-then-class-eq-FALSE : goal.returns-then-class-eq-FALSE
unfolding literal_kind
returns-then-class-eq-FALSE c =
    walk_next c.literal-then-class-eq-FALSE.ensures.next_is
    (leaf_false (sym c.class_at-class.ensures ∙ c.if-class-eq-FALSE.true) c.skip-next.ensures λ w. c.literal-then-class-eq-FALSE.ensures.checked (world_scope w) _ refl)

pub returns-then-class-eq-WHOLE_NUMBER : goal.returns-then-class-eq-WHOLE_NUMBER
unfolding literal_kind
returns-then-class-eq-WHOLE_NUMBER c =
    walk_next c.literal-then-class-eq-WHOLE_NUMBER.ensures.next_is
    (leaf_whole (sym c.class_at-class.ensures ∙ c.if-class-eq-WHOLE_NUMBER.true) c.skip-next.ensures λ w s. c.literal-then-class-eq-WHOLE_NUMBER.ensures.checked (world_scope w) _ refl)

pub returns-then-class-eq-REAL_NUMBER : goal.returns-then-class-eq-REAL_NUMBER
unfolding literal_kind
returns-then-class-eq-REAL_NUMBER c =
    walk_next c.literal-then-class-eq-REAL_NUMBER.ensures.next_is
    (leaf_real (sym c.class_at-class.ensures ∙ c.if-class-eq-REAL_NUMBER.true) c.skip-next.ensures λ w s. c.literal-then-class-eq-REAL_NUMBER.ensures.checked (world_scope w) _ refl)

pub returns : goal.returns
returns c =
    walk_next c.literal-2.ensures.next_is
    (leaf_other (λ z. c.if-class-eq-NAME.false (c.class_at-class.ensures ∙ z)) (λ z. c.if-class-eq-TRUE.false (c.class_at-class.ensures ∙ z)) (λ z. c.if-class-eq-FALSE.false (c.class_at-class.ensures ∙ z)) (λ z. c.if-class-eq-WHOLE_NUMBER.false (c.class_at-class.ensures ∙ z)) (λ z. c.if-class-eq-REAL_NUMBER.false (c.class_at-class.ensures ∙ z)))
