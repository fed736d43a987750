-- What is left of `further_calls`.
use Rattle.checking.proofs.steps.RuleWalks.{further_checked, no_call_checked}
use Rattle.checking.specs.inner_contracts.RuleParts.{CallYields}
use Rattle.std.proofs.Common.{arith, eq-eqb, refl, sym, ◌∙◌}
use Rattle.std.specs.Prelude.{eqb}
use Rattle.text.proofs.laws.WalkLaws.{loop_next, many_begins, many_stops, many_turns, turn_less, walk_next}
use Rattle.text.specs.definitions.Grammar.{call_after}
use Rattle.text.specs.definitions.Tokens.{COMMA}
use Rattle.checking.proofs.conditions.further_calls.Goals as goal

pub loop-c-init : goal.loop-c-init
loop-c-init c = loop_next c.nothing-before.ensures.next_is (many_begins _ (CallYields _ _ _ _ _ _) _ _ _ _ λ w. no_call_checked c.nothing-before.ensures w)

pub loop-c-smaller : goal.loop-c-smaller
loop-c-smaller c =
    turn_less (λ k. eqb k COMMA) c.args.columns.now.classes.now refl (eq-eqb _ COMMA (sym c.class_at.ensures ∙ c.loop-c-test.true))
    c.skip.ensures c.call-c.ensures.onward c.joined-before.ensures.next_is

pub loop-c-preserved : goal.loop-c-preserved
unfolding call_after
loop-c-preserved c =
    many_turns _ (CallYields _ _ _ _ _ _) _ _ _ c.loop-c.invariant (omega arith) (sym c.class_at.ensures ∙ c.loop-c-test.true)
    c.skip.ensures (walk_next c.joined-before.ensures.next_is c.call-c.ensures).onward
    (λ w l. (walk_next c.joined-before.ensures.next_is c.call-c.ensures).means w (omega arith))
    λ w xs a s x y. further_checked c.joined-before.ensures w xs a x y

pub returns : goal.returns
returns c = many_stops _ (CallYields _ _ _ _ _ _) _ _ _ c.loop-c.invariant (λ z. c.loop-c-test.false (c.class_at.ensures ∙ z))
