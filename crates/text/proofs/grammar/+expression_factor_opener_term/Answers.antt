-- What is left of `+expression_factor_opener_term`.
use Rattle.std.proofs.Common.{rules}
use Rattle.text.proofs.laws.CodeGrammarLaws.{factor_halts, factor_name, factor_opens, factor_unsigned, some_expression}
use Rattle.text.proofs.laws.CodeReaderLaws.{and_give_answers, and_then_answers, chain_answers, chain_left, chosen_answers, expect_answers, expect_less, give_answers, goes_on, if_not_answers, joined_answers, refused, seen, seen_less, stops, turn_less, unfit, unseen}
use Rattle.text.specs.definitions.Grammar.{apply_at, expression_reader, opener_reader, term_reader}
use Rattle.text.specs.definitions.Tokens.{MINUS, ROUND_CLOSE, ROUND_OPEN}
use Rattle.text.specs.inner_contracts.ParseAnswers.{is_either}
use Rattle.text.proofs.grammar.+expression_factor_opener_term.Goals as goal

pub expression-returns-in_err-at : goal.expression-returns-in_err-at
unfolding expression_reader term_reader is_either
expression-returns-in_err-at t c =
    unfit (chain_answers apply_at c.in_err-at.ensures _ some_expression λ a. refused) (search rules)

pub expression-term-requires-in-loop-at : goal.expression-term-requires-in-loop-at
expression-term-requires-in-loop-at t c =
    let left = chain_left some_expression c.in_ok-at.ensures c.loop-at.invariant c.loop-at-test.ensures in
    search rules

pub expression-returns-in_err-at-2 : goal.expression-returns-in_err-at-2
unfolding expression_reader term_reader is_either
expression-returns-in_err-at-2 t c =
    let g = goes_on c.loop-at.invariant c.loop-at-test.ensures (joined_answers _ c.in_err-at-2.ensures) in
    unfit (chain_answers apply_at c.in_ok-at.ensures _ some_expression (g.finish _ λ a. refused)) (search rules)

pub expression-loop-at-smaller : goal.expression-loop-at-smaller
expression-loop-at-smaller t c = turn_less c.loop-at-test.ensures c.in_ok-at-2.ensures

pub expression-loop-at-preserved : goal.expression-loop-at-preserved
expression-loop-at-preserved t c = goes_on c.loop-at.invariant c.loop-at-test.ensures (joined_answers _ c.in_ok-at-2.ensures)

pub expression-returns : goal.expression-returns
unfolding expression_reader term_reader is_either
expression-returns t c = chain_answers apply_at c.in_ok-at.ensures _ some_expression (stops c.loop-at.invariant c.loop-at-test.ensures)

pub factor-returns-then-next_is : goal.factor-returns-then-next_is
factor-returns-then-next_is t c = factor_name _ (seen c.if-next_is.ensures) c.dotted.ensures

pub factor-returns-then-next_is_unsigned : goal.factor-returns-then-next_is_unsigned
factor-returns-then-next_is_unsigned t c = factor_unsigned _ c.if-next_is_unsigned.ensures

pub factor-returns-then-depth-eq0 : goal.factor-returns-then-depth-eq0
factor-returns-then-depth-eq0 t c = factor_halts (unseen c.if-next_is.ensures) c.if-next_is_unsigned.ensures c.if-depth-eq0.true

pub factor-returns : goal.factor-returns
factor-returns t c = factor_opens (unseen c.if-next_is.ensures) c.if-next_is_unsigned.ensures _ c.if-depth-eq0.false c.opener.ensures

pub opener-returns-in_err-open : goal.opener-returns-in_err-open
unfolding opener_reader
opener-returns-in_err-open t c =
    unfit (chosen_answers (seen c.if-next_is.ensures) _ λ r. expect_answers ROUND_OPEN c.in_err-open.ensures λ o. refused) (search rules)

pub opener-expression-requires : goal.opener-expression-requires
opener-expression-requires t c =
    let taken = seen_less (seen c.if-next_is.ensures) in
    let opened = expect_less _ c.in_ok-open.ensures in
    search rules

pub opener-returns-in_err-parameter : goal.opener-returns-in_err-parameter
unfolding opener_reader expression_reader
opener-returns-in_err-parameter t c =
    unfit (chosen_answers (seen c.if-next_is.ensures) _ λ r. expect_answers ROUND_OPEN c.in_ok-open.ensures λ o.
    and_then_answers c.in_err-parameter.ensures some_expression λ e. refused) (search rules)

pub opener-returns-then-next_is : goal.opener-returns-then-next_is
unfolding opener_reader expression_reader
opener-returns-then-next_is t c =
    chosen_answers (seen c.if-next_is.ensures) _ λ r.
    expect_answers ROUND_OPEN c.in_ok-open.ensures λ o.
    and_then_answers c.in_ok-parameter.ensures some_expression λ e.
    expect_answers ROUND_CLOSE c.token-then-next_is.ensures λ t.
    give_answers _ _

pub opener-expression-requires-then-next_is-2 : goal.opener-expression-requires-then-next_is-2
opener-expression-requires-then-next_is-2 t c =
    let taken = seen_less (seen c.if-next_is-2.ensures) in
    search rules

pub opener-returns-in_err-enclosed : goal.opener-returns-in_err-enclosed
unfolding opener_reader expression_reader
opener-returns-in_err-enclosed t c =
    unfit (if_not_answers (unseen c.if-next_is.ensures) _
    (chosen_answers (seen c.if-next_is-2.ensures) _ λ o. and_then_answers c.in_err-enclosed.ensures some_expression λ e. refused)) (search rules)

pub opener-returns-then-next_is-2 : goal.opener-returns-then-next_is-2
unfolding opener_reader expression_reader
opener-returns-then-next_is-2 t c =
    if_not_answers (unseen c.if-next_is.ensures) _
    (chosen_answers (seen c.if-next_is-2.ensures) _ λ o.
    and_then_answers c.in_ok-enclosed.ensures some_expression λ e.
    expect_answers ROUND_CLOSE c.token-then-next_is-2.ensures λ t.
    give_answers _ _)

pub opener-returns-in_err-minus : goal.opener-returns-in_err-minus
unfolding opener_reader
opener-returns-in_err-minus t c =
    unfit (if_not_answers (unseen c.if-next_is.ensures) _ (if_not_answers (unseen c.if-next_is-2.ensures) _
    (expect_answers MINUS c.in_err-minus.ensures λ m. refused))) (search rules)

pub opener-factor-requires : goal.opener-factor-requires
opener-factor-requires t c =
    let taken = expect_less _ c.in_ok-minus.ensures in
    search rules

pub opener-returns : goal.opener-returns
unfolding opener_reader
opener-returns t c =
    if_not_answers (unseen c.if-next_is.ensures) _
    (if_not_answers (unseen c.if-next_is-2.ensures) _
    (expect_answers MINUS c.in_ok-minus.ensures λ m.
    and_give_answers c.factor.ensures _))

pub term-returns-in_err-at : goal.term-returns-in_err-at
unfolding term_reader is_either
term-returns-in_err-at t c =
    unfit (chain_answers apply_at c.in_err-at.ensures _ some_expression λ a. refused) (search rules)

pub term-factor-requires-in-loop-at : goal.term-factor-requires-in-loop-at
term-factor-requires-in-loop-at t c =
    let left = chain_left some_expression c.in_ok-at.ensures c.loop-at.invariant c.loop-at-test.ensures in
    search rules

pub term-returns-in_err-at-2 : goal.term-returns-in_err-at-2
unfolding term_reader is_either
term-returns-in_err-at-2 t c =
    let g = goes_on c.loop-at.invariant c.loop-at-test.ensures (joined_answers _ c.in_err-at-2.ensures) in
    unfit (chain_answers apply_at c.in_ok-at.ensures _ some_expression (g.finish _ λ a. refused)) (search rules)

pub term-loop-at-smaller : goal.term-loop-at-smaller
term-loop-at-smaller t c = turn_less c.loop-at-test.ensures c.in_ok-at-2.ensures

pub term-loop-at-preserved : goal.term-loop-at-preserved
term-loop-at-preserved t c = goes_on c.loop-at.invariant c.loop-at-test.ensures (joined_answers _ c.in_ok-at-2.ensures)

pub term-returns : goal.term-returns
unfolding term_reader is_either
term-returns t c = chain_answers apply_at c.in_ok-at.ensures _ some_expression (stops c.loop-at.invariant c.loop-at-test.ensures)
