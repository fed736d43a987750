-- What is left of `+atom_condition_conjunction`.
use Rattle.std.proofs.Common.{rules}
use Rattle.text.proofs.laws.CodeGrammarLaws.{atom_halts, atom_lacks, atom_opens, some_condition}
use Rattle.text.proofs.laws.CodeReaderLaws.{chain_answers, chain_left, goes_on, joined_answers, refused, seen, seen_less, stops, turn_less, unfit, unseen}
use Rattle.text.specs.definitions.Grammar.{both_at, condition_reader, conjunction_reader, either_at}
use Rattle.text.specs.inner_contracts.ParseAnswers.{is_class}
use Rattle.text.proofs.grammar.+atom_condition_conjunction.Goals as goal

pub atom-returns-then-depth-eq0 : goal.atom-returns-then-depth-eq0
atom-returns-then-depth-eq0 t c = atom_halts c.if-depth-eq0.true c.clause.ensures

pub atom-returns-then-not-next_is : goal.atom-returns-then-not-next_is
atom-returns-then-not-next_is t c = atom_lacks _ c.if-depth-eq0.false (unseen c.if-not-next_is.ensures) c.clause-then-not-next_is.ensures

pub atom-condition-requires : goal.atom-condition-requires
atom-condition-requires t c =
    let taken = seen_less (seen c.if-not-next_is.ensures) in
    search rules

pub atom-returns-in_err-inside : goal.atom-returns-in_err-inside
atom-returns-in_err-inside t c =
    unfit (atom_opens _ c.if-depth-eq0.false (seen c.if-not-next_is.ensures) c.in_err-inside.ensures refused) (search rules)

pub atom-returns : goal.atom-returns
atom-returns t c = atom_opens _ c.if-depth-eq0.false (seen c.if-not-next_is.ensures) c.in_ok-inside.ensures c.token.ensures

pub condition-returns-in_err-at : goal.condition-returns-in_err-at
unfolding condition_reader conjunction_reader is_class
condition-returns-in_err-at t c =
    unfit (chain_answers either_at c.in_err-at.ensures _ some_condition λ a. refused) (search rules)

pub condition-conjunction-requires-in-loop-at : goal.condition-conjunction-requires-in-loop-at
condition-conjunction-requires-in-loop-at t c =
    let left = chain_left some_condition c.in_ok-at.ensures c.loop-at.invariant c.loop-at-test.ensures in
    search rules

pub condition-returns-in_err-at-2 : goal.condition-returns-in_err-at-2
unfolding condition_reader conjunction_reader is_class
condition-returns-in_err-at-2 t c =
    let g = goes_on c.loop-at.invariant c.loop-at-test.ensures (joined_answers _ c.in_err-at-2.ensures) in
    unfit (chain_answers either_at c.in_ok-at.ensures _ some_condition (g.finish _ λ a. refused)) (search rules)

pub condition-loop-at-smaller : goal.condition-loop-at-smaller
condition-loop-at-smaller t c = turn_less c.loop-at-test.ensures c.in_ok-at-2.ensures

pub condition-loop-at-preserved : goal.condition-loop-at-preserved
condition-loop-at-preserved t c = goes_on c.loop-at.invariant c.loop-at-test.ensures (joined_answers _ c.in_ok-at-2.ensures)

pub condition-returns : goal.condition-returns
unfolding condition_reader conjunction_reader is_class
condition-returns t c = chain_answers either_at c.in_ok-at.ensures _ some_condition (stops c.loop-at.invariant c.loop-at-test.ensures)

pub conjunction-returns-in_err-at : goal.conjunction-returns-in_err-at
unfolding conjunction_reader is_class
conjunction-returns-in_err-at t c =
    unfit (chain_answers both_at c.in_err-at.ensures _ some_condition λ a. refused) (search rules)

pub conjunction-atom-requires-in-loop-at : goal.conjunction-atom-requires-in-loop-at
conjunction-atom-requires-in-loop-at t c =
    let left = chain_left some_condition c.in_ok-at.ensures c.loop-at.invariant c.loop-at-test.ensures in
    search rules

pub conjunction-returns-in_err-at-2 : goal.conjunction-returns-in_err-at-2
unfolding conjunction_reader is_class
conjunction-returns-in_err-at-2 t c =
    let g = goes_on c.loop-at.invariant c.loop-at-test.ensures (joined_answers _ c.in_err-at-2.ensures) in
    unfit (chain_answers both_at c.in_ok-at.ensures _ some_condition (g.finish _ λ a. refused)) (search rules)

pub conjunction-loop-at-smaller : goal.conjunction-loop-at-smaller
conjunction-loop-at-smaller t c = turn_less c.loop-at-test.ensures c.in_ok-at-2.ensures

pub conjunction-loop-at-preserved : goal.conjunction-loop-at-preserved
conjunction-loop-at-preserved t c = goes_on c.loop-at.invariant c.loop-at-test.ensures (joined_answers _ c.in_ok-at-2.ensures)

pub conjunction-returns : goal.conjunction-returns
unfolding conjunction_reader is_class
conjunction-returns t c = chain_answers both_at c.in_ok-at.ensures _ some_condition (stops c.loop-at.invariant c.loop-at-test.ensures)
