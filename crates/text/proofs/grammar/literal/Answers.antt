-- What is left of `literal`.
use Rattle.std.proofs.Common.{refl, arith, true, false}
use mathlib.Core.Logic.{inl, inr}
use Rattle.text.proofs.laws.CodeReaderLaws.{seen_other, chosen_answers, either_seen, give_answers, if_not_answers, seen, unpassed, unseen}
use Rattle.text.specs.definitions.Grammar.{literal_reader}
use Rattle.text.specs.definitions.Tokens.{FALSE, TRUE}
use Rattle.text.specs.inner_contracts.ParseAnswers.{is_either}
use Rattle.text.proofs.grammar.literal.Goals as goal

pub returns-then-next_is_either : goal.returns-then-next_is_either
unfolding literal_reader
returns-then-next_is_either c = elim (either_seen c.if-next_is_either.ensures) [
  | inl s ↦ chosen_answers s _ λ t. give_answers _ _
  | inr s ↦ if_not_answers (seen_other s λ e. omega arith) _ (chosen_answers s _ λ t. give_answers _ _)
]

pub returns-then-next_is : goal.returns-then-next_is
unfolding literal_reader is_either
returns-then-next_is c =
    if_not_answers (unpassed c.if-next_is_either.ensures TRUE refl) _
    (if_not_answers (unpassed c.if-next_is_either.ensures FALSE refl) _
    (chosen_answers (seen c.if-next_is.ensures) _ λ t. c.number.ensures true))

pub returns : goal.returns
unfolding literal_reader is_either
returns c =
    if_not_answers (unpassed c.if-next_is_either.ensures TRUE refl) _
    (if_not_answers (unpassed c.if-next_is_either.ensures FALSE refl) _
    (if_not_answers (unseen c.if-next_is.ensures) _ (c.number-2.ensures false)))
