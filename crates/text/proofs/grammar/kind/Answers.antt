-- What is left of `kind`.
use Rattle.std.proofs.Common.{refl, arith}
use mathlib.Core.Logic.{inl, inr}
use Rattle.text.proofs.laws.CodeReaderLaws.{seen_other, chosen_answers, either_seen, expect_answers, give_answers, if_not_answers, unpassed}
use Rattle.text.specs.definitions.Grammar.{kind_reader}
use Rattle.text.specs.definitions.Tokens.{BOOL, REAL, WHOLE}
use Rattle.text.specs.inner_contracts.ParseAnswers.{is_either}
use Rattle.text.proofs.grammar.kind.Goals as goal

pub returns-then-next_is_either : goal.returns-then-next_is_either
unfolding kind_reader
returns-then-next_is_either c = elim (either_seen c.if-next_is_either.ensures) [
  | inl s ↦ chosen_answers s _ λ t. give_answers _ _
  | inr s ↦ if_not_answers (seen_other s λ e. omega arith) _ (chosen_answers s _ λ t. give_answers _ _)
]

pub returns : goal.returns
unfolding kind_reader is_either
returns c =
    if_not_answers (unpassed c.if-next_is_either.ensures WHOLE refl) _
    (if_not_answers (unpassed c.if-next_is_either.ensures BOOL refl) _
    (expect_answers REAL c.token.ensures λ t. give_answers _ _))
