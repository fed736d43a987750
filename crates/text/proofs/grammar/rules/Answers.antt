-- What is left of `rules`.
use Rattle.std.proofs.Common.{of_calls, Ok}
use Rattle.text.proofs.laws.CodeReaderLaws.{reads_onward, repeats_many, some_token}
use Rattle.text.specs.definitions.Grammar.{rule_after}
use Rattle.text.specs.inner_contracts.ParseAnswers.{ReadsFrom}
use Rattle.text.proofs.grammar.rules.Goals as goal

pub many-requires-clause-onward : goal.many-requires-clause-onward
many-requires-clause-onward c at next i =
    let f : ReadsFrom c.args.classes.now (rule_after some_token) at (Ok next) = search of_calls in
    reads_onward f

pub returns : goal.returns
returns c = repeats_many rule_after c.many.ensures (λ at next i t. search of_calls) (λ at u i t. search of_calls)
