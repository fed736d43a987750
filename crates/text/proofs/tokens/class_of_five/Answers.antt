-- `class_of_five` meets its contract: one word after another, the last of the list first.
use Rattle.std.proofs.Common.{[]}
use Rattle.text.specs.definitions.Tokens.{reserved}
use Rattle.text.specs.inner_contracts.TokenTable.{of_length}
use Rattle.text.proofs.laws.FixedLaws.{class_nothing}
use Rattle.text.proofs.tokens.class_of_five.Goals as goal

pub returns : goal.returns
unfolding reserved of_length
returns c =
    let whole_on = c.class_if-c.ensures [] (class_nothing c.args.name.now) in
    let false_on = c.class_if-c-2.ensures _ whole_on in
    let value_on = c.class_if-c-3.ensures _ false_on in
    let rules_on = c.class_if-c-4.ensures _ value_on in
    c.class_if.ensures _ rules_on
