-- `class_of_four` meets its contract: one word after another, the last of the list first.
use Rattle.std.proofs.Common.{[]}
use Rattle.text.specs.definitions.Tokens.{reserved}
use Rattle.text.specs.inner_contracts.TokenTable.{of_length}
use Rattle.text.proofs.laws.FixedLaws.{class_nothing}
use Rattle.text.proofs.tokens.class_of_four.Goals as goal

pub returns : goal.returns
unfolding reserved of_length
returns c =
    let rank_on = c.class_if-c.ensures [] (class_nothing c.args.name.now) in
    let real_on = c.class_if-c-2.ensures _ rank_on in
    let bool_on = c.class_if-c-3.ensures _ real_on in
    let true_on = c.class_if-c-4.ensures _ bool_on in
    let with_on = c.class_if-c-5.ensures _ true_on in
    let from_on = c.class_if-c-6.ensures _ with_on in
    c.class_if.ensures _ from_on
