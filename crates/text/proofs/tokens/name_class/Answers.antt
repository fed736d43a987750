-- `name_class` meets its contract: words of another length are never met.
use Rattle.std.proofs.Common.{◌∙◌}
use Rattle.text.specs.definitions.Tokens.{reserved}
use Rattle.text.specs.inner_contracts.TokenTable.{of_length}
use Rattle.text.proofs.laws.FixedLaws.{reserved_of}
use Rattle.text.proofs.tokens.name_class.Goals as goal

pub returns-in-2 : goal.returns-in-2
unfolding reserved of_length
returns-in-2 c = c.class_of_two.ensures ∙ reserved_of c.args.name.now 2 c.in-2.is

pub returns-in-3 : goal.returns-in-3
unfolding reserved of_length
returns-in-3 c = c.class_of_two-in-3.ensures ∙ reserved_of c.args.name.now 3 c.in-3.is

pub returns-in-6 : goal.returns-in-6
unfolding reserved of_length
returns-in-6 c = c.class_of_two-in-6.ensures ∙ reserved_of c.args.name.now 6 c.in-6.is

pub returns-in-7 : goal.returns-in-7
unfolding reserved of_length
returns-in-7 c = c.class_of_two-in-7.ensures ∙ reserved_of c.args.name.now 7 c.in-7.is

pub returns-in-9 : goal.returns-in-9
unfolding reserved of_length
returns-in-9 c = c.class_of_two-in-9.ensures ∙ reserved_of c.args.name.now 9 c.in-9.is
