-- What is left of `reference`.
use Rattle.std.proofs.Common.{arith}
use Rattle.checking.specs.inner_contracts.Directory.{entity_number}
use Rattle.checking.proofs.laws.CalledLaws.{some_below, some_by, none_by}
use Rattle.checking.proofs.steps.ReferenceLaws.{entity_referred, variable_referred}
use Rattle.checking.proofs.resolver.reference.Goals as goal

pub returns-in-Some : goal.returns-in-Some
returns-in-Some c =
    entity_referred _ (some_by entity_number c.name.ensures.bytes c.entity.ensures c.in-Some.is) (some_below c.entity.ensures c.in-Some.is)

pub returns-in-None : goal.returns-in-None
returns-in-None c =
    variable_referred _ (none_by entity_number c.name.ensures.bytes c.entity.ensures c.in-None.is) (omega arith) c.variable_reference.ensures
