-- What is left of `meaning_of`.
use Rattle.std.proofs.Common.{arith}
use Rattle.checking.specs.inner_contracts.Directory.{entity_number, interface_number}
use Rattle.checking.proofs.laws.CalledLaws.{some_below, some_by, none_by, or_by}
use Rattle.checking.proofs.steps.MeaningLaws.{entity_meant, unknown_meant, variable_meant}
use Rattle.checking.proofs.meanings.meaning_of.Goals as goal

pub returns-in-Some : goal.returns-in-Some
returns-in-Some c =
    entity_meant _ (some_by entity_number c.name.ensures.bytes c.entity.ensures c.in-Some.is) (some_below c.entity.ensures c.in-Some.is) c.row.ensures.0

pub returns-then-size-n : goal.returns-then-size-n
returns-then-size-n c =
    unknown_meant _ (none_by entity_number c.name.ensures.bytes c.entity.ensures c.in_default.is) (omega arith) c.declaration-n.ensures c.if-size-n.true

pub returns : goal.returns
returns c =
    variable_meant _ (none_by entity_number c.name.ensures.bytes c.entity.ensures c.in_default.is) (omega arith) c.declaration-n.ensures c.if-size-n.false
    c.skip-colon.ensures c.skip.ensures (or_by interface_number c.name-2.ensures.bytes c.interface-face.ensures c.unwrap_or.ensures)
