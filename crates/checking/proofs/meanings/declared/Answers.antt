-- What is left of `declared`.
use Rattle.checking.proofs.laws.CalledLaws.{none_is}
use Rattle.checking.proofs.steps.MeaningLaws.{declared_found}
use Rattle.checking.proofs.meanings.declared.Goals as goal

pub returns : goal.returns
returns c =
    declared_found _ _ c.name.ensures.bytes c.name-2.ensures.bytes c.entity-entity.ensures c.interface-interface.ensures c.offset.ensures
    (none_is _ _ c.is_none.ensures) c.unless-taken.ensures c.offset-2.ensures c.is_some.ensures c.unless.ensures c.earlier.ensures
