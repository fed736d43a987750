-- What is left of `entity`.
use Rattle.checking.proofs.laws.CalledLaws.{entity_numbered}
use Rattle.checking.proofs.columns.Columns.entity.Goals as goal

pub returns : goal.returns
returns c = entity_numbered c.entities.ensures c.first_named.ensures
