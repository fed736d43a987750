-- What is left of `build`.
use Rattle.checking.proofs.steps.BuildLaws.{directory_built}
use Rattle.checking.proofs.directory.build.Goals as goal

pub returns : goal.returns
returns c = directory_built c.mark-interfaces.ensures c.put.ensures c.mark-entities.ensures c.put-2.ensures c.mark-rules.ensures c.put-3.ensures c.mark_members.ensures c.if-d-lt-DIRECTORY.false c.if-classes-gt65535.false
