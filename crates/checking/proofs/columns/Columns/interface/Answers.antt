-- What is left of `interface`.
use Rattle.checking.proofs.laws.CalledLaws.{interface_numbered}
use Rattle.checking.proofs.columns.Columns.interface.Goals as goal

pub returns : goal.returns
returns c = interface_numbered c.interfaces.ensures c.first_named.ensures
