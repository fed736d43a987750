-- What is left of `interface_at`.
use Rattle.checking.specs.inner_contracts.Directory.{interface_number}
use Rattle.checking.proofs.laws.CalledLaws.{or_by}
use Rattle.checking.proofs.steps.ScopeLaws.{interface_stands}
use Rattle.checking.proofs.resolver.interface_at.Goals as goal

pub returns : goal.returns
returns c =
    interface_stands c.skip-colon.ensures c.skip.ensures (or_by interface_number c.name.ensures.bytes c.interface-interface.ensures c.unwrap_or.ensures)
