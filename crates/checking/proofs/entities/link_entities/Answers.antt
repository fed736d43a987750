-- What is left of `link_entities`.
use Rattle.std.specs.Prelude.{get_or, min}
use Rattle.std.proofs.Common.{arith, ◌≡◌}
use Rattle.checking.proofs.steps.LinkLaws.{linking_all, linking_on}
use Rattle.checking.proofs.entities.link_entities.Goals as goal

pub loop-e-preserved : goal.loop-e-preserved
loop-e-preserved c =
    let counted : c.min-count.result ≡ min (get_or c.args.d.now 1 0) 32 = rw (← c.row.ensures.0) c.min-count.ensures in
    linking_on c.loop-e.invariant c.if-d-lt-DIRECTORY.false counted (omega arith) c.row-in-loop-e.ensures.0 c.name-name.ensures.bytes c.interfaces.ensures
    c.first_named-interface.ensures c.unwrap_or.ensures

pub returns : goal.returns
returns c =
    let counted : c.min-count.result ≡ min (get_or c.args.d.now 1 0) 32 = rw (← c.row.ensures.0) c.min-count.ensures in
    linking_all c.loop-e.invariant counted (omega arith)
