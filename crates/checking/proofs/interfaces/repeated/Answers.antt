-- What is left of `repeated`.
use Rattle.std.proofs.Common.{arith, refl}
use Rattle.checking.specs.inner_contracts.FoundFaults.{found_as}
use Rattle.checking.proofs.laws.CalledLaws.{none_is, item_row}
use Rattle.checking.proofs.steps.RepeatedLaws.{repeating_all, repeating_none, repeating_on}
use Rattle.checking.proofs.interfaces.repeated.Goals as goal

pub loop-k-init : goal.loop-k-init
unfolding found_as
loop-k-init c = repeating_none refl

pub loop-k-preserved : goal.loop-k-preserved
loop-k-preserved c =
    repeating_on c.loop-k.invariant (omega arith) (item_row _ _ _ c.rows_from-items.ensures c.row-i.ensures.0) c.name.ensures.bytes c.first_named-before.ensures
    c.offset.ensures (none_is _ _ c.is_none.ensures) c.unless-again.ensures c.earlier-found.ensures

pub returns : goal.returns
returns c = repeating_all c.loop-k.invariant (omega arith)
