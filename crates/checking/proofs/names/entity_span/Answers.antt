-- What is left of `entity_span`.
use Rattle.std.proofs.Common.{arith}
use Rattle.checking.proofs.laws.CheckLaws.{room_for_all}
use Rattle.checking.proofs.names.entity_span.Goals as goal

pub returns : goal.returns
returns c =
    c.span_checked.ensures.told _ _ _ _ c.check-checked.ensures
    (room_for_all _ _ _ (omega arith) (omega arith) (omega arith) (omega arith) (omega arith))
