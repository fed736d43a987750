use Rattle.engine.proofs.laws.LineLaws.{record_of_header}
use Rattle.engine.proofs.room.ResolvedBench.take_record.Goals as goal

pub returns : goal.returns
returns c =
    rw (← c.self.view_is)
    (record_of_header c.new.ensures.size c.new.ensures.same (c.take_record.ensures.taken _ _ _ c.self.invariant))
