use Rattle.engine.proofs.room.ResolvedBench.take_line.Goals as goal

pub returns : goal.returns
returns c = rw (← c.self.view_is) (c.take_line.ensures.taken c.self.invariant)
