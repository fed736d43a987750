use Rattle.engine.proofs.room.ResolvedBench.rules.Goals as goal

pub returns : goal.returns
returns c = record { text_is = c.self.view_is; resolved = c.self.invariant }
