use Rattle.replay.proofs.steps.LineLaws.{header_taken}
use Rattle.replay.proofs.take_names.Goals as goal

pub returns : goal.returns
returns c = header_taken _ c.in_ok-count.ensures c.put_header.ensures.is c.put_header.ensures.short
