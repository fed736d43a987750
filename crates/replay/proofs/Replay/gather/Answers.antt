use Rattle.replay.proofs.steps.GatheringLaws.{piece_kept, gathers_on}
use Rattle.replay.proofs.Replay.gather.Goals as goal

pub keep-requires : goal.keep-requires
keep-requires c = piece_kept _ c.line_end-end.ensures c.unwrap_or.ensures

pub returns : goal.returns
returns c = gathers_on _ c.line_end-end.ensures c.unwrap_or.ensures c.keep.ensures
