-- What is left of `copy_state`.
use Rattle.std.proofs.Common.{arith}
use lib.Seq.{length-take-le}
use Rattle.senders.specs.definitions.StateImage.{STATE}
use Rattle.days.proofs.sheet.copy_state.Goals as goal

pub copy_from_slice-requires : goal.copy_from_slice-requires
copy_from_slice-requires c = let n = length-take-le STATE c.args.state.now c.requires.0 in omega arith
