-- What is left of `clear_flags`.
use lib.Seq.{length-take-le}
use Rattle.cycles.proofs.laws.TableLaws.{flags_filled}
use Rattle.cycles.proofs.record.clear_flags.Goals as goal

pub returns : goal.returns
returns c = flags_filled _ _ c.args.n _ 0 (length-take-le c.args.n c.args.flags.now c.requires) (c.fill.ensures.after (λ y e. e))
