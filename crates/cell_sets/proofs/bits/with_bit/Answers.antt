-- nothing is shifted out
use Rattle.cell_sets.proofs.laws.BitLaws.{bit_added}
use Rattle.cell_sets.proofs.bits.with_bit.Goals as goal

pub returns : goal.returns
returns c = bit_added c.args.n c.args.k 64 c.requires
