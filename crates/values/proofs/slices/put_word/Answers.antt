use Rattle.std.proofs.Common.{arith, ◌∙◌}
use Rattle.values.specs.definitions.Bytes.{low_first}
use Rattle.values.proofs.laws.ByteLaws.{part_overwritten, low_first_64}
use Rattle.values.proofs.slices.put_word.Goals as goal

pub returns : goal.returns
returns c = part_overwritten c.args.s.now c.args.at (low_first 8 c.args.w) _ _ c.requires (omega arith) (c.copy_from_slice.ensures.after ∙ c.to_le_bytes.ensures ∙ low_first_64 c.args.w)
