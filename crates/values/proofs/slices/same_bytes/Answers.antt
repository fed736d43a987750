use Rattle.std.proofs.Common.{◌∙◌}
use Rattle.values.proofs.laws.ByteLaws.{slices_same}
use Rattle.values.proofs.slices.same_bytes.Goals as goal

pub returns : goal.returns
returns c = c.eq.ensures ∙ slices_same c.args.s.now c.args.t.now
