-- What is left of `clear_cells`.
use Rattle.cycles.proofs.laws.TableLaws.{table_fill}
use Rattle.cycles.specs.definitions.Planes.{input_bytes, table}
use Rattle.std.proofs.Common.{arith, refl, ℕ, ◌∙◌}
use Rattle.std.proofs.Math.Option.{none}
use Rattle.cycles.proofs.record.clear_cells.Goals as goal

pub loop-i-init : goal.loop-i-init
unfolding table
loop-i-init c = refl

pub loop-i-preserved : goal.loop-i-preserved
loop-i-preserved c =
    let fill = table_fill (λ (k : ℕ). input_bytes none) 9 (λ k. refl) c.loop-i.i c.args.cells.now (omega arith) in
    c.put_blank.ensures ∙ rw c.loop-i.invariant fill
