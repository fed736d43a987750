-- What is left of `clear_sets`.
use lib.Seq.{length-take-le}
use Rattle.std.proofs.Common.{◌≡◌, ◌≤◌, ℕ, arith, refl, ap, ◌∙◌, length, take, drop, replicate}
use Rattle.std.proofs.Math.ListN.{length-drop}
use Rattle.reads.proofs.steps.RuleSteps.{sets_cleared}
use Rattle.reads.proofs.conditions.clear_sets.Goals as goal

pub returns : goal.returns
returns c =
    let room = c.requires in
    let left : 3072 ≤ length (drop 256 c.args.scopes.now) = rw (length-drop 256 c.args.scopes.now) (omega arith) in
    let size : length (take 3072 (drop 256 c.args.scopes.now)) ≡ 3072 = length-take-le 3072 (drop 256 c.args.scopes.now) left in
    sets_cleared c.args.scopes.now _ 3072 3072 c.requires refl refl (c.fill.ensures.after (λ y e. e) ∙ ap (λ (n : ℕ). replicate n 0) size)
