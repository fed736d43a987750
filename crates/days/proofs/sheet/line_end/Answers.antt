-- What is left of `line_end`.
use Rattle.std.proofs.Common.{ap, ◌∙◌}
use Rattle.std.specs.Prelude.{eqb, position}
use Rattle.cycles.proofs.laws.PlaneTestLaws.{behind_all}
use Rattle.days.proofs.steps.LineSteps.{line_fed, line_over}
use Rattle.days.proofs.sheet.line_end.Goals as goal

pub returns-in-Some : goal.returns-in-Some
returns-in-Some c = line_fed _ _ c.requires (c.first_feed.ensures ∙ ap (position (λ b. eqb b 10)) (behind_all c.args.at c.args.readings.now)) c.in-Some.is

pub returns-in-None : goal.returns-in-None
returns-in-None c = line_over _ _ c.requires (c.first_feed.ensures ∙ ap (position (λ b. eqb b 10)) (behind_all c.args.at c.args.readings.now)) c.in-None.is
