-- What is left of `show`.
use Rattle.cycles.proofs.laws.PlaneTestLaws.{behind_all}
use Rattle.senders.proofs.steps.RowSteps.{known_shown, shown_crowded, unknown_shown}
use Rattle.std.proofs.Common.{refl, arith}
use Rattle.senders.proofs.rows.show.Goals as goal

pub returns-then-known-gt-MOST_SENDERS : goal.returns-then-known-gt-MOST_SENDERS
returns-then-known-gt-MOST_SENDERS c = shown_crowded c.if-known-gt-MOST_SENDERS.true

pub returns-in-Some : goal.returns-in-Some
returns-in-Some c =
    known_shown c.row-n.ensures.0 c.part_at-from.ensures (behind_all c.part_at-from.result c.args.state.now) refl (rw c.in-Some.is at c.place_of.ensures.place) (rw c.in-Some.is at c.place_of.ensures.below)
    c.show_place.ensures

pub returns-in-None : goal.returns-in-None
returns-in-None c =
    unknown_shown c.row-n.ensures.0 c.part_at-from.ensures (behind_all c.part_at-from.result c.args.state.now) refl (rw c.in-None.is at c.place_of.ensures.place) (omega arith)
    c.put_row.ensures
