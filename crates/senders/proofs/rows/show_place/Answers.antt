-- What is left of `show_place`.
use Rattle.cycles.proofs.laws.PlaneTestLaws.{behind, behind_all}
use Rattle.senders.proofs.steps.RowSteps.{place_shown, place_unknown}
use Rattle.std.proofs.Common.{List, ap, ℕ, ◌+◌, ◌∙◌}
use Rattle.values.specs.definitions.Bytes.{word_at}
use Rattle.senders.proofs.rows.show_place.Goals as goal

pub returns-then-place-ge-MOST_SENDERS : goal.returns-then-place-ge-MOST_SENDERS
returns-then-place-ge-MOST_SENDERS c = place_unknown c.if-place-ge-MOST_SENDERS.true

pub returns : goal.returns
returns c =
    let part = behind c.part_at-from.result c.args.state.now in
    place_shown c.row-n.ensures.0 c.part_at-from.ensures (behind_all c.part_at-from.result c.args.state.now) c.name_of.ensures.1
    (c.number.ensures ∙ ap (λ (l : List ℕ). word_at 4 l 0) (behind_all 25 part)) (behind_all (29 + c.row-n.result) part) c.put_row.ensures
