-- What is left of `take_sent`.
use Rattle.senders.proofs.laws.SentLaws.{sent_bad_value, sent_no_room, sent_settled}
use Rattle.std.proofs.Common.{sym, ◌∙◌, arith}
use Rattle.senders.proofs.record.take_sent.Goals as goal

pub returns-then-is_full : goal.returns-then-is_full
returns-then-is_full c =
    sent_no_room _ _ _ _ _ _ _ _ _ _ _ c.row-n.ensures.0 (sym c.is_sender.ensures ∙ c.if-not-is_sender.false) c.part_at-from.ensures (rw (← c.unwrap_or-place.ensures) at c.place_of.ensures.place)
    (omega (arith, c.if-is_full.true))

pub returns-then-not-read_values : goal.returns-then-not-read_values
returns-then-not-read_values c =
    sent_bad_value _ _ _ _ _ _ _ _ _ _ _ c.row-n.ensures.0 (sym c.is_sender.ensures ∙ c.if-not-is_sender.false) c.part_at-from.ensures (rw (← c.unwrap_or-place.ensures) at c.place_of.ensures.place) (omega (arith, c.if-is_full.false)) _ _
    c.clear_flags.ensures c.clear_cells.ensures c.read_values.ensures c.if-not-read_values.true

pub returns : goal.returns
returns c =
    sent_settled _ _ _ _ _ _ _ _ _ _ _ c.row-n.ensures.0 (sym c.is_sender.ensures ∙ c.if-not-is_sender.false) c.part_at-from.ensures (rw (← c.unwrap_or-place.ensures) at c.place_of.ensures.place) (omega (arith, c.if-is_full.false)) _ _
    c.clear_flags.ensures c.clear_cells.ensures c.read_values.ensures c.if-not-read_values.false c.settle.ensures
