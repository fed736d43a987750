-- What is left of `are_senders`.
use Rattle.senders.proofs.steps.PartSteps.{found_below, name_twice, none_last, parts_end, parts_go_on}
use Rattle.std.proofs.Common.{refl, arith, sym, ◌∙◌, ◌≡◌, ◌-◌, ◌+◌}
use Rattle.senders.proofs.parts.are_senders.Goals as goal

pub returns-then-is_some : goal.returns-then-is_some
returns-then-is_some c =
    name_twice c.loop-i.invariant (omega arith) c.is_sender_part.ensures c.if-not-is_sender_part.false c.row.ensures.0 refl c.name_of.ensures.1
    c.place_of.ensures.place (found_below _ c.place_of.ensures.below (sym c.is_some.ensures ∙ c.if-is_some.true))

pub loop-i-preserved : goal.loop-i-preserved
loop-i-preserved c =
    let left : c.args.count - (c.loop-i.i + 1) ≡ c.args.count - c.loop-i.i - 1 = omega arith in
    rw left
    (parts_go_on c.loop-i.invariant (omega arith) c.is_sender_part.ensures c.if-not-is_sender_part.false c.row.ensures.0 refl c.name_of.ensures.1
    c.place_of.ensures.place (none_last _ (sym c.is_some.ensures ∙ c.if-is_some.false)))

pub returns : goal.returns
returns c = parts_end c.loop-i.invariant (omega arith)
