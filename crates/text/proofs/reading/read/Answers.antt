-- What is left of `read`.
use Rattle.std.proofs.Common.{refl, rules, arith, Err, ◌≡◌}
use Rattle.text.proofs.laws.SyntaxLaws.{count_room, lexed_refused}
use Rattle.text.proofs.reading.read.Goals as goal

pub returns-in_err-count : goal.returns-in_err-count
returns-in_err-count c =
    let e : c.from_residual.result ≡ Err c.in_err-count.field-0.0 = search rules in
    rw e (lexed_refused _ c.in_err-count.ensures)

pub settled-requires : goal.settled-requires
settled-requires c =
    let room = count_room _ c.in_ok-count.ensures in
    let inside = c.in_ok-count.ensures.inside.0 in
    (omega (arith, room.classes), omega (arith, room.offsets))

pub returns : goal.returns
returns c = c.settled.ensures.told _ _ _ _ refl c.in_ok-count.ensures
