-- What is left of `cell_token`.
use Rattle.cycles.proofs.laws.CellTokenLaws.{token_member, token_no_entity, token_no_member}
use Rattle.cycles.proofs.planes.cell_token.Goals as goal

pub returns-then-row-e : goal.returns-then-row-e
returns-then-row-e c = token_no_entity c.row.ensures.0 c.if-row-e.true

pub returns-then-row-m : goal.returns-then-row-m
returns-then-row-m c =
    token_no_member c.row.ensures.0 c.if-row-e.false c.row-face.ensures.0 c.row-2.ensures.0 c.if-row-face.false
    c.row-3.ensures.0 c.if-row-m.true

pub returns : goal.returns
returns c =
    token_member c.row.ensures.0 c.if-row-e.false c.row-face.ensures.0 c.row-2.ensures.0 c.if-row-face.false
    c.row-3.ensures.0 c.if-row-m.false c.row-4.ensures.0 c.row-4.ensures.1
