-- What is left of `put_name`.
use Rattle.cycles.proofs.laws.RowPuts.{name_no_room, name_none, name_put}
use Rattle.cycles.proofs.rows.put_name.Goals as goal

pub returns-then-not-is_sort : goal.returns-then-not-is_sort
returns-then-not-is_sort c = name_none c.cell_token-token.ensures c.is_sort.ensures c.if-not-is_sort.true _ _ c.requires

pub returns-then-row-at : goal.returns-then-row-at
returns-then-row-at c =
    name_no_room c.cell_token-token.ensures c.is_sort.ensures c.if-not-is_sort.false c.row.ensures.0 c.name-entity.ensures.bytes c.name-member.ensures.bytes _ _ c.requires
    c.if-row-at.true

pub returns : goal.returns
returns c =
    name_put c.cell_token-token.ensures c.is_sort.ensures c.if-not-is_sort.false c.row.ensures.0 c.name-entity.ensures.bytes c.name-member.ensures.bytes _ _ c.requires
    c.if-row-at.false c.put_bytes-dot.ensures c.put_bytes.ensures
