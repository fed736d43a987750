-- the first row, whose lead stands in the 10 bytes, and the second one where there is a set real
use Rattle.std.proofs.Common.{arith, refl, sym, ◌∙◌, false, replicate}
use Rattle.values.specs.definitions.Forms.{decimal}
use Rattle.values.proofs.laws.FormLaws.{decimal_most}
use Rattle.sheets.specs.definitions.Layout.{NUMBER_COLUMNS}
use Rattle.sheets.proofs.laws.RowLaws.{decimal_text, row_same, row_end, line_one_put, line_two_put, any_set_real}
use Rattle.sheets.proofs.rows.put_line.Goals as goal

pub put_sheet_row-requires : goal.put_sheet_row-requires
put_sheet_row-requires c =
    let d = c.put_decimal-end in
    let e = decimal_text (replicate NUMBER_COLUMNS 0) d.new.s c.args.n d.result refl d.ensures.end d.ensures.is in
    let vs = c.args.values.now in
    let few = c.requires.0 in
    let r = row_end false (decimal c.args.n) vs (decimal_most c.args.n) few (row_same false vs e c.put_sheet_row-first.ensures) in
    (omega arith, omega arith, omega arith)

pub returns-then-has_set_real : goal.returns-then-has_set_real
returns-then-has_set_real c =
    let d = c.put_decimal-end in
    let e = decimal_text (replicate NUMBER_COLUMNS 0) d.new.s c.args.n d.result refl d.ensures.end d.ensures.is in
    let vs = c.args.values.now in
    let has = sym (any_set_real c.args.values.now) ∙ sym c.has_set_real.ensures ∙ c.if-has_set_real.true in
    line_two_put (record { number = c.args.n; values = vs }) has (row_same false vs e c.put_sheet_row-first.ensures) c.put_sheet_row.ensures

pub returns : goal.returns
returns c =
    let d = c.put_decimal-end in
    let e = decimal_text (replicate NUMBER_COLUMNS 0) d.new.s c.args.n d.result refl d.ensures.end d.ensures.is in
    let vs = c.args.values.now in
    let has_none = sym (any_set_real c.args.values.now) ∙ sym c.has_set_real.ensures ∙ c.if-has_set_real.false in
    line_one_put (record { number = c.args.n; values = vs }) has_none (row_same false vs e c.put_sheet_row-first.ensures)
