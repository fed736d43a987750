-- what is put is a half of the text that stands in the 16 bytes, or all of it
use Rattle.std.proofs.Common.{arith, refl, replicate}
use Rattle.sheets.proofs.laws.LayoutLaws.{right_same}
use Rattle.sheets.proofs.laws.RowLaws.{second_half, first_half, no_half, whole_text_half, half_most}
use Rattle.sheets.proofs.rows.put_half.Goals as goal

pub returns-then-below : goal.returns-then-below
returns-then-below c =
    let p = c.put_value-end in
    let r = c.is_set_real in
    let half_of = second_half (replicate 16 0) p.new.s c.args.below c.args.v r.result r.ensures refl p.ensures.is in
    right_same c.args.width (half_of c.if-is_set_real.true c.if-below.true) c.put_right.ensures

pub returns-then-is_set_real : goal.returns-then-is_set_real
returns-then-is_set_real c =
    let p = c.put_value-end in
    let r = c.is_set_real in
    let half_of = first_half (replicate 16 0) p.new.s c.args.below c.args.v r.result r.ensures refl p.ensures.is in
    right_same c.args.width (half_of c.if-is_set_real.true c.if-below.false) c.put_right-then-is_set_real.ensures

pub returns-then-below-2 : goal.returns-then-below-2
returns-then-below-2 c =
    let p = c.put_value-end in
    let r = c.is_set_real in
    let half_of = no_half (replicate 16 0) p.new.s c.args.below c.args.v r.result r.ensures refl p.ensures.is in
    right_same c.args.width (half_of c.if-is_set_real.false c.if-below-2.true) c.put_right-then-below-2.ensures

pub put_right-requires-2 : goal.put_right-requires-2
put_right-requires-2 c =
    let p = c.put_value-end in
    let r = c.is_set_real in
    let half_of = whole_text_half (replicate 16 0) p.new.s c.args.below c.args.v r.result r.ensures refl p.ensures.is in
    let e = half_of p.result p.ensures.end c.if-is_set_real.false c.if-below-2.false in
    (rw e (omega (arith, half_most c.args.below c.args.v)), c.requires.1)

pub returns : goal.returns
returns c =
    let p = c.put_value-end in
    let r = c.is_set_real in
    let half_of = whole_text_half (replicate 16 0) p.new.s c.args.below c.args.v r.result r.ensures refl p.ensures.is in
    right_same c.args.width (half_of p.result p.ensures.end c.if-is_set_real.false c.if-below-2.false) c.put_right-2.ensures
