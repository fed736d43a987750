-- `lex` meets its contract: the rows so far and the tokens from the offset on are the tokens of the text.
use Rattle.std.proofs.Common.{sym, arith}
use Rattle.text.proofs.laws.IntoColumnsLaws.{lacks_fewest, too_long_lexes, no_room_lexes}
use Rattle.text.proofs.steps.LexLaws.{going_start, going_gap, found_storable, going_found, going_bad, going_end}
use Rattle.text.proofs.tokens.lex.Goals as goal

pub returns-then-text-gt32768 : goal.returns-then-text-gt32768
returns-then-text-gt32768 c = too_long_lexes _ _ c.if-text-gt32768.true

pub returns-then-rows-text : goal.returns-then-rows-text
returns-then-rows-text c = no_room_lexes _ _ c.if-text-gt32768.false (lacks_fewest _ _ _ (omega arith) c.if-rows-text.true)

pub loop-next-init : goal.loop-next-init
loop-next-init c = going_start _ _ _ _ _ c.if-text-gt32768.false (omega arith) (omega arith) (omega arith) (omega arith)

pub loop-next-smaller-in-Gap : goal.loop-next-smaller-in-Gap
loop-next-smaller-in-Gap c = let g = going_gap c.loop-next.invariant c.in-Gap.next (sym c.in-Gap.ensures) in omega (arith, g.0, g.1)

pub loop-next-preserved-in-Gap : goal.loop-next-preserved-in-Gap
loop-next-preserved-in-Gap c = (going_gap c.loop-next.invariant c.in-Gap.next (sym c.in-Gap.ensures)).2

pub bounds-classes-n : goal.bounds-classes-n
bounds-classes-n c =
    let s = found_storable c.loop-next.invariant c.in-Found.class c.in-Found.value c.in-Found.next (sym c.in-Found.ensures) in
    omega arith

pub bounds-offsets-n : goal.bounds-offsets-n
bounds-offsets-n c =
    let s = found_storable c.loop-next.invariant c.in-Found.class c.in-Found.value c.in-Found.next (sym c.in-Found.ensures) in
    omega arith

pub overflow_sub-lengths : goal.overflow_sub-lengths
overflow_sub-lengths c =
    let s = found_storable c.loop-next.invariant c.in-Found.class c.in-Found.value c.in-Found.next (sym c.in-Found.ensures) in
    omega arith

pub overflow_cast-lengths : goal.overflow_cast-lengths
overflow_cast-lengths c =
    let s = found_storable c.loop-next.invariant c.in-Found.class c.in-Found.value c.in-Found.next (sym c.in-Found.ensures) in
    omega arith

pub bounds-lengths-n : goal.bounds-lengths-n
bounds-lengths-n c =
    let s = found_storable c.loop-next.invariant c.in-Found.class c.in-Found.value c.in-Found.next (sym c.in-Found.ensures) in
    omega arith

pub bounds-values-n : goal.bounds-values-n
bounds-values-n c =
    let s = found_storable c.loop-next.invariant c.in-Found.class c.in-Found.value c.in-Found.next (sym c.in-Found.ensures) in
    omega arith

pub loop-next-smaller : goal.loop-next-smaller
loop-next-smaller c =
    let s = found_storable c.loop-next.invariant c.in-Found.class c.in-Found.value c.in-Found.next (sym c.in-Found.ensures) in
    omega arith

pub loop-next-preserved : goal.loop-next-preserved
loop-next-preserved c = going_found c.loop-next.invariant c.in-Found.class c.in-Found.value c.in-Found.next (sym c.in-Found.ensures)

pub returns-in-Bad : goal.returns-in-Bad
returns-in-Bad c = going_bad c.loop-next.invariant (sym c.in-Bad.ensures)

pub returns-in-End : goal.returns-in-End
returns-in-End c = going_end c.loop-next.invariant (sym c.in-End.ensures)
