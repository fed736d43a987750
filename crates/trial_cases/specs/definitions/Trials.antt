-- Document 01's trial benches as texts, benches for what document 02 asks in its orders 1 and 6, and runs of them over zeroed memory of the stated sizes.
use Rattle.std.specs.Prelude.{ℕ, ◌/◌, ◌%◌, List, [], ◌∷◌, ◌++◌, map, take, replicate}
use Prim.Native.String.{String}
use Rattle.text.specs.definitions.Bytes.{ascii}
use Rattle.checking.specs.definitions.EntitySpan.{entity_span}
use Rattle.senders.specs.definitions.StateImage.{STATE}
use Rattle.engine.specs.definitions.BenchImage.{BENCH}
use Rattle.engine.specs.definitions.Calls.{ROW, check_call, fresh_call, header_call, row_call, AfterLine, span_answer}
use Rattle.engine.specs.definitions.Runs.{Request, replies}

-- "Pedal bench (P)"
unfoldable pub pedal : List ℕ
unfolding ascii
pedal = ascii "interface P { event down : bool } interface S { event pos : whole } interface L { action keep ( whole ) } entity p : P { } entity s : S { } entity k : L { } rules when event down from p value = true trigger action keep ( s.pos ) on k end end"

-- the smallest bench: no entity, no action
unfoldable pub smallest : List ℕ
unfolding ascii
smallest = ascii "rules end"

-- a bench whose calls fire in cycle 1, with actions of this kind
unfoldable pub calling : String → String → List ℕ
unfolding ascii
calling kind calls = ascii "interface P { event down : bool } interface L { action keep ( " ++ ascii kind
    ++ ascii " ) } entity p : P { } entity k : L { } rules when event down from p value = true trigger " ++ ascii calls ++ ascii " end end"

-- a bench whose one clause has a `with` that is true of the entity
unfoldable pub filtered : List ℕ
unfolding ascii
filtered = ascii "interface P { attribute bay : whole event down : bool } interface L { action keep ( whole ) } entity p : P { bay = 2 } entity k : L { } rules when event down from p with bay = 2 value = true trigger action keep ( 1 ) on k end end"

-- "A lamp plugged in during a core arrives with its bay known": a lamp in bay 1, one in bay 2, and a clause `with bay = 2` for any lamp
unfoldable pub lamps : List ℕ
unfolding ascii
lamps = ascii "interface Lamp { attribute bay : whole event switch : bool action glow ( whole ) } entity west : Lamp { bay = 1 } entity east : Lamp { bay = 2 } rules when event switch from l : Lamp with bay = 2 value = true trigger action glow ( l.bay ) on l end end"

-- order 6: "Two rules may set one lamp in one cycle": a button, one lamp, and three rules
unfoldable pub one_lamp : String → String → String → List ℕ
unfolding ascii
one_lamp first second third = ascii "interface B { event down : bool } interface L { action glow ( whole ) } entity b : B { } entity l : L { } rules "
    ++ ascii first ++ ascii " " ++ ascii second ++ ascii " " ++ ascii third ++ ascii " end"

-- two rules of equal priority that fire whenever the button moves, and "the safety rule" of priority 9, which fires when it goes down
abbrev pub knob_rule : String
knob_rule = "when rank 3 event down from b value changed trigger action glow ( 1 ) on l end"

abbrev pub panel_rule : String
panel_rule = "when rank 3 event down from b value changed trigger action glow ( 2 ) on l end"

abbrev pub safety_rule : String
safety_rule = "when rank 9 event down from b value = true trigger action glow ( 0 ) on l end"

unfoldable pub bench_memory : List ℕ → List ℕ
unfolding check_call
bench_memory text = (check_call text (replicate BENCH 0)).bench

unfoldable pub fresh_memory : List ℕ → List ℕ
unfolding fresh_call bench_memory
fresh_memory text = (fresh_call (bench_memory text) (replicate STATE 0)).state

-- a call's number and the row that it wrote
pub record Printed : Type 0 where
  pub number : ℕ
  pub row : List ℕ

unfoldable pub printed_by : ℕ → List ℕ → Printed
printed_by answer m = record { number = answer % 256; row = take (answer / 256) m }

unfoldable pub line_printed : AfterLine → Printed
unfolding printed_by
line_printed r = printed_by r.answer r.row

unfoldable pub asked : List ℕ → String → Request
unfolding ascii
asked names values = record { names = names; values = ascii values; row = replicate ROW 0 }

-- what each line prints in a run from a fresh state
unfoldable pub lines_printed : List ℕ → String → List String → List Printed
unfolding line_printed replies bench_memory fresh_memory asked ascii
lines_printed text names values = map line_printed (replies (bench_memory text) (fresh_memory text) (map (asked (ascii names)) values))

unfoldable pub header_printed : List ℕ → Printed
unfolding printed_by header_call bench_memory
header_printed text = let r = header_call (bench_memory text) (replicate ROW 0) in printed_by r.answer r.row

unfoldable pub memory_after : List ℕ → List AfterLine → List ℕ
memory_after m [] = m
memory_after m (r ∷ rs) = memory_after r.state rs

-- the row call for a sender after these lines
unfoldable pub row_call_printed : List ℕ → String → List String → String → Printed
unfolding printed_by row_call replies bench_memory fresh_memory memory_after asked ascii
row_call_printed text names values sender =
    let rs = replies (bench_memory text) (fresh_memory text) (map (asked (ascii names)) values) in
    let r = row_call (bench_memory text) (memory_after (fresh_memory text) rs) (ascii sender) (replicate ROW 0) in
    printed_by r.answer r.row

unfoldable pub row_printed : String → Printed
unfolding ascii
row_printed s = record { number = 0; row = ascii s }

unfoldable pub refused_with : ℕ → Printed
refused_with code = record { number = code; row = [] }

unfoldable pub checked_as : List ℕ → ℕ
unfolding check_call
checked_as text = (check_call text (replicate BENCH 0)).answer

-- where the name of an entity stands, as its call answers
unfoldable pub name_located : List ℕ → ℕ → ℕ
unfolding entity_span
name_located text number = span_answer (entity_span text number)
