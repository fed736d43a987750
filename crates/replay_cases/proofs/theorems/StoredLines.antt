-- Readings, and all that is printed for them. Made by tests/oracle/to_antt.py from tests/oracle/cases.json.
use mathlib.Core.Path.{◌≡◌, refl}
use lib.Ieee as Ieee
use Rattle.text.specs.definitions.Bytes.{ascii}
use Rattle.replay.specs.definitions.Replay.{replay}

pub run_pedal_table : replay (ascii "interface P { event down : bool } interface S { event pos : whole } interface L { action keep ( whole ) } entity p : P { } entity s : S { } entity k : L { } rules when event down from p value = true trigger action keep ( s.pos ) on k end end") (ascii "by n p.down s.pos\na 1 false 100\na 2 true 140\na 2 true 140\na 3 - 150\na 4 false 150\na 5 true 190\na 4 - -\n") ≡ ascii "by n k.keep\na 1 -\na 2 140\na 2 140\na 3 -\na 4 -\na 5 190\nrefused 24\n"
unfolding replay ascii
    Ieee.add Ieee.sub Ieee.mul Ieee.div Ieee.neg Ieee.eq Ieee.of_int Ieee.of_bits Ieee.to_bits Ieee.is_nan
run_pedal_table = refl

pub run_refused_bench : replay (ascii "") (ascii "by n\na 1\n") ≡ ascii "refused 13 0\n"
unfolding replay ascii
    Ieee.add Ieee.sub Ieee.mul Ieee.div Ieee.neg Ieee.eq Ieee.of_int Ieee.of_bits Ieee.to_bits Ieee.is_nan
run_refused_bench = refl

pub run_header_action : replay (ascii "interface I { attribute a : whole event e : whole action k ( whole ) } entity s : I { a = 1 } rules when event e from s value changed trigger action k ( s.e ) on s end end") (ascii "by n s.e s.k\na 1 1\n") ≡ ascii "refused 22\n"
unfolding replay ascii
    Ieee.add Ieee.sub Ieee.mul Ieee.div Ieee.neg Ieee.eq Ieee.of_int Ieee.of_bits Ieee.to_bits Ieee.is_nan
run_header_action = refl

pub run_header_attribute : replay (ascii "interface I { attribute a : whole event e : whole action k ( whole ) } entity s : I { a = 1 } rules when event e from s value changed trigger action k ( s.e ) on s end end") (ascii "by n s.a\na 1 1\n") ≡ ascii "refused 22\n"
unfolding replay ascii
    Ieee.add Ieee.sub Ieee.mul Ieee.div Ieee.neg Ieee.eq Ieee.of_int Ieee.of_bits Ieee.to_bits Ieee.is_nan
run_header_attribute = refl

pub run_header_column_twice : replay (ascii "interface I { attribute a : whole event e : whole action k ( whole ) } entity s : I { a = 1 } rules when event e from s value changed trigger action k ( s.e ) on s end end") (ascii "by n s s.e s\na 1 1\n") ≡ ascii "refused 22\n"
unfolding replay ascii
    Ieee.add Ieee.sub Ieee.mul Ieee.div Ieee.neg Ieee.eq Ieee.of_int Ieee.of_bits Ieee.to_bits Ieee.is_nan
run_header_column_twice = refl

pub run_header_trailing_space : replay (ascii "interface I { attribute a : whole event e : whole action k ( whole ) } entity s : I { a = 1 } rules when event e from s value changed trigger action k ( s.e ) on s end end") (ascii "by n s.e \na 1 1\n") ≡ ascii "refused 22\n"
unfolding replay ascii
    Ieee.add Ieee.sub Ieee.mul Ieee.div Ieee.neg Ieee.eq Ieee.of_int Ieee.of_bits Ieee.to_bits Ieee.is_nan
run_header_trailing_space = refl

pub run_header_without_by : replay (ascii "interface I { attribute a : whole event e : whole action k ( whole ) } entity s : I { a = 1 } rules when event e from s value changed trigger action k ( s.e ) on s end end") (ascii "n s.e\na 1 1\n") ≡ ascii "refused 22\n"
unfolding replay ascii
    Ieee.add Ieee.sub Ieee.mul Ieee.div Ieee.neg Ieee.eq Ieee.of_int Ieee.of_bits Ieee.to_bits Ieee.is_nan
run_header_without_by = refl

pub run_header_without_n : replay (ascii "interface I { attribute a : whole event e : whole action k ( whole ) } entity s : I { a = 1 } rules when event e from s value changed trigger action k ( s.e ) on s end end") (ascii "by s.e\na 1 1\n") ≡ ascii "refused 22\n"
unfolding replay ascii
    Ieee.add Ieee.sub Ieee.mul Ieee.div Ieee.neg Ieee.eq Ieee.of_int Ieee.of_bits Ieee.to_bits Ieee.is_nan
run_header_without_n = refl

pub run_header_n_before_by : replay (ascii "interface I { attribute a : whole event e : whole action k ( whole ) } entity s : I { a = 1 } rules when event e from s value changed trigger action k ( s.e ) on s end end") (ascii "n by s.e\na 1 1\n") ≡ ascii "refused 22\n"
unfolding replay ascii
    Ieee.add Ieee.sub Ieee.mul Ieee.div Ieee.neg Ieee.eq Ieee.of_int Ieee.of_bits Ieee.to_bits Ieee.is_nan
run_header_n_before_by = refl

pub run_header_by_alone : replay (ascii "interface I { attribute a : whole event e : whole action k ( whole ) } entity s : I { a = 1 } rules when event e from s value changed trigger action k ( s.e ) on s end end") (ascii "by\na 1 1\n") ≡ ascii "refused 22\n"
unfolding replay ascii
    Ieee.add Ieee.sub Ieee.mul Ieee.div Ieee.neg Ieee.eq Ieee.of_int Ieee.of_bits Ieee.to_bits Ieee.is_nan
run_header_by_alone = refl

pub run_empty_readings : replay (ascii "interface I { attribute a : whole event e : whole action k ( whole ) } entity s : I { a = 1 } rules when event e from s value changed trigger action k ( s.e ) on s end end") (ascii "") ≡ ascii "refused 22\n"
unfolding replay ascii
    Ieee.add Ieee.sub Ieee.mul Ieee.div Ieee.neg Ieee.eq Ieee.of_int Ieee.of_bits Ieee.to_bits Ieee.is_nan
run_empty_readings = refl

pub run_header_only : replay (ascii "interface I { attribute a : whole event e : whole action k ( whole ) } entity s : I { a = 1 } rules when event e from s value changed trigger action k ( s.e ) on s end end") (ascii "by n s s.e") ≡ ascii "by n s.k\n"
unfolding replay ascii
    Ieee.add Ieee.sub Ieee.mul Ieee.div Ieee.neg Ieee.eq Ieee.of_int Ieee.of_bits Ieee.to_bits Ieee.is_nan
run_header_only = refl

pub run_header_by_n_alone : replay (ascii "interface I { attribute a : whole event e : whole action k ( whole ) } entity s : I { a = 1 } rules when event e from s value changed trigger action k ( s.e ) on s end end") (ascii "by n\na 1\na 1 -\nb 1\na 1\na 2\nb\n2\n") ≡ ascii "by n s.k\na 1 -\nrefused 21\nb 1 -\na 1 -\na 2 -\nrefused 21\nrefused 21\n"
unfolding replay ascii
    Ieee.add Ieee.sub Ieee.mul Ieee.div Ieee.neg Ieee.eq Ieee.of_int Ieee.of_bits Ieee.to_bits Ieee.is_nan
run_header_by_n_alone = refl

pub run_entity_n_no_line_feed : replay (ascii "interface I { event n : bool action k ( bool ) } entity n : I { } rules when event n from n value changed trigger action k ( n.n ) on n end end") (ascii "by n n.n n\na 1 true -\na 2 false true\na 3 - false\na 4 true true") ≡ ascii "by n n.k\na 1 true\na 2 false\na 3 -\na 4 true\n"
unfolding replay ascii
    Ieee.add Ieee.sub Ieee.mul Ieee.div Ieee.neg Ieee.eq Ieee.of_int Ieee.of_bits Ieee.to_bits Ieee.is_nan
run_entity_n_no_line_feed = refl

pub run_empty_lines : replay (ascii "interface I { attribute a : whole event e : whole action k ( whole ) } entity s : I { a = 1 } rules when event e from s value changed trigger action k ( s.e ) on s end end") (ascii "by n s.e\n\na 1 5\n\n") ≡ ascii "by n s.k\nrefused 21\na 1 5\nrefused 21\n"
unfolding replay ascii
    Ieee.add Ieee.sub Ieee.mul Ieee.div Ieee.neg Ieee.eq Ieee.of_int Ieee.of_bits Ieee.to_bits Ieee.is_nan
run_empty_lines = refl

pub run_numbers_alone : replay (ascii "rules end") (ascii "by n\na 0\na 01\na 1\na 1\na 0\na 00\na 3\na 2\n") ≡ ascii "by n\nrefused 24\nrefused 21\na 1\na 1\nrefused 24\nrefused 21\nrefused 24\na 2\n"
unfolding replay ascii
    Ieee.add Ieee.sub Ieee.mul Ieee.div Ieee.neg Ieee.eq Ieee.of_int Ieee.of_bits Ieee.to_bits Ieee.is_nan
run_numbers_alone = refl

pub run_refused_21 : replay (ascii "interface I { attribute a : whole event e : whole action k ( whole ) } entity s : I { a = 1 } rules when event e from s value changed trigger action k ( s.e ) on s end end") (ascii "by n s.e\na 1\na 1 5 6\na 1  5\na  1 5\na 1 5 \na 1\t5\na +1 5\na 1\t 5\na 01 5\na 10000000000 5\na n 5\na 1 5\n") ≡ ascii "by n s.k\nrefused 21\nrefused 21\nrefused 21\nrefused 21\nrefused 21\nrefused 21\nrefused 21\nrefused 21\nrefused 21\nrefused 21\nrefused 21\na 1 5\n"
unfolding replay ascii
    Ieee.add Ieee.sub Ieee.mul Ieee.div Ieee.neg Ieee.eq Ieee.of_int Ieee.of_bits Ieee.to_bits Ieee.is_nan
run_refused_21 = refl

pub run_refused_23_whole : replay (ascii "interface I { attribute a : whole event e : whole action k ( whole ) } entity s : I { a = 1 } rules when event e from s value changed trigger action k ( s.e ) on s end end") (ascii "by n s.e\na 1 05\na 1 -0\na 1 00\na 1 2147483648\na 1 -2147483649\na 1 +5\na 1 5r\na 1 --5\na 1 true\na 1 -2147483648\na 2 2147483647\na 3 0\n") ≡ ascii "by n s.k\nrefused 23\nrefused 23\nrefused 23\nrefused 23\nrefused 23\nrefused 23\nrefused 23\nrefused 23\nrefused 23\na 1 -2147483648\na 2 2147483647\na 3 0\n"
unfolding replay ascii
    Ieee.add Ieee.sub Ieee.mul Ieee.div Ieee.neg Ieee.eq Ieee.of_int Ieee.of_bits Ieee.to_bits Ieee.is_nan
run_refused_23_whole = refl

pub run_refused_23_real_bool : replay (ascii "interface I { event r : real event b : bool action k ( real ) action m ( bool ) } entity s : I { } rules when event r from s value changed or event b from s value changed trigger action k ( s.r ) on s , action m ( s.b ) on s end end") (ascii "by n s.r s.b\na 1 3FF0000000000000 true\na 1 3ff000000000000 true\na 1 3ff00000000000000 true\na 1 7ff0000000000000 true\na 1 fff8000000000001 true\na 1 1 true\na 1 - True\na 1 - 0\na 1 7fefffffffffffff ?\na 2 - false\na 3 800000000000000f -\na 4 ? -\n") ≡ ascii "by n s.k s.m\nrefused 23\nrefused 23\nrefused 23\nrefused 23\nrefused 23\nrefused 23\nrefused 23\nrefused 23\na 1 7fefffffffffffff -\na 2 7fefffffffffffff false\na 3 800000000000000f false\na 4 - false\n"
unfolding replay ascii
    Ieee.add Ieee.sub Ieee.mul Ieee.div Ieee.neg Ieee.eq Ieee.of_int Ieee.of_bits Ieee.to_bits Ieee.is_nan
run_refused_23_real_bool = refl

pub run_refused_23_presence : replay (ascii "interface I { attribute a : whole event e : whole action k ( whole ) } entity s : I { a = 1 } rules when event e from s value changed trigger action k ( s.e ) on s end end") (ascii "by n s.e s\na 1 5 ?\na 1 5 1\na 1 5 false\na 1 ? false\na 1 - false\na 2 5 -\na 2 ? -\na 2 5 false\na 2 - false\na 3 ? true\na 4 5 true\na 5 7 -\n") ≡ ascii "by n s.k\nrefused 23\nrefused 23\nrefused 23\nrefused 23\na 1 -\nrefused 23\nrefused 23\nrefused 23\na 2 -\na 3 -\na 4 5\na 5 7\n"
unfolding replay ascii
    Ieee.add Ieee.sub Ieee.mul Ieee.div Ieee.neg Ieee.eq Ieee.of_int Ieee.of_bits Ieee.to_bits Ieee.is_nan
run_refused_23_presence = refl

pub run_refused_24 : replay (ascii "interface I { attribute a : whole event e : whole action k ( whole ) } entity s : I { a = 1 } rules when event e from s value changed trigger action k ( s.e ) on s end end") (ascii "by n s.e\na 2 5\na 4294967295 5\na 1 5\na 0 5\na 3 5\na 2 6\na 1 5\na 4294967296 6\na 4294967298 6\na 9999999999 6\na 2 6\na 3 6\n") ≡ ascii "by n s.k\nrefused 24\nrefused 24\na 1 5\nrefused 24\nrefused 24\na 2 6\nrefused 24\nrefused 24\nrefused 24\nrefused 24\na 2 6\na 3 -\n"
unfolding replay ascii
    Ieee.add Ieee.sub Ieee.mul Ieee.div Ieee.neg Ieee.eq Ieee.of_int Ieee.of_bits Ieee.to_bits Ieee.is_nan
run_refused_24 = refl

pub run_refused_25 : replay (ascii "interface P { event down : bool } interface S { event pos : whole } interface L { action keep ( whole ) } entity p : P { } entity s : S { } entity k : L { } rules when event down from p value = true trigger action keep ( s.pos ) on k end end") (ascii "by n p p.down s.pos\na 1 - true 10\na 1 true true 10\na 1 - true 11\na 1 - - 10\na 1 - true ?\na 1 - true 10\na 2 - - ?\na 2 - - -\na 2 - - ?\na 3 - - -\na 3 - - ?\na 3 - - -\n") ≡ ascii "by n k.keep\na 1 10\nrefused 25\nrefused 25\nrefused 25\nrefused 25\na 1 10\na 2 -\nrefused 25\na 2 -\na 3 -\nrefused 25\na 3 -\n"
unfolding replay ascii
    Ieee.add Ieee.sub Ieee.mul Ieee.div Ieee.neg Ieee.eq Ieee.of_int Ieee.of_bits Ieee.to_bits Ieee.is_nan
run_refused_25 = refl

pub run_refusal_order : replay (ascii "interface I { attribute a : whole event e : whole action k ( whole ) } entity s : I { a = 1 } rules when event e from s value changed trigger action k ( s.e ) on s end end") (ascii "by n s.e\na 9 bad 5\na 01 bad\na 9 bad\na 0 bad\na 4294967296 bad\na 9 5\na 1 5\na 1 bad\na 1 6\na 1 6 7\na 1 5\na 2 6\n") ≡ ascii "by n s.k\nrefused 21\nrefused 21\nrefused 23\nrefused 23\nrefused 23\nrefused 24\na 1 5\nrefused 23\nrefused 25\nrefused 21\na 1 5\na 2 6\n"
unfolding replay ascii
    Ieee.add Ieee.sub Ieee.mul Ieee.div Ieee.neg Ieee.eq Ieee.of_int Ieee.of_bits Ieee.to_bits Ieee.is_nan
run_refusal_order = refl

pub run_absent_with_last_number : replay (ascii "interface I { attribute a : whole event e : whole action k ( whole ) } entity s : I { a = 1 } rules when event e from s value changed trigger action k ( s.e ) on s end end") (ascii "by n s s.e\na 1 - 5\na 2 false -\na 2 - 5\na 2 - -\na 2 true 5\na 2 false -\na 3 true 5\na 3 - 5\na 3 false -\na 3 false 5\na 3 true 5\na 4 true 5\n") ≡ ascii "by n s.k\na 1 5\na 2 -\nrefused 23\nrefused 25\nrefused 25\na 2 -\na 3 5\nrefused 25\nrefused 25\nrefused 23\na 3 5\na 4 -\n"
unfolding replay ascii
    Ieee.add Ieee.sub Ieee.mul Ieee.div Ieee.neg Ieee.eq Ieee.of_int Ieee.of_bits Ieee.to_bits Ieee.is_nan
run_absent_with_last_number = refl

pub run_leave_and_return : replay (ascii "interface O { action o ( whole ) action p ( whole ) } interface G { event t : whole } interface S { attribute id : whole event v : whole } entity g : G { } entity s : S { id = 7 } entity z : O { } rules when event t from g value changed trigger action o ( s.id ) on z , action p ( s.v ) on z end end") (ascii "by n g.t s s.v\na 1 1 - 5\na 2 2 false -\na 3 3 true -\na 4 4 - 6\na 5 5 false 6\na 5 5 true -\na 6 6 false -\na 7 7 true 8\n") ≡ ascii "by n z.o z.p\na 1 7 5\na 2 - -\na 3 7 -\na 4 7 6\nrefused 23\na 5 7 6\na 6 - -\na 7 7 8\n"
unfolding replay ascii
    Ieee.add Ieee.sub Ieee.mul Ieee.div Ieee.neg Ieee.eq Ieee.of_int Ieee.of_bits Ieee.to_bits Ieee.is_nan
run_leave_and_return = refl

pub run_clause_at_absent_entity : replay (ascii "interface O { action o ( whole ) action p ( whole ) } interface S { event v : whole } entity s : S { } entity z : O { } rules when event v from s value changed trigger action o ( 1 ) on z end when event v from s value = 5 trigger action p ( 2 ) on z end end") (ascii "by n s s.v\na 1 - 5\na 2 false -\na 3 false -\na 4 true 5\na 5 - 5\na 6 false -\na 7 true -\na 8 - 5\na 9 - ?\n") ≡ ascii "by n z.o z.p\na 1 1 2\na 2 - -\na 3 - -\na 4 1 2\na 5 - -\na 6 - -\na 7 - -\na 8 1 2\na 9 1 -\n"
unfolding replay ascii
    Ieee.add Ieee.sub Ieee.mul Ieee.div Ieee.neg Ieee.eq Ieee.of_int Ieee.of_bits Ieee.to_bits Ieee.is_nan
run_clause_at_absent_entity = refl

pub run_choices_of_present_entities : replay (ascii "interface B { event p : bool action r ( whole ) } entity x : B { } entity y : B { } entity z : B { } rules when event p from v : B value = true trigger action r ( 1 ) on w : B end end") (ascii "by n x y z x.p z.p\na 1 - - - true -\na 2 - false - false -\na 3 - - - true -\na 4 false true - - false\na 5 - - - - true\na 6 true - false - -\na 7 - - - true -\n") ≡ ascii "by n x.r y.r z.r\na 1 1 1 1\na 2 - - -\na 3 1 - 1\na 4 - - -\na 5 - 1 1\na 6 - - -\na 7 1 1 -\n"
unfolding replay ascii
    Ieee.add Ieee.sub Ieee.mul Ieee.div Ieee.neg Ieee.eq Ieee.of_int Ieee.of_bits Ieee.to_bits Ieee.is_nan
run_choices_of_present_entities = refl

pub run_variable_only_in_call : replay (ascii "interface O { action o ( whole ) action p ( whole ) } interface G { event t : whole } interface B { action q ( whole ) } entity g : G { } entity z : O { } entity b : B { } entity c : B { } rules when event t from g value changed trigger action o ( g.t ) on z , action q ( 1 ) on y : B end end") (ascii "by n g.t b c z\na 1 1 - - -\na 2 2 false - -\na 3 3 - false -\na 4 4 true - -\na 5 5 - - false\n") ≡ ascii "by n z.o z.p b.q c.q\na 1 1 - 1 1\na 2 2 - - 1\na 3 - - - -\na 4 4 - 1 -\na 5 - - 1 -\n"
unfolding replay ascii
    Ieee.add Ieee.sub Ieee.mul Ieee.div Ieee.neg Ieee.eq Ieee.of_int Ieee.of_bits Ieee.to_bits Ieee.is_nan
run_variable_only_in_call = refl

pub run_order_of_choices : replay (ascii "interface O { action o ( whole ) action p ( whole ) action q ( whole ) } interface A { attribute n : whole event t : whole } interface B { attribute n : whole action w ( whole ) } entity b : B { n = 10 } entity a : A { n = 1 } entity c : A { n = 2 } entity d : B { n = 20 } entity z : O { } rules when event t from x : A value changed trigger action o ( x.n * 100 + y.n + 0 / ( 110 - x.n * 100 - y.n ) ) on z , action p ( x.n * 100 + y.n ) on z , action w ( x.n ) on y : B end end") (ascii "by n a.t c.t c\na 1 1 1 -\na 2 2 - -\na 3 - 2 -\na 4 3 - false\na 5 - - true\n") ≡ ascii "by n b.w d.w z.o z.p z.q\na 1 1 1 120 110 -\na 2 1 1 120 110 -\na 3 2 2 210 210 -\na 4 1 1 120 110 -\na 5 - - - - -\n"
unfolding replay ascii
    Ieee.add Ieee.sub Ieee.mul Ieee.div Ieee.neg Ieee.eq Ieee.of_int Ieee.of_bits Ieee.to_bits Ieee.is_nan
run_order_of_choices = refl

pub run_first_write_stands : replay (ascii "interface S { event e : whole action keep ( whole ) } entity s : S { } rules when event e from s value = 5 trigger action keep ( 1 / 0 ) on s , action keep ( 3 ) on s end when event e from s value changed trigger action keep ( 1 ) on s , action keep ( 2 ) on s end end") (ascii "by n s.e\na 1 4\na 2 5\na 3 5\na 4 4\n") ≡ ascii "by n s.keep\na 1 1\na 2 3\na 3 -\na 4 1\n"
unfolding replay ascii
    Ieee.add Ieee.sub Ieee.mul Ieee.div Ieee.neg Ieee.eq Ieee.of_int Ieee.of_bits Ieee.to_bits Ieee.is_nan
run_first_write_stands = refl

pub run_changed_and_unset : replay (ascii "interface I { attribute a : whole event e : whole action k ( whole ) } entity s : I { a = 1 } rules when event e from s value changed trigger action k ( 1 ) on s end end") (ascii "by n s.e\na 1 -\na 2 5\na 3 5\na 4 ?\na 5 ?\na 6 -\na 7 5\na 8 -\na 9 6\n") ≡ ascii "by n s.k\na 1 -\na 2 1\na 3 -\na 4 1\na 5 -\na 6 -\na 7 1\na 8 -\na 9 1\n"
unfolding replay ascii
    Ieee.add Ieee.sub Ieee.mul Ieee.div Ieee.neg Ieee.eq Ieee.of_int Ieee.of_bits Ieee.to_bits Ieee.is_nan
run_changed_and_unset = refl

pub run_two_zeros : replay (ascii "interface O { action o ( whole ) action p ( whole ) } interface S { event r : real } entity s : S { } entity z : O { } rules when event r from s value changed trigger action o ( 1 ) on z end when event r from s value = 0r trigger action p ( 2 ) on z end end") (ascii "by n s.r\na 1 0000000000000000\na 1 8000000000000000\na 1 0000000000000000\na 2 8000000000000000\na 3 0000000000000000\na 4 0000000000000001\na 5 8000000000000000\na 6 ?\na 7 ?\na 8 8000000000000000\n") ≡ ascii "by n z.o z.p\na 1 1 2\nrefused 25\na 1 1 2\na 2 - -\na 3 - -\na 4 1 -\na 5 1 2\na 6 1 -\na 7 - -\na 8 1 2\n"
unfolding replay ascii
    Ieee.add Ieee.sub Ieee.mul Ieee.div Ieee.neg Ieee.eq Ieee.of_int Ieee.of_bits Ieee.to_bits Ieee.is_nan
run_two_zeros = refl

pub run_value_fires_once : replay (ascii "interface S { event e : whole event f : whole action k ( whole ) } entity s : S { } rules when event e from s value = s.f trigger action k ( s.e ) on s end end") (ascii "by n s.e s.f\na 1 1 2\na 2 2 -\na 3 3 3\na 4 - -\na 5 3 4\na 6 4 -\na 7 ? -\na 8 4 -\na 9 - ?\na 10 - 4\n") ≡ ascii "by n s.k\na 1 -\na 2 2\na 3 -\na 4 -\na 5 -\na 6 4\na 7 -\na 8 4\na 9 -\na 10 4\n"
unfolding replay ascii
    Ieee.add Ieee.sub Ieee.mul Ieee.div Ieee.neg Ieee.eq Ieee.of_int Ieee.of_bits Ieee.to_bits Ieee.is_nan
run_value_fires_once = refl

pub run_clause_filter_reads_now : replay (ascii "interface G { event t : whole } interface S { attribute id : whole event v : whole action k ( whole ) } entity g : G { } entity s : S { id = 7 } rules when event v from s with id = g.t value changed trigger action k ( s.v ) on s end end") (ascii "by n g.t s.v s\na 1 7 1 -\na 2 8 2 -\na 3 7 3 -\na 4 - 4 -\na 5 - - false\na 6 - 5 true\na 7 - 6 -\na 8 ? 7 -\na 9 7 8 -\n") ≡ ascii "by n s.k\na 1 1\na 2 -\na 3 3\na 4 4\na 5 -\na 6 5\na 7 6\na 8 -\na 9 8\n"
unfolding replay ascii
    Ieee.add Ieee.sub Ieee.mul Ieee.div Ieee.neg Ieee.eq Ieee.of_int Ieee.of_bits Ieee.to_bits Ieee.is_nan
run_clause_filter_reads_now = refl

pub run_call_filter_reads_now : replay (ascii "interface G { event t : whole } interface S { attribute id : whole action k ( whole ) } entity g : G { } entity s : S { id = 7 } entity r : S { id = 8 } rules when event t from g value changed trigger action k ( g.t ) on s with id = g.t , action k ( x.id ) on x : S with id = g.t + 0 end end") (ascii "by n g.t s\na 1 7 -\na 2 8 -\na 3 9 -\na 4 ? -\na 5 7 -\na 6 8 false\na 7 7 -\na 8 - true\na 9 ? -\na 10 7 -\n") ≡ ascii "by n s.k r.k\na 1 7 -\na 2 - 8\na 3 - -\na 4 - -\na 5 7 -\na 6 - 8\na 7 - -\na 8 - -\na 9 - -\na 10 7 -\n"
unfolding replay ascii
    Ieee.add Ieee.sub Ieee.mul Ieee.div Ieee.neg Ieee.eq Ieee.of_int Ieee.of_bits Ieee.to_bits Ieee.is_nan
run_call_filter_reads_now = refl

pub run_and_or : replay (ascii "interface O { action o ( whole ) action p ( whole ) } interface S { event a : bool event b : bool event c : bool } entity s : S { } entity z : O { } rules when event a from s value = true or event b from s value = true and event c from s value = true trigger action o ( 1 ) on z end when ( event a from s value = true or event b from s value = true ) and event c from s value = true trigger action p ( 1 ) on z end end") (ascii "by n s.a s.b s.c\na 1 true false false\na 2 false true true\na 3 false false true\na 4 false true false\na 5 true true true\na 6 false false false\na 7 false false true\na 8 false true true\na 9 true - -\n") ≡ ascii "by n z.o z.p\na 1 1 -\na 2 1 1\na 3 - -\na 4 - -\na 5 1 1\na 6 - -\na 7 - -\na 8 - -\na 9 1 -\n"
unfolding replay ascii
    Ieee.add Ieee.sub Ieee.mul Ieee.div Ieee.neg Ieee.eq Ieee.of_int Ieee.of_bits Ieee.to_bits Ieee.is_nan
run_and_or = refl

pub run_filter_lamp_joins_late : replay (ascii "interface Lamp { attribute bay : whole event seen : bool action one ( whole ) action any ( whole ) } entity p : Lamp { bay = 2 } entity q : Lamp { bay = 3 } rules when event seen from p with bay = 2 value = true trigger action one ( 1 ) on p end when event seen from q with bay = 2 value = true trigger action one ( 1 ) on q end when event seen from l : Lamp with bay = 2 value changed trigger action any ( l.bay ) on l end end") (ascii "by n p q p.seen q.seen\na 1 false false - -\na 2 true true true true\na 3 - - true true\na 4 false - - false\na 5 true - true true\na 6 - - - -\na 7 false - - -\na 8 true - - -\na 9 - - true -\na 10 - - false -\n") ≡ ascii "by n p.one p.any q.one q.any\na 1 - - - -\na 2 1 2 - -\na 3 - - - -\na 4 - - - -\na 5 1 2 - -\na 6 - - - -\na 7 - - - -\na 8 - - - -\na 9 1 2 - -\na 10 - 2 - -\n"
unfolding replay ascii
    Ieee.add Ieee.sub Ieee.mul Ieee.div Ieee.neg Ieee.eq Ieee.of_int Ieee.of_bits Ieee.to_bits Ieee.is_nan
run_filter_lamp_joins_late = refl

pub run_filter_sum_of_the_line : replay (ascii "interface G { event t : whole } interface S { attribute id : whole event v : whole action c ( whole ) action e ( whole ) } entity g : G { } entity s : S { id = 7 } rules when event v from s with id = 14 / g.t value changed trigger action c ( s.v ) on s end when event v from s with id = 14 / g.t value = 5 trigger action e ( g.t ) on s end end") (ascii "by n g.t s.v\na 1 2 0\na 2 3 5\na 3 - 0\na 4 2 5\na 5 - 0\na 6 0 5\na 7 - 0\na 8 2 5\na 9 - 0\na 10 ? 5\na 11 2 6\n") ≡ ascii "by n s.c s.e\na 1 0 -\na 2 - -\na 3 - -\na 4 5 2\na 5 0 -\na 6 - -\na 7 - -\na 8 5 2\na 9 0 -\na 10 - -\na 11 6 -\n"
unfolding replay ascii
    Ieee.add Ieee.sub Ieee.mul Ieee.div Ieee.neg Ieee.eq Ieee.of_int Ieee.of_bits Ieee.to_bits Ieee.is_nan
run_filter_sum_of_the_line = refl

pub run_filter_compares_two_cycles : replay (ascii "interface S { attribute id : whole event f : whole event v : whole event w : whole action c ( whole ) action e ( whole ) } entity s : S { id = 1 } rules when event v from s with id = s.f value changed trigger action c ( s.v ) on s end when event v from s with id = s.f value = s.w trigger action e ( s.w ) on s end end") (ascii "by n s.f s.v s.w\na 1 0 5 5\na 2 1 5 5\na 3 - 6 6\na 4 - - 7\na 5 - 7 8\na 6 - - 7\na 7 0 8 8\na 8 1 9 9\na 9 0 ? ?\na 10 1 4 4\n") ≡ ascii "by n s.c s.e\na 1 - -\na 2 - -\na 3 6 -\na 4 - -\na 5 7 -\na 6 - 7\na 7 - -\na 8 9 -\na 9 - -\na 10 4 4\n"
unfolding replay ascii
    Ieee.add Ieee.sub Ieee.mul Ieee.div Ieee.neg Ieee.eq Ieee.of_int Ieee.of_bits Ieee.to_bits Ieee.is_nan
run_filter_compares_two_cycles = refl

pub run_filter_reads_action_one_cycle_later : replay (ascii "interface H { event t : whole action pick ( whole ) } interface Lamp { attribute bay : whole event seen : bool action lit ( whole ) } entity h : H { } entity p : Lamp { bay = 2 } entity q : Lamp { bay = 3 } rules when event t from h value changed trigger action pick ( h.t ) on h end when event seen from l : Lamp with bay = h.pick value changed trigger action lit ( h.pick ) on l end end") (ascii "by n h.t p.seen q.seen\na 1 2 true true\na 2 3 false false\na 3 - true true\na 4 - false false\na 5 2 true true\na 5 2 true true\na 6 - true false\na 7 3 false true\na 8 - true false\n") ≡ ascii "by n h.pick p.lit q.lit\na 1 2 - -\na 2 3 2 -\na 3 - - 3\na 4 - - -\na 5 2 - -\na 5 2 - -\na 6 - - -\na 7 3 - -\na 8 - - 3\n"
unfolding replay ascii
    Ieee.add Ieee.sub Ieee.mul Ieee.div Ieee.neg Ieee.eq Ieee.of_int Ieee.of_bits Ieee.to_bits Ieee.is_nan
run_filter_reads_action_one_cycle_later = refl

pub run_filter_lamp_leaves : replay (ascii "interface O { action o ( whole ) action p ( whole ) action q ( whole ) } interface Lamp { attribute bay : whole event seen : bool } entity a : Lamp { bay = 2 } entity b : Lamp { bay = 5 } entity z : O { } rules when event seen from a with bay = 2 value changed trigger action o ( 1 ) on z end when event seen from l : Lamp with bay = 2 value changed trigger action p ( 1 ) on z end when event seen from b with bay = a.bay + 3 value changed trigger action q ( 1 ) on z end end") (ascii "by n a a.seen b.seen\na 1 - true true\na 2 false - false\na 3 - - true\na 4 true - false\na 5 - true -\na 6 false - -\na 7 true false true\n") ≡ ascii "by n z.o z.p z.q\na 1 1 1 1\na 2 - - -\na 3 - - -\na 4 - - 1\na 5 1 1 -\na 6 - - -\na 7 1 1 1\n"
unfolding replay ascii
    Ieee.add Ieee.sub Ieee.mul Ieee.div Ieee.neg Ieee.eq Ieee.of_int Ieee.of_bits Ieee.to_bits Ieee.is_nan
run_filter_lamp_leaves = refl

pub run_filter_reads_variable_that_joins : replay (ascii "interface Lamp { attribute bay : whole attribute next : whole event seen : bool action lit ( whole ) } entity p : Lamp { bay = 1 next = 2 } entity q : Lamp { bay = 2 next = 1 } rules when event seen from x : Lamp with next = y.bay value = true trigger action lit ( x.bay ) on y : Lamp end end") (ascii "by n p q p.seen q.seen\na 1 - false true -\na 2 - true - true\na 3 - - false false\na 4 - - true true\na 5 false - - false\na 6 true - - true\na 7 - - true -\n") ≡ ascii "by n p.lit q.lit\na 1 - -\na 2 2 -\na 3 - -\na 4 2 1\na 5 - -\na 6 2 -\na 7 - 1\n"
unfolding replay ascii
    Ieee.add Ieee.sub Ieee.mul Ieee.div Ieee.neg Ieee.eq Ieee.of_int Ieee.of_bits Ieee.to_bits Ieee.is_nan
run_filter_reads_variable_that_joins = refl

pub run_action_seen_one_cycle_later : replay (ascii "interface O { action o ( whole ) action p ( whole ) } interface S { event e : whole action k ( whole ) } entity s : S { } entity z : O { } rules when event e from s value changed trigger action k ( s.e ) on s end when event k from s value changed trigger action o ( s.k ) on z , action p ( 1 ) on z end end") (ascii "by n s.e\na 1 5\na 2 -\na 3 -\na 4 -\na 5 6\na 6 6\na 7 7\na 8 8\na 9 9\n") ≡ ascii "by n s.k z.o z.p\na 1 5 - -\na 2 - 5 1\na 3 - - 1\na 4 - - -\na 5 6 - -\na 6 - 6 1\na 7 7 - 1\na 8 8 7 1\na 9 9 8 1\n"
unfolding replay ascii
    Ieee.add Ieee.sub Ieee.mul Ieee.div Ieee.neg Ieee.eq Ieee.of_int Ieee.of_bits Ieee.to_bits Ieee.is_nan
run_action_seen_one_cycle_later = refl

pub run_action_feeds_itself : replay (ascii "interface S { event e : bool action k ( whole ) } entity s : S { } rules when event e from s value = true trigger action k ( 1 ) on s end when event k from s value changed trigger action k ( s.k * 2 ) on s end end") (ascii "by n s s.e\na 1 - true\na 2 - -\na 2 - -\na 2 - true\na 3 - -\na 4 - -\na 5 false -\na 5 false -\na 6 true -\na 7 - true\na 8 true true\n") ≡ ascii "by n s.k\na 1 1\na 2 2\na 2 2\nrefused 25\na 3 4\na 4 8\na 5 -\na 5 -\na 6 -\na 7 1\na 8 2\n"
unfolding replay ascii
    Ieee.add Ieee.sub Ieee.mul Ieee.div Ieee.neg Ieee.eq Ieee.of_int Ieee.of_bits Ieee.to_bits Ieee.is_nan
run_action_feeds_itself = refl

pub run_whole_limits : replay (ascii "interface C { event t : bool } interface O { action a ( whole ) action b ( whole ) action c ( whole ) action d ( whole ) action e ( whole ) action f ( whole ) action g ( whole ) action h ( whole ) } entity c : C { } entity o : O { } rules when event t from c value = true trigger action a ( 2147483647 + 1 ) on o , action b ( -7 / 2 ) on o , action c ( 7 / 0 ) on o , action d ( (-2147483647 - 1) / -1 ) on o , action e ( -2147483647 - 1 ) on o , action f ( 7 / -2 ) on o , action g ( -(-2147483647 - 1) ) on o , action h ( -65536 * 32768 ) on o end end") (ascii "by n c.t\na 1 true\na 2 false\na 3 true\na 3 true\n") ≡ ascii "by n o.a o.b o.c o.d o.e o.f o.g o.h\na 1 - -4 - - -2147483648 -4 - -2147483648\na 2 - - - - - - - -\na 3 - -4 - - -2147483648 -4 - -2147483648\na 3 - -4 - - -2147483648 -4 - -2147483648\n"
unfolding replay ascii
    Ieee.add Ieee.sub Ieee.mul Ieee.div Ieee.neg Ieee.eq Ieee.of_int Ieee.of_bits Ieee.to_bits Ieee.is_nan
run_whole_limits = refl

pub run_whole_grouping : replay (ascii "interface C { event t : bool } interface O { action a ( whole ) action b ( whole ) action c ( whole ) action d ( whole ) action e ( whole ) action f ( whole ) action g ( whole ) action h ( whole ) } entity c : C { } entity o : O { } rules when event t from c value = true trigger action a ( 10 - 3 - 4 ) on o , action b ( 100 / 10 / 2 ) on o , action c ( 2 + 3 * 4 ) on o , action d ( 2147483647 + 1 - 1 ) on o , action e ( 7 / 2 * 2 ) on o , action f ( 65536 * 32768 ) on o , action g ( 0 * (1 / 0) ) on o , action h ( -0 - - - 5 ) on o end end") (ascii "by n c.t\na 1 true\na 2 false\na 3 true\na 3 true\n") ≡ ascii "by n o.a o.b o.c o.d o.e o.f o.g o.h\na 1 3 5 14 - 6 - - -5\na 2 - - - - - - - -\na 3 3 5 14 - 6 - - -5\na 3 3 5 14 - 6 - - -5\n"
unfolding replay ascii
    Ieee.add Ieee.sub Ieee.mul Ieee.div Ieee.neg Ieee.eq Ieee.of_int Ieee.of_bits Ieee.to_bits Ieee.is_nan
run_whole_grouping = refl

pub run_real_sums : replay (ascii "interface C { event t : bool } interface O { action a ( real ) action b ( real ) action c ( real ) action d ( real ) action e ( real ) action f ( real ) action g ( real ) action h ( real ) } entity c : C { } entity o : O { } rules when event t from c value = true trigger action a ( 1r / 3r ) on o , action b ( real ( 7 ) / 2r ) on o , action c ( -0r ) on o , action d ( 0r - 0r ) on o , action e ( 0r * -1r ) on o , action f ( 1r / 0r ) on o , action g ( 0r / 0r ) on o , action h ( real ( -3 / 2 * 2147483647 / 0 ) + 1r ) on o end end") (ascii "by n c.t\na 1 true\na 2 false\na 3 true\na 3 true\n") ≡ ascii "by n o.a o.b o.c o.d o.e o.f o.g o.h\na 1 3fd5555555555555 400c000000000000 8000000000000000 0000000000000000 8000000000000000 - - -\na 2 - - - - - - - -\na 3 3fd5555555555555 400c000000000000 8000000000000000 0000000000000000 8000000000000000 - - -\na 3 3fd5555555555555 400c000000000000 8000000000000000 0000000000000000 8000000000000000 - - -\n"
unfolding replay ascii
    Ieee.add Ieee.sub Ieee.mul Ieee.div Ieee.neg Ieee.eq Ieee.of_int Ieee.of_bits Ieee.to_bits Ieee.is_nan
run_real_sums = refl

pub run_real_rounding : replay (ascii "interface S { event x : real event y : real action a ( real ) action b ( real ) action c ( real ) action d ( real ) action f ( real ) } entity s : S { } rules when event x from s value changed trigger action a ( s.x + s.y ) on s , action b ( s.x - s.y ) on s , action c ( s.x * s.y ) on s , action d ( s.x / s.y ) on s , action f ( - s.x ) on s end end") (ascii "by n s.x s.y\na 1 7fefffffffffffff 7fefffffffffffff\na 2 0000000000000001 4000000000000000\na 3 3fb999999999999a 3fc999999999999a\na 4 8000000000000000 0000000000000000\na 5 7fefffffffffffff 0000000000000001\n") ≡ ascii "by n s.a s.b s.c s.d s.f\na 1 - 0000000000000000 - 3ff0000000000000 ffefffffffffffff\na 2 4000000000000000 c000000000000000 0000000000000002 0000000000000000 8000000000000001\na 3 3fd3333333333334 bfb999999999999a 3f947ae147ae147c 3fe0000000000000 bfb999999999999a\na 4 0000000000000000 8000000000000000 8000000000000000 - 0000000000000000\na 5 7fefffffffffffff 7fefffffffffffff 3ccfffffffffffff - ffefffffffffffff\n"
unfolding replay ascii
    Ieee.add Ieee.sub Ieee.mul Ieee.div Ieee.neg Ieee.eq Ieee.of_int Ieee.of_bits Ieee.to_bits Ieee.is_nan
run_real_rounding = refl

pub run_quotient_of_all_signs : replay (ascii "interface S { event x : whole event y : whole action q ( whole ) action r ( whole ) } entity s : S { } rules when event x from s value changed or event y from s value changed trigger action q ( s.x / s.y ) on s , action r ( s.x - s.x / s.y * s.y ) on s end end") (ascii "by n s.x s.y\na 1 7 2\na 2 -7 2\na 3 7 -2\na 4 -7 -2\na 5 6 -3\na 6 -6 3\na 7 -6 -3\na 8 0 -5\na 9 -1 3\na 10 1 -3\na 11 -1 -3\na 12 -5 0\n") ≡ ascii "by n s.q s.r\na 1 3 1\na 2 -4 1\na 3 -4 -1\na 4 3 -1\na 5 -2 0\na 6 -2 0\na 7 2 0\na 8 0 0\na 9 -1 2\na 10 -1 -2\na 11 0 -1\na 12 - -\n"
unfolding replay ascii
    Ieee.add Ieee.sub Ieee.mul Ieee.div Ieee.neg Ieee.eq Ieee.of_int Ieee.of_bits Ieee.to_bits Ieee.is_nan
run_quotient_of_all_signs = refl

pub run_quotient_at_the_ends : replay (ascii "interface S { event x : whole event y : whole action q ( whole ) action r ( whole ) } entity s : S { } rules when event x from s value changed or event y from s value changed trigger action q ( s.x / s.y ) on s , action r ( s.x - s.x / s.y * s.y ) on s end end") (ascii "by n s.x s.y\na 1 -2147483648 -1\na 2 -2147483648 1\na 3 -2147483647 -1\na 4 -2147483647 2\na 5 2147483647 -2\na 6 -2147483648 2147483647\na 7 2147483647 -2147483648\na 8 -2147483648 -2147483648\na 9 -1 2147483647\na 10 -1 -2147483648\na 11 0 -2147483648\na 12 -2147483648 0\n") ≡ ascii "by n s.q s.r\na 1 - -\na 2 -2147483648 0\na 3 2147483647 0\na 4 -1073741824 1\na 5 -1073741824 -\na 6 -2 -\na 7 -1 -\na 8 1 0\na 9 -1 2147483646\na 10 0 -1\na 11 0 0\na 12 - -\n"
unfolding replay ascii
    Ieee.add Ieee.sub Ieee.mul Ieee.div Ieee.neg Ieee.eq Ieee.of_int Ieee.of_bits Ieee.to_bits Ieee.is_nan
run_quotient_at_the_ends = refl

pub run_halving_across_zero : replay (ascii "interface Stage { attribute by : whole event pos : whole action half ( whole ) action back ( whole ) action step ( whole ) } entity s : Stage { by = -2 } rules when event pos from s value changed trigger action half ( s.pos / 2 ) on s , action back ( s.pos / s.by ) on s , action step ( ( s.pos + 2 ) / 2 - s.pos / 2 ) on s end end") (ascii "by n s.pos\na 1 3\na 2 2\na 3 1\na 4 0\na 5 -1\na 6 -2\na 7 -3\na 8 -4\n") ≡ ascii "by n s.half s.back s.step\na 1 1 -2 1\na 2 1 -1 1\na 3 0 -1 1\na 4 0 0 1\na 5 -1 0 1\na 6 -1 1 1\na 7 -2 1 1\na 8 -2 2 1\n"
unfolding replay ascii
    Ieee.add Ieee.sub Ieee.mul Ieee.div Ieee.neg Ieee.eq Ieee.of_int Ieee.of_bits Ieee.to_bits Ieee.is_nan
run_halving_across_zero = refl

pub run_halving_feeds_itself : replay (ascii "interface S { event e : whole action k ( whole ) } entity s : S { } rules when event e from s value changed trigger action k ( s.e ) on s end when event k from s value changed trigger action k ( s.k / 2 ) on s end end") (ascii "by n s.e\na 1 -5\na 2 -\na 3 -\na 4 -\na 5 -\na 6 -\na 7 -\na 8 5\na 9 -\na 10 -\na 11 -\na 12 -\n") ≡ ascii "by n s.k\na 1 -5\na 2 -3\na 3 -2\na 4 -1\na 5 -1\na 6 -\na 7 -\na 8 5\na 9 2\na 10 1\na 11 0\na 12 0\n"
unfolding replay ascii
    Ieee.add Ieee.sub Ieee.mul Ieee.div Ieee.neg Ieee.eq Ieee.of_int Ieee.of_bits Ieee.to_bits Ieee.is_nan
run_halving_feeds_itself = refl

pub run_quotient_in_conditions : replay (ascii "interface S { attribute id : whole event u : whole event v : whole action e ( whole ) action f ( whole ) action g ( whole ) } entity s : S { id = -4 } rules when event v from s value = s.u / 2 trigger action e ( s.v ) on s end when event v from s with id = s.u / 2 value changed trigger action f ( s.v ) on s end when event u from s value changed trigger action g ( s.u ) on s with id = s.u / -2 end end") (ascii "by n s.u s.v\na 1 -7 -3\na 2 - -4\na 3 -8 -\na 4 -9 -5\na 5 7 4\na 6 9 -\na 7 8 -\na 8 ? -\na 9 -1 0\na 10 - -1\n") ≡ ascii "by n s.e s.f s.g\na 1 - -3 -\na 2 -4 -4 -\na 3 - - -\na 4 - - -\na 5 - - 7\na 6 4 - -\na 7 - - 8\na 8 - - -\na 9 - - -\na 10 -1 - -\n"
unfolding replay ascii
    Ieee.add Ieee.sub Ieee.mul Ieee.div Ieee.neg Ieee.eq Ieee.of_int Ieee.of_bits Ieee.to_bits Ieee.is_nan
run_quotient_in_conditions = refl

pub run_quotient_in_longer_sums : replay (ascii "interface C { event t : bool } interface O { action a ( whole ) action b ( whole ) action c ( whole ) action d ( whole ) action e ( whole ) action f ( whole ) action g ( whole ) action h ( whole ) } entity c : C { } entity o : O { } rules when event t from c value = true trigger action a ( -7 / 2 * 2 ) on o , action b ( 2 * -7 / 2 ) on o , action c ( -9 / 2 / 2 ) on o , action d ( 100 / (-7 / 3) ) on o , action e ( 1 - 7 / -2 - -7 / -2 ) on o , action f ( -7 - -7 / 2 * 2 ) on o , action g ( -2147483647 / 2 * 2 ) on o , action h ( 2147483647 / -2 * -2 ) on o end end") (ascii "by n c.t\na 1 true\na 2 false\na 3 true\na 3 true\n") ≡ ascii "by n o.a o.b o.c o.d o.e o.f o.g o.h\na 1 -8 -7 -3 -34 2 1 -2147483648 -\na 2 - - - - - - - -\na 3 -8 -7 -3 -34 2 1 -2147483648 -\na 3 -8 -7 -3 -34 2 1 -2147483648 -\n"
unfolding replay ascii
    Ieee.add Ieee.sub Ieee.mul Ieee.div Ieee.neg Ieee.eq Ieee.of_int Ieee.of_bits Ieee.to_bits Ieee.is_nan
run_quotient_in_longer_sums = refl

pub run_quotient_and_minus : replay (ascii "interface C { event t : bool } interface O { action a ( whole ) action b ( whole ) action c ( whole ) action d ( whole ) action e ( whole ) action f ( whole ) action g ( whole ) action h ( whole ) } entity c : C { } entity o : O { } rules when event t from c value = true trigger action a ( -7 / 2 ) on o , action b ( -(7 / 2) ) on o , action c ( 7 / -2 ) on o , action d ( -7 / -2 ) on o , action e ( -(-7 / 2) ) on o , action f ( -(-7) / 2 ) on o , action g ( 7 / (-1 / 2) ) on o , action h ( 0 / (4 + -7 / 2) ) on o end end") (ascii "by n c.t\na 1 true\na 2 false\na 3 true\na 3 true\n") ≡ ascii "by n o.a o.b o.c o.d o.e o.f o.g o.h\na 1 -4 -3 -4 3 4 3 -7 -\na 2 - - - - - - - -\na 3 -4 -3 -4 3 4 3 -7 -\na 3 -4 -3 -4 3 4 3 -7 -\n"
unfolding replay ascii
    Ieee.add Ieee.sub Ieee.mul Ieee.div Ieee.neg Ieee.eq Ieee.of_int Ieee.of_bits Ieee.to_bits Ieee.is_nan
run_quotient_and_minus = refl

pub run_real_quotients_stay : replay (ascii "interface C { event t : bool } interface O { action a ( real ) action b ( real ) action c ( real ) action d ( real ) action e ( real ) action f ( real ) action g ( real ) action h ( real ) } entity c : C { } entity o : O { } rules when event t from c value = true trigger action a ( -7r / 2r ) on o , action b ( 7r / -2r ) on o , action c ( -7r / -2r ) on o , action d ( -1r / 3r ) on o , action e ( 0r / -5r ) on o , action f ( -1r / 0r ) on o , action g ( real ( -7 / 2 ) ) on o , action h ( real ( -7 ) / real ( 2 ) ) on o end end") (ascii "by n c.t\na 1 true\na 2 false\na 3 true\na 3 true\n") ≡ ascii "by n o.a o.b o.c o.d o.e o.f o.g o.h\na 1 c00c000000000000 c00c000000000000 400c000000000000 bfd5555555555555 8000000000000000 - c010000000000000 c00c000000000000\na 2 - - - - - - - -\na 3 c00c000000000000 c00c000000000000 400c000000000000 bfd5555555555555 8000000000000000 - c010000000000000 c00c000000000000\na 3 c00c000000000000 c00c000000000000 400c000000000000 bfd5555555555555 8000000000000000 - c010000000000000 c00c000000000000\n"
unfolding replay ascii
    Ieee.add Ieee.sub Ieee.mul Ieee.div Ieee.neg Ieee.eq Ieee.of_int Ieee.of_bits Ieee.to_bits Ieee.is_nan
run_real_quotients_stay = refl

pub run_senders_interleaved : replay (ascii "interface I { attribute a : whole event e : whole action k ( whole ) } entity s : I { a = 1 } rules when event e from s value changed trigger action k ( s.e ) on s end end") (ascii "by n s.e\na 1 5\nb 1 5\nb 2 6\nb 3 7\na 2 7\nb 4 -\na 3 8\nc 1 9\nb 5 8\nc 2 -\na 4 ?\n") ≡ ascii "by n s.k\na 1 5\nb 1 -\nb 2 6\nb 3 7\na 2 -\nb 4 -\na 3 8\nc 1 9\nb 5 8\nc 2 -\na 4 -\n"
unfolding replay ascii
    Ieee.add Ieee.sub Ieee.mul Ieee.div Ieee.neg Ieee.eq Ieee.of_int Ieee.of_bits Ieee.to_bits Ieee.is_nan
run_senders_interleaved = refl

pub run_senders_late_resend : replay (ascii "interface I { attribute a : whole event e : whole action k ( whole ) } entity s : I { a = 1 } rules when event e from s value changed trigger action k ( s.e ) on s end end") (ascii "by n s.e\na 1 5\nb 1 6\na 1 5\nb 1 6\na 1 5\na 2 6\nb 1 6\nb 2 5\na 2 6\nb 2 5\na 3 6\na 3 6\n") ≡ ascii "by n s.k\na 1 5\nb 1 6\na 1 5\nb 1 6\na 1 5\na 2 -\nb 1 6\nb 2 5\na 2 -\nb 2 5\na 3 6\na 3 6\n"
unfolding replay ascii
    Ieee.add Ieee.sub Ieee.mul Ieee.div Ieee.neg Ieee.eq Ieee.of_int Ieee.of_bits Ieee.to_bits Ieee.is_nan
run_senders_late_resend = refl

pub run_senders_resend_of_all_kinds : replay (ascii "interface A { event w : whole action k ( whole ) action f ( bool ) } interface R { event r : real action g ( real ) } entity x : A { } entity y : R { } rules when event w from x value changed trigger action k ( x.w ) on x , action f ( true ) on x end when event r from y value changed trigger action g ( - y.r ) on y end end") (ascii "by n x.w y.r\na 1 5 8000000000000000\nb 1 - 3ff0000000000000\nc 1 -3 -\na 1 5 0000000000000000\na 1 5 8000000000000000\nb 1 - 3ff0000000000000\nd 1 - ?\nc 1 -3 ?\nc 1 -3 -\nd 1 - -\nd 1 - ?\n") ≡ ascii "by n x.k x.f y.g\na 1 5 true 0000000000000000\nb 1 - - bff0000000000000\nc 1 -3 true -\nrefused 25\na 1 5 true 0000000000000000\nb 1 - - bff0000000000000\nd 1 - - -\nrefused 25\nc 1 -3 true -\nrefused 25\nd 1 - - -\n"
unfolding replay ascii
    Ieee.add Ieee.sub Ieee.mul Ieee.div Ieee.neg Ieee.eq Ieee.of_int Ieee.of_bits Ieee.to_bits Ieee.is_nan
run_senders_resend_of_all_kinds = refl

pub run_senders_resend_starts_no_cycle : replay (ascii "interface S { event e : whole action k ( whole ) } interface O { action o ( whole ) } entity s : S { } entity z : O { } rules when event e from s value changed trigger action k ( s.e ) on s end when event k from s value changed trigger action o ( 1 ) on z end end") (ascii "by n s.e\na 1 5\nb 1 -\na 1 5\nb 2 -\nb 2 -\na 2 -\nb 3 7\na 2 -\nb 3 7\na 3 -\nb 3 7\nb 4 7\n") ≡ ascii "by n s.k z.o\na 1 5 -\nb 1 - 1\na 1 5 -\nb 2 - 1\nb 2 - 1\na 2 - -\nb 3 7 -\na 2 - -\nb 3 7 -\na 3 - 1\nb 3 7 -\nb 4 - 1\n"
unfolding replay ascii
    Ieee.add Ieee.sub Ieee.mul Ieee.div Ieee.neg Ieee.eq Ieee.of_int Ieee.of_bits Ieee.to_bits Ieee.is_nan
run_senders_resend_starts_no_cycle = refl

pub run_senders_refused_between : replay (ascii "interface I { attribute a : whole event e : whole action k ( whole ) } entity s : I { a = 1 } rules when event e from s value changed trigger action k ( s.e ) on s end end") (ascii "by n s.e\na 1 5\na 2 x\na 1 5\nb 3 6\na 1 6\na 1 5\nb 1 6\na 3 6\nb 1 5\na 1 5\nb 1 6\na 2 6\n") ≡ ascii "by n s.k\na 1 5\nrefused 23\na 1 5\nrefused 24\nrefused 25\na 1 5\nb 1 6\nrefused 24\nrefused 25\na 1 5\nb 1 6\na 2 -\n"
unfolding replay ascii
    Ieee.add Ieee.sub Ieee.mul Ieee.div Ieee.neg Ieee.eq Ieee.of_int Ieee.of_bits Ieee.to_bits Ieee.is_nan
run_senders_refused_between = refl

pub run_senders_resend_after_leaving : replay (ascii "interface I { attribute a : whole event e : whole action k ( whole ) } entity s : I { a = 1 } rules when event e from s value changed trigger action k ( s.e ) on s end end") (ascii "by n s s.e\na 1 - 5\nb 1 false -\na 1 - 5\na 2 - 5\nc 1 - 5\na 4294967296 - 5\na 1 - 5\nb 1 false -\na 2 - -\nb 2 true 5\na 3 - 6\nb 2 true 5\n") ≡ ascii "by n s.k\na 1 5\nb 1 -\na 1 5\nrefused 23\nrefused 23\nrefused 23\na 1 5\nb 1 -\na 2 -\nb 2 5\na 3 6\nb 2 5\n"
unfolding replay ascii
    Ieee.add Ieee.sub Ieee.mul Ieee.div Ieee.neg Ieee.eq Ieee.of_int Ieee.of_bits Ieee.to_bits Ieee.is_nan
run_senders_resend_after_leaving = refl

pub run_senders_resend_of_presence : replay (ascii "interface I { attribute a : whole event e : whole action k ( whole ) } entity s : I { a = 1 } rules when event e from s value changed trigger action k ( s.e ) on s end end") (ascii "by n s s.e\na 1 true 5\nb 1 false -\na 1 true 5\nb 2 - 6\na 1 - 5\na 2 true 5\nb 1 false -\nb 2 - 6\na 2 true 5\na 3 false -\nb 2 - 6\nb 2 true 6\n") ≡ ascii "by n s.k\na 1 5\nb 1 -\na 1 5\nrefused 23\nrefused 23\na 2 5\nb 1 -\nb 2 6\na 2 5\na 3 -\nb 2 6\nrefused 25\n"
unfolding replay ascii
    Ieee.add Ieee.sub Ieee.mul Ieee.div Ieee.neg Ieee.eq Ieee.of_int Ieee.of_bits Ieee.to_bits Ieee.is_nan
run_senders_resend_of_presence = refl

pub run_senders_first_number : replay (ascii "interface I { attribute a : whole event e : whole action k ( whole ) } entity s : I { a = 1 } rules when event e from s value changed trigger action k ( s.e ) on s end end") (ascii "by n s.e\na 2 5\na 0 5\na 0 -\na 1 5\nb 2 5\nb 0 -\na 0 5\na 2 6\nb 2 6\nb 3 6\nb 1 6\nb 1 6\n") ≡ ascii "by n s.k\nrefused 24\nrefused 24\nrefused 24\na 1 5\nrefused 24\nrefused 24\nrefused 24\na 2 6\nrefused 24\nrefused 24\nb 1 -\nb 1 -\n"
unfolding replay ascii
    Ieee.add Ieee.sub Ieee.mul Ieee.div Ieee.neg Ieee.eq Ieee.of_int Ieee.of_bits Ieee.to_bits Ieee.is_nan
run_senders_first_number = refl

pub run_senders_own_numbers : replay (ascii "interface I { attribute a : whole event e : whole action k ( whole ) } entity s : I { a = 1 } rules when event e from s value changed trigger action k ( s.e ) on s end end") (ascii "by n s.e\na 1 5\na 2 6\na 3 -\nb 1 7\nb 1 -\nb 3 -\na 3 7\na 1 7\na 4 7\nb 5 8\nb 4 8\nb 2 8\n") ≡ ascii "by n s.k\na 1 5\na 2 6\na 3 -\nb 1 7\nrefused 25\nrefused 24\nrefused 25\nrefused 24\na 4 -\nrefused 24\nrefused 24\nb 2 8\n"
unfolding replay ascii
    Ieee.add Ieee.sub Ieee.mul Ieee.div Ieee.neg Ieee.eq Ieee.of_int Ieee.of_bits Ieee.to_bits Ieee.is_nan
run_senders_own_numbers = refl

pub run_senders_ill_formed : replay (ascii "interface I { attribute a : whole event e : whole action k ( whole ) } entity s : I { a = 1 } rules when event e from s value changed trigger action k ( s.e ) on s end end") (ascii "by n s.e\n1a 1 5\n_a 1 5\ns.e 1 5\n- 1 5\na-b 1 5\na\t 1 5\nabcdefghijklmnopqrstuvwxy 1 5\nabcdefghijklmnopqrstuvwx 1 5\nabcdefghijklmnopqrstuvwX 1 6\nabcdefghijklmnopqrstuvwx 1 5\nZ_9 1 7\nZ_9 2 -\n") ≡ ascii "by n s.k\nrefused 43\nrefused 43\nrefused 43\nrefused 43\nrefused 43\nrefused 43\nrefused 43\nabcdefghijklmnopqrstuvwx 1 5\nabcdefghijklmnopqrstuvwX 1 6\nabcdefghijklmnopqrstuvwx 1 5\nZ_9 1 7\nZ_9 2 -\n"
unfolding replay ascii
    Ieee.add Ieee.sub Ieee.mul Ieee.div Ieee.neg Ieee.eq Ieee.of_int Ieee.of_bits Ieee.to_bits Ieee.is_nan
run_senders_ill_formed = refl

pub run_senders_words_of_all_sorts : replay (ascii "interface I { attribute a : whole event e : whole action k ( whole ) } entity s : I { a = 1 } rules when event e from s value changed trigger action k ( s.e ) on s end end") (ascii "by n s.e\nwhen 1 5\ntrue 1 6\ns 1 7\nby 1 8\nn 1 9\nrefused 1 10\nby n 8\nn 1 9\nby 1 8\ns 1 7\nwhen 1 5\ntrue 2 6\n") ≡ ascii "by n s.k\nwhen 1 5\ntrue 1 6\ns 1 7\nby 1 8\nn 1 9\nrefused 1 10\nrefused 21\nn 1 9\nby 1 8\ns 1 7\nwhen 1 5\ntrue 2 6\n"
unfolding replay ascii
    Ieee.add Ieee.sub Ieee.mul Ieee.div Ieee.neg Ieee.eq Ieee.of_int Ieee.of_bits Ieee.to_bits Ieee.is_nan
run_senders_words_of_all_sorts = refl

pub run_senders_alike : replay (ascii "interface I { attribute a : whole event e : whole action k ( whole ) } entity s : I { a = 1 } rules when event e from s value changed trigger action k ( s.e ) on s end end") (ascii "by n s.e\nab 1 1\na 1 2\nabc 1 3\naB 1 4\na_ 1 5\na1 1 6\nab 1 1\na 1 2\nabc 1 3\naB 1 4\na_ 1 5\na1 1 6\n") ≡ ascii "by n s.k\nab 1 1\na 1 2\nabc 1 3\naB 1 4\na_ 1 5\na1 1 6\nab 1 1\na 1 2\nabc 1 3\naB 1 4\na_ 1 5\na1 1 6\n"
unfolding replay ascii
    Ieee.add Ieee.sub Ieee.mul Ieee.div Ieee.neg Ieee.eq Ieee.of_int Ieee.of_bits Ieee.to_bits Ieee.is_nan
run_senders_alike = refl

pub run_entities_by_and_n : replay (ascii "interface I { event n : bool event by : bool action k ( bool ) } entity by : I { } entity n : I { } rules when event n from by value changed trigger action k ( by.n ) on n end when event by from n value changed trigger action k ( n.by ) on by end end") (ascii "by n n by by.n n.by\nby 1 - - true -\nn 1 - - - false\nby 1 - - true -\nn 2 false - - -\nby 2 - - - true\nby 2 - - false -\nn 2 false - - -\nn 3 - false - -\nby 3 true true - true\nn 4 - - true -\nby 3 true true - true\n") ≡ ascii "by n by.k n.k\nby 1 - true\nn 1 false -\nby 1 - true\nn 2 - -\nrefused 23\nby 2 - -\nn 2 - -\nn 3 - -\nby 3 true -\nn 4 - true\nby 3 true -\n"
unfolding replay ascii
    Ieee.add Ieee.sub Ieee.mul Ieee.div Ieee.neg Ieee.eq Ieee.of_int Ieee.of_bits Ieee.to_bits Ieee.is_nan
run_entities_by_and_n = refl

pub run_senders_missing_fields : replay (ascii "interface I { attribute a : whole event e : whole action k ( whole ) } entity s : I { a = 1 } rules when event e from s value changed trigger action k ( s.e ) on s end end") (ascii "by n s.e\n1 5\na 5\na 1\n 1 5\na  5\na 1 \n a 1 5\na 1 5 \n1 a 5\n1 1 5\na 1 5\n") ≡ ascii "by n s.k\nrefused 21\nrefused 21\nrefused 21\nrefused 21\nrefused 21\nrefused 21\nrefused 21\nrefused 21\nrefused 21\nrefused 43\na 1 5\n"
unfolding replay ascii
    Ieee.add Ieee.sub Ieee.mul Ieee.div Ieee.neg Ieee.eq Ieee.of_int Ieee.of_bits Ieee.to_bits Ieee.is_nan
run_senders_missing_fields = refl

pub run_senders_refusal_order : replay (ascii "interface I { attribute a : whole event e : whole action k ( whole ) } entity s : I { a = 1 } rules when event e from s value changed trigger action k ( s.e ) on s end end") (ascii "by n s s.e\na 1 - 5\nb 1 false -\na- 01 - 5\na- 4294967296 - x\na- 0 - 5\na 1 - 05\na 1 - 5\na 3 - 5\na 0 - 5\na 1 - 6\na 3 - -\na 1 - -\n") ≡ ascii "by n s.k\na 1 5\nb 1 -\nrefused 21\nrefused 43\nrefused 43\nrefused 23\na 1 5\nrefused 23\nrefused 23\nrefused 23\nrefused 24\nrefused 25\n"
unfolding replay ascii
    Ieee.add Ieee.sub Ieee.mul Ieee.div Ieee.neg Ieee.eq Ieee.of_int Ieee.of_bits Ieee.to_bits Ieee.is_nan
run_senders_refusal_order = refl

pub run_nine_senders : replay (ascii "interface I { event e : whole action k ( whole ) } entity s : I { } rules when event e from s value changed trigger action k ( s.e ) on s end end") (ascii "by n s.e\na 1 1\nb 1 2\nc 1 3\nd 1 4\ne 1 5\nf 1 6\ng 1 7\nh 1 8\ni 1 9\na 2 9\n") ≡ ascii "by n s.k\na 1 1\nb 1 2\nc 1 3\nd 1 4\ne 1 5\nf 1 6\ng 1 7\nh 1 8\nrefused 42\na 2 9\n"
unfolding replay ascii
    Ieee.add Ieee.sub Ieee.mul Ieee.div Ieee.neg Ieee.eq Ieee.of_int Ieee.of_bits Ieee.to_bits Ieee.is_nan
run_nine_senders = refl

pub run_nine_senders_ninth_stays_unknown : replay (ascii "interface I { event e : whole action k ( whole ) } entity s : I { } rules when event e from s value changed trigger action k ( s.e ) on s end end") (ascii "by n s.e\na 1 1\nb 1 2\nc 1 3\nd 1 4\ne 1 5\nf 1 6\ng 1 7\nh 1 8\nA 1 9\nA 1 9\n") ≡ ascii "by n s.k\na 1 1\nb 1 2\nc 1 3\nd 1 4\ne 1 5\nf 1 6\ng 1 7\nh 1 8\nrefused 42\nrefused 42\n"
unfolding replay ascii
    Ieee.add Ieee.sub Ieee.mul Ieee.div Ieee.neg Ieee.eq Ieee.of_int Ieee.of_bits Ieee.to_bits Ieee.is_nan
run_nine_senders_ninth_stays_unknown = refl

pub run_nine_senders_refused_first : replay (ascii "interface I { event e : whole action k ( whole ) } entity s : I { } rules when event e from s value changed trigger action k ( s.e ) on s end end") (ascii "by n s.e\nz 2 9\ny 1 x\na 1 1\nb 1 2\nc 1 3\nd 1 4\ne 1 5\nf 1 6\ng 1 7\nh 1 8\n") ≡ ascii "by n s.k\nrefused 24\nrefused 23\na 1 1\nb 1 2\nc 1 3\nd 1 4\ne 1 5\nf 1 6\ng 1 7\nh 1 8\n"
unfolding replay ascii
    Ieee.add Ieee.sub Ieee.mul Ieee.div Ieee.neg Ieee.eq Ieee.of_int Ieee.of_bits Ieee.to_bits Ieee.is_nan
run_nine_senders_refused_first = refl

pub run_nine_senders_resend : replay (ascii "interface I { event e : whole action k ( whole ) } entity s : I { } rules when event e from s value changed trigger action k ( s.e ) on s end end") (ascii "by n s.e\na 1 1\nb 1 2\nc 1 3\nd 1 4\ne 1 5\nf 1 6\ng 1 7\nh 1 8\na 1 1\nh 1 8\n") ≡ ascii "by n s.k\na 1 1\nb 1 2\nc 1 3\nd 1 4\ne 1 5\nf 1 6\ng 1 7\nh 1 8\na 1 1\nh 1 8\n"
unfolding replay ascii
    Ieee.add Ieee.sub Ieee.mul Ieee.div Ieee.neg Ieee.eq Ieee.of_int Ieee.of_bits Ieee.to_bits Ieee.is_nan
run_nine_senders_resend = refl

pub run_nine_senders_43_before_42 : replay (ascii "interface I { event e : whole action k ( whole ) } entity s : I { } rules when event e from s value changed trigger action k ( s.e ) on s end end") (ascii "by n s.e\na 1 1\nb 1 2\nc 1 3\nd 1 4\ne 1 5\nf 1 6\ng 1 7\nh 1 8\n9 1 9\ni 01 9\n") ≡ ascii "by n s.k\na 1 1\nb 1 2\nc 1 3\nd 1 4\ne 1 5\nf 1 6\ng 1 7\nh 1 8\nrefused 43\nrefused 21\n"
unfolding replay ascii
    Ieee.add Ieee.sub Ieee.mul Ieee.div Ieee.neg Ieee.eq Ieee.of_int Ieee.of_bits Ieee.to_bits Ieee.is_nan
run_nine_senders_43_before_42 = refl

pub run_nine_senders_42_before_23 : replay (ascii "interface I { event e : whole action k ( whole ) } entity s : I { } rules when event e from s value changed trigger action k ( s.e ) on s end end") (ascii "by n s.e\naa 1 1\nb 1 2\nc 1 3\nd 1 4\ne 1 5\nf 1 6\ng 1 7\nh 1 8\na 1 x\na 0 -\n") ≡ ascii "by n s.k\naa 1 1\nb 1 2\nc 1 3\nd 1 4\ne 1 5\nf 1 6\ng 1 7\nh 1 8\nrefused 42\nrefused 42\n"
unfolding replay ascii
    Ieee.add Ieee.sub Ieee.mul Ieee.div Ieee.neg Ieee.eq Ieee.of_int Ieee.of_bits Ieee.to_bits Ieee.is_nan
run_nine_senders_42_before_23 = refl

pub run_rank_higher_first : replay (ascii "interface B { event x : whole event y : whole event z : whole } interface L { action set ( whole ) } entity b : B { } entity l : L { } rules when rank 5 event x from b value changed trigger action set ( b.x ) on l end when rank 2 event y from b value changed trigger action set ( b.y ) on l end end") (ascii "by n b.x b.y\na 1 1 2\na 2 - 3\na 3 4 -\na 4 5 6\na 5 - -\na 6 ? 7\n") ≡ ascii "by n l.set\na 1 1\na 2 3\na 3 4\na 4 5\na 5 -\na 6 7\n"
unfolding replay ascii
    Ieee.add Ieee.sub Ieee.mul Ieee.div Ieee.neg Ieee.eq Ieee.of_int Ieee.of_bits Ieee.to_bits Ieee.is_nan
run_rank_higher_first = refl

pub run_rank_higher_last : replay (ascii "interface B { event x : whole event y : whole event z : whole } interface L { action set ( whole ) } entity b : B { } entity l : L { } rules when rank 2 event y from b value changed trigger action set ( b.y ) on l end when rank 5 event x from b value changed trigger action set ( b.x ) on l end end") (ascii "by n b.x b.y\na 1 1 2\na 2 - 3\na 3 4 -\na 4 5 6\na 5 - -\na 6 ? 7\n") ≡ ascii "by n l.set\na 1 1\na 2 3\na 3 4\na 4 5\na 5 -\na 6 7\n"
unfolding replay ascii
    Ieee.add Ieee.sub Ieee.mul Ieee.div Ieee.neg Ieee.eq Ieee.of_int Ieee.of_bits Ieee.to_bits Ieee.is_nan
run_rank_higher_last = refl

pub run_rank_equal : replay (ascii "interface B { event x : whole event y : whole event z : whole } interface L { action set ( whole ) } entity b : B { } entity l : L { } rules when rank 4 event y from b value changed trigger action set ( b.y ) on l end when rank 4 event x from b value changed trigger action set ( b.x ) on l end end") (ascii "by n b.x b.y\na 1 1 2\na 2 3 -\na 3 - 4\na 4 5 6\na 5 6 ?\n") ≡ ascii "by n l.set\na 1 2\na 2 3\na 3 4\na 4 6\na 5 6\n"
unfolding replay ascii
    Ieee.add Ieee.sub Ieee.mul Ieee.div Ieee.neg Ieee.eq Ieee.of_int Ieee.of_bits Ieee.to_bits Ieee.is_nan
run_rank_equal = refl

pub run_rank_refused_bench : replay (ascii "interface B { event x : whole event y : whole event z : whole } interface L { action set ( whole ) } entity b : B { } entity l : L { } rules when rank 9 event x from b value changed trigger action set ( b.x ) on l end when rank 10 event y from b value changed trigger action set ( b.y ) on l end end") (ascii "by n b.x\na 1 1\n") ≡ ascii "refused 44 228\n"
unfolding replay ascii
    Ieee.add Ieee.sub Ieee.mul Ieee.div Ieee.neg Ieee.eq Ieee.of_int Ieee.of_bits Ieee.to_bits Ieee.is_nan
run_rank_refused_bench = refl

pub run_rank_0_and_none : replay (ascii "interface B { event x : whole event y : whole event z : whole } interface L { action set ( whole ) } entity b : B { } entity l : L { } rules when event x from b value changed trigger action set ( b.x ) on l end when rank 0 event y from b value changed trigger action set ( b.y ) on l end when event z from b value changed trigger action set ( b.z ) on l end end") (ascii "by n b.x b.y b.z\na 1 1 2 3\na 2 - 4 5\na 3 6 - 7\na 4 - - 8\n") ≡ ascii "by n l.set\na 1 1\na 2 4\na 3 6\na 4 8\n"
unfolding replay ascii
    Ieee.add Ieee.sub Ieee.mul Ieee.div Ieee.neg Ieee.eq Ieee.of_int Ieee.of_bits Ieee.to_bits Ieee.is_nan
run_rank_0_and_none = refl

pub run_rank_earliest_of_the_highest : replay (ascii "interface B { event x : whole event y : whole event z : whole } interface L { action set ( whole ) } entity b : B { } entity l : L { } rules when rank 5 event x from b value changed trigger action set ( b.x ) on l end when rank 9 event y from b value changed trigger action set ( b.y ) on l end when rank 9 event z from b value changed trigger action set ( b.z ) on l end end") (ascii "by n b.x b.y b.z\na 1 1 2 3\na 2 4 - 5\na 3 6 7 -\na 4 8 - -\na 5 - 9 10\n") ≡ ascii "by n l.set\na 1 2\na 2 5\na 3 7\na 4 8\na 5 9\n"
unfolding replay ascii
    Ieee.add Ieee.sub Ieee.mul Ieee.div Ieee.neg Ieee.eq Ieee.of_int Ieee.of_bits Ieee.to_bits Ieee.is_nan
run_rank_earliest_of_the_highest = refl

pub run_rank_leading_zeros : replay (ascii "interface B { event x : whole event y : whole event z : whole } interface L { action set ( whole ) } entity b : B { } entity l : L { } rules when rank 8 event x from b value changed trigger action set ( b.x ) on l end when rank 09 event y from b value changed trigger action set ( b.y ) on l end when rank 0000000009 event z from b value changed trigger action set ( b.z ) on l end end") (ascii "by n b.x b.y b.z\na 1 1 2 3\na 2 4 - 5\na 3 6 - -\na 4 - 7 8\n") ≡ ascii "by n l.set\na 1 2\na 2 5\na 3 6\na 4 7\n"
unfolding replay ascii
    Ieee.add Ieee.sub Ieee.mul Ieee.div Ieee.neg Ieee.eq Ieee.of_int Ieee.of_bits Ieee.to_bits Ieee.is_nan
run_rank_leading_zeros = refl

pub run_rank_safety_first : replay (ascii "interface B { event x : whole event y : whole event z : whole } interface L { action set ( whole ) } entity b : B { } entity l : L { } rules when rank 9 event z from b value = 1 trigger action set ( 0 ) on l end when rank 1 event x from b value changed trigger action set ( b.x ) on l end when event y from b value changed trigger action set ( b.y ) on l end end") (ascii "by n b.x b.y b.z\na 1 5 6 0\na 2 7 8 1\na 3 9 - 1\na 4 - 10 0\na 5 - - 1\na 6 11 12 ?\na 7 13 14 1\na 7 13 14 1\n") ≡ ascii "by n l.set\na 1 5\na 2 0\na 3 9\na 4 10\na 5 0\na 6 11\na 7 0\na 7 0\n"
unfolding replay ascii
    Ieee.add Ieee.sub Ieee.mul Ieee.div Ieee.neg Ieee.eq Ieee.of_int Ieee.of_bits Ieee.to_bits Ieee.is_nan
run_rank_safety_first = refl

pub run_rank_safety_in_the_middle : replay (ascii "interface B { event x : whole event y : whole event z : whole } interface L { action set ( whole ) } entity b : B { } entity l : L { } rules when rank 1 event x from b value changed trigger action set ( b.x ) on l end when rank 9 event z from b value = 1 trigger action set ( 0 ) on l end when event y from b value changed trigger action set ( b.y ) on l end end") (ascii "by n b.x b.y b.z\na 1 5 6 0\na 2 7 8 1\na 3 9 - 1\na 4 - 10 0\na 5 - - 1\na 6 11 12 ?\na 7 13 14 1\na 7 13 14 1\n") ≡ ascii "by n l.set\na 1 5\na 2 0\na 3 9\na 4 10\na 5 0\na 6 11\na 7 0\na 7 0\n"
unfolding replay ascii
    Ieee.add Ieee.sub Ieee.mul Ieee.div Ieee.neg Ieee.eq Ieee.of_int Ieee.of_bits Ieee.to_bits Ieee.is_nan
run_rank_safety_in_the_middle = refl

pub run_rank_safety_last : replay (ascii "interface B { event x : whole event y : whole event z : whole } interface L { action set ( whole ) } entity b : B { } entity l : L { } rules when rank 1 event x from b value changed trigger action set ( b.x ) on l end when event y from b value changed trigger action set ( b.y ) on l end when rank 9 event z from b value = 1 trigger action set ( 0 ) on l end end") (ascii "by n b.x b.y b.z\na 1 5 6 0\na 2 7 8 1\na 3 9 - 1\na 4 - 10 0\na 5 - - 1\na 6 11 12 ?\na 7 13 14 1\na 7 13 14 1\n") ≡ ascii "by n l.set\na 1 5\na 2 0\na 3 9\na 4 10\na 5 0\na 6 11\na 7 0\na 7 0\n"
unfolding replay ascii
    Ieee.add Ieee.sub Ieee.mul Ieee.div Ieee.neg Ieee.eq Ieee.of_int Ieee.of_bits Ieee.to_bits Ieee.is_nan
run_rank_safety_last = refl

pub run_rank_first_choice_stands : replay (ascii "interface B { attribute id : whole event t : whole } interface L { action set ( whole ) } entity c : B { id = 2 } entity b : B { id = 1 } entity d : B { id = 3 } entity l : L { } rules when rank 3 event t from x : B value changed trigger action set ( x.id ) on l end end") (ascii "by n b.t c.t d.t c\na 1 1 1 1 -\na 2 2 - 2 -\na 3 - - 3 -\na 4 3 - 4 false\na 5 - 4 5 true\n") ≡ ascii "by n l.set\na 1 2\na 2 1\na 3 3\na 4 1\na 5 2\n"
unfolding replay ascii
    Ieee.add Ieee.sub Ieee.mul Ieee.div Ieee.neg Ieee.eq Ieee.of_int Ieee.of_bits Ieee.to_bits Ieee.is_nan
run_rank_first_choice_stands = refl

pub run_rank_choices_of_two_rules : replay (ascii "interface B { attribute id : whole event t : whole } interface L { action set ( whole ) } entity c : B { id = 2 } entity b : B { id = 1 } entity d : B { id = 3 } entity l : L { } rules when rank 1 event t from x : B value changed trigger action set ( x.id ) on l end when rank 2 event t from x : B value = 7 trigger action set ( x.id * 10 ) on l end end") (ascii "by n b.t c.t d.t\na 1 7 1 7\na 2 1 7 1\na 3 2 3 4\na 4 - - 7\na 5 7 - -\na 6 8 7 7\n") ≡ ascii "by n l.set\na 1 10\na 2 20\na 3 2\na 4 30\na 5 10\na 6 20\n"
unfolding replay ascii
    Ieee.add Ieee.sub Ieee.mul Ieee.div Ieee.neg Ieee.eq Ieee.of_int Ieee.of_bits Ieee.to_bits Ieee.is_nan
run_rank_choices_of_two_rules = refl

pub run_rank_first_call_stands : replay (ascii "interface B { event x : whole event y : whole event z : whole } interface L { action set ( whole ) } entity b : B { } entity l : L { } rules when rank 2 event y from b value changed trigger action set ( b.y ) on l end when rank 7 event x from b value changed trigger action set ( 12 / b.x ) on l , action set ( b.x ) on l , action set ( 99 ) on l end end") (ascii "by n b.x b.y\na 1 4 1\na 2 0 2\na 3 ? 3\na 4 - 5\na 5 -5 6\n") ≡ ascii "by n l.set\na 1 3\na 2 0\na 3 99\na 4 5\na 5 -3\n"
unfolding replay ascii
    Ieee.add Ieee.sub Ieee.mul Ieee.div Ieee.neg Ieee.eq Ieee.of_int Ieee.of_bits Ieee.to_bits Ieee.is_nan
run_rank_first_call_stands = refl

pub run_rank_unset_parameter : replay (ascii "interface B { event x : whole event y : whole event z : whole } interface L { action set ( whole ) } entity b : B { } entity l : L { } rules when rank 9 event x from b value changed trigger action set ( 12 / b.x ) on l end when event y from b value changed trigger action set ( b.y ) on l end end") (ascii "by n b.x b.y\na 1 0 5\na 2 3 6\na 3 ? 7\na 4 2 -\na 5 0 -\na 6 - 8\n") ≡ ascii "by n l.set\na 1 5\na 2 4\na 3 7\na 4 6\na 5 -\na 6 8\n"
unfolding replay ascii
    Ieee.add Ieee.sub Ieee.mul Ieee.div Ieee.neg Ieee.eq Ieee.of_int Ieee.of_bits Ieee.to_bits Ieee.is_nan
run_rank_unset_parameter = refl

pub run_rank_call_filter : replay (ascii "interface B { event x : whole event y : whole event z : whole } interface L { attribute id : whole action set ( whole ) } entity b : B { } entity l : L { id = 2 } rules when rank 9 event x from b value changed trigger action set ( 0 ) on l with id = b.z end when rank 8 event y from b value changed trigger action set ( b.y ) on l end end") (ascii "by n b.x b.y b.z\na 1 1 5 2\na 2 2 6 3\na 3 3 7 2\na 4 4 8 ?\na 5 5 - -\na 6 - 9 2\n") ≡ ascii "by n l.set\na 1 0\na 2 6\na 3 0\na 4 8\na 5 -\na 6 9\n"
unfolding replay ascii
    Ieee.add Ieee.sub Ieee.mul Ieee.div Ieee.neg Ieee.eq Ieee.of_int Ieee.of_bits Ieee.to_bits Ieee.is_nan
run_rank_call_filter = refl

pub run_rank_absent_guard : replay (ascii "interface B { event x : whole event y : whole event z : whole } interface L { action set ( whole ) } interface G { event stop : bool } entity b : B { } entity l : L { } entity g : G { } entity h : G { } rules when event x from b value changed trigger action set ( b.x ) on l end when rank 9 event stop from g value = true trigger action set ( 0 ) on l end when rank 5 event stop from v : G value = true trigger action set ( 1 ) on l end end") (ascii "by n b.x g g.stop h.stop\na 1 5 - true false\na 2 6 false - true\na 3 7 - - -\na 4 8 true true false\na 5 9 - false true\na 6 10 false - -\na 7 11 - true -\na 7 11 - - -\n") ≡ ascii "by n l.set\na 1 0\na 2 1\na 3 7\na 4 0\na 5 1\na 6 10\nrefused 23\na 7 11\n"
unfolding replay ascii
    Ieee.add Ieee.sub Ieee.mul Ieee.div Ieee.neg Ieee.eq Ieee.of_int Ieee.of_bits Ieee.to_bits Ieee.is_nan
run_rank_absent_guard = refl

pub run_rank_absent_lamp : replay (ascii "interface B { event x : whole event y : whole event z : whole } interface L { action set ( whole ) } entity b : B { } entity l : L { } entity m : L { } rules when event x from b value changed trigger action set ( b.x ) on v : L end when rank 9 event y from b value changed trigger action set ( 0 ) on l end end") (ascii "by n b.x b.y l\na 1 1 1 -\na 2 2 2 false\na 3 - 3 -\na 4 3 4 true\na 5 4 - -\na 6 - 5 -\n") ≡ ascii "by n l.set m.set\na 1 0 1\na 2 - 2\na 3 - -\na 4 0 3\na 5 4 4\na 6 0 -\n"
unfolding replay ascii
    Ieee.add Ieee.sub Ieee.mul Ieee.div Ieee.neg Ieee.eq Ieee.of_int Ieee.of_bits Ieee.to_bits Ieee.is_nan
run_rank_absent_lamp = refl

pub run_rank_for_each_cell : replay (ascii "interface B { event x : whole event y : whole event z : whole } interface O { action o ( whole ) action p ( whole ) } entity b : B { } entity z : O { } rules when rank 2 event x from b value changed trigger action o ( b.x ) on z , action p ( b.x ) on z end when rank 3 event y from b value changed trigger action p ( b.y ) on z end when rank 1 event z from b value changed trigger action o ( b.z ) on z , action p ( b.z ) on z end end") (ascii "by n b.x b.y b.z\na 1 1 2 3\na 2 - 4 5\na 3 6 - 7\na 4 - 8 -\na 5 - - 9\na 6 ? 10 11\n") ≡ ascii "by n z.o z.p\na 1 1 2\na 2 5 4\na 3 6 6\na 4 - 8\na 5 9 9\na 6 11 10\n"
unfolding replay ascii
    Ieee.add Ieee.sub Ieee.mul Ieee.div Ieee.neg Ieee.eq Ieee.of_int Ieee.of_bits Ieee.to_bits Ieee.is_nan
run_rank_for_each_cell = refl

pub run_rank_of_all_kinds : replay (ascii "interface B { event r : real event s : real event p : bool event q : bool } interface L { action glow ( real ) action lit ( bool ) } entity b : B { } entity l : L { } rules when event r from b value changed trigger action glow ( b.r ) on l , action lit ( b.p ) on l end when rank 1 event s from b value changed trigger action glow ( b.s ) on l , action lit ( b.q ) on l end end") (ascii "by n b.r b.s b.p b.q\na 1 0000000000000000 8000000000000000 true false\na 2 3ff0000000000000 0000000000000000 - -\na 3 - bff0000000000000 false ?\na 4 4000000000000000 ? - true\n") ≡ ascii "by n l.glow l.lit\na 1 8000000000000000 false\na 2 3ff0000000000000 true\na 3 bff0000000000000 -\na 4 4000000000000000 true\n"
unfolding replay ascii
    Ieee.add Ieee.sub Ieee.mul Ieee.div Ieee.neg Ieee.eq Ieee.of_int Ieee.of_bits Ieee.to_bits Ieee.is_nan
run_rank_of_all_kinds = refl

pub run_rank_of_whole_condition : replay (ascii "interface B { event x : whole event y : whole event z : whole } interface L { action set ( whole ) } entity b : B { } entity l : L { } rules when rank 1 event x from b value changed trigger action set ( b.x ) on l end when rank 2 ( event x from b value changed or event y from b value changed ) and event z from b value changed trigger action set ( 0 ) on l end end") (ascii "by n b.x b.y b.z\na 1 1 - 1\na 2 2 - -\na 3 - 1 2\na 4 - 2 -\na 5 3 4 3\na 6 - - 4\n") ≡ ascii "by n l.set\na 1 0\na 2 2\na 3 0\na 4 -\na 5 0\na 6 -\n"
unfolding replay ascii
    Ieee.add Ieee.sub Ieee.mul Ieee.div Ieee.neg Ieee.eq Ieee.of_int Ieee.of_bits Ieee.to_bits Ieee.is_nan
run_rank_of_whole_condition = refl

pub run_rank_action_seen_one_cycle_later : replay (ascii "interface B { event x : whole event y : whole event z : whole } interface L { action set ( whole ) action o ( whole ) } entity b : B { } entity l : L { } rules when rank 9 event set from l value changed trigger action o ( l.set ) on l end when event x from b value changed trigger action set ( b.x ) on l end when rank 5 event y from b value changed trigger action set ( b.y ) on l end end") (ascii "by n b.x b.y\na 1 1 2\na 2 3 -\na 3 4 5\na 4 - -\na 5 - -\na 6 6 -\na 7 7 7\n") ≡ ascii "by n l.set l.o\na 1 2 -\na 2 3 2\na 3 5 3\na 4 - 5\na 5 - -\na 6 6 -\na 7 7 6\n"
unfolding replay ascii
    Ieee.add Ieee.sub Ieee.mul Ieee.div Ieee.neg Ieee.eq Ieee.of_int Ieee.of_bits Ieee.to_bits Ieee.is_nan
run_rank_action_seen_one_cycle_later = refl

pub run_rank_feeds_itself : replay (ascii "interface B { event x : whole event y : whole event z : whole } interface L { action set ( whole ) } entity b : B { } entity l : L { } rules when event x from b value changed trigger action set ( b.x ) on l end when rank 9 event set from l value changed trigger action set ( l.set - 1 ) on l end end") (ascii "by n b.x l\na 1 5 -\na 2 9 -\na 3 - -\na 4 7 -\na 4 7 -\na 5 - -\na 6 - false\na 7 8 true\na 8 9 -\n") ≡ ascii "by n l.set\na 1 5\na 2 4\na 3 3\na 4 2\na 4 2\na 5 1\na 6 -\na 7 8\na 8 7\n"
unfolding replay ascii
    Ieee.add Ieee.sub Ieee.mul Ieee.div Ieee.neg Ieee.eq Ieee.of_int Ieee.of_bits Ieee.to_bits Ieee.is_nan
run_rank_feeds_itself = refl

pub run_rank_resent : replay (ascii "interface B { event x : whole event y : whole event z : whole } interface L { action set ( whole ) } entity b : B { } entity l : L { } rules when event y from b value changed trigger action set ( b.y ) on l end when rank 1 event x from b value changed trigger action set ( b.x ) on l end end") (ascii "by n b.x b.y\na 1 1 2\nc 1 - 3\na 1 1 2\nc 1 - 3\na 1 1 3\nc 2 4 5\na 1 1 2\na 2 - 6\nc 2 4 5\n") ≡ ascii "by n l.set\na 1 1\nc 1 3\na 1 1\nc 1 3\nrefused 25\nc 2 4\na 1 1\na 2 6\nc 2 4\n"
unfolding replay ascii
    Ieee.add Ieee.sub Ieee.mul Ieee.div Ieee.neg Ieee.eq Ieee.of_int Ieee.of_bits Ieee.to_bits Ieee.is_nan
run_rank_resent = refl

pub run_random : replay (ascii "interface D { attribute id : whole event on_ : bool event v : whole action set ( whole ) action flag ( bool ) } interface H { event w : whole action sum ( whole ) } entity a : D { id = 1 } entity b : D { id = 2 } entity h : H { } rules when event v from x : D value changed and ( event on_ from y : D with id = 3 - x.id value changed or event w from h value = x.v ) trigger action sum ( x.v * 10 + y.id ) on h , action flag ( y.on_ ) on x with id = 1 end when event sum from h value changed trigger action set ( h.sum - z.v ) on z : D end when event set from x : D value = x.v or event flag from a value = true trigger action sum ( - h.w / x.id ) on h end end") (ascii "by n a.on_ a b.on_ b b.v a.v h.w\nx_1 1 false - true false 2 2 2\nwest 1 ? - ? - -3 0 -3\nx_1 1 - true true true 0 2 1\nx_1 2 ? - true - ? -3 1\neast 1 false - ? true 1 -3 2\nwest 1 ? - ? - -3 0 -3\nx_1 2 ? - true - ? -3 1\nx_1 2 ? - true - ? -3 1\nwest 1 ? - ? - -3 0 -3\neast 1 true - true false 1 1 2\nwest 2 ? true false - 2 2 0\neast 2 true - false - 2 0 1\n") ≡ ascii "by n a.set a.flag b.set b.flag h.sum\nrefused 23\nwest 1 - - - - -29\nx_1 1 -31 true -29 - 22\nx_1 2 25 - - - -1\neast 1 2 - -2 - 11\nwest 1 - - - - -29\nx_1 2 25 - - - -1\nx_1 2 25 - - - -1\nwest 1 - - - - -29\nrefused 23\nwest 2 9 false 9 - 22\neast 2 22 - 20 - -\n"
unfolding replay ascii
    Ieee.add Ieee.sub Ieee.mul Ieee.div Ieee.neg Ieee.eq Ieee.of_int Ieee.of_bits Ieee.to_bits Ieee.is_nan
run_random = refl
