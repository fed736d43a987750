-- Day sheets. Made by tests/oracle/to_antt.py from tests/oracle/sheets.json.
use mathlib.Core.Path.{◌≡◌, refl}
use lib.Ieee as Ieee
use Rattle.text.specs.definitions.Bytes.{ascii}
use Rattle.senders.specs.definitions.Answer.{refused, accepted}
use Rattle.sheet_cases.specs.definitions.SheetOf.{sheet_of}

pub sheet_one_whole_cell : sheet_of (ascii "interface I { event e : whole } entity s : I { } rules end") (ascii "") (ascii "by n s.e\na 1 5\na 2 -2147483648\na 3 -\na 4 2147483647\na 5 ?\na 6 0\n") (ascii "s.e") ≡ accepted (ascii "         1             5                                                        \n         2   -2147483648                                                        \n         3   -2147483648                                                        \n         4    2147483647                                                        \n         5             -                                                        \n         6             0                                                        \n")
unfolding sheet_of ascii Ieee.lt
    Ieee.add Ieee.sub Ieee.mul Ieee.div Ieee.neg Ieee.eq Ieee.of_int Ieee.of_bits Ieee.to_bits Ieee.is_nan
sheet_one_whole_cell = refl

pub sheet_five_cells_of_all_sorts : sheet_of (ascii "interface M { attribute a : whole event b : bool event r : real action f ( real ) action g ( bool ) } entity m : M { a = -40 } rules when event b from m value changed trigger action f ( m.r / 2r ) on m , action g ( m.b ) on m end end") (ascii "") (ascii "by n m.b m.r\na 1 true 400921fb54442d18\na 2 - c00400000000000b\na 3 false ?") (ascii "m.f m.a m.g m.r m.b") ≡ accepted (ascii "         1      3ff921fb           -40          true      400921fb          true\n                54442d18                                  54442d18              \n         2             -           -40             -      c0040000          true\n                                                          0000000b              \n         3             -           -40         false             -         false\n                3ff921fb                                                        \n                54442d18                                                        \n                3ff921fb                                                        \n                54442d18                                                        \n                3ff921fb                                                        \n                54442d18                                                        \n                                                          c0040000              \n                                                          0000000b              \n                                                          400921fb              \n                                                          54442d18              \n                                                          c0040000              \n                                                          0000000b              \n")
unfolding sheet_of ascii Ieee.lt
    Ieee.add Ieee.sub Ieee.mul Ieee.div Ieee.neg Ieee.eq Ieee.of_int Ieee.of_bits Ieee.to_bits Ieee.is_nan
sheet_five_cells_of_all_sorts = refl

pub sheet_second_row_of_set_reals : sheet_of (ascii "interface I { event x : real event w : whole } entity s : I { } rules end") (ascii "") (ascii "by n s.x s.w\na 1 - 3\na 2 3fb999999999999a -\na 3 ? 4\na 4 bfe0000000000001 ?\na 5 - 9\na 6 ? -\n") (ascii "s.x s.w") ≡ accepted (ascii "         1             -             3                                          \n         2      3fb99999             3                                          \n                9999999a                                                        \n         3             -             4                                          \n         4      bfe00000             -                                          \n                00000001                                                        \n         5      bfe00000             9                                          \n                00000001                                                        \n         6             -             9                                          \n                bfe00000                                                        \n                00000001                                                        \n                3fb99999                                                        \n                9999999a                                                        \n                bfe00000                                                        \n                00000001                                                        \n")
unfolding sheet_of ascii Ieee.lt
    Ieee.add Ieee.sub Ieee.mul Ieee.div Ieee.neg Ieee.eq Ieee.of_int Ieee.of_bits Ieee.to_bits Ieee.is_nan
sheet_second_row_of_set_reals = refl

pub sheet_resent_in_the_middle : sheet_of (ascii "interface I { event e : whole action k ( whole ) } entity s : I { } rules when event e from s value changed trigger action k ( s.e ) on s end end") (ascii "") (ascii "by n s.e\na 1 5\na 2 -\na 2 -\na 3 6\na 3 6\na 3 6\na 4 6\n") (ascii "s.k s.e") ≡ accepted (ascii "         1             5             5                                          \n         2             -             5                                          \n         3             6             6                                          \n         4             -             6                                          \n")
unfolding sheet_of ascii Ieee.lt
    Ieee.add Ieee.sub Ieee.mul Ieee.div Ieee.neg Ieee.eq Ieee.of_int Ieee.of_bits Ieee.to_bits Ieee.is_nan
sheet_resent_in_the_middle = refl

pub sheet_refused_lines_passed_over : sheet_of (ascii "interface I { event e : whole action k ( whole ) } entity s : I { } rules when event e from s value changed trigger action k ( s.e ) on s end end") (ascii "") (ascii "by n s.e\na 2 4\na 1 5\n\na 1 6\na 2 x\na 3 6\na 2\na 2 6\na 0 6\na 3 -\na 9 9\n\n") (ascii "s.e s.k") ≡ accepted (ascii "         1             5             5                                          \n         2             6             6                                          \n         3             6             -                                          \n")
unfolding sheet_of ascii Ieee.lt
    Ieee.add Ieee.sub Ieee.mul Ieee.div Ieee.neg Ieee.eq Ieee.of_int Ieee.of_bits Ieee.to_bits Ieee.is_nan
sheet_refused_lines_passed_over = refl

pub sheet_absent_entity : sheet_of (ascii "interface D { attribute a : whole attribute r : real event e : whole action k ( whole ) } entity d : D { a = 7 r = -2147483647r } rules when event e from d value changed trigger action k ( d.e ) on d end end") (ascii "") (ascii "by n d d.e\na 1 - 5\na 2 false -\na 3 - -\na 4 true -\na 5 - 6\n") (ascii "d.a d.e d.r d.k") ≡ accepted (ascii "         1             7             5      c1dfffff             5              \n                                            ffc00000                            \n         2             -             -             -             -              \n         3             -             -             -             -              \n         4             7             -      c1dfffff             -              \n                                            ffc00000                            \n         5             7             6      c1dfffff             6              \n                                            ffc00000                            \n                                            c1dfffff                            \n                                            ffc00000                            \n                                            c1dfffff                            \n                                            ffc00000                            \n                                            c1dfffff                            \n                                            ffc00000                            \n")
unfolding sheet_of ascii Ieee.lt
    Ieee.add Ieee.sub Ieee.mul Ieee.div Ieee.neg Ieee.eq Ieee.of_int Ieee.of_bits Ieee.to_bits Ieee.is_nan
sheet_absent_entity = refl

pub sheet_lowest_highest_last : sheet_of (ascii "interface I { event x : real } entity s : I { } rules end") (ascii "") (ascii "by n s.x\na 1 bff0000000000001\na 2 4000000000000002\na 3 400000000000000a\na 4 c000000000000003\na 5 c000000000000002\na 6 3ff0000000000004\n") (ascii "s.x") ≡ accepted (ascii "         1      bff00000                                                        \n                00000001                                                        \n         2      40000000                                                        \n                00000002                                                        \n         3      40000000                                                        \n                0000000a                                                        \n         4      c0000000                                                        \n                00000003                                                        \n         5      c0000000                                                        \n                00000002                                                        \n         6      3ff00000                                                        \n                00000004                                                        \n                c0000000                                                        \n                00000003                                                        \n                40000000                                                        \n                0000000a                                                        \n                3ff00000                                                        \n                00000004                                                        \n")
unfolding sheet_of ascii Ieee.lt
    Ieee.add Ieee.sub Ieee.mul Ieee.div Ieee.neg Ieee.eq Ieee.of_int Ieee.of_bits Ieee.to_bits Ieee.is_nan
sheet_lowest_highest_last = refl

pub sheet_two_real_columns : sheet_of (ascii "interface I { event x : real event y : real } entity s : I { } rules end") (ascii "") (ascii "by n s.x s.y\na 1 4010000000000004 -\na 2 ? c010000000000007\na 3 4030000000000003 4020000000000002\na 4 4020000000000005 -\n") (ascii "s.y s.x") ≡ accepted (ascii "         1             -      40100000                                          \n                              00000004                                          \n         2      c0100000             -                                          \n                00000007                                                        \n         3      40200000      40300000                                          \n                00000002      00000003                                          \n         4      40200000      40200000                                          \n                00000002      00000005                                          \n                c0100000                                                        \n                00000007                                                        \n                40200000                                                        \n                00000002                                                        \n                40200000                                                        \n                00000002                                                        \n                              40100000                                          \n                              00000004                                          \n                              40300000                                          \n                              00000003                                          \n                              40200000                                          \n                              00000005                                          \n")
unfolding sheet_of ascii Ieee.lt
    Ieee.add Ieee.sub Ieee.mul Ieee.div Ieee.neg Ieee.eq Ieee.of_int Ieee.of_bits Ieee.to_bits Ieee.is_nan
sheet_two_real_columns = refl

pub sheet_real_never_set : sheet_of (ascii "interface I { event w : whole event x : real event y : real } entity s : I { } rules end") (ascii "") (ascii "by n s.w s.y\na 1 8 -\na 2 - 7fefffffffffffff\n") (ascii "s.w s.x s.y") ≡ accepted (ascii "         1             8             -             -                            \n         2             8             -      7fefffff                            \n                                            ffffffff                            \n                                     -                                          \n                                     -                                          \n                                     -                                          \n                                            7fefffff                            \n                                            ffffffff                            \n                                            7fefffff                            \n                                            ffffffff                            \n                                            7fefffff                            \n                                            ffffffff                            \n")
unfolding sheet_of ascii Ieee.lt
    Ieee.add Ieee.sub Ieee.mul Ieee.div Ieee.neg Ieee.eq Ieee.of_int Ieee.of_bits Ieee.to_bits Ieee.is_nan
sheet_real_never_set = refl

pub sheet_two_zeros : sheet_of (ascii "interface I { event x : real event y : real } entity s : I { } rules end") (ascii "") (ascii "by n s.x s.y\na 1 0000000000000000 8000000000000000\na 2 8000000000000000 0000000000000000\n") (ascii "s.x s.y") ≡ accepted (ascii "         1      00000000      80000000                                          \n                00000000      00000000                                          \n         2      80000000      00000000                                          \n                00000000      00000000                                          \n                00000000                                                        \n                00000000                                                        \n                00000000                                                        \n                00000000                                                        \n                80000000                                                        \n                00000000                                                        \n                              80000000                                          \n                              00000000                                          \n                              80000000                                          \n                              00000000                                          \n                              00000000                                          \n                              00000000                                          \n")
unfolding sheet_of ascii Ieee.lt
    Ieee.add Ieee.sub Ieee.mul Ieee.div Ieee.neg Ieee.eq Ieee.of_int Ieee.of_bits Ieee.to_bits Ieee.is_nan
sheet_two_zeros = refl

pub sheet_five_reals_of_two_cells : sheet_of (ascii "interface I { attribute a : real event x : real } entity s : I { a = -2147483647r } rules end") (ascii "") (ascii "by n s.x\na 1 3fd5555555555556") (ascii "s.x s.a s.x s.a s.x") ≡ accepted (ascii "         1      3fd55555      c1dfffff      3fd55555      c1dfffff      3fd55555\n                55555556      ffc00000      55555556      ffc00000      55555556\n                3fd55555                                                        \n                55555556                                                        \n                3fd55555                                                        \n                55555556                                                        \n                3fd55555                                                        \n                55555556                                                        \n                              c1dfffff                                          \n                              ffc00000                                          \n                              c1dfffff                                          \n                              ffc00000                                          \n                              c1dfffff                                          \n                              ffc00000                                          \n                                            3fd55555                            \n                                            55555556                            \n                                            3fd55555                            \n                                            55555556                            \n                                            3fd55555                            \n                                            55555556                            \n                                                          c1dfffff              \n                                                          ffc00000              \n                                                          c1dfffff              \n                                                          ffc00000              \n                                                          c1dfffff              \n                                                          ffc00000              \n                                                                        3fd55555\n                                                                        55555556\n                                                                        3fd55555\n                                                                        55555556\n                                                                        3fd55555\n                                                                        55555556\n")
unfolding sheet_of ascii Ieee.lt
    Ieee.add Ieee.sub Ieee.mul Ieee.div Ieee.neg Ieee.eq Ieee.of_int Ieee.of_bits Ieee.to_bits Ieee.is_nan
sheet_five_reals_of_two_cells = refl

pub sheet_goes_on_from_lent_state : sheet_of (ascii "interface I { event e : whole action k ( whole ) } interface A { attribute a : bool } entity s : I { } entity t : A { a = true } entity u : A { a = false } rules when event e from s value changed trigger action k ( s.e ) on s end end") (ascii "by n s.e t\na 1 5 -\na 2 - -\na 3 - -\na 4 - -\na 5 - -\na 6 - -\na 7 - -\na 8 7 false\n") (ascii "by n t s.e\na 9 - 7\na 10 true 8\na 11 - -\n") (ascii "s.e s.k t.a u.a") ≡ accepted (ascii "         9             7             -             -         false              \n        10             8             8          true         false              \n        11             8             -          true         false              \n")
unfolding sheet_of ascii Ieee.lt
    Ieee.add Ieee.sub Ieee.mul Ieee.div Ieee.neg Ieee.eq Ieee.of_int Ieee.of_bits Ieee.to_bits Ieee.is_nan
sheet_goes_on_from_lent_state = refl

pub sheet_resent_as_first_line : sheet_of (ascii "interface I { event x : real } entity s : I { } rules end") (ascii "by n s.x\na 1 c000000000000001\na 2 c008000000000002\n") (ascii "by n s s.x\na 2 - c008000000000002\na 3 - 4000000000000003\na 4 - 3ff0000000000004\n") (ascii "s.x") ≡ accepted (ascii "         3      40000000                                                        \n                00000003                                                        \n         4      3ff00000                                                        \n                00000004                                                        \n                3ff00000                                                        \n                00000004                                                        \n                40000000                                                        \n                00000003                                                        \n                3ff00000                                                        \n                00000004                                                        \n")
unfolding sheet_of ascii Ieee.lt
    Ieee.add Ieee.sub Ieee.mul Ieee.div Ieee.neg Ieee.eq Ieee.of_int Ieee.of_bits Ieee.to_bits Ieee.is_nan
sheet_resent_as_first_line = refl

pub sheet_no_line_and_two_reals : sheet_of (ascii "interface I { attribute a : real event w : whole event x : real } entity s : I { a = 3r } rules end") (ascii "by n s.x s.w\na 1 3ff0000000000000 4\n") (ascii "by n s.w s.x\na 1 4 3ff0000000000000\na 3 - -\n") (ascii "s.a s.w s.x") ≡ accepted (ascii "                       -                                                        \n                       -                                                        \n                       -                                                        \n                                                   -                            \n                                                   -                            \n                                                   -                            \n")
unfolding sheet_of ascii Ieee.lt
    Ieee.add Ieee.sub Ieee.mul Ieee.div Ieee.neg Ieee.eq Ieee.of_int Ieee.of_bits Ieee.to_bits Ieee.is_nan
sheet_no_line_and_two_reals = refl

pub sheet_no_line_and_no_real : sheet_of (ascii "interface I { event e : whole } entity s : I { } rules end") (ascii "by n s.e\na 1 5\n") (ascii "by n s.e") (ascii "s.e") ≡ accepted (ascii "")
unfolding sheet_of ascii Ieee.lt
    Ieee.add Ieee.sub Ieee.mul Ieee.div Ieee.neg Ieee.eq Ieee.of_int Ieee.of_bits Ieee.to_bits Ieee.is_nan
sheet_no_line_and_no_real = refl

pub sheet_two_senders : sheet_of (ascii "interface I { event e : whole action k ( whole ) } entity s : I { } rules when event e from s value changed trigger action k ( s.e ) on s end end") (ascii "") (ascii "by n s.e\na 1 5\nb 1 6\na 1 5\na 2 -\nb 1 6\nb 2 7\na 2 -\nb 3 -\n") (ascii "s.k s.e") ≡ accepted (ascii "         1             5             5                                          \n         1             6             6                                          \n         2             -             6                                          \n         2             7             7                                          \n         3             -             7                                          \n")
unfolding sheet_of ascii Ieee.lt
    Ieee.add Ieee.sub Ieee.mul Ieee.div Ieee.neg Ieee.eq Ieee.of_int Ieee.of_bits Ieee.to_bits Ieee.is_nan
sheet_two_senders = refl

pub sheet_two_senders_in_lent_state : sheet_of (ascii "interface I { event x : real } entity s : I { } rules end") (ascii "by n s.x\nb 1 c010000000000001\na 1 c000000000000002\nb 2 c008000000000003\n") (ascii "by n s.x\na 1 c000000000000002\nb 2 c008000000000003\nb 3 4000000000000004\na 2 3ff0000000000005\nb 3 4000000000000004\nc 1 -\n") (ascii "s.x") ≡ accepted (ascii "         3      40000000                                                        \n                00000004                                                        \n         2      3ff00000                                                        \n                00000005                                                        \n         1      3ff00000                                                        \n                00000005                                                        \n                3ff00000                                                        \n                00000005                                                        \n                40000000                                                        \n                00000004                                                        \n                3ff00000                                                        \n                00000005                                                        \n")
unfolding sheet_of ascii Ieee.lt
    Ieee.add Ieee.sub Ieee.mul Ieee.div Ieee.neg Ieee.eq Ieee.of_int Ieee.of_bits Ieee.to_bits Ieee.is_nan
sheet_two_senders_in_lent_state = refl

pub sheet_senders_refused_or_absent : sheet_of (ascii "interface I { event e : whole action k ( whole ) } entity s : I { } rules when event e from s value changed trigger action k ( s.e ) on s end end") (ascii "") (ascii "by n s s.e\n1 1 - 4\na 2 - 4\na 1 - 5\nb 1 false -\na 1 - 5\na 2 - 5\nb 3 - -\na 2 - -\nb 2 true 6\n") (ascii "s.e s.k") ≡ accepted (ascii "         1             5             5                                          \n         1             -             -                                          \n         2             -             -                                          \n         2             6             6                                          \n")
unfolding sheet_of ascii Ieee.lt
    Ieee.add Ieee.sub Ieee.mul Ieee.div Ieee.neg Ieee.eq Ieee.of_int Ieee.of_bits Ieee.to_bits Ieee.is_nan
sheet_senders_refused_or_absent = refl

pub sheet_ninth_sender : sheet_of (ascii "interface I { event e : whole } entity s : I { } rules end") (ascii "by n s.e\na 1 1\nb 1 2\nc 1 3\nd 1 4\ne 1 5\nf 1 6\ng 1 7\nh 1 8\n") (ascii "by n s.e\ni 1 9\n") (ascii "s.e") ≡ accepted (ascii "")
unfolding sheet_of ascii Ieee.lt
    Ieee.add Ieee.sub Ieee.mul Ieee.div Ieee.neg Ieee.eq Ieee.of_int Ieee.of_bits Ieee.to_bits Ieee.is_nan
sheet_ninth_sender = refl

pub sheet_readings_empty : sheet_of (ascii "interface I { event e : whole action k ( whole ) } entity s : I { } rules when event e from s value changed trigger action k ( s.e ) on s end end") (ascii "by n s.e\na 1 5\n") (ascii "") (ascii "s.k") ≡ refused 22
unfolding sheet_of ascii Ieee.lt
    Ieee.add Ieee.sub Ieee.mul Ieee.div Ieee.neg Ieee.eq Ieee.of_int Ieee.of_bits Ieee.to_bits Ieee.is_nan
sheet_readings_empty = refl

pub sheet_names_wrong : sheet_of (ascii "interface I { event e : whole action k ( whole ) } entity s : I { } rules when event e from s value changed trigger action k ( s.e ) on s end end") (ascii "") (ascii "by n s.k\na 1 5\n") (ascii "s.k s.e") ≡ refused 22
unfolding sheet_of ascii Ieee.lt
    Ieee.add Ieee.sub Ieee.mul Ieee.div Ieee.neg Ieee.eq Ieee.of_int Ieee.of_bits Ieee.to_bits Ieee.is_nan
sheet_names_wrong = refl

pub sheet_cells_empty_text : sheet_of (ascii "interface I { event pos : whole } interface J { event dir : whole } entity st : I { } entity sta : J { } rules end") (ascii "") (ascii "by n st.pos\na 1 5\n") (ascii "") ≡ refused 41
unfolding sheet_of ascii Ieee.lt
    Ieee.add Ieee.sub Ieee.mul Ieee.div Ieee.neg Ieee.eq Ieee.of_int Ieee.of_bits Ieee.to_bits Ieee.is_nan
sheet_cells_empty_text = refl

pub sheet_cells_six : sheet_of (ascii "interface I { event pos : whole } interface J { event dir : whole } entity st : I { } entity sta : J { } rules end") (ascii "") (ascii "by n st.pos\na 1 5\n") (ascii "st.pos sta.dir st.pos sta.dir st.pos sta.dir") ≡ refused 41
unfolding sheet_of ascii Ieee.lt
    Ieee.add Ieee.sub Ieee.mul Ieee.div Ieee.neg Ieee.eq Ieee.of_int Ieee.of_bits Ieee.to_bits Ieee.is_nan
sheet_cells_six = refl

pub sheet_cells_two_spaces : sheet_of (ascii "interface I { event pos : whole } interface J { event dir : whole } entity st : I { } entity sta : J { } rules end") (ascii "") (ascii "by n st.pos\na 1 5\n") (ascii "st.pos  sta.dir") ≡ refused 41
unfolding sheet_of ascii Ieee.lt
    Ieee.add Ieee.sub Ieee.mul Ieee.div Ieee.neg Ieee.eq Ieee.of_int Ieee.of_bits Ieee.to_bits Ieee.is_nan
sheet_cells_two_spaces = refl

pub sheet_cells_leading_space : sheet_of (ascii "interface I { event pos : whole } interface J { event dir : whole } entity st : I { } entity sta : J { } rules end") (ascii "") (ascii "by n st.pos\na 1 5\n") (ascii " st.pos") ≡ refused 41
unfolding sheet_of ascii Ieee.lt
    Ieee.add Ieee.sub Ieee.mul Ieee.div Ieee.neg Ieee.eq Ieee.of_int Ieee.of_bits Ieee.to_bits Ieee.is_nan
sheet_cells_leading_space = refl

pub sheet_cells_trailing_space : sheet_of (ascii "interface I { event pos : whole } interface J { event dir : whole } entity st : I { } entity sta : J { } rules end") (ascii "") (ascii "by n st.pos\na 1 5\n") (ascii "st.pos ") ≡ refused 41
unfolding sheet_of ascii Ieee.lt
    Ieee.add Ieee.sub Ieee.mul Ieee.div Ieee.neg Ieee.eq Ieee.of_int Ieee.of_bits Ieee.to_bits Ieee.is_nan
sheet_cells_trailing_space = refl

pub sheet_cells_unknown_entity : sheet_of (ascii "interface I { event pos : whole } interface J { event dir : whole } entity st : I { } entity sta : J { } rules end") (ascii "") (ascii "by n st.pos\na 1 5\n") (ascii "s.pos st.pos") ≡ refused 41
unfolding sheet_of ascii Ieee.lt
    Ieee.add Ieee.sub Ieee.mul Ieee.div Ieee.neg Ieee.eq Ieee.of_int Ieee.of_bits Ieee.to_bits Ieee.is_nan
sheet_cells_unknown_entity = refl

pub sheet_cells_entity_alone : sheet_of (ascii "interface I { event pos : whole } interface J { event dir : whole } entity st : I { } entity sta : J { } rules end") (ascii "") (ascii "by n st.pos\na 1 5\n") (ascii "st") ≡ refused 41
unfolding sheet_of ascii Ieee.lt
    Ieee.add Ieee.sub Ieee.mul Ieee.div Ieee.neg Ieee.eq Ieee.of_int Ieee.of_bits Ieee.to_bits Ieee.is_nan
sheet_cells_entity_alone = refl

pub sheet_cells_three_parts : sheet_of (ascii "interface I { event pos : whole } interface J { event dir : whole } entity st : I { } entity sta : J { } rules end") (ascii "") (ascii "by n st.pos\na 1 5\n") (ascii "st.pos.pos") ≡ refused 41
unfolding sheet_of ascii Ieee.lt
    Ieee.add Ieee.sub Ieee.mul Ieee.div Ieee.neg Ieee.eq Ieee.of_int Ieee.of_bits Ieee.to_bits Ieee.is_nan
sheet_cells_three_parts = refl

pub sheet_cells_empty_member : sheet_of (ascii "interface I { event pos : whole } interface J { event dir : whole } entity st : I { } entity sta : J { } rules end") (ascii "") (ascii "by n st.pos\na 1 5\n") (ascii "st.") ≡ refused 41
unfolding sheet_of ascii Ieee.lt
    Ieee.add Ieee.sub Ieee.mul Ieee.div Ieee.neg Ieee.eq Ieee.of_int Ieee.of_bits Ieee.to_bits Ieee.is_nan
sheet_cells_empty_member = refl

pub sheet_cells_unknown_member_before_22 : sheet_of (ascii "interface I { event pos : whole } interface J { event dir : whole } entity st : I { } entity sta : J { } rules end") (ascii "") (ascii "by st.pos n\na 1 5\n") (ascii "st.pos sta.pos") ≡ refused 41
unfolding sheet_of ascii Ieee.lt
    Ieee.add Ieee.sub Ieee.mul Ieee.div Ieee.neg Ieee.eq Ieee.of_int Ieee.of_bits Ieee.to_bits Ieee.is_nan
sheet_cells_unknown_member_before_22 = refl
