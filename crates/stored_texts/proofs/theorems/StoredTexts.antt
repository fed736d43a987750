-- Bench texts, accepted and refused by each code. Made by tests/oracle/to_antt.py from tests/oracle/cases.json.
use Prim.Native.Nat.{◌+◌, ◌*◌}
use mathlib.Core.Path.{◌≡◌, refl}
use Rattle.text.specs.definitions.Bytes.{ascii}
use Rattle.checking.specs.definitions.Verdict.{verdict, verdict_answer}

pub accepted_tight_words : verdict_answer (verdict (ascii "interface a_1{attribute x:real event E:whole action K(real)}entity abcdefghijklmnopqrstuvwx:a_1{x=2147483647r}entity End:a_1{x=-0r}rules when event E from End value=0000000012trigger action K(1r*2r)on End with x=0rend end")) ≡ 0 + 256 * 0
unfolding verdict verdict_answer ascii
accepted_tight_words = refl

pub accepted_full : verdict_answer (verdict (ascii "# everything once\ninterface Lamp {\n\tattribute room : whole\n\tattribute dim : real\n\tattribute spare : bool\n\tevent seen : bool\n\tevent level : real\n\taction set ( real )\n\taction mark ( bool )\n}\ninterface Clock { event tick : whole action beep ( whole ) }\nentity hall : Lamp { spare = false room = - 3 dim = 2r }\nentity attic : Lamp { room = 4 dim = -0r spare = true }\nentity clock : Clock { }\nrules\n  when event tick from clock value changed\n   and ( event level from x : Lamp with room = clock.tick - 7 value = y.dim * 2r\n      or event set from y : Lamp with spare = true value changed )\n  trigger action set ( real ( clock.tick ) / ( x.level + -1r ) ) on y with dim = 2r ,\n          action beep ( - ( clock.tick + clock.beep ) ) on c : Clock\n  end\n  when event mark from x : Lamp value = x.seen trigger action mark ( false ) on x end\nend # no line feed here")) ≡ 0 + 256 * 0
unfolding verdict verdict_answer ascii
accepted_full = refl

pub accepted_sixteen_openers : verdict_answer (verdict (ascii "interface I { event r : real action k ( real ) } entity s : I { } rules when ( ( ( ( event r from s value = - ( - ( - real ( - ( - ( - ( 1 ) ) ) ) ) ) ) ) ) ) trigger action k ( - - - - - - - - - - - - - - - - 1r ) on s end end")) ≡ 0 + 256 * 0
unfolding verdict verdict_answer ascii
accepted_sixteen_openers = refl

pub accepted_sixteen_interfaces : verdict_answer (verdict (ascii "interface a { } interface b { } interface c { } interface d { } interface e { } interface f { } interface g { } interface h { } interface i { } interface j { } interface k { } interface l { } interface m { } interface n { } interface o { } interface p { } rules end")) ≡ 0 + 256 * 0
unfolding verdict verdict_answer ascii
accepted_sixteen_interfaces = refl

pub word_bad_byte_after_grammar_fault : verdict_answer (verdict (ascii "end rules 5 ( _x )")) ≡ 12 + 256 * 14
unfolding verdict verdict_answer ascii
word_bad_byte_after_grammar_fault = refl

pub word_name_of_25_letters : verdict_answer (verdict (ascii "interface abcdefghijklmnopqrstuvwxy { } rules end")) ≡ 12 + 256 * 10
unfolding verdict verdict_answer ascii
word_name_of_25_letters = refl

pub word_eleven_digits : verdict_answer (verdict (ascii "entity s : I { a = 00000000001 } rules end")) ≡ 12 + 256 * 19
unfolding verdict verdict_answer ascii
word_eleven_digits = refl

pub word_number_too_large : verdict_answer (verdict (ascii "entity s : I { a = 2147483647r b = - 2147483648r } rules end")) ≡ 12 + 256 * 37
unfolding verdict verdict_answer ascii
word_number_too_large = refl

pub word_bad_byte_in_comment : verdict_answer (verdict (ascii "rules end # tab\t is fine\n# return is not\r\n")) ≡ 12 + 256 * 40
unfolding verdict verdict_answer ascii
word_bad_byte_in_comment = refl

pub byte_every_allowed_one : verdict_answer (verdict (ascii "interface aZ_{attribute bcdefghijklmnopqrstuvwxy:whole attribute Az_0:whole attribute a:whole attribute Z09a:whole attribute zA9:whole attribute BCDEFGHIJKLMNOPQRSTUVWXY:whole attribute a1234567890_:whole event z:whole action A(whole)}entity Z9:aZ_{bcdefghijklmnopqrstuvwxy=1Az_0=9a=90Z09a=09zA9=0#\t !\"#$%&'()*+,-./0123456789:;<=>?@ABCDEFGHIJKLMNOPQRSTUVWXYZ[\\]^_`abcdefghijklmnopqrstuvwxyz{|}~\nBCDEFGHIJKLMNOPQRSTUVWXY=2\ta1234567890_=3\n}rules\nwhen event z from Z9 value=Z9.a+4*Z9.Az_0-5/Z9.zA9+6-Z9.a*Z9.a/Z9.a\ttrigger action A(7)on Z9 with a=8,action A(Z9.z)on Z9#,\nend end#")) ≡ 0 + 256 * 0
unfolding verdict verdict_answer ascii
byte_every_allowed_one = refl

pub byte_underscore_after_digits : verdict_answer (verdict (ascii "interface I { attribute a : whole } entity s : I { a = 7_0 } rules end")) ≡ 12 + 256 * 56
unfolding verdict verdict_answer ascii
byte_underscore_after_digits = refl

pub byte_comments_only_begins : verdict_answer (verdict (ascii "interface `a { } rules end")) ≡ 12 + 256 * 10
unfolding verdict verdict_answer ascii
byte_comments_only_begins = refl

pub byte_comments_only_after_name : verdict_answer (verdict (ascii "interface Z[ { } rules end")) ≡ 12 + 256 * 11
unfolding verdict verdict_answer ascii
byte_comments_only_after_name = refl

pub byte_comments_only_after_digits : verdict_answer (verdict (ascii "interface I { attribute a : whole } entity s : I { a = 7; } rules end")) ≡ 12 + 256 * 56
unfolding verdict verdict_answer ascii
byte_comments_only_after_digits = refl

pub byte_not_allowed_begins : verdict_answer (verdict (ascii "rules \r\nend\r\n")) ≡ 12 + 256 * 6
unfolding verdict verdict_answer ascii
byte_not_allowed_begins = refl

pub byte_not_allowed_after_name : verdict_answer (verdict (ascii "rules end\0")) ≡ 12 + 256 * 9
unfolding verdict verdict_answer ascii
byte_not_allowed_after_name = refl

pub byte_not_allowed_after_digits : verdict_answer (verdict (ascii "interface I { attribute a : whole } entity s : I { a = 7\u{1f} } rules end")) ≡ 12 + 256 * 56
unfolding verdict verdict_answer ascii
byte_not_allowed_after_digits = refl

pub grammar_early_end_blanks_comment : verdict_answer (verdict (ascii "interface I { }\nrules\t # no end\n \t")) ≡ 13 + 256 * 34
unfolding verdict verdict_answer ascii
grammar_early_end_blanks_comment = refl

pub grammar_word_after_end : verdict_answer (verdict (ascii "rules end # done\n interface I { }")) ≡ 13 + 256 * 18
unfolding verdict verdict_answer ascii
grammar_word_after_end = refl

pub grammar_reserved_as_name : verdict_answer (verdict (ascii "interface whole_ { event Value : whole event value : bool attribute a : bool } rules end")) ≡ 13 + 256 * 45
unfolding verdict verdict_answer ascii
grammar_reserved_as_name = refl

pub grammar_minus_true_literal : verdict_answer (verdict (ascii "interface I { attribute a : bool } entity s : I { a = - true } rules end")) ≡ 13 + 256 * 56
unfolding verdict verdict_answer ascii
grammar_minus_true_literal = refl

pub grammar_number_eats_r : verdict_answer (verdict (ascii "interface I { attribute a : real event r : real action k ( real ) } entity s : I { a = 1r } rules when event r from s value = 1real ( 1 ) trigger action k ( 1r ) on s end end")) ≡ 13 + 256 * 128
unfolding verdict verdict_answer ascii
grammar_number_eats_r = refl

pub grammar_seventeenth_opener_mixed : verdict_answer (verdict (ascii "interface I { attribute a : real event r : real action k ( real ) } entity s : I { a = 1r } rules when ( ( ( ( ( event r from s value = - ( - ( - real ( - ( - ( - ( 1 ) ) ) ) ) ) ) ) ) ) ) trigger action k ( 1r ) on s end end")) ≡ 13 + 256 * 163
unfolding verdict verdict_answer ascii
grammar_seventeenth_opener_mixed = refl

pub grammar_seventeenth_opener_real_in_filter : verdict_answer (verdict (ascii "interface I { attribute a : real event r : real action k ( real ) } entity s : I { a = 1r } rules when ( ( ( ( ( ( ( ( ( ( ( ( ( ( ( ( event r from s with a = real ( 1 ) value changed ) ) ) ) ) ) ) ) ) ) ) ) ) ) ) ) trigger action k ( 1r ) on s end end")) ≡ 13 + 256 * 159
unfolding verdict verdict_answer ascii
grammar_seventeenth_opener_real_in_filter = refl

pub count_17_interfaces_of_one_name : verdict_answer (verdict (ascii "interface A { } interface A { } interface A { } interface A { } interface A { } interface A { } interface A { } interface A { } interface A { } interface A { } interface A { } interface A { } interface A { } interface A { } interface A { } interface A { } interface A { } rules end")) ≡ 14 + 256 * 256
unfolding verdict verdict_answer ascii
count_17_interfaces_of_one_name = refl

pub count_13_members : verdict_answer (verdict (ascii "interface I { attribute a : whole attribute b : bool attribute c : real attribute d : whole event e : whole event f : bool event g : real event h : whole action i ( whole ) action j ( bool ) action k ( real ) action l ( whole ) action m ( bool ) } rules end")) ≡ 14 + 256 * 228
unfolding verdict verdict_answer ascii
count_13_members = refl

pub count_33_entities : verdict_answer (verdict (ascii "interface I { } entity a : I { } entity b : I { } entity c : I { } entity d : I { } entity e : I { } entity f : I { } entity g : I { } entity h : I { } entity i : I { } entity j : I { } entity k : I { } entity l : I { } entity m : I { } entity n : I { } entity o : I { } entity p : I { } entity q : I { } entity r : I { } entity s : I { } entity t : I { } entity u : I { } entity v : I { } entity w : I { } entity x : I { } entity y : I { } entity z : I { } entity A : I { } entity B : I { } entity C : I { } entity D : I { } entity E : I { } entity F : I { } entity G : I { } rules end")) ≡ 14 + 256 * 560
unfolding verdict verdict_answer ascii
count_33_entities = refl

pub count_4_variables_one_repeated : verdict_answer (verdict (ascii "interface I { event e : whole action k ( whole ) } entity s : I { } rules when event e from x : I value changed and event e from y : I value changed and event e from x value changed trigger action k ( 1 ) on x : I , action k ( 1 ) on y : I end end")) ≡ 14 + 256 * 234
unfolding verdict verdict_answer ascii
count_4_variables_one_repeated = refl

pub count_9_clauses : verdict_answer (verdict (ascii "interface I { event e : whole action k ( whole ) } entity s : I { } rules when ( event e from s value changed or event e from s value changed ) and ( event e from s value changed or event e from s value changed ) and ( event e from s value changed or event e from s value changed ) and ( event e from s value changed or event e from s value changed ) and event e from s value changed trigger action k ( 1 ) on s end end")) ≡ 14 + 256 * 355
unfolding verdict verdict_answer ascii
count_9_clauses = refl

pub count_9_calls : verdict_answer (verdict (ascii "interface I { event e : whole action k ( whole ) } entity s : I { } rules when event e from s value changed trigger action k ( 1 ) on s , action k ( 1 ) on s , action k ( 1 ) on s , action k ( 1 ) on s , action k ( 1 ) on s , action k ( 1 ) on s , action k ( 1 ) on s , action k ( 1 ) on s , action k ( 1 ) on x : Z end end")) ≡ 14 + 256 * 292
unfolding verdict verdict_answer ascii
count_9_calls = refl

pub name_interface_twice : verdict_answer (verdict (ascii "interface I { } interface J { } interface I { } entity s : Z { } rules end")) ≡ 15 + 256 * 42
unfolding verdict verdict_answer ascii
name_interface_twice = refl

pub name_member_twice_other_sort : verdict_answer (verdict (ascii "interface I { attribute m : whole event n : bool action m ( bool ) } rules end")) ≡ 15 + 256 * 56
unfolding verdict verdict_answer ascii
name_member_twice_other_sort = refl

pub name_variable_twice : verdict_answer (verdict (ascii "interface I { attribute a : whole event e : whole action k ( whole ) } interface J { attribute c : bool event f : bool action m ( bool ) } entity s : I { a = 1 } entity t : J { c = true } rules when event e from x : I value changed trigger action k ( x.e ) on x : I end end")) ≡ 15 + 256 * 260
unfolding verdict verdict_answer ascii
name_variable_twice = refl

pub name_variable_as_entity : verdict_answer (verdict (ascii "interface I { attribute a : whole event e : whole action k ( whole ) } interface J { attribute c : bool event f : bool action m ( bool ) } entity s : I { a = 1 } entity t : J { c = true } rules when event e from s : I value changed trigger action k ( 1 ) on s end end")) ≡ 15 + 256 * 212
unfolding verdict verdict_answer ascii
name_variable_as_entity = refl

pub name_attribute_set_twice : verdict_answer (verdict (ascii "interface I { attribute a : whole } entity s : I { a = 1 a = 1 } rules end")) ≡ 15 + 256 * 57
unfolding verdict verdict_answer ascii
name_attribute_set_twice = refl

pub name_entity_of_unknown_interface : verdict_answer (verdict (ascii "interface I { } entity s : I { } entity t : s { x = 1 } rules end")) ≡ 16 + 256 * 44
unfolding verdict verdict_answer ascii
name_entity_of_unknown_interface = refl

pub name_place_is_interface : verdict_answer (verdict (ascii "interface I { attribute a : whole event e : whole action k ( whole ) } interface J { attribute c : bool event f : bool action m ( bool ) } entity s : I { a = 1 } entity t : J { c = true } rules when event e from I value changed trigger action k ( 1 ) on s end end")) ≡ 16 + 256 * 212
unfolding verdict verdict_answer ascii
name_place_is_interface = refl

pub name_variable_of_other_rule : verdict_answer (verdict (ascii "interface I { attribute a : whole event e : whole action k ( whole ) } interface J { attribute c : bool event f : bool action m ( bool ) } entity s : I { a = 1 } entity t : J { c = true } rules when event e from x : I value changed trigger action k ( x.a ) on x end when event e from s value = x.a trigger action k ( 1 ) on s end end")) ≡ 16 + 256 * 294
unfolding verdict verdict_answer ascii
name_variable_of_other_rule = refl

pub name_filter_is_event : verdict_answer (verdict (ascii "interface I { attribute a : whole event e : whole action k ( whole ) } interface J { attribute c : bool event f : bool action m ( bool ) } entity s : I { a = 1 } entity t : J { c = true } rules when event k from x with a = 1 value changed trigger action k ( 1 ) on x : I with e = 1 end end")) ≡ 16 + 256 * 276
unfolding verdict verdict_answer ascii
name_filter_is_event = refl

pub name_call_is_event : verdict_answer (verdict (ascii "interface I { attribute a : whole event e : whole action k ( whole ) } interface J { attribute c : bool event f : bool action m ( bool ) } entity s : I { a = 1 } entity t : J { c = true } rules when event k from s value changed trigger action k ( 1 ) on s , action e ( 1 ) on s end end")) ≡ 16 + 256 * 265
unfolding verdict verdict_answer ascii
name_call_is_event = refl

pub name_member_of_other_interface : verdict_answer (verdict (ascii "interface I { attribute a : whole event e : whole action k ( whole ) } interface J { attribute c : bool event f : bool action m ( bool ) } entity s : I { a = 1 } entity t : J { c = true } rules when event e from s value = s.a + s.k * s.e / s.f trigger action k ( 1 ) on s end end")) ≡ 16 + 256 * 242
unfolding verdict verdict_answer ascii
name_member_of_other_interface = refl

pub name_attribute_not_set : verdict_answer (verdict (ascii "interface I { attribute a : whole event e : whole action k ( whole ) } interface J { attribute c : bool event f : bool action m ( bool ) } entity s : I { a = 1 } entity t : J { c = true } entity u : J { c = false } entity v : I { } rules when event e from v value = 1r trigger action k ( 1 ) on v end end")) ≡ 17 + 256 * 230
unfolding verdict verdict_answer ascii
name_attribute_not_set = refl

pub mixed_17_before_16 : verdict_answer (verdict (ascii "interface I { attribute a : whole attribute b : whole attribute c : bool } entity s : I { b = 1 c = 2 } entity t : Z { } rules end")) ≡ 17 + 256 * 102
unfolding verdict verdict_answer ascii
mixed_17_before_16 = refl

pub mixed_17_before_15 : verdict_answer (verdict (ascii "interface I { attribute a : whole attribute b : whole } entity s : I { b = 1 } entity s : I { a = 1 b = 1 } rules end")) ≡ 17 + 256 * 77
unfolding verdict verdict_answer ascii
mixed_17_before_15 = refl

pub mixed_15_before_16 : verdict_answer (verdict (ascii "interface I { } entity s : I { } entity s : Z { } rules end")) ≡ 15 + 256 * 40
unfolding verdict verdict_answer ascii
mixed_15_before_16 = refl

pub mixed_16_before_17 : verdict_answer (verdict (ascii "interface I { attribute a : whole event e : whole } entity s : I { e = 1 } rules end")) ≡ 16 + 256 * 67
unfolding verdict verdict_answer ascii
mixed_16_before_17 = refl

pub mixed_entity_before_variable : verdict_answer (verdict (ascii "interface I { attribute f : bool } interface J { event f : bool action m ( bool ) } entity s : I { f = true } entity t : J { } rules when event f from s : J value changed trigger action m ( true ) on t end end")) ≡ 16 + 256 * 144
unfolding verdict verdict_answer ascii
mixed_entity_before_variable = refl

pub mixed_first_variable_counts : verdict_answer (verdict (ascii "interface I { attribute a : whole event e : whole action k ( whole ) } interface J { attribute c : bool event f : bool action m ( bool ) } entity s : I { a = 1 } entity t : J { c = true } rules when event e from x value changed and event e from x : I value changed and event f from x : J value changed trigger action m ( true ) on t end end")) ≡ 16 + 256 * 275
unfolding verdict verdict_answer ascii
mixed_first_variable_counts = refl

pub mixed_unknown_interface_hides_members : verdict_answer (verdict (ascii "interface I { attribute a : whole event e : whole action k ( whole ) } interface J { attribute c : bool event f : bool action m ( bool ) } entity s : I { a = 1 } entity t : J { c = true } rules when event what from x : Z with nope = 1 value = x.none trigger action never ( x.none ) on x end end")) ≡ 16 + 256 * 219
unfolding verdict verdict_answer ascii
mixed_unknown_interface_hides_members = refl

pub kind_assignment : verdict_answer (verdict (ascii "interface I { attribute a : bool attribute b : whole attribute c : real } entity s : I { c = -1r a = true b = - 1r } entity t : I { a = 1 b = 1 c = 1 } rules end")) ≡ 18 + 256 * 108
unfolding verdict verdict_answer ascii
kind_assignment = refl

pub kind_clause_filter : verdict_answer (verdict (ascii "interface I { attribute a : whole event e : whole action k ( whole ) } interface J { attribute c : bool event f : bool action m ( bool ) } entity s : I { a = 1 } entity t : J { c = true } rules when event e from s with a = t.c value changed trigger action k ( true ) on s  end end")) ≡ 18 + 256 * 221
unfolding verdict verdict_answer ascii
kind_clause_filter = refl

pub kind_clause_value : verdict_answer (verdict (ascii "interface I { attribute a : whole event e : whole action k ( whole ) } interface J { attribute c : bool event f : bool action m ( bool ) } entity s : I { a = 1 } entity t : J { c = true } rules when event e from s with a = - 1 value = real ( s.a ) trigger action k ( 1 ) on s  end end")) ≡ 18 + 256 * 233
unfolding verdict verdict_answer ascii
kind_clause_value = refl

pub kind_operator : verdict_answer (verdict (ascii "interface I { attribute a : whole event e : whole action k ( whole ) } interface J { attribute c : bool event f : bool action m ( bool ) } entity s : I { a = 1 } entity t : J { c = true } rules when event e from s value = 1 + s.e * 3 / 2r - true trigger action k ( 1 ) on s  end end")) ≡ 18 + 256 * 234
unfolding verdict verdict_answer ascii
kind_operator = refl

pub kind_minus_of_bool : verdict_answer (verdict (ascii "interface I { attribute a : whole event e : whole action k ( whole ) } interface J { attribute c : bool event f : bool action m ( bool ) } entity s : I { a = 1 } entity t : J { c = true } rules when event e from s value = ( - - t.f ) trigger action k ( 1 ) on s  end end")) ≡ 18 + 256 * 226
unfolding verdict verdict_answer ascii
kind_minus_of_bool = refl

pub kind_real_of_real : verdict_answer (verdict (ascii "interface I { attribute a : whole event e : whole action k ( whole ) } interface J { attribute c : bool event f : bool action m ( bool ) } entity s : I { a = 1 } entity t : J { c = true } rules when event e from s value changed trigger action k ( real ( 1r ) ) on s  end end")) ≡ 18 + 256 * 247
unfolding verdict verdict_answer ascii
kind_real_of_real = refl

pub kind_call_bracket : verdict_answer (verdict (ascii "interface I { attribute a : whole event e : whole action k ( whole ) } interface J { attribute c : bool event f : bool action m ( bool ) } entity s : I { a = 1 } entity t : J { c = true } rules when event e from s value changed trigger action k ( 1r / 2r ) on s end end")) ≡ 18 + 256 * 245
unfolding verdict verdict_answer ascii
kind_call_bracket = refl

pub kind_call_filter : verdict_answer (verdict (ascii "interface I { attribute a : whole event e : whole action k ( whole ) } interface J { attribute c : bool event f : bool action m ( bool ) } entity s : I { a = 1 } entity t : J { c = true } rules when event e from s value changed trigger action k ( 1 ) on s with a = 2r end end")) ≡ 18 + 256 * 263
unfolding verdict verdict_answer ascii
kind_call_filter = refl

pub kind_inner_fault_silences_outer : verdict_answer (verdict (ascii "interface I { attribute a : whole event e : whole action k ( whole ) } interface J { attribute c : bool event f : bool action m ( bool ) } entity s : I { a = 1 } entity t : J { c = true } rules when event f from t value = ( 3 - - real ( 1 + 2r ) ) * 4 trigger action m ( 1 ) on t end end")) ≡ 18 + 256 * 239
unfolding verdict verdict_answer ascii
kind_inner_fault_silences_outer = refl

pub kind_bool_beside_inner_fault : verdict_answer (verdict (ascii "interface I { attribute a : whole event e : whole action k ( whole ) } interface J { attribute c : bool event f : bool action m ( bool ) } entity s : I { a = 1 } entity t : J { c = true } rules when event f from t value = true + ( 1 + 2r ) trigger action m ( 1 ) on t end end")) ≡ 18 + 256 * 227
unfolding verdict verdict_answer ascii
kind_bool_beside_inner_fault = refl

pub rank_0 : verdict_answer (verdict (ascii "interface I { event e : whole action k ( whole ) } entity s : I { } rules when rank 0 event e from s value changed trigger action k ( 1 ) on s end end")) ≡ 0 + 256 * 0
unfolding verdict verdict_answer ascii
rank_0 = refl

pub rank_9 : verdict_answer (verdict (ascii "interface I { event e : whole action k ( whole ) } entity s : I { } rules when rank 9 event e from s value changed trigger action k ( 1 ) on s end end")) ≡ 0 + 256 * 0
unfolding verdict verdict_answer ascii
rank_9 = refl

pub rank_09 : verdict_answer (verdict (ascii "interface I { event e : whole action k ( whole ) } entity s : I { } rules when rank 09 event e from s value changed trigger action k ( 1 ) on s end end")) ≡ 0 + 256 * 0
unfolding verdict verdict_answer ascii
rank_09 = refl

pub rank_009 : verdict_answer (verdict (ascii "interface I { event e : whole action k ( whole ) } entity s : I { } rules when rank 009 event e from s value changed trigger action k ( 1 ) on s end end")) ≡ 0 + 256 * 0
unfolding verdict verdict_answer ascii
rank_009 = refl

pub rank_before_bracket : verdict_answer (verdict (ascii "interface I { event e : whole action k ( whole ) } entity s : I { } rules when rank 3 ( event e from s value changed or event e from s value changed ) trigger action k ( 1 ) on s end end")) ≡ 0 + 256 * 0
unfolding verdict verdict_answer ascii
rank_before_bracket = refl

pub rank_is_no_opener : verdict_answer (verdict (ascii "interface I { event e : whole action k ( whole ) } entity s : I { } rules when rank 3((((((((((((((((event e from s value changed))))))))))))))))trigger action k ( 1 ) on s end end")) ≡ 0 + 256 * 0
unfolding verdict verdict_answer ascii
rank_is_no_opener = refl

pub rank_of_some_rules : verdict_answer (verdict (ascii "interface I { event e : whole action k ( whole ) } entity s : I { } rules when rank 2 event e from s value changed trigger action k ( 1 ) on s end when event e from s value changed trigger action k ( 1 ) on s end when rank 2 event e from s value changed trigger action k ( 1 ) on s end end")) ≡ 0 + 256 * 0
unfolding verdict verdict_answer ascii
rank_of_some_rules = refl

pub rank_tight_words : verdict_answer (verdict (ascii "interface I { event e : whole action k ( whole ) } entity s : I { } rules when rank#9\n8event e from s value changed trigger action k ( 1 ) on s end end")) ≡ 0 + 256 * 0
unfolding verdict verdict_answer ascii
rank_tight_words = refl

pub rank_in_longer_names : verdict_answer (verdict (ascii "interface Rank { attribute ranks : whole event rank_ : whole action rank1 ( whole ) } entity RANK : Rank { ranks = 1 } rules when rank 1 event rank_ from ranks : Rank value changed trigger action rank1 ( ranks.ranks ) on ranks end end")) ≡ 0 + 256 * 0
unfolding verdict verdict_answer ascii
rank_in_longer_names = refl

pub rank_10 : verdict_answer (verdict (ascii "interface I { event e : whole action k ( whole ) } entity s : I { } rules when rank 10 event e from s value changed trigger action k ( 1 ) on s end end")) ≡ 44 + 256 * 84
unfolding verdict verdict_answer ascii
rank_10 = refl

pub rank_010 : verdict_answer (verdict (ascii "interface I { event e : whole action k ( whole ) } entity s : I { } rules when rank 010 event e from s value changed trigger action k ( 1 ) on s end end")) ≡ 44 + 256 * 84
unfolding verdict verdict_answer ascii
rank_010 = refl

pub rank_2147483647 : verdict_answer (verdict (ascii "interface I { event e : whole action k ( whole ) } entity s : I { } rules when rank 2147483647 event e from s value changed trigger action k ( 1 ) on s end end")) ≡ 44 + 256 * 84
unfolding verdict verdict_answer ascii
rank_2147483647 = refl

pub rank_2147483648 : verdict_answer (verdict (ascii "interface I { event e : whole action k ( whole ) } entity s : I { } rules when rank 2147483648 event e from s value changed trigger action k ( 1 ) on s end end")) ≡ 12 + 256 * 84
unfolding verdict verdict_answer ascii
rank_2147483648 = refl

pub rank_real : verdict_answer (verdict (ascii "interface I { event e : whole action k ( whole ) } entity s : I { } rules when rank 3r event e from s value changed trigger action k ( 1 ) on s end end")) ≡ 13 + 256 * 84
unfolding verdict verdict_answer ascii
rank_real = refl

pub rank_real_above_9 : verdict_answer (verdict (ascii "interface I { event e : whole action k ( whole ) } entity s : I { } rules when rank 10r event e from s value changed trigger action k ( 1 ) on s end end")) ≡ 13 + 256 * 84
unfolding verdict verdict_answer ascii
rank_real_above_9 = refl

pub rank_minus : verdict_answer (verdict (ascii "interface I { event e : whole action k ( whole ) } entity s : I { } rules when rank -1 event e from s value changed trigger action k ( 1 ) on s end end")) ≡ 13 + 256 * 84
unfolding verdict verdict_answer ascii
rank_minus = refl

pub rank_without_number : verdict_answer (verdict (ascii "interface I { event e : whole action k ( whole ) } entity s : I { } rules when rank event e from s value changed trigger action k ( 1 ) on s end end")) ≡ 13 + 256 * 84
unfolding verdict verdict_answer ascii
rank_without_number = refl

pub rank_twice : verdict_answer (verdict (ascii "interface I { event e : whole action k ( whole ) } entity s : I { } rules when rank 1 rank 2 event e from s value changed trigger action k ( 1 ) on s end end")) ≡ 13 + 256 * 86
unfolding verdict verdict_answer ascii
rank_twice = refl

pub rank_before_when : verdict_answer (verdict (ascii "interface I { event e : whole action k ( whole ) } entity s : I { } rules rank 1 when event e from s value changed trigger action k ( 1 ) on s end end")) ≡ 13 + 256 * 74
unfolding verdict verdict_answer ascii
rank_before_when = refl

pub rank_after_condition : verdict_answer (verdict (ascii "interface I { event e : whole action k ( whole ) } entity s : I { } rules when event e from s value changed rank 1 trigger action k ( 1 ) on s end end")) ≡ 13 + 256 * 108
unfolding verdict verdict_answer ascii
rank_after_condition = refl

pub rank_ends_the_text : verdict_answer (verdict (ascii "rules when rank # 1\n")) ≡ 13 + 256 * 20
unfolding verdict verdict_answer ascii
rank_ends_the_text = refl

pub rank_10_ends_the_text : verdict_answer (verdict (ascii "rules when rank 10")) ≡ 13 + 256 * 18
unfolding verdict verdict_answer ascii
rank_10_ends_the_text = refl

pub rank_names_interface : verdict_answer (verdict (ascii "interface rank { } rules end")) ≡ 13 + 256 * 10
unfolding verdict verdict_answer ascii
rank_names_interface = refl

pub rank_names_attribute : verdict_answer (verdict (ascii "interface I { attribute rank : whole } rules end")) ≡ 13 + 256 * 24
unfolding verdict verdict_answer ascii
rank_names_attribute = refl

pub rank_names_event : verdict_answer (verdict (ascii "interface I { event rank : whole } rules end")) ≡ 13 + 256 * 20
unfolding verdict verdict_answer ascii
rank_names_event = refl

pub rank_names_entity : verdict_answer (verdict (ascii "interface I { } entity rank : I { } rules end")) ≡ 13 + 256 * 23
unfolding verdict verdict_answer ascii
rank_names_entity = refl

pub rank_names_variable : verdict_answer (verdict (ascii "interface I { event e : whole action k ( whole ) } entity s : I { } rules when event e from rank : I value changed trigger action k ( 1 ) on s end end")) ≡ 13 + 256 * 92
unfolding verdict verdict_answer ascii
rank_names_variable = refl

pub rank_assigned : verdict_answer (verdict (ascii "interface I { } entity s : I { rank = 1 } rules end")) ≡ 13 + 256 * 31
unfolding verdict verdict_answer ascii
rank_assigned = refl

pub rank_first_above_9 : verdict_answer (verdict (ascii "interface I { event e : whole action k ( whole ) } entity s : I { } rules when rank 9 event e from s value changed trigger action k ( 1 ) on s end when rank 11 event e from s value changed trigger action k ( 1 ) on s end when rank 12 event e from s value changed trigger action k ( 1 ) on s end when rank 10 event e from s value changed trigger action k ( 1 ) on s end end")) ≡ 44 + 256 * 157
unfolding verdict verdict_answer ascii
rank_first_above_9 = refl

pub rank_after_12 : verdict_answer (verdict (ascii "interface I { event e : whole action k ( whole ) } entity s : I { } rules when rank 10 event e from s value changed trigger action k ( 1 ) on s end end ;")) ≡ 12 + 256 * 152
unfolding verdict verdict_answer ascii
rank_after_12 = refl

pub rank_after_13 : verdict_answer (verdict (ascii "interface I { event e : whole action k ( whole ) } entity s : I { } rules when rank 10 event e from s value changed trigger action k ( 1 ) on s end when event e from s value changed trigger end end")) ≡ 13 + 256 * 190
unfolding verdict verdict_answer ascii
rank_after_13 = refl

pub rank_after_13_of_a_rank : verdict_answer (verdict (ascii "interface I { event e : whole action k ( whole ) } entity s : I { } rules when rank 10 event e from s value changed trigger action k ( 1 ) on s end when rank 9r event e from s value changed trigger action k ( 1 ) on s end end")) ≡ 13 + 256 * 158
unfolding verdict verdict_answer ascii
rank_after_13_of_a_rank = refl

pub rank_before_14_interfaces : verdict_answer (verdict (ascii "interface A { } interface A { } interface A { } interface A { } interface A { } interface A { } interface A { } interface A { } interface A { } interface A { } interface A { } interface A { } interface A { } interface A { } interface A { } interface A { } interface A { } rules when rank 10 event e from s value changed trigger action k ( 1 ) on s end end")) ≡ 44 + 256 * 288
unfolding verdict verdict_answer ascii
rank_before_14_interfaces = refl

pub rank_before_14_variables : verdict_answer (verdict (ascii "interface I { event e : whole action k ( whole ) } entity s : I { } rules when event e from x : I value changed and event e from y : I value changed trigger action k ( 1 ) on z : I , action k ( 1 ) on w : I end when rank 10 event e from s value changed trigger action k ( 1 ) on s end end")) ≡ 44 + 256 * 221
unfolding verdict verdict_answer ascii
rank_before_14_variables = refl

pub rank_before_14_clauses : verdict_answer (verdict (ascii "interface I { event e : whole action k ( whole ) } entity s : I { } rules when event e from s value changed or event e from s value changed or event e from s value changed or event e from s value changed or event e from s value changed or event e from s value changed or event e from s value changed or event e from s value changed or event e from s value changed trigger action k ( 1 ) on s end when rank 10 event e from s value changed trigger action k ( 1 ) on s end end")) ≡ 44 + 256 * 406
unfolding verdict verdict_answer ascii
rank_before_14_clauses = refl

pub rank_before_14_calls : verdict_answer (verdict (ascii "interface I { event e : whole action k ( whole ) } entity s : I { } rules when event e from s value changed trigger action k ( 1 ) on s , action k ( 1 ) on s , action k ( 1 ) on s , action k ( 1 ) on s , action k ( 1 ) on s , action k ( 1 ) on s , action k ( 1 ) on s , action k ( 1 ) on s , action k ( 1 ) on s end when rank 10 event e from s value changed trigger action k ( 1 ) on s end end")) ≡ 44 + 256 * 326
unfolding verdict verdict_answer ascii
rank_before_14_calls = refl

pub rank_before_15 : verdict_answer (verdict (ascii "interface A { } interface A { } rules when rank 10 event e from s value changed trigger action k ( 1 ) on s end end")) ≡ 44 + 256 * 48
unfolding verdict verdict_answer ascii
rank_before_15 = refl

pub rank_before_16 : verdict_answer (verdict (ascii "entity s : A { } rules when rank 10 event e from s value changed trigger action k ( 1 ) on s end end")) ≡ 44 + 256 * 33
unfolding verdict verdict_answer ascii
rank_before_16 = refl

pub rank_before_17 : verdict_answer (verdict (ascii "interface A { attribute a : whole } entity s : A { } rules when rank 10 event e from s value changed trigger action k ( 1 ) on s end end")) ≡ 44 + 256 * 69
unfolding verdict verdict_answer ascii
rank_before_17 = refl

pub rank_before_18 : verdict_answer (verdict (ascii "interface I { attribute a : bool event e : whole action k ( whole ) } entity s : I { a = 1 } rules when rank 10 event e from s value changed trigger action k ( 1 ) on s end end")) ≡ 44 + 256 * 109
unfolding verdict verdict_answer ascii
rank_before_18 = refl
