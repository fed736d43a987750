-- Readings, and for each line that starts a cycle the rules that it tries. Made by tests/oracle/to_antt.py from tests/oracle/tried.json.
use mathlib.Core.Path.{◌≡◌, refl}
use mathlib.Core.List.{[], ◌∷◌}
use lib.Ieee as Ieee
use Rattle.text.specs.definitions.Bytes.{ascii}
use Rattle.tried_cases.specs.definitions.TriedOf.{tried_of}

pub tried_no_rule : tried_of (ascii "rules end") (ascii "by n\na 1\na 2\n") ≡ (([]) ∷ ([]) ∷ [])
unfolding tried_of ascii
    Ieee.add Ieee.sub Ieee.mul Ieee.div Ieee.neg Ieee.eq Ieee.of_int Ieee.of_bits Ieee.to_bits Ieee.is_nan
tried_no_rule = refl

pub tried_first_line_moves_attributes : tried_of (ascii "interface I { attribute a : whole event e : whole action k ( whole ) } entity s : I { a = 1 } rules when event e from s with a = 1 value changed trigger action k ( 1 ) on s end when event e from s value changed trigger action k ( 1 ) on s end when event e from s value = s.a trigger action k ( 1 ) on s end end") (ascii "by n s.e\na 1 -\na 2 -\na 3 5\na 4 -\n") ≡ ((0 ∷ 2 ∷ []) ∷ ([]) ∷ (0 ∷ 1 ∷ 2 ∷ []) ∷ ([]) ∷ [])
unfolding tried_of ascii
    Ieee.add Ieee.sub Ieee.mul Ieee.div Ieee.neg Ieee.eq Ieee.of_int Ieee.of_bits Ieee.to_bits Ieee.is_nan
tried_first_line_moves_attributes = refl

pub tried_absent_in_the_first_line : tried_of (ascii "interface I { attribute a : whole event e : whole action k ( whole ) } entity s : I { a = 1 } rules when event e from s with a = 1 value changed trigger action k ( 1 ) on s end end") (ascii "by n s\na 1 false\na 2 -\na 3 true\na 4 -\n") ≡ (([]) ∷ ([]) ∷ (0 ∷ []) ∷ ([]) ∷ [])
unfolding tried_of ascii
    Ieee.add Ieee.sub Ieee.mul Ieee.div Ieee.neg Ieee.eq Ieee.of_int Ieee.of_bits Ieee.to_bits Ieee.is_nan
tried_absent_in_the_first_line = refl

pub tried_attributes_alone : tried_of (ascii "interface I { attribute a : whole event e : whole action k ( whole ) action j ( whole ) } entity s : I { a = 1 } rules when event j from s with a = s.a value = s.a + 1 trigger action k ( s.e ) on s end end") (ascii "by n s.e\na 1 1\na 2 2\na 3 ?\n") ≡ ((0 ∷ []) ∷ ([]) ∷ ([]) ∷ [])
unfolding tried_of ascii
    Ieee.add Ieee.sub Ieee.mul Ieee.div Ieee.neg Ieee.eq Ieee.of_int Ieee.of_bits Ieee.to_bits Ieee.is_nan
tried_attributes_alone = refl

pub tried_one_event : tried_of (ascii "interface I { event e : whole action k ( whole ) } entity s : I { } rules when event e from s value changed trigger action k ( 1 ) on s end end") (ascii "by n s.e\na 1 -\na 2 5\na 3 5\na 4 -\na 5 6\na 6 ?\na 7 ?\na 8 -\na 9 6\n") ≡ (([]) ∷ (0 ∷ []) ∷ ([]) ∷ ([]) ∷ (0 ∷ []) ∷ (0 ∷ []) ∷ ([]) ∷ ([]) ∷ (0 ∷ []) ∷ [])
unfolding tried_of ascii
    Ieee.add Ieee.sub Ieee.mul Ieee.div Ieee.neg Ieee.eq Ieee.of_int Ieee.of_bits Ieee.to_bits Ieee.is_nan
tried_one_event = refl

pub tried_two_zeros : tried_of (ascii "interface I { event e : real action k ( whole ) } entity s : I { } rules when event e from s value changed trigger action k ( 1 ) on s end end") (ascii "by n s.e\na 1 0000000000000000\na 2 8000000000000000\na 3 0000000000000000\na 4 ?\na 5 8000000000000000\na 6 0000000000000001\na 7 0000000000000000\n") ≡ ((0 ∷ []) ∷ ([]) ∷ ([]) ∷ (0 ∷ []) ∷ (0 ∷ []) ∷ (0 ∷ []) ∷ (0 ∷ []) ∷ [])
unfolding tried_of ascii
    Ieee.add Ieee.sub Ieee.mul Ieee.div Ieee.neg Ieee.eq Ieee.of_int Ieee.of_bits Ieee.to_bits Ieee.is_nan
tried_two_zeros = refl

pub tried_though_nothing_holds : tried_of (ascii "interface I { attribute a : whole event e : whole action k ( whole ) } entity s : I { a = 1 } rules when event e from s with a = 2 value changed trigger action k ( 1 ) on s end when event e from s value = 9 trigger action k ( 1 ) on s end end") (ascii "by n s.e\na 1 1\na 2 2\na 3 2\na 4 ?\n") ≡ ((0 ∷ 1 ∷ []) ∷ (0 ∷ 1 ∷ []) ∷ ([]) ∷ (0 ∷ 1 ∷ []) ∷ [])
unfolding tried_of ascii
    Ieee.add Ieee.sub Ieee.mul Ieee.div Ieee.neg Ieee.eq Ieee.of_int Ieee.of_bits Ieee.to_bits Ieee.is_nan
tried_though_nothing_holds = refl

pub tried_or_and : tried_of (ascii "interface I { event e : whole event f : whole event g : bool action k ( whole ) } entity s : I { } rules when event e from s value changed or event f from s value changed trigger action k ( 1 ) on s end when ( event e from s value changed or event f from s value = 1 ) and event g from s value = true trigger action k ( 1 ) on s end end") (ascii "by n s.e s.f s.g\na 1 1 - -\na 2 - 1 -\na 3 - - true\na 4 - - -\n") ≡ ((0 ∷ 1 ∷ []) ∷ (0 ∷ 1 ∷ []) ∷ (1 ∷ []) ∷ ([]) ∷ [])
unfolding tried_of ascii
    Ieee.add Ieee.sub Ieee.mul Ieee.div Ieee.neg Ieee.eq Ieee.of_int Ieee.of_bits Ieee.to_bits Ieee.is_nan
tried_or_and = refl

pub tried_ranks : tried_of (ascii "interface I { event e : whole event f : whole action k ( whole ) } entity s : I { } rules when rank 2 event e from s value changed trigger action k ( 1 ) on s end when rank 9 event f from s value changed trigger action k ( 1 ) on s end end") (ascii "by n s.e s.f\na 1 1 1\na 2 2 -\na 3 - 2\na 4 - -\n") ≡ ((0 ∷ 1 ∷ []) ∷ (0 ∷ []) ∷ (1 ∷ []) ∷ ([]) ∷ [])
unfolding tried_of ascii
    Ieee.add Ieee.sub Ieee.mul Ieee.div Ieee.neg Ieee.eq Ieee.of_int Ieee.of_bits Ieee.to_bits Ieee.is_nan
tried_ranks = refl

pub tried_sum_of_a_filter : tried_of (ascii "interface I { attribute a : whole event e : whole event f : whole action k ( whole ) } entity s : I { a = 1 } rules when event e from s with a = s.f value changed trigger action k ( 1 ) on s end when event e from s with a = 1 value changed trigger action k ( 1 ) on s end end") (ascii "by n s.f\na 1 -\na 2 1\na 3 1\na 4 ?\n") ≡ ((0 ∷ 1 ∷ []) ∷ (0 ∷ []) ∷ ([]) ∷ (0 ∷ []) ∷ [])
unfolding tried_of ascii
    Ieee.add Ieee.sub Ieee.mul Ieee.div Ieee.neg Ieee.eq Ieee.of_int Ieee.of_bits Ieee.to_bits Ieee.is_nan
tried_sum_of_a_filter = refl

pub tried_sum_of_a_test : tried_of (ascii "interface I { event e : whole event f : whole action k ( whole ) } entity s : I { } rules when event e from s value = s.f trigger action k ( 1 ) on s end when event e from s value changed trigger action k ( 1 ) on s end end") (ascii "by n s.f\na 1 -\na 2 1\na 3 1\na 4 2\na 5 ?\n") ≡ (([]) ∷ (0 ∷ []) ∷ ([]) ∷ (0 ∷ []) ∷ (0 ∷ []) ∷ [])
unfolding tried_of ascii
    Ieee.add Ieee.sub Ieee.mul Ieee.div Ieee.neg Ieee.eq Ieee.of_int Ieee.of_bits Ieee.to_bits Ieee.is_nan
tried_sum_of_a_test = refl

pub tried_deep_in_a_sum : tried_of (ascii "interface I { event r : real event e : whole event f : whole event g : whole action k ( whole ) } entity s : I { } rules when event r from s value = 1r - real ( s.f * - ( 2 + s.g ) ) trigger action k ( 1 ) on s end end") (ascii "by n s.e s.f s.g\na 1 1 - -\na 2 - 1 -\na 3 - - 1\na 4 2 - 1\n") ≡ (([]) ∷ (0 ∷ []) ∷ (0 ∷ []) ∷ ([]) ∷ [])
unfolding tried_of ascii
    Ieee.add Ieee.sub Ieee.mul Ieee.div Ieee.neg Ieee.eq Ieee.of_int Ieee.of_bits Ieee.to_bits Ieee.is_nan
tried_deep_in_a_sum = refl

pub tried_sum_that_stays : tried_of (ascii "interface I { event e : whole event f : whole action k ( whole ) } entity s : I { } rules when event e from s value = 0 * s.f trigger action k ( 1 ) on s end when event e from s value = s.f / 0 trigger action k ( 1 ) on s end end") (ascii "by n s.e s.f\na 1 0 1\na 2 0 2\na 3 0 2\n") ≡ ((0 ∷ 1 ∷ []) ∷ (0 ∷ 1 ∷ []) ∷ ([]) ∷ [])
unfolding tried_of ascii
    Ieee.add Ieee.sub Ieee.mul Ieee.div Ieee.neg Ieee.eq Ieee.of_int Ieee.of_bits Ieee.to_bits Ieee.is_nan
tried_sum_that_stays = refl

pub tried_member_of_another_entity : tried_of (ascii "interface I { event e : whole event f : whole action k ( whole ) } entity s : I { } entity t : I { } entity u : I { } rules when event e from s value = t.e trigger action k ( 1 ) on s end end") (ascii "by n t t.e t.f u.e\na 1 - 1 1 1\na 2 - - - 2\na 3 - - 2 -\na 4 - 2 - -\na 5 false - - -\na 6 true - - -\n") ≡ ((0 ∷ []) ∷ ([]) ∷ ([]) ∷ (0 ∷ []) ∷ (0 ∷ []) ∷ ([]) ∷ [])
unfolding tried_of ascii
    Ieee.add Ieee.sub Ieee.mul Ieee.div Ieee.neg Ieee.eq Ieee.of_int Ieee.of_bits Ieee.to_bits Ieee.is_nan
tried_member_of_another_entity = refl

pub tried_variable : tried_of (ascii "interface J { event e : whole } interface I { event e : whole action k ( whole ) } entity s : I { } entity t : J { } entity u : I { } rules when event e from x : I value changed trigger action k ( 1 ) on s end when event e from x : J value changed trigger action k ( 1 ) on s end end") (ascii "by n s.e t.e u.e\na 1 - - -\na 2 1 - -\na 3 - 1 -\na 4 - - 1\na 5 - 2 2\na 6 - - -\n") ≡ (([]) ∷ (0 ∷ []) ∷ (1 ∷ []) ∷ (0 ∷ []) ∷ (0 ∷ 1 ∷ []) ∷ ([]) ∷ [])
unfolding tried_of ascii
    Ieee.add Ieee.sub Ieee.mul Ieee.div Ieee.neg Ieee.eq Ieee.of_int Ieee.of_bits Ieee.to_bits Ieee.is_nan
tried_variable = refl

pub tried_variable_of_a_call : tried_of (ascii "interface I { event e : whole action k ( whole ) } interface J { event f : whole } entity s : I { } entity t : I { } entity u : J { } rules when event e from x value changed trigger action k ( 1 ) on x : I end when event f from u value = x.e trigger action k ( 1 ) on x : I end when event f from u value changed trigger action k ( 1 ) on x : I end end") (ascii "by n s.e t.e u.f\na 1 - - 9\na 2 1 - -\na 3 - 1 -\na 4 - - -\n") ≡ ((1 ∷ 2 ∷ []) ∷ (0 ∷ 1 ∷ []) ∷ (0 ∷ 1 ∷ []) ∷ ([]) ∷ [])
unfolding tried_of ascii
    Ieee.add Ieee.sub Ieee.mul Ieee.div Ieee.neg Ieee.eq Ieee.of_int Ieee.of_bits Ieee.to_bits Ieee.is_nan
tried_variable_of_a_call = refl

pub tried_attribute_of_a_variable : tried_of (ascii "interface I { attribute a : whole event e : whole } interface J { attribute b : whole action k ( whole ) } entity s : I { a = 1 } entity t : J { b = 1 } rules when event e from s with a = y.b value changed trigger action k ( 1 ) on y : J end when event e from s value changed trigger action k ( 1 ) on y : J end end") (ascii "by n t\na 1 -\na 2 false\na 3 -\na 4 true\na 5 -\n") ≡ ((0 ∷ []) ∷ (0 ∷ []) ∷ ([]) ∷ (0 ∷ []) ∷ ([]) ∷ [])
unfolding tried_of ascii
    Ieee.add Ieee.sub Ieee.mul Ieee.div Ieee.neg Ieee.eq Ieee.of_int Ieee.of_bits Ieee.to_bits Ieee.is_nan
tried_attribute_of_a_variable = refl

pub tried_interface_without_entities : tried_of (ascii "interface J { event f : whole } interface I { event e : whole action k ( whole ) } entity s : I { } rules when event f from x : J value changed trigger action k ( 1 ) on s end when event f from x : J value = 1 or event e from s value changed trigger action k ( 1 ) on s end end") (ascii "by n s.e\na 1 -\na 2 1\na 3 2\na 4 -\n") ≡ (([]) ∷ (1 ∷ []) ∷ (1 ∷ []) ∷ ([]) ∷ [])
unfolding tried_of ascii
    Ieee.add Ieee.sub Ieee.mul Ieee.div Ieee.neg Ieee.eq Ieee.of_int Ieee.of_bits Ieee.to_bits Ieee.is_nan
tried_interface_without_entities = refl

pub tried_names_of_several_sorts : tried_of (ascii "interface I { event e : whole action k ( whole ) } entity s : I { } entity e : I { } rules when event e from I : I value changed trigger action k ( 1 ) on s end when event e from e value changed trigger action k ( 1 ) on s end end") (ascii "by n s.e e.e\na 1 1 -\na 2 - 1\na 3 - -\n") ≡ ((0 ∷ []) ∷ (0 ∷ 1 ∷ []) ∷ ([]) ∷ [])
unfolding tried_of ascii
    Ieee.add Ieee.sub Ieee.mul Ieee.div Ieee.neg Ieee.eq Ieee.of_int Ieee.of_bits Ieee.to_bits Ieee.is_nan
tried_names_of_several_sorts = refl

pub tried_reads_of_a_call : tried_of (ascii "interface I { attribute a : whole event e : whole event f : whole action k ( whole ) } entity s : I { a = 1 } rules when event e from s value changed trigger action k ( s.f ) on s with a = s.f end end") (ascii "by n s.e s.f\na 1 - 1\na 2 - 2\na 3 1 -\na 4 1 3\n") ≡ (([]) ∷ ([]) ∷ (0 ∷ []) ∷ ([]) ∷ [])
unfolding tried_of ascii
    Ieee.add Ieee.sub Ieee.mul Ieee.div Ieee.neg Ieee.eq Ieee.of_int Ieee.of_bits Ieee.to_bits Ieee.is_nan
tried_reads_of_a_call = refl

pub tried_target_of_a_call_leaves : tried_of (ascii "interface I { event e : whole } interface J { attribute a : whole action k ( whole ) } entity s : I { } entity t : J { a = 1 } rules when event e from s value changed trigger action k ( t.a ) on t end when event e from s value changed trigger action k ( y.a ) on y : J end end") (ascii "by n s.e t\na 1 5 -\na 2 - false\na 3 - true\na 4 6 false\n") ≡ ((0 ∷ 1 ∷ []) ∷ ([]) ∷ ([]) ∷ (0 ∷ 1 ∷ []) ∷ [])
unfolding tried_of ascii
    Ieee.add Ieee.sub Ieee.mul Ieee.div Ieee.neg Ieee.eq Ieee.of_int Ieee.of_bits Ieee.to_bits Ieee.is_nan
tried_target_of_a_call_leaves = refl

pub tried_action : tried_of (ascii "interface I { event e : whole action k ( whole ) action j ( whole ) } entity s : I { } rules when event e from s value changed trigger action k ( s.e / 2 ) on s end when event k from s value changed trigger action j ( 1 ) on s end end") (ascii "by n s.e\na 1 2\na 2 3\na 3 4\na 4 -\na 5 -\na 6 -\n") ≡ ((0 ∷ []) ∷ (0 ∷ 1 ∷ []) ∷ (0 ∷ []) ∷ (1 ∷ []) ∷ (1 ∷ []) ∷ ([]) ∷ [])
unfolding tried_of ascii
    Ieee.add Ieee.sub Ieee.mul Ieee.div Ieee.neg Ieee.eq Ieee.of_int Ieee.of_bits Ieee.to_bits Ieee.is_nan
tried_action = refl

pub tried_action_of_one_value : tried_of (ascii "interface I { event e : whole action k ( whole ) action j ( whole ) } entity s : I { } rules when event e from s value changed trigger action k ( 7 ) on s end when event k from s value changed trigger action j ( 1 ) on s end end") (ascii "by n s.e\na 1 1\na 2 2\na 3 3\na 4 -\na 5 -\n") ≡ ((0 ∷ []) ∷ (0 ∷ 1 ∷ []) ∷ (0 ∷ []) ∷ ([]) ∷ (1 ∷ []) ∷ [])
unfolding tried_of ascii
    Ieee.add Ieee.sub Ieee.mul Ieee.div Ieee.neg Ieee.eq Ieee.of_int Ieee.of_bits Ieee.to_bits Ieee.is_nan
tried_action_of_one_value = refl

pub tried_action_of_two_zeros : tried_of (ascii "interface I { event e : real action k ( real ) action j ( whole ) } entity s : I { } rules when event e from s value changed trigger action k ( 0r * s.e ) on s end when event k from s value changed trigger action j ( 1 ) on s end end") (ascii "by n s.e\na 1 3ff0000000000000\na 2 bff0000000000000\na 3 -\na 4 -\n") ≡ ((0 ∷ []) ∷ (0 ∷ 1 ∷ []) ∷ ([]) ∷ (1 ∷ []) ∷ [])
unfolding tried_of ascii
    Ieee.add Ieee.sub Ieee.mul Ieee.div Ieee.neg Ieee.eq Ieee.of_int Ieee.of_bits Ieee.to_bits Ieee.is_nan
tried_action_of_two_zeros = refl

pub tried_action_of_an_entity_that_leaves : tried_of (ascii "interface I { event e : whole action k ( whole ) action j ( whole ) } entity s : I { } rules when event e from s value changed trigger action k ( 7 ) on s end when event k from s value changed trigger action j ( 1 ) on s end end") (ascii "by n s s.e\na 1 - 1\na 2 false -\na 3 true 1\na 4 - 2\na 5 false -\na 6 true -\n") ≡ ((0 ∷ []) ∷ (0 ∷ []) ∷ (0 ∷ []) ∷ (0 ∷ 1 ∷ []) ∷ (0 ∷ 1 ∷ []) ∷ ([]) ∷ [])
unfolding tried_of ascii
    Ieee.add Ieee.sub Ieee.mul Ieee.div Ieee.neg Ieee.eq Ieee.of_int Ieee.of_bits Ieee.to_bits Ieee.is_nan
tried_action_of_an_entity_that_leaves = refl

pub tried_action_in_a_sum : tried_of (ascii "interface I { event e : bool event f : whole action k ( whole ) action j ( whole ) } entity s : I { } rules when event e from s value = true trigger action k ( 7 ) on s end when event f from s value = s.k trigger action j ( 1 ) on s end end") (ascii "by n s.e\na 1 true\na 2 -\na 3 -\na 4 -\n") ≡ ((0 ∷ []) ∷ (1 ∷ []) ∷ (1 ∷ []) ∷ ([]) ∷ [])
unfolding tried_of ascii
    Ieee.add Ieee.sub Ieee.mul Ieee.div Ieee.neg Ieee.eq Ieee.of_int Ieee.of_bits Ieee.to_bits Ieee.is_nan
tried_action_in_a_sum = refl

pub tried_action_of_its_own_rule : tried_of (ascii "interface I { event e : whole action k ( whole ) } entity s : I { } rules when event e from s value = 1 trigger action k ( 1 ) on s end when event k from s value changed trigger action k ( 1 ) on s end end") (ascii "by n s.e\na 1 1\na 2 -\na 3 -\na 4 -\na 5 -\na 6 -\n") ≡ ((0 ∷ []) ∷ (1 ∷ []) ∷ ([]) ∷ (1 ∷ []) ∷ (1 ∷ []) ∷ ([]) ∷ [])
unfolding tried_of ascii
    Ieee.add Ieee.sub Ieee.mul Ieee.div Ieee.neg Ieee.eq Ieee.of_int Ieee.of_bits Ieee.to_bits Ieee.is_nan
tried_action_of_its_own_rule = refl

pub tried_attribute_leaves_and_returns : tried_of (ascii "interface I { attribute a : whole event e : whole action k ( whole ) } entity s : I { a = 1 } rules when event e from s with a = 1 value changed trigger action k ( 1 ) on s end when event e from s value changed trigger action k ( 1 ) on s end end") (ascii "by n s\na 1 -\na 2 false\na 3 -\na 4 true\na 5 true\na 6 false\na 7 false\n") ≡ ((0 ∷ []) ∷ (0 ∷ []) ∷ ([]) ∷ (0 ∷ []) ∷ ([]) ∷ (0 ∷ []) ∷ ([]) ∷ [])
unfolding tried_of ascii
    Ieee.add Ieee.sub Ieee.mul Ieee.div Ieee.neg Ieee.eq Ieee.of_int Ieee.of_bits Ieee.to_bits Ieee.is_nan
tried_attribute_leaves_and_returns = refl

pub tried_unset_entity_leaves : tried_of (ascii "interface I { event e : whole action k ( whole ) } entity s : I { } entity t : I { } rules when event e from x : I value changed trigger action k ( 1 ) on s end end") (ascii "by n t s.e\na 1 - -\na 2 false -\na 3 true -\na 4 false 5\na 5 true -\n") ≡ (([]) ∷ ([]) ∷ ([]) ∷ (0 ∷ []) ∷ ([]) ∷ [])
unfolding tried_of ascii
    Ieee.add Ieee.sub Ieee.mul Ieee.div Ieee.neg Ieee.eq Ieee.of_int Ieee.of_bits Ieee.to_bits Ieee.is_nan
tried_unset_entity_leaves = refl

pub tried_set_event_leaves : tried_of (ascii "interface I { event e : whole action k ( whole ) } entity s : I { } entity t : I { } rules when event e from x : I value changed trigger action k ( 1 ) on s end when event e from t value changed trigger action k ( 1 ) on s end when event e from s value changed trigger action k ( 1 ) on s end end") (ascii "by n t t.e\na 1 - 5\na 2 false -\na 3 - -\na 4 true -\na 5 - 5\na 6 false -\na 7 true 5\n") ≡ ((0 ∷ 1 ∷ []) ∷ (0 ∷ 1 ∷ []) ∷ ([]) ∷ ([]) ∷ (0 ∷ 1 ∷ []) ∷ (0 ∷ 1 ∷ []) ∷ (0 ∷ 1 ∷ []) ∷ [])
unfolding tried_of ascii
    Ieee.add Ieee.sub Ieee.mul Ieee.div Ieee.neg Ieee.eq Ieee.of_int Ieee.of_bits Ieee.to_bits Ieee.is_nan
tried_set_event_leaves = refl

pub tried_resent_and_refused : tried_of (ascii "interface I { event e : whole action k ( whole ) action j ( whole ) } entity s : I { } rules when event e from s value changed trigger action k ( 7 ) on s end when event k from s value changed trigger action j ( 1 ) on s end end") (ascii "by n s.e\na 1 1\na 1 1\na 3 2\na 2 -\na 2 2\na 2 -\na 3 true\na 3 1\na 4 1\n") ≡ ((0 ∷ []) ∷ (1 ∷ []) ∷ (1 ∷ []) ∷ ([]) ∷ [])
unfolding tried_of ascii
    Ieee.add Ieee.sub Ieee.mul Ieee.div Ieee.neg Ieee.eq Ieee.of_int Ieee.of_bits Ieee.to_bits Ieee.is_nan
tried_resent_and_refused = refl

pub tried_two_senders : tried_of (ascii "interface I { event e : whole action k ( whole ) } entity s : I { } rules when event e from s value changed trigger action k ( 1 ) on s end end") (ascii "by n s.e\na 1 5\nb 1 5\nb 2 6\na 2 5\nb 2 6\nb 3 5\na 3 6\n") ≡ ((0 ∷ []) ∷ ([]) ∷ (0 ∷ []) ∷ (0 ∷ []) ∷ ([]) ∷ (0 ∷ []) ∷ [])
unfolding tried_of ascii
    Ieee.add Ieee.sub Ieee.mul Ieee.div Ieee.neg Ieee.eq Ieee.of_int Ieee.of_bits Ieee.to_bits Ieee.is_nan
tried_two_senders = refl
