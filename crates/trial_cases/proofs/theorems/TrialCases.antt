-- The cases that document 01 marks P, as document 02 amends them, in one statement, from raw bytes through check, fresh, line, header and row; what
-- document 02's order 1 is for, as two laws about a clause. And order 5's senders, order 6's priorities and entities' names, in statements of their own.
use Prim.Native.Nat.{ℕ, ◌+◌, ◌*◌}
use mathlib.Core.Path.{◌≡◌, refl}
use mathlib.Core.List.{[], ◌∷◌, map}
use mathlib.Core.Bool.{Bool, true, false, ◌&&◌}
use mathlib.Core.Option.{some}
use lib.Ieee as Ieee
use Rattle.values.specs.declared.Value.{Value}
use Rattle.values.specs.definitions.Value.{equal}
use Rattle.text.specs.definitions.Bytes.{ascii}
use Rattle.text.specs.definitions.Syntax.{Expression, equals, Clause}
use Rattle.cycles.specs.definitions.Outcome.{running}
use Rattle.cycles.specs.definitions.Store.{Store}
use Rattle.cycles.specs.definitions.Spots.{Spot, Spots}
use Rattle.cycles.specs.definitions.Reference.{read_spot, ref_value, ref_filter, ref_clause}
use Rattle.trial_cases.specs.definitions.Trials.{
  pedal,
  calling,
  filtered,
  lamps,
  one_lamp,
  knob_rule,
  panel_rule,
  safety_rule,
  lines_printed,
  header_printed,
  row_call_printed,
  row_printed,
  refused_with,
  checked_as,
  name_located,
}
use Rattle.trial_cases.proofs.laws.Joining.{clause_on_joining, clause_once}

pub record TrialCases : Type 0 where
  -- the pedal table
  pub pedal_names : header_printed pedal ≡ row_printed "by n k.keep"
  pub pedal_rows : lines_printed pedal "by n p.down s.pos"
      ("a 1 false 100" ∷ "a 2 true 140" ∷ "a 2 true 140" ∷ "a 3 - 150" ∷ "a 4 false 150" ∷ "a 5 true 190" ∷ "a 4 - -" ∷ [])
      ≡ row_printed "a 1 -" ∷ row_printed "a 2 140" ∷ row_printed "a 2 140" ∷ row_printed "a 3 -" ∷ row_printed "a 4 -"
      ∷ row_printed "a 5 190" ∷ refused_with 24 ∷ []
  pub pedal_row_again : row_call_printed pedal "by n p.down s.pos" ("a 1 false 100" ∷ "a 2 true 140" ∷ "a 4 - -" ∷ []) "a" ≡ row_printed "a 2 140"
  -- "`rules end` accepted; no bytes: 13 at 0"
  pub smallest : checked_as (ascii "rules end") ≡ 0
  pub no_bytes : checked_as [] ≡ 13 + 256 * 0
  -- "2147483647 + 1 unset. .. 7 / 0 unset. (-2147483647 - 1) / -1 unset. 1r / 3r is 3fd5555555555555 (hexadecimal)"
  pub sum_unset : lines_printed (calling "whole" "action keep ( 2147483647 + 1 ) on k") "by n p.down" ("a 1 true" ∷ []) ≡ row_printed "a 1 -" ∷ []
  pub zero_divisor : lines_printed (calling "whole" "action keep ( 7 / 0 ) on k") "by n p.down" ("a 1 true" ∷ []) ≡ row_printed "a 1 -" ∷ []
  pub quotient_unset : lines_printed (calling "whole" "action keep ( (-2147483647 - 1) / -1 ) on k") "by n p.down" ("a 1 true" ∷ []) ≡ row_printed "a 1 -" ∷ []
  pub third : lines_printed (calling "real" "action keep ( 1r / 3r ) on k") "by n p.down" ("a 1 true" ∷ []) ≡ row_printed "a 1 3fd5555555555555" ∷ []
  -- document 02, order 2: "-7 / 2 is -4, 7 / -2 is -4, -7 / -2 is 3"
  pub dividend_negative : lines_printed (calling "whole" "action keep ( -7 / 2 ) on k") "by n p.down" ("a 1 true" ∷ []) ≡ row_printed "a 1 -4" ∷ []
  pub divisor_negative : lines_printed (calling "whole" "action keep ( 7 / -2 ) on k") "by n p.down" ("a 1 true" ∷ []) ≡ row_printed "a 1 -4" ∷ []
  pub both_negative : lines_printed (calling "whole" "action keep ( -7 / -2 ) on k") "by n p.down" ("a 1 true" ∷ []) ≡ row_printed "a 1 3" ∷ []
  -- document 02, order 6: "The case keep(1), keep(2) now leaves 1"
  pub first_stands : lines_printed (calling "whole" "action keep ( 1 ) on k , action keep ( 2 ) on k") "by n p.down" ("a 1 true" ∷ []) ≡ row_printed "a 1 1" ∷ []
  -- document 02, order 1: "a clause's `with` reads the present cycle, as a call's does", and so in cycle 1 too
  pub filter_in_first : lines_printed filtered "by n p.down" ("a 1 true" ∷ "a 2 false" ∷ "a 3 true" ∷ [])
      ≡ row_printed "a 1 1" ∷ row_printed "a 2 -" ∷ row_printed "a 3 1" ∷ []
  -- "A lamp plugged in during a core": the one in bay 2 is away, comes with its switch on and fires in that very line, and not again while it is
  -- held on; switched off and on it fires as ever. The one in bay 1 never does.
  pub lamp_joins_late : lines_printed lamps "by n west east west.switch east.switch"
      ("a 1 - false false -" ∷ "a 2 - - true -" ∷ "a 3 - true - true" ∷ "a 4 - - true true" ∷ "a 5 - - - false" ∷ "a 6 - - - true" ∷ [])
      ≡ row_printed "a 1 - -" ∷ row_printed "a 2 - -" ∷ row_printed "a 3 - 2" ∷ row_printed "a 4 - -" ∷ row_printed "a 5 - -" ∷ row_printed "a 6 - 2" ∷ []
  -- and of the reference machine, at any names and in any stores, wherever it runs. At an entity that was absent one cycle before, a clause
  -- `value = X` holds exactly if the entity is there, its `with` holds and its event is equal to X, all of it now;
  pub holds_on_joining : (sp : Spots) (c : Clause) (at : ℕ) (x : Expression) → c.test ≡ equals at x
      → (now previous : Store) (p : Spot) → sp c.target.name.bytes c.event.bytes ≡ some p → previous.present p.entity ≡ false
      → (filter : Bool) → ref_filter sp now c.target c.filter ≡ running filter → (v : Value) → ref_value sp now x ≡ running v
      → (r : Bool) → ref_clause sp now previous c ≡ running r → r ≡ (now.present p.entity && (filter && equal (read_spot now p) v))
  -- and one that holds does not hold, at the same entities, in the cycle after: that one compares with the store that the rules saw now
  pub holds_once : (sp : Spots) (c : Clause) (at : ℕ) (x : Expression) → c.test ≡ equals at x
      → (next now previous : Store) → ref_clause sp now previous c ≡ running true → (r : Bool) → ref_clause sp next now c ≡ running r → r ≡ false
  -- "After names `n`, `1` is taken, `0` is 24, `01` is 21"
  pub only_numbers : lines_printed pedal "by n" ("a 0" ∷ "a 01" ∷ "a 1" ∷ []) ≡ refused_with 24 ∷ refused_with 21 ∷ row_printed "a 1 -" ∷ []

pub trial_cases : TrialCases
unfolding pedal calling filtered lamps lines_printed header_printed row_call_printed row_printed refused_with checked_as ascii
    Ieee.div Ieee.of_int Ieee.to_bits Ieee.is_nan
trial_cases = record {
  pedal_names = refl;
  pedal_rows = refl;
  pedal_row_again = refl;
  smallest = refl;
  no_bytes = refl;
  sum_unset = refl;
  zero_divisor = refl;
  quotient_unset = refl;
  third = refl;
  dividend_negative = refl;
  divisor_negative = refl;
  both_negative = refl;
  first_stands = refl;
  filter_in_first = refl;
  lamp_joins_late = refl;
  holds_on_joining = clause_on_joining;
  holds_once = clause_once;
  only_numbers = refl;
}

-- document 02, order 5
pub record SenderCases : Type 0 where
  -- "Each controller numbers its own lines", and "a resent line gives that sender's row, even after lines of others"
  pub two_senders : lines_printed pedal "by n p.down s.pos"
      ("stage 1 false 100" ∷ "camera 1 true 140" ∷ "stage 2 - 150" ∷ "camera 1 true 140" ∷ "stage 2 - 150" ∷ "camera 1 true 150" ∷ "camera 3 - -" ∷ [])
      ≡ row_printed "stage 1 -" ∷ row_printed "camera 1 140" ∷ row_printed "stage 2 -" ∷ row_printed "camera 1 140" ∷ row_printed "stage 2 -"
      ∷ refused_with 25 ∷ refused_with 24 ∷ []
  pub row_of_sender : row_call_printed pedal "by n p.down s.pos" ("stage 1 false 100" ∷ "camera 1 true 140" ∷ "stage 2 - 150" ∷ []) "camera"
      ≡ row_printed "camera 1 140"
  pub row_of_unknown : row_call_printed pedal "by n p.down s.pos" ("camera 1 true 140" ∷ []) "stage" ≡ row_printed "stage 0 -"
  -- "Being resent is tested before the check on absent entities": a lamp has left, a line that read it is sent again, and another one is refused
  pub resent_of_absent : lines_printed lamps "by n west east east.switch" ("a 1 - - true" ∷ "b 1 - false -" ∷ "a 1 - - true" ∷ "a 2 - - true" ∷ [])
      ≡ row_printed "a 1 - 2" ∷ row_printed "b 1 - -" ∷ row_printed "a 1 - 2" ∷ refused_with 23 ∷ []
  -- "Up to eight senders are known .. A ninth is refused by 42, and an ill-formed sender by 43, .. with 43 first"
  pub ninth_sender : lines_printed (ascii "rules end") "by n"
      ("a 1" ∷ "b 1" ∷ "c 1" ∷ "d 1" ∷ "e 1" ∷ "f 1" ∷ "g 1" ∷ "when 1" ∷ "i 1" ∷ "1 1" ∷ "when 2" ∷ [])
      ≡ row_printed "a 1" ∷ row_printed "b 1" ∷ row_printed "c 1" ∷ row_printed "d 1" ∷ row_printed "e 1" ∷ row_printed "f 1" ∷ row_printed "g 1"
      ∷ row_printed "when 1" ∷ refused_with 42 ∷ refused_with 43 ∷ row_printed "when 2" ∷ []

pub sender_cases : SenderCases
unfolding pedal lamps lines_printed row_call_printed row_printed refused_with ascii
sender_cases = record { two_senders = refl; row_of_sender = refl; row_of_unknown = refl; resent_of_absent = refl; ninth_sender = refl }

-- document 02, order 6
pub record PriorityCases : Type 0 where
  -- "lab managers want the safety rule to stand wherever it is written": first, in the middle, last; "among equal ranks the earliest write does"
  pub safety_first : lines_printed (one_lamp safety_rule knob_rule panel_rule) "by n b.down" ("a 1 true" ∷ "a 2 false" ∷ [])
      ≡ row_printed "a 1 0" ∷ row_printed "a 2 1" ∷ []
  pub safety_middle : lines_printed (one_lamp knob_rule safety_rule panel_rule) "by n b.down" ("a 1 true" ∷ "a 2 false" ∷ [])
      ≡ row_printed "a 1 0" ∷ row_printed "a 2 1" ∷ []
  pub safety_last : lines_printed (one_lamp knob_rule panel_rule safety_rule) "by n b.down" ("a 1 true" ∷ "a 2 false" ∷ [])
      ≡ row_printed "a 1 0" ∷ row_printed "a 2 1" ∷ []
  -- "The first rank above 9 is refused by 44, at its place": 16 at `up`, which is unknown, comes after it
  pub above_nine : checked_as (one_lamp knob_rule
      "when rank 10 event up from b value changed trigger action glow ( 2 ) on l end"
      "when rank 11 event down from b value changed trigger action glow ( 2 ) on l end")
      ≡ 44 + 256 * 201
  -- "after 13 and before 14": a rule with nine calls comes first
  pub before_counts : checked_as (one_lamp "when event down from b value changed trigger action glow ( 1 ) on l , action glow ( 1 ) on l , action glow ( 1 ) on l , action glow ( 1 ) on l , action glow ( 1 ) on l , action glow ( 1 ) on l , action glow ( 1 ) on l , action glow ( 1 ) on l , action glow ( 1 ) on l end"
      "when rank 10 event up from b value changed trigger action glow ( 2 ) on l end"
      "when rank 11 event down from b value changed trigger action glow ( 2 ) on l end")
      ≡ 44 + 256 * 394
  pub grammar_first : checked_as (one_lamp knob_rule "when rank 10 event" "") ≡ 13 + 256 * 211

pub priority_cases : PriorityCases
unfolding one_lamp lines_printed row_printed checked_as ascii
priority_cases = record { safety_first = refl; safety_middle = refl; safety_last = refl; above_nine = refl; before_counts = refl; grammar_first = refl }

-- "An entity's name, found by its number (from 0, file order), is a part of the bench text, empty if there is none or the text is refused": lengths
-- and offsets counted in the text
pub record EntityNameCases : Type 0 where
  pub pedal_entities : map (name_located pedal) (0 ∷ 1 ∷ 2 ∷ 3 ∷ [])
      ≡ (256 * 1 + 65536 * 113) ∷ (256 * 1 + 65536 * 130) ∷ (256 * 1 + 65536 * 147) ∷ 0 ∷ []
  pub lamp_entities : map (name_located lamps) (0 ∷ 1 ∷ 2 ∷ []) ≡ (256 * 4 + 65536 * 90) ∷ (256 * 4 + 65536 * 121) ∷ 0 ∷ []
  pub no_entities : name_located (ascii "rules end") 0 ≡ 0
  -- a word short of a file, and an interface that is unknown
  pub refused_text : name_located (ascii "interface P { } entity p : P { } rules") 0 ≡ 0
  pub refused_file : name_located (ascii "entity p : P { } rules end") 0 ≡ 0

pub entity_name_cases : EntityNameCases
unfolding pedal lamps name_located ascii
entity_name_cases = record { pedal_entities = refl; lamp_entities = refl; no_entities = refl; refused_text = refl; refused_file = refl }
