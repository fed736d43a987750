-- The verdict on a bench text: 11 to 18 in the order of document 01's table, with document 02's 44 after 13, or acceptance.
use Rattle.std.specs.Prelude.{ℕ, List, [], true, false, leb, length}
use Rattle.std.proofs.Math.Option.{Option, none, some}
use Rattle.std.proofs.Math.ListN.{get_elem?}
use Rattle.text.specs.definitions.Tokens.{Lexing, tokens, no_token_at, tokens_of}
use Rattle.text.specs.definitions.Syntax.{Entity, File}
use Rattle.text.specs.definitions.Parse.{ParseVerdict, grammatical, ungrammatical_at, parse}
use Rattle.text.specs.definitions.Answers.{refusal_answer}
use Rattle.checking.specs.definitions.Faults.{Fault, earliest}
use Rattle.checking.specs.definitions.PriorityFaults.{priority_faults}
use Rattle.checking.specs.definitions.CountFaults.{count_faults}
use Rattle.checking.specs.definitions.NameFaults.{name_faults}
use Rattle.checking.specs.definitions.KindFaults.{kind_faults}

pub data Verdict : Type 0 where
  accepted : File → Verdict
  refused_at : ℕ → ℕ → Verdict

unfoldable pub refused_by : Option Fault → Verdict → Verdict
refused_by none otherwise = otherwise
refused_by (some f) otherwise = refused_at f.code f.at

-- 44, "after 13 and before 14"; 14, then 15 to 17, then 18
unfoldable pub file_verdict : File → Verdict
unfolding refused_by earliest priority_faults count_faults name_faults kind_faults
file_verdict f =
    refused_by (earliest (priority_faults f))
    (refused_by (earliest (count_faults f))
    (refused_by (earliest (name_faults f))
    (refused_by (earliest (kind_faults f))
    (accepted f))))

-- before these, 13
unfoldable pub parsing_verdict : ParseVerdict → Verdict
unfolding file_verdict
parsing_verdict (grammatical f) = file_verdict f
parsing_verdict (ungrammatical_at p) = refused_at 13 p

-- before that, 12
unfoldable pub lexing_verdict : ℕ → Lexing → Verdict
unfolding parsing_verdict parse
lexing_verdict end (tokens ts) = parsing_verdict (parse end ts)
lexing_verdict end (no_token_at p) = refused_at 12 p

-- "At most 32,768 bytes"
abbrev pub MOST_BYTES : ℕ
MOST_BYTES = 32768

-- 11, 32768: "bench text too long", before all others
unfoldable pub verdict : List ℕ → Verdict
unfolding lexing_verdict tokens_of
verdict text = elim (leb (length text) MOST_BYTES) [
  | true ↦ lexing_verdict (length text) (tokens_of text)
  | false ↦ refused_at 11 MOST_BYTES
]

-- a refusal's code and offset; "Acceptance returns 0"
unfoldable pub verdict_answer : Verdict → ℕ
verdict_answer (accepted f) = 0
verdict_answer (refused_at code at) = refusal_answer code at

unfoldable pub file_of : Verdict → Option File
file_of (accepted f) = some f
file_of (refused_at code at) = none

-- the file of an accepted text
unfoldable pub accepted_file : List ℕ → Option File
unfolding file_of verdict
accepted_file text = file_of (verdict text)

unfoldable pub nth_entity : Option File → ℕ → Option Entity
nth_entity none n = none
nth_entity (some f) n = get_elem? f.entities n

-- the entity of an accepted text with that number, "from 0, file order"
unfoldable pub entity_of : List ℕ → ℕ → Option Entity
unfolding nth_entity accepted_file
entity_of text n = nth_entity (accepted_file text) n

unfoldable pub name_if_found : Option Entity → List ℕ
name_if_found none = []
name_if_found (some e) = e.name.bytes

-- "An entity's name, found by its number (from 0, file order), is a part of the bench text, empty if there is none or the text is refused"
unfoldable pub entity_name : List ℕ → ℕ → List ℕ
unfolding name_if_found entity_of
entity_name text n = name_if_found (entity_of text n)
