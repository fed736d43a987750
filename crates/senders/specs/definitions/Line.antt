-- A header and a record in a state: 22, 21, 43, 42, 23 (form, kind), then the test for resent, 23 (absent), 24, 25 in the order of document 01's table
-- and document 02's order 5; or an accepted line.
use Rattle.std.specs.Prelude.{ℕ, ◌+◌, List, Bool, true, false, not, ◌&&◌, ◌||◌, leb, eqb, length}
use Rattle.std.specs.Bool.{beq}
use Rattle.std.proofs.Math.Option.{Option, none, some}
use Rattle.values.specs.declared.Value.{Value}
use Rattle.values.specs.definitions.Cells.{identical}
use Rattle.text.specs.definitions.Syntax.{File}
use Rattle.cycles.specs.definitions.Store.{Inputs}
use Rattle.cycles.specs.definitions.Spots.{numbered, every, cells}
use Rattle.cycles.specs.definitions.Header.{Column, header}
use Rattle.cycles.specs.definitions.Record.{Sent, record_of, Input, inputs_in, inputs_of, takes_input}
use Rattle.senders.specs.definitions.Sender.{State, Line, is_sender, is_known_sender, kept, has_place}
use Rattle.senders.specs.definitions.Answer.{Answer, refused, accepted, or_refused, if_accepted, if_passed}

-- ---- what header and record say by themselves

-- a sender of the right form, a number and the texts of values, under columns
pub record Addressed : Type 0 where
  pub columns : List Column
  pub sent : Sent

-- 22, 21, and 43 for "an ill-formed sender"
unfoldable pub addressed : File → List ℕ → List ℕ → Answer Addressed
unfolding or_refused header record_of if_passed is_sender
addressed f names values =
    or_refused 22 (header f names) λ cs.
    or_refused 21 (record_of (length cs) values) λ r.
    if_passed 43 (is_sender r.sender) (accepted (record { columns = cs; sent = r }))

pub record Reading : Type 0 where
  pub sender : List ℕ
  pub number : ℕ
  pub inputs : List Input

-- 23 for "a value ill formed, of another kind"
unfoldable pub reading_of : Addressed → Answer Reading
unfolding or_refused inputs_in
reading_of a =
    or_refused 23 (inputs_in a.columns a.sent.texts) λ is.
    accepted (record { sender = a.sent.sender; number = a.sent.number; inputs = is })

-- both, without 42, which asks the state
unfoldable pub reading : File → List ℕ → List ℕ → Answer Reading
unfolding if_accepted addressed reading_of
reading f names values = if_accepted (addressed f names values) reading_of

unfoldable pub line_of : Reading → Line
unfolding inputs_of
line_of r = record { sender = r.sender; number = r.number; inputs = inputs_of r.inputs }

-- ---- what a state says to them

unfoldable pub same_presence : Option Bool → Option Bool → Bool
same_presence none none = true
same_presence none (some b) = false
same_presence (some a) none = false
same_presence (some a) (some b) = beq a b

unfoldable pub same_given : Option Value → Option Value → Bool
same_given none none = true
same_given none (some b) = false
same_given (some a) none = false
same_given (some a) (some b) = identical a b

-- "the same readings (compared per cell and per presence, bit by bit ..)"
unfoldable pub same_inputs : File → Inputs → Inputs → Bool
unfolding every numbered cells same_presence same_given
same_inputs f i j =
    every (λ e. same_presence (i.presence e.number) (j.presence e.number)) (numbered 0 f.entities)
    && every (λ p. same_given (i.given p.entity p.member) (j.given p.entity p.member)) (cells f)

-- resent: "the last [number] with the same readings", of a sender that is known
unfoldable pub is_resent : File → State → Line → Bool
unfolding is_known_sender kept same_inputs
is_resent f s l =
    is_known_sender l.sender s.senders
    && (eqb l.number (kept l.sender s.senders).last && same_inputs f (kept l.sender s.senders).inputs l.inputs)

-- "It never exceeds 4,294,967,295"
abbrev pub GREATEST_NUMBER : ℕ
GREATEST_NUMBER = 4294967295

-- 24: "number neither last nor last plus 1, or 0, or too great"
unfoldable pub in_turn : ℕ → ℕ → Bool
in_turn last n = not (eqb n 0) && (leb n GREATEST_NUMBER && (eqb n last || eqb n (last + 1)))

-- an accepted line: one that starts a cycle, or one that is resent
pub data Accepted : Type 0 where
  new : Line → Accepted
  resent : Line → Accepted

unfoldable pub its_line : Accepted → Line
its_line (new l) = l
its_line (resent l) = l

-- "Being resent is tested before the check on absent entities, so the absent-entity part of refusal 23 then covers every other line"; then 24, and 25
-- for the last number, "other readings"
unfoldable pub judged : Bool → Bool → Bool → Bool → Line → Answer Accepted
judged true takes turn last l = accepted (resent l)
judged false false turn last l = refused 23
judged false true false last l = refused 24
judged false true true true l = refused 25
judged false true true false l = accepted (new l)

unfoldable pub line_in : File → State → Reading → Answer Accepted
unfolding judged every takes_input line_of in_turn is_resent kept
line_in f s r =
    judged (is_resent f s (line_of r)) (every (takes_input s.stores.now (line_of r).inputs) r.inputs)
    (in_turn (kept r.sender s.senders).last r.number) (eqb r.number (kept r.sender s.senders).last) (line_of r)

-- 42, after 43 and before 23
unfoldable pub line_addressed : File → State → Addressed → Answer Accepted
unfolding if_passed has_place if_accepted reading_of line_in
line_addressed f s a = if_passed 42 (has_place a.sent.sender s.senders) (if_accepted (reading_of a) (line_in f s))

unfoldable pub line : File → State → List ℕ → List ℕ → Answer Accepted
unfolding if_accepted addressed line_addressed
line f s names values = if_accepted (addressed f names values) (line_addressed f s)
