-- Demand 3, "a single claim about whole lists and not one for each call".
use Rattle.std.specs.Prelude.{ℕ, suc, ◌≡◌, List, [], ◌∷◌}
use Rattle.std.proofs.Math.Option.{some}
use Rattle.std.proofs.Math.ListN.{get_elem?}
use Rattle.text.specs.definitions.Syntax.{File}
use Rattle.cycles.specs.definitions.Store.{Store}
use Rattle.cycles.specs.definitions.Spots.{Spot}
use Rattle.cycles.specs.definitions.Fields.{fields}
use Rattle.cycles.specs.definitions.Row.{action_cells}
use Rattle.senders.specs.definitions.Sender.{State, Line}
use Rattle.senders.specs.definitions.StateImage.{state_of}
use Rattle.engine.specs.definitions.Runs.{given_by, Taken}

-- the two stores have the same presence and cells for the entities of the set
pub record SameStores (S : ℕ → Type 0) (s t : Store) : Type 0 where
  pub presence : (e : ℕ) → S e → s.present e ≡ t.present e
  pub cells : (e m : ℕ) → S e → s.cell e m ≡ t.cell e m

-- "agree on a closed set of entities": the same number, and the same readings for the entities of the set; and "Runs that are compared must also
-- name the same senders, accepted line by accepted line" (document 02, order 5)
pub record SameLines (S : ℕ → Type 0) (k l : Line) : Type 0 where
  pub sender : k.sender ≡ l.sender
  pub number : k.number ≡ l.number
  pub presence : (e : ℕ) → S e → k.inputs.presence e ≡ l.inputs.presence e
  pub given : (e m : ℕ) → S e → k.inputs.given e m ≡ l.inputs.given e m

-- both rows have a field of this number, and it is the same
pub record SameField (i : ℕ) (r t : List ℕ) : Type 0 where
  pub text : List ℕ
  pub one_is : get_elem? (fields r) i ≡ some text
  pub other_is : get_elem? (fields t) i ≡ some text

-- "its fired actions are those that the line gives, or gives again": the rows that two calls gave have the same sender and number, and the same
-- field for each action cell of an entity of the set
pub record SameRows (f : File) (S : ℕ → Type 0) (r t : List ℕ) : Type 0 where
  pub sender : SameField 0 r t
  pub number : SameField 1 r t
  pub fired : (i : ℕ) (p : Spot) → get_elem? (action_cells f) i ≡ some p → S p.entity → SameField (suc (suc i)) r t

-- "The values of a set are the presence and cells of its entities, now and one cycle before"
pub record SameValues (print : ℕ) (f : File) (S : ℕ → Type 0) (x y : Taken) : Type 0 where
  pub one : State
  pub other : State
  pub one_is : state_of print f x.reply.state ≡ some one
  pub other_is : state_of print f y.reply.state ≡ some other
  pub now : SameStores S one.stores.now other.stores.now
  pub previous : SameStores S one.stores.previous other.stores.previous
  pub fired : SameRows f S (given_by x.reply) (given_by y.reply)

-- as many accepted lines in one run as in the other, first beside first and so on
abbrev pub SideBySide : (Taken → Taken → Type 0) → List Taken → List Taken → Type 0
SideBySide R [] [] = Unit {0}
SideBySide R [] (y ∷ ys) = ⊥
SideBySide R (x ∷ xs) [] = ⊥
SideBySide R (x ∷ xs) (y ∷ ys) = R x y × SideBySide R xs ys
