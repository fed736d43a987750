-- A line that says what its sender's latest accepted line said: the state holds it for resent, whatever lines of others came between.
use mathlib.Core.Path.{◌≡◌, refl, sym, ◌∙◌, subst}
use mathlib.Core.Bool.{Bool, true, false, ◌&&◌}
use mathlib.Core.Option.{Option, none, some}
use lib.Dec.{T, eqb}
use lib.Ieee.Bits.{is_true}
use lib.Ieee.Fits.{and_i, and_l, and_r}
use borrow.Author.Tests.{eq-eqb, eqb-true}
use Rattle.values.specs.declared.Value.{Value}
use Rattle.values.specs.definitions.Bytes.{same_bytes}
use Rattle.values.specs.definitions.Cells.{tag, payload, identical}
use Rattle.text.specs.definitions.Syntax.{Entity, File}
use Rattle.checking.specs.definitions.Scope.{Indexed}
use Rattle.cycles.specs.definitions.Store.{Inputs}
use Rattle.cycles.specs.definitions.Spots.{Spot, every, numbered, cells}
use Rattle.cycles.specs.inner_contracts.TotalMachine.{cycle}
use Rattle.cycles.proofs.laws.WalkLaws.{every_passes}
use Rattle.senders.specs.definitions.Sender.{State, Line, kept}
use Rattle.senders.specs.definitions.Line.{same_presence, same_given, same_inputs, is_resent, Accepted, new, resent, its_line}
use Rattle.senders.specs.definitions.Follow.{entry, next_state}
use Rattle.senders.specs.inner_contracts.TotalFollow.{follow}
use Rattle.senders.proofs.laws.AnswerLaws.{last_of, InTurn, resent_turn}
use Rattle.senders.proofs.laws.SenderLaws.{known_self, kept_self, known_other, kept_other}
use Rattle.senders.proofs.laws.TestLaws.{every_both}
use Rattle.senders.proofs.laws.SameInputsLaws.{same_given_self}

-- ---- the same readings: reflexive and transitive

same_presence_self : (o : Option Bool) → T (same_presence o o)
unfolding same_presence
same_presence_self none = tt
same_presence_self (some false) = tt
same_presence_self (some true) = tt

same_presence_on : (o p q : Option Bool) → T (same_presence o p) → T (same_presence p q) → T (same_presence o q)
unfolding same_presence
same_presence_on none none q h g = g
same_presence_on (some false) (some false) q h g = g
same_presence_on (some true) (some true) q h g = g
same_presence_on none (some _) q h g = elim h [ ]
same_presence_on (some false) none q h g = elim h [ ]
same_presence_on (some false) (some true) q h g = elim h [ ]
same_presence_on (some true) none q h g = elim h [ ]
same_presence_on (some true) (some false) q h g = elim h [ ]

-- identical values, of any kinds, compare alike with every value
identical_alike : (a b : Value) → T (identical a b) → (c : Value) → identical a c ≡ identical b c
identical_alike a b h c = go (eqb (tag a) (tag b)) refl
  where
    go : (t : Bool) → eqb (tag a) (tag b) ≡ t → identical a c ≡ identical b c
    go true e = rw (eqb-true (tag a) (tag b) e, eqb-true (payload a) (payload b) (is_true (eqb (payload a) (payload b)) (rw e at h)))
    go false e = absurd (rw e at h)

same_given_on : (o p q : Option Value) → T (same_given o p) → T (same_given p q) → T (same_given o q)
unfolding same_given
same_given_on none none q h g = g
same_given_on (some a) (some b) (some c) h g = subst T (sym (identical_alike a b h c)) g
same_given_on none (some b) q h g = elim h [ ]
same_given_on (some a) none q h g = elim h [ ]
same_given_on (some a) (some b) none h g = elim g [ ]

module _ (f : File) where
  abbrev presences : Inputs → Inputs → Bool
  presences i j = every (λ (e : Indexed Entity). same_presence (i.presence e.number) (j.presence e.number)) (numbered 0 f.entities)

  abbrev readings : Inputs → Inputs → Bool
  readings i j = every (λ (p : Spot). same_given (i.given p.entity p.member) (j.given p.entity p.member)) (cells f)

  pub same_inputs_self : (i : Inputs) → same_inputs f i i ≡ true
  unfolding same_inputs
  same_inputs_self i =
      is_true (presences i i && readings i i)
      (and_i (presences i i) (readings i i) (every_passes _ (numbered 0 f.entities) (λ e m. same_presence_self (i.presence e.number)))
      (every_passes _ (cells f) (λ p m. same_given_self (i.given p.entity p.member))))

  pub same_inputs_on : (i j k : Inputs) → same_inputs f i j ≡ true → same_inputs f j k ≡ true → same_inputs f i k ≡ true
  unfolding same_inputs
  same_inputs_on i j k g h =
      let p : T (presences i j && readings i j) = rw g tt in
      let q : T (presences j k && readings j k) = rw h tt in
      is_true (presences i k && readings i k)
      (and_i (presences i k) (readings i k)
      (every_both _ _ _ (λ e. same_presence_on (i.presence e.number) (j.presence e.number) (k.presence e.number)) (numbered 0 f.entities)
      (and_l (presences i j) (readings i j) p) (and_l (presences j k) (readings j k) q))
      (every_both _ _ _ (λ e. same_given_on (i.given e.entity e.member) (j.given e.entity e.member) (k.given e.entity e.member)) (cells f)
      (and_r (presences i j) (readings i j) p) (and_r (presences j k) (readings j k) q)))

  -- ---- what a state holds for resent

  -- a line that says the same as one that would be resent
  pub says_same : (s : State) (l k : Line) → is_resent f s l ≡ true → k.sender ≡ l.sender → k.number ≡ l.number
      → same_inputs f l.inputs k.inputs ≡ true → is_resent f s k ≡ true
  unfolding is_resent
  says_same s l k h n m i =
      let t = resent_turn f s l h in
      rw (n, t.known, eq-eqb k.number (last_of s l.sender) (m ∙ t.last))
      (same_inputs_on (kept l.sender s.senders).inputs l.inputs k.inputs t.same i)

  -- an accepted line, once it was taken
  pub resent_after : (s : State) (a : Accepted) → InTurn f s a → is_resent f (follow f s a) (its_line a) ≡ true
  unfolding follow next_state entry its_line is_resent
  resent_after s (resent l) t = t.is
  resent_after s (new l) t =
      let x = entry f l (cycle f s.stores l.inputs).now in
      rw (known_self x s.senders, kept_self x s.senders, eq-eqb l.number l.number refl, same_inputs_self l.inputs)

  -- and lines of others leave it so
  pub resent_still : (s : State) (a : Accepted) (l : Line) → same_bytes l.sender (its_line a).sender ≡ false
      → is_resent f (follow f s a) l ≡ is_resent f s l
  unfolding follow next_state entry its_line is_resent
  resent_still s (resent k) l h = refl
  resent_still s (new k) l h =
      let x = entry f k (cycle f s.stores k.inputs).now in
      rw (known_other l.sender x s.senders h, kept_other l.sender x s.senders h)
