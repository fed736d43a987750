-- Two runs on a closed set of entities: an accepted pair of lines, alike on the set, keeps "the same on the set" for the stores and for what is kept of
-- every sender.
use Prim.Native.Nat.{ℕ}
use native.Mathlib.Omega.{arith}
use mathlib.Core.Path.{◌≡◌, refl, sym, ap, ◌∙◌, subst}
use mathlib.Core.Bool.{Bool, true, false}
use mathlib.Core.List.{List}
use Rattle.values.proofs.laws.ByteLaws.{same_bytes_equal}
use Rattle.values.specs.definitions.Bytes.{same_bytes}
use Rattle.text.specs.definitions.Syntax.{File}
use Rattle.cycles.specs.definitions.Store.{Stores}
use Rattle.cycles.specs.definitions.ClosedSet.{Closed}
use Rattle.cycles.specs.inner_contracts.TotalMachine.{cycle}
use Rattle.cycles.proofs.laws.Agreement.{BothAgree, same_stores, InputsAgree}
use Rattle.cycles.proofs.laws.Apart.{cycle_apart}
use Rattle.senders.specs.definitions.Sender.{Sender, State, Line, kept, with_sender}
use Rattle.senders.specs.definitions.Line.{Accepted, new, resent, its_line}
use Rattle.senders.specs.definitions.Follow.{fired_in, entry, next_state}
use Rattle.senders.specs.inner_contracts.TotalFollow.{follow}
use Rattle.senders.proofs.laws.AnswerLaws.{last_of, InTurn}
use Rattle.senders.proofs.laws.SenderLaws.{kept_self, kept_other}

-- the same sender and number, and on the set the same readings
pub record LinesAgree (S : ℕ → Type 0) (k l : Line) : Type 0 where
  pub sender : k.sender ≡ l.sender
  pub number : k.number ≡ l.number
  pub inputs : InputsAgree S k.inputs l.inputs

-- the same number, and on the set the same readings and fired actions
pub record KeptAgree (S : ℕ → Type 0) (x y : Sender) : Type 0 where
  pub name : x.name ≡ y.name
  pub last : x.last ≡ y.last
  pub inputs : InputsAgree S x.inputs y.inputs
  pub fired : (e m : ℕ) → S e → x.fired e m ≡ y.fired e m

-- of every name, of those too that one state knows and the other does not: a resent line gives what is kept of its sender
pub record StatesAgree (S : ℕ → Type 0) (s t : State) : Type 0 where
  pub stores : BothAgree S s.stores t.stores
  pub senders : (n : List ℕ) → KeptAgree S (kept n s.senders) (kept n t.senders)

pub same_state : (S : ℕ → Type 0) (s : State) → StatesAgree S s s
same_state S s = record {
  stores = same_stores S s.stores;
  senders = λ n. record { name = refl; last = refl; inputs = record { presence = λ e i. refl; given = λ e m i. refl }; fired = λ e m i. refl };
}

-- ---- a new line

entry_agrees : (f : File) (S : ℕ → Type 0) (k l : Line) (s t : Stores) → LinesAgree S k l → BothAgree S s t
    → KeptAgree S (entry f k s.now) (entry f l t.now)
unfolding entry fired_in
entry_agrees f S k l s t h g = record {
  name = h.sender;
  last = h.number;
  inputs = h.inputs;
  fired = λ e m i. rw (g.now.cells e m i);
}

with_agree : (S : ℕ → Type 0) (x y : Sender) (xs ys : List Sender) → KeptAgree S x y → ((n : List ℕ) → KeptAgree S (kept n xs) (kept n ys))
    → (n : List ℕ) → KeptAgree S (kept n (with_sender x xs)) (kept n (with_sender y ys))
with_agree S x y xs ys g h n = go (same_bytes n x.name) refl
  where
    go : (b : Bool) → same_bytes n x.name ≡ b → KeptAgree S (kept n (with_sender x xs)) (kept n (with_sender y ys))
    go true e =
        let p : n ≡ x.name = same_bytes_equal n x.name e in
        let q : n ≡ y.name = p ∙ g.name in
        let i : kept n (with_sender x xs) ≡ x = subst (λ (m : List ℕ). kept m (with_sender x xs) ≡ x) (sym p) (kept_self x xs) in
        let j : kept n (with_sender y ys) ≡ y = subst (λ (m : List ℕ). kept m (with_sender y ys) ≡ y) (sym q) (kept_self y ys) in
        rw (i, j) g
    go false e = rw (kept_other n x xs e, kept_other n y ys (rw (← g.name) e)) (h n)

module _ (f : File) (S : ℕ → Type 0) (closed : Closed f S) where
  new_apart : (s t : State) (k l : Line) → StatesAgree S s t → LinesAgree S k l → StatesAgree S (follow f s (new k)) (follow f t (new l))
  unfolding follow next_state
  new_apart s t k l g h =
      let c = cycle f s.stores k.inputs in
      let d = cycle f t.stores l.inputs in
      let a : BothAgree S c d = cycle_apart f S closed s.stores t.stores k.inputs l.inputs g.stores h.inputs in
      record {
        stores = a;
        senders = with_agree S (entry f k c.now) (entry f l d.now) s.senders t.senders (entry_agrees f S k l c d h a) g.senders;
      }

  -- ---- an accepted pair: both start a cycle, or both are resent, for a new line's number is its sender's last plus 1, a resent one's its last

  same_last : (s t : State) (k l : Line) → StatesAgree S s t → LinesAgree S k l → last_of s k.sender ≡ last_of t l.sender
  same_last s t k l g h = (g.senders k.sender).last ∙ ap (last_of t) h.sender

  pub follow_apart : (s t : State) (a b : Accepted) → StatesAgree S s t → LinesAgree S (its_line a) (its_line b) → InTurn f s a → InTurn f t b
      → StatesAgree S (follow f s a) (follow f t b)
  unfolding its_line follow
  follow_apart s t (new k) (new l) g h p q = new_apart s t k l g h
  follow_apart s t (resent k) (resent l) g h p q = g
  follow_apart s t (new k) (resent l) g h p q =
      let a = same_last s t k l g h in
      let b = p.next in
      let c = q.last in
      let d = h.number in
      absurd (omega arith)
  follow_apart s t (resent k) (new l) g h p q =
      let a = same_last s t k l g h in
      let b = p.last in
      let c = q.next in
      let d = h.number in
      absurd (omega arith)
