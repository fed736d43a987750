-- For an accepted file and a line that a state takes the reference machine is not stuck, as the total machine is not, and the state stays sound.
use Prim.Native.Nat.{ℕ, ◌≤◌}
use native.Mathlib.Omega.{arith}
use mathlib.Core.Path.{◌≡◌, refl, sym, ◌∙◌}
use mathlib.Core.Bool.{Bool, true, false, cond}
use mathlib.Core.List.{List}
use lib.Dec.{T}
use borrow.Author.Tests.{ltb-true}
use Rattle.values.specs.declared.Value.{Value}
use Rattle.values.specs.declared.Value.TheVariants.{Unset}
use Rattle.values.specs.declared.Kind.{Kind}
use Rattle.values.specs.definitions.Storable.{storable}
use Rattle.values.proofs.laws.StorableLaws.{unset_storable}
use Rattle.text.specs.definitions.Syntax.{File}
use Rattle.checking.specs.definitions.Scope.{member_of, is_action}
use Rattle.checking.specs.definitions.Verdict as Verdict
use Rattle.checking.specs.definitions.Verdict.{file_verdict, verdict}
use Rattle.cycles.specs.definitions.Outcome.{running}
use Rattle.cycles.specs.definitions.Store.{Store, Stores}
use Rattle.cycles.specs.definitions.Cycle.{is_sort}
use Rattle.cycles.specs.inner_contracts.TotalMachine.{cycle}
use Rattle.cycles.specs.definitions.SoundStores.{SoundStore, SoundInputs, SoundStores}
use Rattle.cycles.proofs.laws.SoundCycle.{cycle_sound, fresh_stores_sound, fresh_stores_run}
use Rattle.senders.specs.definitions.Sender.{State, Line, is_sender, MOST_SENDERS, has_place}
use Rattle.senders.specs.definitions.Line.{GREATEST_NUMBER, Accepted, new, resent, its_line}
use Rattle.senders.specs.definitions.Follow.{fired_in, entry, next_state, ref_follow, fresh, ref_fresh}
use Rattle.senders.specs.definitions.SoundState.{SoundSender, SoundState}
use Rattle.senders.specs.inner_contracts.TotalFollow.{follow}
use Rattle.senders.specs.inner_contracts.SenderMemory.{place}
use Rattle.senders.proofs.laws.SoundLine.{SoundLine, line_number_sound}
use Rattle.senders.proofs.laws.SenderLaws.{room_below}
use Rattle.senders.proofs.laws.StateLaws.{with_sender_sound, with_sender_few}

-- ---- a line

entry_sound : (f : File) (l : Line) → T (is_sender l.sender) → 1 ≤ l.number → l.number ≤ GREATEST_NUMBER → SoundInputs f l.inputs
    → (s : Store) → SoundStore f s → SoundSender f (entry f l s)
unfolding entry fired_in
entry_sound f l n a b i s h = record {
  name = n;
  least = a;
  most = b;
  inputs = i;
  fired = λ e m y p. either y.kind (is_sort is_action (member_of f e m)) (s.cell e m) (h.of_kind e m y p);
  elsewhere = λ e m p. rw p;
}
  where
    either : (k : Kind) (b : Bool) (v : Value) → T (storable k v) → T (storable k (cond b v Unset))
    either k true v h = h
    either k false v h = unset_storable k

next_sound : (f : File) (s : State) → SoundState f s → (l : Line) (t : Stores) → SoundStores f t → SoundSender f (entry f l t.now)
    → has_place l.sender s.senders ≡ true → SoundState f (next_state f s l t)
unfolding next_state entry
next_sound f s h l t g e r = record {
  stores = g;
  few = with_sender_few f (entry f l t.now) s.senders
      (ltb-true (place l.sender s.senders) MOST_SENDERS (sym (room_below l.sender s.senders h.few) ∙ r)) h.few;
  senders = with_sender_sound f (entry f l t.now) e s.senders h.senders;
}

pub follow_sound : (f : File) → file_verdict f ≡ Verdict.accepted f → (s : State) → SoundState f s → (a : Accepted) → SoundLine f s a
    → (ref_follow f s a ≡ running (follow f s a)) × SoundState f (follow f s a)
unfolding follow ref_follow its_line
follow_sound f ok s h (resent l) i = (refl, h)
follow_sound f ok s h (new l) i =
    let c = cycle_sound f ok s.stores h.stores l.inputs i.inputs in
    let n = line_number_sound f s h.senders (new l) i.turn in
    let t = cycle f s.stores l.inputs in
    (rw c.0, next_sound f s h l t c.1 (entry_sound f l i.sender n.0 n.1 i.inputs t.now c.1.now) i.room)

-- ---- the fresh state

pub fresh_sound : (text : List ℕ) (f : File) → verdict text ≡ Verdict.accepted f → SoundState f (fresh f)
unfolding fresh
fresh_sound text f v = record { stores = fresh_stores_sound text f v; few = omega arith; senders = tt }

pub fresh_runs : (text : List ℕ) (f : File) → verdict text ≡ Verdict.accepted f → ref_fresh f ≡ running (fresh f)
unfolding ref_fresh fresh
fresh_runs text f v = rw (fresh_stores_run text f v)
