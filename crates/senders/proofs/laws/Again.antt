-- A line sent again in a run: what is kept of its sender stays until that sender's next new line, and from then on its number is past for ever.
use Prim.Native.Nat.{ℕ, ◌+◌, ◌<◌}
use native.Mathlib.Omega.{arith}
use mathlib.Core.Path.{◌≡◌, refl, sym, ap, ◌∙◌, subst}
use mathlib.Core.Bool.{Bool, true, false, false≢true}
use mathlib.Core.List.{List, [], ◌∷◌}
use mathlib.Core.Logic.{◌⊎◌, inl, inr}
use Rattle.values.proofs.laws.ByteLaws.{same_bytes_equal}
use Rattle.values.specs.definitions.Bytes.{same_bytes}
use Rattle.text.specs.definitions.Syntax.{File}
use Rattle.cycles.specs.definitions.ClosedSet.{Among, here, there}
use Rattle.cycles.specs.inner_contracts.TotalMachine.{cycle}
use Rattle.senders.specs.definitions.Sender.{Sender, State, sender_named, is_known_sender, kept, with_sender}
use Rattle.senders.specs.definitions.Line.{Accepted, new, resent, its_line}
use Rattle.senders.specs.definitions.Follow.{entry, next_state, fresh}
use Rattle.senders.specs.definitions.Row.{row, sender_row}
use Rattle.senders.specs.inner_contracts.TotalFollow.{follow}
use Rattle.senders.proofs.laws.AnswerLaws.{last_of, InTurn}
use Rattle.senders.proofs.laws.SenderLaws.{known_other, kept_self, kept_other, kept_cases}

-- ---- one line

-- what is kept of the line's sender after it has the line's number
pub last_after : (f : File) (s : State) (a : Accepted) → InTurn f s a → last_of (follow f s a) (its_line a).sender ≡ (its_line a).number
unfolding follow its_line next_state entry
last_after f s (resent l) t = sym t.last
last_after f s (new l) t = ap (λ (x : Sender). x.last) (kept_self (entry f l (cycle f s.stores l.inputs).now) s.senders)

-- the later of two lines of one sender and number: it is resent, the state stays, and its row is the one given then
pub record GivenAgain (f : File) (s : State) (a : Accepted) (given : List ℕ) : Type 0 where
  pub is_resent : a ≡ resent (its_line a)
  pub stays : follow f s a ≡ s
  pub again : sender_row f (follow f s a) (its_line a).sender ≡ given

module _ (f : File) (n : List ℕ) (x : Sender) where
  -- of the name n the state keeps x, or a greater number
  abbrev pub Held : State → Type 0
  Held s = (kept n s.senders ≡ x) ⊎ (x.last < last_of s n)

  at_least : (s : State) → Held s → x.last < last_of s n + 1
  at_least s (inl e) = let d = ap (λ (y : Sender). y.last) e in omega arith
  at_least s (inr p) = omega arith

  -- each accepted line leaves it so
  pub held_on : (s : State) (a : Accepted) → InTurn f s a → Held s → Held (follow f s a)
  unfolding follow next_state entry
  held_on s (resent l) t h = h
  held_on s (new l) t h =
      kept_cases n (entry f l (cycle f s.stores l.inputs).now) (λ (y : Sender). (y ≡ x) ⊎ (x.last < y.last)) s.senders
      (λ e.
      let i : last_of s l.sender ≡ last_of s n = ap (last_of s) (sym e) in
      let b = at_least s h in
      let c = t.next in
      inr (omega arith))
      (λ e. h)

  pub held_again : (s : State) (a : Accepted) → InTurn f s a → Held s → n ≡ (its_line a).sender → x.last ≡ (its_line a).number → GivenAgain f s a (row f x)
  unfolding follow its_line sender_row
  held_again s (new l) t h p q =
      let b : x.last < last_of s l.sender + 1 = subst (λ (m : List ℕ). x.last < last_of s m + 1) p (at_least s h) in
      let c = t.next in
      absurd (omega arith)
  held_again s (resent l) t h p q = record { is_resent = refl; stays = refl; again = ap (row f) (go h) }
    where
      go : Held s → kept l.sender s.senders ≡ x
      go (inl e) = ap (λ (m : List ℕ). kept m s.senders) (sym p) ∙ e
      go (inr b) =
          let c : x.last < last_of s l.sender = subst (λ (m : List ℕ). x.last < last_of s m) p b in
          let d = t.last in
          absurd (omega arith)

-- ---- a run

-- things of any kind, each of which tells an accepted line and the state before it
module _ {X : Type 0} (f : File) (Step : State → Accepted → X → Type 0) (turn : (s : State) (a : Accepted) (x : X) → Step s a x → InTurn f s a) where
  -- the accepted lines of a run, and the machine over them
  abbrev pub Chain : State → List X → Type 0
  Chain s [] = Unit {0}
  Chain s (x ∷ xs) = (a : Accepted) × Step s a x × Chain (follow f s a) xs

  -- a later one, after the accepted line a in the state s
  pub record Later (s : State) (a : Accepted) (y : X) : Type 0 where
    pub before : State
    pub taken : Accepted
    pub step : Step before taken y
    pub again : (its_line a).sender ≡ (its_line taken).sender → (its_line a).number ≡ (its_line taken).number
        → GivenAgain f before taken (sender_row f (follow f s a) (its_line a).sender)

  module _ (s : State) (a : Accepted) (t : InTurn f s a) where
    abbrev then : Sender
    then = kept (its_line a).sender (follow f s a).senders

    held_along : (r : State) (xs : List X) → Chain r xs → Held f (its_line a).sender then r → (y : X) → Among y xs → Later s a y
    unfolding sender_row
    held_along r (x ∷ xs) (b, st, c) h y here = record {
      before = r;
      taken = b;
      step = st;
      again = λ p q. held_again f (its_line a).sender then r b (turn r b x st) h p (last_after f s a t ∙ q);
    }
    held_along r (x ∷ xs) (b, st, c) h y (there i) =
        held_along (follow f r b) xs c (held_on f (its_line a).sender then r b (turn r b x st) h) y i
    held_along r [] _ h y x4 = elim x4 [ ]

    pub later_lines : (xs : List X) → Chain (follow f s a) xs → (y : X) → Among y xs → Later s a y
    later_lines xs c y i = held_along (follow f s a) xs c (inl refl) y i

  -- ---- and each resent line has an earlier one of its sender and number, in a run from a state that knows nobody

  -- among the lines so far
  pub record Earlier (xs : List X) (n : List ℕ) (k : ℕ) : Type 0 where
    pub one : X
    pub inside : Among one xs
    pub before : State
    pub taken : Accepted
    pub step : Step before taken one
    pub sender : (its_line taken).sender ≡ n
    pub number : (its_line taken).number ≡ k

  abbrev pub ResentTold : List X → Accepted → Type 0
  ResentTold ps (new l) = Unit {0}
  ResentTold ps (resent l) = Earlier ps l.sender l.number

  -- for each line of the run, beside those before it
  abbrev pub AllTold : List X → (s : State) (xs : List X) → Chain s xs → Type 0
  AllTold ps s [] c = Unit {0}
  AllTold ps s (x ∷ xs) (a, st, c) = ResentTold ps a × AllTold (x ∷ ps) (follow f s a) xs c

  -- of each known sender its last line is among them
  abbrev Had : List X → State → Type 0
  Had ps s = (n : List ℕ) → is_known_sender n s.senders ≡ true → Earlier ps n (last_of s n)

  one_more : (x : X) (ps : List X) (n : List ℕ) (k : ℕ) → Earlier ps n k → Earlier (x ∷ ps) n k
  one_more x ps n k e = record {
    one = e.one;
    inside = there e.inside;
    before = e.before;
    taken = e.taken;
    step = e.step;
    sender = e.sender;
    number = e.number;
  }

  had_on : (ps : List X) (s : State) (a : Accepted) (x : X) → Step s a x → Had ps s → Had (x ∷ ps) (follow f s a)
  unfolding follow next_state entry its_line
  had_on ps s (resent l) x st h n k = one_more x ps n (last_of s n) (h n k)
  had_on ps s (new l) x st h n k = go (same_bytes n l.sender) refl
    where
      y : Sender
      y = entry f l (cycle f s.stores l.inputs).now

      go : (b : Bool) → same_bytes n l.sender ≡ b → Earlier (x ∷ ps) n (kept n (with_sender y s.senders)).last
      go true e =
          let p : l.sender ≡ n = sym (same_bytes_equal n l.sender e) in
          record {
            one = x;
            inside = here;
            before = s;
            taken = new l;
            step = st;
            sender = p;
            number =
                sym (ap (λ (z : Sender). z.last) (kept_self y s.senders))
                ∙ ap (λ (m : List ℕ). (kept m (with_sender y s.senders)).last) p;
          }
      go false e =
          let o : kept n (with_sender y s.senders) ≡ kept n s.senders = kept_other n y s.senders e in
          rw o (one_more x ps n (last_of s n) (h n (sym (known_other n y s.senders e) ∙ k)))

  pub all_told : (ps : List X) (s : State) (xs : List X) (c : Chain s xs) → Had ps s → AllTold ps s xs c
  all_told ps s [] c h = tt
  all_told ps s (x ∷ xs) (a, st, c) h = (told a st, all_told (x ∷ ps) (follow f s a) xs c (had_on ps s a x st h))
    where
      told : (a : Accepted) → Step s a x → ResentTold ps a
      told (new l) st = tt
      told (resent l) st =
          let t = turn s (resent l) x st in
          subst (λ (k : ℕ). Earlier ps l.sender k) (sym t.last) (h l.sender t.known)

  pub all_told_fresh : (xs : List X) (c : Chain (fresh f) xs) → AllTold [] (fresh f) xs c
  unfolding fresh is_known_sender sender_named
  all_told_fresh xs c = all_told [] (fresh f) xs c (λ n k. absurd (false≢true k))
