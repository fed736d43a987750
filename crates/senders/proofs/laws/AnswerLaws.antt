-- What the answer to a header and a record says: the numbers of refusals, and of an accepted line what the two say by themselves and its turn.
use Prim.Native.Nat.{ℕ, ◌+◌, ◌%◌, ◌≤◌}
use native.Mathlib.Omega.{arith}
use mathlib.Core.Path.{◌≡◌, refl, sym, ap, ◌∙◌, subst}
use mathlib.Core.Bool.{Bool, true, false, not, ◌&&◌, ◌||◌}
use mathlib.Core.List.{List}
use mathlib.Core.Option.{Option, none, some}
use lib.Dec.{eqb, leb, leb→le}
use lib.ListN.{length}
use borrow.Author.Tests.{eqb-true}
use Rattle.text.specs.definitions.Syntax.{File}
use Rattle.cycles.specs.definitions.Spots.{every}
use Rattle.cycles.specs.definitions.Header.{header}
use Rattle.cycles.specs.definitions.Record.{record_of, inputs_in, takes_input}
use Rattle.senders.specs.definitions.Sender.{State, Line, is_sender, is_known_sender, kept, has_place}
use Rattle.senders.specs.definitions.Answer.{Answer, refused, accepted, or_refused, if_accepted, if_passed}
use Rattle.senders.specs.definitions.Line.{
  Addressed,
  addressed,
  Reading,
  reading_of,
  reading,
  line_of,
  same_inputs,
  is_resent,
  GREATEST_NUMBER,
  in_turn,
  Accepted,
  new,
  resent,
  its_line,
  judged,
  line_in,
  line_addressed,
  line,
}

-- ---- refusals

-- what holds of 21 to 25, 42 and 43 holds of the number of every refusal
module _ (P : ℕ → Type 0) where
  abbrev pub RefusedByNumber : {A : Type 0} → Answer A → Type 0
  RefusedByNumber (refused code) = P code
  RefusedByNumber (accepted a) = Unit {0}

  or_refused_number : {A B : Type 0} (code : ℕ) (o : Option A) (next : A → Answer B) → P code → ((a : A) → RefusedByNumber (next a))
      → RefusedByNumber (or_refused code o next)
  unfolding or_refused
  or_refused_number code none next h g = h
  or_refused_number code (some a) next h g = g a

  if_accepted_number : {A B : Type 0} (o : Answer A) (next : A → Answer B) → RefusedByNumber o → ((a : A) → RefusedByNumber (next a))
      → RefusedByNumber (if_accepted o next)
  unfolding if_accepted
  if_accepted_number (refused code) next h g = h
  if_accepted_number (accepted a) next h g = g a

  if_passed_number : {A : Type 0} (code : ℕ) (b : Bool) (next : Answer A) → P code → RefusedByNumber next → RefusedByNumber (if_passed code b next)
  unfolding if_passed
  if_passed_number code false next h g = h
  if_passed_number code true next h g = g

  module _ (p21 : P 21) (p22 : P 22) (p23 : P 23) (p24 : P 24) (p25 : P 25) (p42 : P 42) (p43 : P 43) where
    addressed_number : (f : File) (names values : List ℕ) → RefusedByNumber (addressed f names values)
    unfolding addressed
    addressed_number f names values =
        or_refused_number 22 (header f names) _ p22 λ cs.
        or_refused_number 21 (record_of (length cs) values) _ p21 λ r.
        if_passed_number 43 (is_sender r.sender) _ p43 tt

    reading_number : (a : Addressed) → RefusedByNumber (reading_of a)
    unfolding reading_of
    reading_number a = or_refused_number 23 (inputs_in a.columns a.sent.texts) _ p23 λ is. tt

    judged_number : (again takes turn last : Bool) (l : Line) → RefusedByNumber (judged again takes turn last l)
    unfolding judged
    judged_number true takes turn last l = tt
    judged_number false false turn last l = p23
    judged_number false true false last l = p24
    judged_number false true true true l = p25
    judged_number false true true false l = tt

    line_in_number : (f : File) (s : State) (r : Reading) → RefusedByNumber (line_in f s r)
    unfolding line_in
    line_in_number f s r =
        judged_number (is_resent f s (line_of r)) (every (takes_input s.stores.now (line_of r).inputs) r.inputs)
        (in_turn (kept r.sender s.senders).last r.number) (eqb r.number (kept r.sender s.senders).last) (line_of r)

    pub line_refused_by : (f : File) (s : State) (names values : List ℕ) → RefusedByNumber (line f s names values)
    unfolding line line_addressed
    line_refused_by f s names values =
        if_accepted_number (addressed f names values) (line_addressed f s) (addressed_number f names values) λ a.
        if_passed_number 42 (has_place a.sent.sender s.senders) _ p42
        (if_accepted_number (reading_of a) (line_in f s) (reading_number a) (line_in_number f s))

-- a refusal's number has a low byte that is not 0
abbrev pub HasNumber : {A : Type 0} → Answer A → Type 0
HasNumber (refused code) = eqb (code % 256) 0 ≡ false
HasNumber (accepted a) = Unit {0}

pub line_number : (f : File) (s : State) (names values : List ℕ) → HasNumber (line f s names values)
line_number f s names values =
    go (line f s names values) (line_refused_by (λ code. eqb (code % 256) 0 ≡ false) refl refl refl refl refl refl refl f s names values)
  where
    go : (a : Answer Accepted) → RefusedByNumber (λ code. eqb (code % 256) 0 ≡ false) a → HasNumber a
    go (refused code) h = h
    go (accepted l) h = tt

-- ---- an accepted answer came through each step

module _ {A : Type 0} where
  pub accepted_injective : {a b : A} → accepted a ≡ accepted b → a ≡ b
  accepted_injective h = cc

  pub refused_accepted : {c : ℕ} {a : A} → refused c ≡ accepted a → ⊥
  refused_accepted h = let z : ◌≡◌ {A = ℕ} 0 1 = cc in omega arith

  pub if_passed_of : (c : ℕ) (b : Bool) (next : Answer A) {a : A} → if_passed c b next ≡ accepted a → (b ≡ true) × (next ≡ accepted a)
  unfolding if_passed
  if_passed_of c false next h = absurd (refused_accepted h)
  if_passed_of c true next h = (refl, h)

module _ {A B : Type 0} where
  pub or_refused_of : (c : ℕ) (o : Option A) (next : A → Answer B) {b : B} → or_refused c o next ≡ accepted b → (a : A) × (o ≡ some a) × (next a ≡ accepted b)
  unfolding or_refused
  or_refused_of c none next h = absurd (refused_accepted h)
  or_refused_of c (some a) next h = (a, refl, h)

  pub if_accepted_of : (o : Answer A) (next : A → Answer B) {b : B} → if_accepted o next ≡ accepted b → (a : A) × (o ≡ accepted a) × (next a ≡ accepted b)
  unfolding if_accepted
  if_accepted_of (refused c) next h = absurd (refused_accepted h)
  if_accepted_of (accepted a) next h = (a, refl, h)

-- ---- accepted lines

-- the last number kept of a sender
abbrev pub last_of : State → List ℕ → ℕ
last_of s n = (kept n s.senders).last

-- by the state before it
pub record NewTurn (s : State) (l : Line) : Type 0 where
  pub next : l.number ≡ last_of s l.sender + 1
  pub most : l.number ≤ GREATEST_NUMBER

pub record ResentTurn (f : File) (s : State) (l : Line) : Type 0 where
  pub is : is_resent f s l ≡ true
  pub known : is_known_sender l.sender s.senders ≡ true
  pub last : l.number ≡ last_of s l.sender
  pub same : same_inputs f (kept l.sender s.senders).inputs l.inputs ≡ true

abbrev pub InTurn : File → State → Accepted → Type 0
InTurn f s (new l) = NewTurn s l
InTurn f s (resent l) = ResentTurn f s l

new_turn : (last n : ℕ) → in_turn last n ≡ true → eqb n last ≡ false → (n ≡ last + 1) × (n ≤ GREATEST_NUMBER)
unfolding in_turn
new_turn last n h g = go (eqb n 0) (leb n GREATEST_NUMBER) refl (eqb n (last + 1)) refl (rw g at h)
  where
    go : (z m : Bool) → leb n GREATEST_NUMBER ≡ m → (t : Bool) → eqb n (last + 1) ≡ t → (not z && (m && (false || t))) ≡ true → (n ≡ last + 1) × (n ≤ GREATEST_NUMBER)
    go false true p true q k = (eqb-true n (last + 1) q, leb→le n GREATEST_NUMBER (rw p tt))
    go false true p false q k = let w : ◌≡◌ {A = ℕ} 0 1 = cc in absurd (omega arith)
    go false false p t q k = let w : ◌≡◌ {A = ℕ} 0 1 = cc in absurd (omega arith)
    go true m p t q k = let w : ◌≡◌ {A = ℕ} 0 1 = cc in absurd (omega arith)

pub resent_turn : (f : File) (s : State) (l : Line) → is_resent f s l ≡ true → ResentTurn f s l
unfolding is_resent
resent_turn f s l h = go (is_known_sender l.sender s.senders) refl (eqb l.number (last_of s l.sender)) refl h
  where
    go : (k : Bool) → is_known_sender l.sender s.senders ≡ k → (n : Bool) → eqb l.number (last_of s l.sender) ≡ n
        → (k && (n && same_inputs f (kept l.sender s.senders).inputs l.inputs)) ≡ true → ResentTurn f s l
    go true d true e g = record { is = h; known = d; last = eqb-true l.number (last_of s l.sender) e; same = g }
    go true d false e g = let w : ◌≡◌ {A = ℕ} 0 1 = cc in absurd (omega arith)
    go false d n e g = let w : ◌≡◌ {A = ℕ} 0 1 = cc in absurd (omega arith)

judged_line : (f : File) (s : State) (l : Line) (again takes turn last : Bool) → is_resent f s l ≡ again → in_turn (last_of s l.sender) l.number ≡ turn
    → eqb l.number (last_of s l.sender) ≡ last → (a : Accepted) → judged again takes turn last l ≡ accepted a → (l ≡ its_line a) × InTurn f s a
unfolding judged its_line
judged_line f s l true takes turn last p q o (new k) h = let w : ◌≡◌ {A = ℕ} 0 1 = cc in absurd (omega arith)
judged_line f s l true takes turn last p q o (resent k) h = let e : l ≡ k = cc in (e, subst (ResentTurn f s) e (resent_turn f s l p))
judged_line f s l false false turn last p q o a h = absurd (refused_accepted h)
judged_line f s l false true false last p q o a h = absurd (refused_accepted h)
judged_line f s l false true true true p q o a h = absurd (refused_accepted h)
judged_line f s l false true true false p q o (new k) h =
    let e : l ≡ k = cc in
    let t = new_turn (last_of s l.sender) l.number q o in
    (e, subst (NewTurn s) e (record { next = t.0; most = t.1 }))
judged_line f s l false true true false p q o (resent k) h = let w : ◌≡◌ {A = ℕ} 0 1 = cc in absurd (omega arith)

-- what header and record say, and what the state says to it
pub record ReadAs (f : File) (s : State) (names values : List ℕ) (a : Accepted) : Type 0 where
  pub says : Reading
  pub is_read : reading f names values ≡ accepted says
  pub is_line : line_of says ≡ its_line a
  pub turn : InTurn f s a
  pub named : is_sender (its_line a).sender ≡ true
  pub room : has_place (its_line a).sender s.senders ≡ true

-- a header, a record and a sender of the right form
abbrev pub WellAddressed : File → List ℕ → List ℕ → Addressed → Type 0
WellAddressed f names values x =
    (header f names ≡ some x.columns) × (record_of (length x.columns) values ≡ some x.sent) × (is_sender x.sent.sender ≡ true)

pub addressed_of : (f : File) (names values : List ℕ) {x : Addressed} → addressed f names values ≡ accepted x → WellAddressed f names values x
unfolding addressed
addressed_of f names values {x} h =
    let (cs, p, i) = or_refused_of 22 (header f names) _ h in
    let (r, q, j) = or_refused_of 21 (record_of (length cs) values) _ i in
    let (b, k) = if_passed_of 43 (is_sender r.sender) _ j in
    subst (WellAddressed f names values) (accepted_injective k) (p, q, b)

reading_sender : (x : Addressed) {r : Reading} → reading_of x ≡ accepted r → x.sent.sender ≡ r.sender
unfolding reading_of
reading_sender x h =
    let (is, p, q) = or_refused_of 23 (inputs_in x.columns x.sent.texts) _ h in ap (λ (r : Reading). r.sender) (accepted_injective q)

pub line_read : (f : File) (s : State) (names values : List ℕ) {a : Accepted} → line f s names values ≡ accepted a → ReadAs f s names values a
unfolding line line_addressed line_in reading line_of
line_read f s names values {a} h =
    let (x, e, i) = if_accepted_of (addressed f names values) (line_addressed f s) h in
    let (room, j) = if_passed_of 42 (has_place x.sent.sender s.senders) _ i in
    let (r, q, k) = if_accepted_of (reading_of x) (line_in f s) j in
    let (is, t) =
    judged_line f s (line_of r) (is_resent f s (line_of r)) (every (takes_input s.stores.now (line_of r).inputs) r.inputs)
    (in_turn (last_of s r.sender) r.number) (eqb r.number (last_of s r.sender)) refl refl refl a k in
    let n : x.sent.sender ≡ (its_line a).sender = reading_sender x q ∙ ap (λ (l : Line). l.sender) is in
    record {
      says = r;
      is_read = ap (λ (o : Answer Addressed). if_accepted o reading_of) e ∙ q;
      is_line = is;
      turn = t;
      named = ap is_sender (sym n) ∙ (addressed_of f names values e).2;
      room = ap (λ (n : List ℕ). has_place n s.senders) (sym n) ∙ room;
    }

-- and the other way for a line that the state holds for resent: a sender that is known has room
pub line_resent : (f : File) (s : State) (names values : List ℕ) {r : Reading} → reading f names values ≡ accepted r → is_resent f s (line_of r) ≡ true
    → line f s names values ≡ accepted (resent (line_of r))
unfolding line line_addressed line_in reading line_of judged has_place
line_resent f s names values {r} h again =
    let (x, e, q) = if_accepted_of (addressed f names values) reading_of h in
    let room : has_place x.sent.sender s.senders ≡ true = rw (reading_sender x q, (resent_turn f s (line_of r) again).known) in
    rw (e, room, q, again)
