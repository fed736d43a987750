-- A new line in memory: the stores written over those before, the entry of its sender put in its place, and one sender more counted where it is a new
-- one, leave the memory of the next state.
use Prim.Native.Nat.{ℕ, zero, suc, ◌+◌, ◌*◌, ◌≤◌, ◌<◌}
use native.Mathlib.Numerals.{add-one}
use native.Mathlib.Omega.{arith}
use mathlib.Core.Path.{◌≡◌, refl, sym, ap, ap₂, ◌∙◌}
use mathlib.Core.Bool.{Bool, true, false, cond}
use mathlib.Core.List.{List, [], ◌∷◌, ◌++◌, append_assoc}
use mathlib.Core.Option.{some}
use lib.Dec.{ltb}
use lib.ListN.{length, get_or, set, take, drop, length-append, take-append-drop, drop_of_length-le}
use lib.Seq.{length-take-le, take_at, drop_at, drop-drop, drop-cons}
use borrow.Author.Tests.{ltb-true, ltb-false}
use Rattle.values.specs.definitions.Bytes.{low_first}
use Rattle.text.specs.definitions.Syntax.{File}
use Rattle.cycles.specs.definitions.Store.{Stores}
use Rattle.cycles.specs.definitions.Planes.{stores_size, entity_count, encode_stores, with_stores}
use Rattle.cycles.proofs.laws.PlaneParts.{length_encode_stores, at_rest}
use Rattle.senders.specs.definitions.Sender.{Sender, State, unknown, with_sender}
use Rattle.senders.specs.definitions.StateImage.{
  sender_size,
  image_size,
  STATE,
  encode_sender,
  encode_senders,
  encode,
  stores_part,
  senders_part,
  known_count,
  part_name,
  next_sender,
  decode_sender,
  decode_senders,
  are_senders,
  state_of,
  with_state,
}
use Rattle.senders.specs.inner_contracts.SenderMemory.{place}
use Rattle.senders.proofs.laws.SenderLaws.{name_short, place_within, with_sender_parts, with_known_length, with_new_length, below_known, last_unknown}
use Rattle.senders.proofs.laws.SenderImage.{at_next, part_passes}
use Rattle.senders.proofs.laws.StateLaws.{
  image_next,
  ShortNames,
  senders_begin,
  length_encode_senders,
  from_senders,
  image_begins,
  senders_first,
}
use Rattle.senders.proofs.laws.StateCanonical.{senders_there, senders_tested, known_is, state_begins}

-- ---- the stores

-- a state with other stores
abbrev pub with_new_stores : Stores → State → State
with_new_stores t s = record { stores = t; senders = s.senders }

-- written over those of an image
pub stores_over : (print : ℕ) (f : File) (s : State) (t : Stores) (rest : List ℕ)
    → take 5 (encode print f s ++ rest) ++ with_stores (entity_count f) t (stores_part (encode print f s ++ rest))
    ≡ encode print f (with_new_stores t s) ++ rest
unfolding with_stores
stores_over print f s t rest =
    let n = entity_count f in
    let tail = from_senders print f s rest in
    ap (λ (m : List ℕ). take 5 m ++ (encode_stores n t ++ drop (stores_size n) (drop 5 m))) (image_begins print f s rest)
    ∙ ap (λ (l : List ℕ). low_first 4 print ++ (length s.senders ∷ (encode_stores n t ++ l))) (at_rest n s.stores tail)
    ∙ sym (image_begins print f (with_new_stores t s) rest)

-- ---- the senders, before a place and from it on

pub encode_senders_append : (f : File) (xs ys : List Sender) → encode_senders f (xs ++ ys) ≡ encode_senders f xs ++ encode_senders f ys
unfolding encode_senders
encode_senders_append f [] ys = refl
encode_senders_append f (x ∷ xs) ys =
    ap (λ (l : List ℕ). encode_sender f x ++ l) (encode_senders_append f xs ys)
    ∙ sym (append_assoc (encode_sender f x) (encode_senders f xs) (encode_senders f ys))

pub short_take : (j : ℕ) (xs : List Sender) → ShortNames xs → ShortNames (take j xs)
short_take zero xs h = tt
short_take (suc j) [] h = tt
short_take (suc j) (x ∷ xs) h = (h.0, short_take j xs h.1)

pub short_drop : (j : ℕ) (xs : List Sender) → ShortNames xs → ShortNames (drop j xs)
short_drop zero xs h = h
short_drop (suc j) [] h = tt
short_drop (suc j) (x ∷ xs) h = short_drop j xs h.1

-- the fingerprint, how many senders are known, the stores
abbrev head : ℕ → File → ℕ → Stores → List ℕ
head print f k t = low_first 4 print ++ k ∷ encode_stores (entity_count f) t

module _ (print : ℕ) (f : File) (s : State) (h : ShortNames s.senders) (j : ℕ) (b : j ≤ length s.senders) (rest : List ℕ) where
  abbrev before : List ℕ
  before = head print f (length s.senders) s.stores ++ encode_senders f (take j s.senders)

  abbrev behind : List ℕ
  behind = encode_senders f (drop j s.senders) ++ rest

  image_parts : encode print f s ++ rest ≡ before ++ behind
  unfolding encode
  image_parts =
      let xs = s.senders in
      let front = head print f (length xs) s.stores in
      let a = encode_senders f (take j xs) in
      let c = encode_senders f (drop j xs) in
      ap (λ (l : List ℕ). front ++ l ++ rest) (ap (encode_senders f) (sym (take-append-drop j xs)) ∙ encode_senders_append f (take j xs) (drop j xs))
      ∙ ap (λ (l : List ℕ). l ++ rest) (sym (append_assoc front a c))
      ∙ append_assoc (front ++ a) c rest

  length_before : length before ≡ image_size (entity_count f) j
  length_before =
      let xs = s.senders in
      let n = entity_count f in
      let a = length_encode_stores n s.stores in
      let c : length (encode_senders f (take j xs)) ≡ j * sender_size n =
      length_encode_senders f (take j xs) (short_take j xs h) ∙ ap (λ (i : ℕ). i * sender_size n) (length-take-le j xs b) in
      length-append (head print f (length xs) s.stores) (encode_senders f (take j xs)) ∙ omega arith

  pub image_before : take (image_size (entity_count f) j) (encode print f s ++ rest) ≡ before
  image_before = ap (take (image_size (entity_count f) j)) image_parts ∙ take_at before behind (image_size (entity_count f) j) length_before

  pub image_behind : drop (image_size (entity_count f) j) (encode print f s ++ rest) ≡ behind
  image_behind = ap (drop (image_size (entity_count f) j)) image_parts ∙ drop_at before behind (image_size (entity_count f) j) length_before

-- ---- a sender's entry put at a place

abbrev pub put_sender : File → ℕ → Sender → List ℕ → List ℕ
put_sender f j x m =
    take (image_size (entity_count f) j) m ++ (encode_sender f x ++ next_sender (entity_count f) (drop (image_size (entity_count f) j) m))

module _ (print : ℕ) (f : File) (s : State) (h : ShortNames s.senders) (x : Sender) where
  abbrev at : ℕ
  at = place x.name s.senders

  abbrev next : State
  next = record { stores = s.stores; senders = with_sender x s.senders }

  -- the senders before it, the entry, the senders after it
  joined : (k : ℕ) (rest : List ℕ)
      → head print f k s.stores ++ encode_senders f (take at s.senders) ++ (encode_sender f x ++ (encode_senders f (drop (suc at) s.senders) ++ rest))
      ≡ head print f k s.stores ++ encode_senders f (with_sender x s.senders) ++ rest
  unfolding encode_senders
  joined k rest =
      let xs = s.senders in
      let front = head print f k s.stores in
      let a = encode_senders f (take at xs) in
      let c = encode_senders f (drop (suc at) xs) in
      ap (λ (l : List ℕ). front ++ a ++ l) (sym (append_assoc (encode_sender f x) c rest))
      ∙ sym (append_assoc (front ++ a) (encode_sender f x ++ c) rest)
      ∙ ap (λ (l : List ℕ). l ++ rest)
      (append_assoc front a (encode_sender f x ++ c)
      ∙ ap (λ (l : List ℕ). front ++ l)
      (sym (ap (encode_senders f) (with_sender_parts x xs) ∙ encode_senders_append f (take at xs) (x ∷ drop (suc at) xs))))

  -- a sender that is known: its part is replaced
  pub known_put : at < length s.senders → (rest : List ℕ) → put_sender f at x (encode print f s ++ rest) ≡ encode print f next ++ rest
  unfolding encode
  known_put b rest =
      let xs = s.senders in
      ap₂ (λ (p q : List ℕ). p ++ (encode_sender f x ++ next_sender (entity_count f) q)) (image_before print f s h at (place_within x.name xs) rest)
      (image_behind print f s h at (place_within x.name xs) rest)
      ∙ ap (λ (l : List ℕ). head print f (length xs) s.stores ++ encode_senders f (take at xs) ++ (encode_sender f x ++ l)) after
      ∙ joined (length xs) rest
      ∙ ap (λ (k : ℕ). head print f k s.stores ++ encode_senders f (with_sender x xs) ++ rest)
      (sym (with_known_length x xs (below_known x.name xs b)))
    where
      first : Sender
      first = get_or s.senders at (unknown [])

      split : drop at s.senders ≡ first ∷ drop (suc at) s.senders
      split = drop-cons s.senders at (unknown []) b

      short : ShortNames (first ∷ drop (suc at) s.senders)
      short = rw split at (short_drop at s.senders h)

      after : next_sender (entity_count f) (encode_senders f (drop at s.senders) ++ rest) ≡ encode_senders f (drop (suc at) s.senders) ++ rest
      after =
          ap (λ (l : List Sender). next_sender (entity_count f) (encode_senders f l ++ rest)) split
          ∙ ap (next_sender (entity_count f)) (senders_begin f first (drop (suc at) s.senders) rest)
          ∙ at_next f first short.0 (encode_senders f (drop (suc at) s.senders) ++ rest)

  -- a new one: its part is behind the others, and it is counted
  pub new_put : length s.senders ≤ at → (rest : List ℕ)
      → set (put_sender f at x (encode print f s ++ rest)) 4 (at + 1) ≡ encode print f next ++ next_sender (entity_count f) rest
  unfolding encode encode_senders
  new_put b rest =
      let xs = s.senders in
      let c = place_within x.name xs in
      let k : at + 1 ≡ length (with_sender x xs) =
      add-one at ∙ ap suc (let d = place_within x.name xs in omega arith) ∙ sym (with_new_length x xs (last_unknown x.name xs b)) in
      ap (λ (l : List ℕ). set l 4 (at + 1))
      (ap₂ (λ (p q : List ℕ). p ++ (encode_sender f x ++ next_sender (entity_count f) q)) (image_before print f s h at c rest)
      (image_behind print f s h at c rest)
      ∙ ap (λ (l : List ℕ). head print f (length xs) s.stores ++ encode_senders f (take at xs) ++ (encode_sender f x ++ l)) after)
      ∙ joined (at + 1) (next_sender (entity_count f) rest)
      ∙ ap (λ (k : ℕ). head print f k s.stores ++ encode_senders f (with_sender x xs) ++ next_sender (entity_count f) rest) k
    where
      none_left : (i : ℕ) → length s.senders ≤ i → encode_senders f (drop i s.senders) ≡ []
      none_left i d = ap (encode_senders f) (drop_of_length-le s.senders d)

      after : next_sender (entity_count f) (encode_senders f (drop at s.senders) ++ rest)
          ≡ encode_senders f (drop (suc at) s.senders) ++ next_sender (entity_count f) rest
      after =
          ap (λ (l : List ℕ). next_sender (entity_count f) (l ++ rest)) (none_left at b)
          ∙ ap (λ (l : List ℕ). l ++ next_sender (entity_count f) rest) (sym (none_left (suc at) (omega arith)))

-- ---- a new line

-- names that pass are short
pub tested_short : (f : File) (k : ℕ) (m : List ℕ) → are_senders f k m ≡ true → ShortNames (decode_senders f k m)
unfolding decode_senders decode_sender
tested_short f zero m h = tt
tested_short f (suc k) m h =
    let p = senders_first f k m h in
    (name_short (part_name m) (part_passes f m p.part).name, tested_short f k (next_sender (entity_count f) m) p.later)

-- memory of bytes that stands for a state
module _ (print : ℕ) (f : File) (m : List ℕ) {s : State} (h : state_of print f m ≡ some s) (few : entity_count f ≤ 32) (l : STATE ≤ length m)
    (b : (i : ℕ) → get_or m i 0 < 256) (t : Stores) where
  abbrev n : ℕ
  n = entity_count f

  state_short : ShortNames s.senders
  state_short = rw (senders_there print f m h) at (tested_short f (known_count m) (senders_part n m) (senders_tested print f m h))

  -- with the stores of the next state
  abbrev pub stores_put : List ℕ
  stores_put = take 5 m ++ with_stores n t (stores_part m)

  pub stores_followed : stores_put ≡ with_state print f (with_new_stores t s) m
  unfolding with_state
  stores_followed =
      let rest = drop (image_size n (length s.senders)) m in
      ap (λ (m : List ℕ). take 5 m ++ with_stores n t (stores_part m)) (state_begins print f m h few l b) ∙ stores_over print f s t rest

  module _ (x : Sender) where
    abbrev at_place : ℕ
    at_place = place x.name s.senders

    abbrev followed_state : State
    followed_state = record { stores = t; senders = with_sender x s.senders }

    -- a line of a sender that is known
    pub known_followed : at_place < known_count m → put_sender f at_place x stores_put ≡ with_state print f followed_state m
    unfolding with_state
    known_followed a =
        let xs = s.senders in
        let known : at_place < length xs = rw (known_is print f m h) at a in
        ap (put_sender f at_place x) stores_followed
        ∙ known_put print f (with_new_stores t s) state_short x known (drop (image_size n (length xs)) m)
        ∙ ap (λ (k : ℕ). encode print f followed_state ++ drop (image_size n k) m) (sym (with_known_length x xs (below_known x.name xs known)))

    -- the first line of a sender
    pub new_followed : known_count m ≤ at_place → set (put_sender f at_place x stores_put) 4 (at_place + 1) ≡ with_state print f followed_state m
    unfolding with_state
    new_followed a =
        let xs = s.senders in
        let last : length xs ≤ at_place = rw (known_is print f m h) at a in
        ap (λ (l : List ℕ). set (put_sender f at_place x l) 4 (at_place + 1)) stores_followed
        ∙ new_put print f (with_new_stores t s) state_short x last (drop (image_size n (length xs)) m)
        ∙ ap (λ (l : List ℕ). encode print f followed_state ++ l)
        (drop-drop (sender_size n) (image_size n (length xs)) m
        ∙ ap (λ (k : ℕ). drop k m) (sym (image_next n (length xs)))
        ∙ ap (λ (k : ℕ). drop (image_size n k) m) (sym (with_new_length x xs (last_unknown x.name xs last))))

    -- both
    pub followed : (m₂ m₃ : List ℕ) → m₂ ≡ put_sender f at_place x stores_put → m₃ ≡ cond (ltb at_place (known_count m)) m₂ (set m₂ 4 (at_place + 1))
        → m₃ ≡ with_state print f followed_state m
    followed m₂ m₃ p q = q ∙ go (ltb at_place (known_count m)) refl
      where
        go : (v : Bool) → ltb at_place (known_count m) ≡ v → cond v m₂ (set m₂ 4 (at_place + 1)) ≡ with_state print f followed_state m
        go true e = p ∙ known_followed (ltb-true at_place (known_count m) e)
        go false e = ap (λ (l : List ℕ). set l 4 (at_place + 1)) p ∙ new_followed (ltb-false at_place (known_count m) e)
