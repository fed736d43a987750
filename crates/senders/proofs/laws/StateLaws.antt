-- The state image: a sound state that is written is read back, no byte is added, and what memory stands for is a sound state.
use Prim.Native.Nat.{ℕ, zero, suc, ◌+◌, ◌*◌, ◌≤◌, ◌<◌}
use native.Mathlib.Nat.{suc-mul, mul-le-mul}
use native.Mathlib.Omega.{arith}
use mathlib.Core.Path.{◌≡◌, refl, sym, ap, ap₂, ◌∙◌, subst}
use mathlib.Core.Bool.{Bool, true, false, not, cond, ◌&&◌}
use mathlib.Core.List.{List, [], ◌∷◌, ◌++◌, append_assoc}
use mathlib.Core.Option.{none, some}
use lib.Dec.{T, leb, eqb, leb→le, eqb→eq}
use lib.Ieee.Bits.{is_true}
use lib.Ieee.Fits.{and_l, and_r}
use lib.ListN.{length, get_or, drop, get_elem?, length-append, length-drop}
use borrow.Author.Tests.{le-leb, eq-eqb, not-true}
use Rattle.values.specs.definitions.Bytes.{same_bytes, word_at, low_first}
use Rattle.values.proofs.laws.ByteLaws.{same_bytes_equal}
use Rattle.text.specs.definitions.Syntax.{File}
use Rattle.text.proofs.laws.ListLaws.{none_some, some_injective}
use Rattle.checking.specs.definitions.Scope.{is_found}
use Rattle.checking.proofs.laws.WithinCounts.{WithinCounts}
use Rattle.cycles.specs.definitions.Planes.{stores_size, entity_count, encode_stores, decode_stores, are_stores}
use Rattle.cycles.proofs.laws.TableLaws.{word_low_first, part_after}
use Rattle.cycles.proofs.laws.PlaneParts.{length_encode_stores}
use Rattle.cycles.proofs.laws.PlaneLaws.{stores_pass, stores_read, stores_sound}
use Rattle.senders.specs.definitions.Sender.{Sender, State, MOST_NAME_BYTES, sender_named, is_known_sender, kept, with_sender, MOST_SENDERS}
use Rattle.senders.specs.definitions.SoundState.{SoundSender, SoundSenders, SoundState}
use Rattle.senders.specs.definitions.StateImage.{
  sender_size,
  image_size,
  STATE,
  encode_sender,
  encode_senders,
  encode,
  stores_part,
  senders_part,
  known_count,
  part_name,
  next_sender,
  decode_sender,
  decode_senders,
  decode,
  is_sender_part,
  are_senders,
  is_state,
  state_of,
  with_state,
}
use Rattle.senders.specs.inner_contracts.SenderMemory.{place}
use Rattle.senders.proofs.laws.SenderLaws.{
  same_bytes_turned,
  name_short,
  unknown_last,
  kept_there,
  with_known_length,
  with_new_length,
  known_other,
}
use Rattle.senders.proofs.laws.SenderImage.{length_encode_sender, at_next, name_back, sender_read, sender_passes, sender_sound}

-- ---- sizes

-- the stated size has room for every image
pub image_fits : (n k : ℕ) → n ≤ 32 → k ≤ MOST_SENDERS → image_size n k ≤ STATE
image_fits n k a b =
    let c : sender_size n ≤ sender_size 32 = omega arith in
    let d = mul-le-mul b c in
    omega arith

-- no sender, and one sender more
pub image_first : (n : ℕ) → image_size n 0 ≡ 5 + stores_size n
image_first n = omega arith

pub image_next : (n k : ℕ) → image_size n (suc k) ≡ image_size n k + sender_size n
image_next n k = let a = suc-mul k (sender_size n) in omega arith

-- the part at each place
pub part_room : {n at part : ℕ} → part ≡ image_size n at → n ≤ 32 → at < MOST_SENDERS → part + sender_size n ≤ STATE
part_room {n} {at} e few room =
    let a = image_fits n (suc at) few (omega arith) in
    let b = image_next n at in
    omega arith

-- ---- sound senders

module _ (f : File) where
  pub sound_at : (xs : List Sender) → SoundSenders f xs → (j : ℕ) {x : Sender} → get_elem? xs j ≡ some x → SoundSender f x
  sound_at [] h j e = absurd (none_some e)
  sound_at (y ∷ ys) h zero e = subst (SoundSender f) (some_injective e) h.0
  sound_at (y ∷ ys) h (suc j) e = sound_at ys h.2 j e

  pub sound_kept : (n : List ℕ) (xs : List Sender) → SoundSenders f xs → is_known_sender n xs ≡ true → SoundSender f (kept n xs)
  sound_kept n xs h k = sound_at xs h (place n xs) (kept_there n xs k)

  -- with an entry more, or another one
  pub with_sender_sound : (x : Sender) → SoundSender f x → (xs : List Sender) → SoundSenders f xs → SoundSenders f (with_sender x xs)
  unfolding with_sender is_known_sender is_found sender_named
  with_sender_sound x g [] h = (g, refl, tt)
  with_sender_sound x g (y ∷ ys) h = go (same_bytes x.name y.name) refl (with_sender_sound x g ys h.2)
    where
      go : (t : Bool) → same_bytes x.name y.name ≡ t → SoundSenders f (with_sender x ys) → SoundSenders f (cond t (x ∷ ys) (y ∷ with_sender x ys))
      go true e later = (g, ap (λ (n : List ℕ). is_known_sender n ys) (same_bytes_equal x.name y.name e) ∙ h.1, h.2)
      go false e later = (h.0, known_other y.name x ys (same_bytes_turned y.name x.name ∙ e) ∙ h.1, later)

  -- there is a place for it
  pub with_sender_few : (x : Sender) (xs : List Sender) → place x.name xs < MOST_SENDERS → length xs ≤ MOST_SENDERS
      → length (with_sender x xs) ≤ MOST_SENDERS
  with_sender_few x xs a b = go (is_known_sender x.name xs) refl
    where
      go : (t : Bool) → is_known_sender x.name xs ≡ t → length (with_sender x xs) ≤ MOST_SENDERS
      go true e = let c = with_known_length x xs e in omega arith
      go false e = let c = with_new_length x xs e in let d = unknown_last x.name xs e in omega arith

-- ---- the senders' parts, as they are written

-- names that their places have room for
abbrev pub ShortNames : List Sender → Type 0
ShortNames [] = Unit {0}
ShortNames (x ∷ xs) = (length x.name ≤ MOST_NAME_BYTES) × ShortNames xs

pub sound_short : (f : File) (xs : List Sender) → SoundSenders f xs → ShortNames xs
sound_short f [] h = tt
sound_short f (x ∷ xs) h = (name_short x.name h.0.name, sound_short f xs h.2)

pub senders_begin : (f : File) (x : Sender) (xs : List Sender) (rest : List ℕ)
    → encode_senders f (x ∷ xs) ++ rest ≡ encode_sender f x ++ (encode_senders f xs ++ rest)
unfolding encode_senders
senders_begin f x xs rest = append_assoc (encode_sender f x) (encode_senders f xs) rest

pub length_encode_senders : (f : File) (xs : List Sender) → ShortNames xs → length (encode_senders f xs) ≡ length xs * sender_size (entity_count f)
unfolding encode_senders
length_encode_senders f [] h = omega arith
length_encode_senders f (x ∷ xs) h =
    let z = sender_size (entity_count f) in
    length-append (encode_sender f x) (encode_senders f xs)
    ∙ ap₂ ◌+◌ (length_encode_sender f x h.0) (length_encode_senders f xs h.1)
    ∙ more (length xs) z
  where
    more : (k z : ℕ) → z + k * z ≡ suc k * z
    more k z = rw (suc-mul k z) (omega arith)

-- a part that passes, of a name that the parts after it have not, and those pass
pub senders_more : (f : File) (k : ℕ) (m : List ℕ) → is_sender_part f m ≡ true
    → is_known_sender (part_name m) (decode_senders f k (next_sender (entity_count f) m)) ≡ false → are_senders f k (next_sender (entity_count f) m) ≡ true
    → are_senders f (suc k) m ≡ true
unfolding are_senders
senders_more f k m = all_pass (is_sender_part f m) (is_known_sender (part_name m) (decode_senders f k next)) (are_senders f k next)
  where
    next : List ℕ
    next = next_sender (entity_count f) m

    all_pass : (a b c : Bool) → a ≡ true → b ≡ false → c ≡ true → (a && (not b && c)) ≡ true
    all_pass a b c p q r = rw (p, q, r)

module _ (f : File) (w : WithinCounts f) where
  pub senders_read : (xs : List Sender) → SoundSenders f xs → (rest : List ℕ) → decode_senders f (length xs) (encode_senders f xs ++ rest) ≡ xs
  unfolding decode_senders
  senders_read [] h rest = refl
  senders_read (x ∷ xs) h rest =
      let tail = encode_senders f xs ++ rest in
      rw (senders_begin f x xs rest, at_next f x (name_short x.name h.0.name) tail)
      (ap₂ (λ (y : Sender) (ys : List Sender). y ∷ ys) (sender_read f w x h.0 tail) (senders_read xs h.2 rest))

  pub senders_pass : (xs : List Sender) → SoundSenders f xs → (rest : List ℕ) → are_senders f (length xs) (encode_senders f xs ++ rest) ≡ true
  unfolding are_senders
  senders_pass [] h rest = refl
  senders_pass (x ∷ xs) h rest =
      let tail = encode_senders f xs ++ rest in
      let short = name_short x.name h.0.name in
      let next = at_next f x short tail in
      ap (are_senders f (suc (length xs))) (senders_begin f x xs rest)
      ∙ senders_more f (length xs) (encode_sender f x ++ tail) (sender_passes f w x h.0 tail)
      (ap₂ is_known_sender (name_back f x short tail) (ap (decode_senders f (length xs)) next ∙ senders_read xs h.2 rest) ∙ h.1)
      (ap (are_senders f (length xs)) next ∙ senders_pass xs h.2 rest)

-- ---- the image, as it is written

module _ (print : ℕ) (f : File) (s : State) where
  pub length_encode : ShortNames s.senders → length (encode print f s) ≡ image_size (entity_count f) (length s.senders)
  unfolding encode
  length_encode h =
      let stores = encode_stores (entity_count f) s.stores in
      let senders = encode_senders f s.senders in
      let a = length_encode_stores (entity_count f) s.stores in
      let b = length_encode_senders f s.senders h in
      length-append (low_first 4 print ++ length s.senders ∷ stores) senders ∙ omega arith

  module _ (rest : List ℕ) where
    abbrev pub from_senders : List ℕ
    from_senders = encode_senders f s.senders ++ rest

    abbrev pub from_stores : List ℕ
    from_stores = encode_stores (entity_count f) s.stores ++ from_senders

    abbrev image : List ℕ
    image = encode print f s ++ rest

    -- the fingerprint, how many senders are known, the stores, the senders
    pub image_begins : image ≡ low_first 4 print ++ (length s.senders ∷ from_stores)
    unfolding encode
    image_begins =
        let stores = encode_stores (entity_count f) s.stores in
        append_assoc (low_first 4 print ++ length s.senders ∷ stores) (encode_senders f s.senders) rest

    pub at_stores : stores_part image ≡ from_stores
    at_stores = ap (drop 5) image_begins

    pub at_senders : senders_part (entity_count f) image ≡ from_senders
    at_senders =
        part_after image (encode_stores (entity_count f) s.stores) from_senders 5 (stores_size (entity_count f)) (5 + stores_size (entity_count f))
        at_stores (length_encode_stores (entity_count f) s.stores) refl

    pub count_read : known_count image ≡ length s.senders
    count_read = ap (λ (l : List ℕ). get_or l 4 0) image_begins

    pub print_read : print < 4294967296 → word_at 4 image 0 ≡ print
    print_read b = ap (λ (l : List ℕ). word_at 4 l 0) image_begins ∙ word_low_first 4 print (length s.senders ∷ from_stores) (omega arith)

-- the tests of an image, one by one
pub record StatePasses (print : ℕ) (f : File) (m : List ℕ) : Type 0 where
  pub print_is : word_at 4 m 0 ≡ print
  pub few : known_count m ≤ MOST_SENDERS
  pub stores : are_stores f (stores_part m) ≡ true
  pub senders : are_senders f (known_count m) (senders_part (entity_count f) m) ≡ true

pub passes_is_state : (print : ℕ) (f : File) (m : List ℕ) → StatePasses print f m → is_state print f m ≡ true
unfolding is_state
passes_is_state print f m p =
    all_pass (eqb (word_at 4 m 0) print) (leb (known_count m) MOST_SENDERS) (are_stores f (stores_part m))
    (are_senders f (known_count m) (senders_part (entity_count f) m)) (eq-eqb (word_at 4 m 0) print p.print_is)
    (le-leb (known_count m) MOST_SENDERS p.few) p.stores p.senders
  where
    all_pass : (a b c d : Bool) → a ≡ true → b ≡ true → c ≡ true → d ≡ true → (a && (b && (c && d))) ≡ true
    all_pass a b c d p q r t = rw (p, q, r, t)

pub is_state_passes : (print : ℕ) (f : File) (m : List ℕ) → is_state print f m ≡ true → StatePasses print f m
unfolding is_state
is_state_passes print f m h =
    let a = eqb (word_at 4 m 0) print in
    let b = leb (known_count m) MOST_SENDERS in
    let c = are_stores f (stores_part m) in
    let d = are_senders f (known_count m) (senders_part (entity_count f) m) in
    let t : T (a && (b && (c && d))) = rw h tt in
    let t₁ = and_r a (b && (c && d)) t in
    let t₂ = and_r b (c && d) t₁ in
    record {
      print_is = eqb→eq (word_at 4 m 0) print (and_l a (b && (c && d)) t);
      few = leb→le (known_count m) MOST_SENDERS (and_l b (c && d) t₁);
      stores = is_true c (and_l c d t₂);
      senders = is_true d (and_r c d t₂);
    }

-- ---- writing

pub state_written_length : (f : File) → WithinCounts f → (print : ℕ) (s : State) → SoundState f s → (m : List ℕ) → STATE ≤ length m
    → length (with_state print f s m) ≡ length m
unfolding with_state
state_written_length f w print s h m b =
    let size = image_size (entity_count f) (length s.senders) in
    let a = length-append (encode print f s) (drop size m) in
    let c = length_encode print f s (sound_short f s.senders h.senders) in
    let d = length-drop size m in
    let e = image_fits (entity_count f) (length s.senders) w.entities h.few in
    omega arith

module _ (f : File) (w : WithinCounts f) (print : ℕ) (s : State) (h : SoundState f s) (rest : List ℕ) where
  abbrev memory : List ℕ
  memory = encode print f s ++ rest

  image_read : decode f memory ≡ s
  unfolding decode
  image_read = λ i. record {
    stores = (ap (decode_stores (entity_count f)) (at_stores print f s rest)
        ∙ stores_read f s.stores h.stores (from_senders print f s rest) w) i;
    senders = (ap₂ (decode_senders f) (count_read print f s rest) (at_senders print f s rest) ∙ senders_read f w s.senders h.senders rest) i;
  }

  image_passes : print < 4294967296 → is_state print f memory ≡ true
  image_passes b = passes_is_state print f memory (record {
    print_is = print_read print f s rest b;
    few = rw (count_read print f s rest) h.few;
    stores = ap (are_stores f) (at_stores print f s rest) ∙ stores_pass f s.stores h.stores (from_senders print f s rest);
    senders = ap₂ (are_senders f) (count_read print f s rest) (at_senders print f s rest) ∙ senders_pass f w s.senders h.senders rest;
  })

-- ---- what memory stands for

module _ (print : ℕ) (f : File) (m : List ℕ) where
  pub state_decoded : is_state print f m ≡ true → state_of print f m ≡ some (decode f m)
  unfolding state_of
  state_decoded h = rw (h, state_of)

  pub no_state : is_state print f m ≡ false → state_of print f m ≡ none
  unfolding state_of
  no_state h = rw (h, state_of)

  module _ {s : State} (h : state_of print f m ≡ some s) where
    pub is_there : is_state print f m ≡ true
    is_there = go (is_state print f m) refl
      where
        go : (t : Bool) → is_state print f m ≡ t → t ≡ true
        go true e = refl
        go false e = absurd (none_some (sym (no_state e) ∙ h))

    pub is_decoded : s ≡ decode f m
    is_decoded = some_injective (sym h ∙ state_decoded is_there)

    pub state_passes : StatePasses print f m
    state_passes = is_state_passes print f m is_there

    pub print_is : word_at 4 m 0 ≡ print
    print_is = state_passes.print_is

-- an image with anything after it
pub image_stands : (f : File) → WithinCounts f → (print : ℕ) → print < 4294967296 → (s : State) → SoundState f s → (rest : List ℕ)
    → state_of print f (encode print f s ++ rest) ≡ some s
image_stands f w print b s h rest =
    state_decoded print f (encode print f s ++ rest) (image_passes f w print s h rest b) ∙ ap some (image_read f w print s h rest)

pub state_written : (f : File) → WithinCounts f → (print : ℕ) → print < 4294967296 → (s : State) → SoundState f s → (m : List ℕ)
    → state_of print f (with_state print f s m) ≡ some s
unfolding with_state
state_written f w print b s h m = image_stands f w print b s h (drop (image_size (entity_count f) (length s.senders)) m)

-- ---- what memory stands for is sound

pub length_decoded : (f : File) (k : ℕ) (m : List ℕ) → length (decode_senders f k m) ≡ k
unfolding decode_senders
length_decoded f zero m = refl
length_decoded f (suc k) m = ap suc (length_decoded f k (next_sender (entity_count f) m))

pub record SendersPass (f : File) (k : ℕ) (m : List ℕ) : Type 0 where
  pub part : is_sender_part f m ≡ true
  pub other : is_known_sender (part_name m) (decode_senders f k (next_sender (entity_count f) m)) ≡ false
  pub later : are_senders f k (next_sender (entity_count f) m) ≡ true

-- the first of senders that pass, and the others
pub senders_first : (f : File) (k : ℕ) (m : List ℕ) → are_senders f (suc k) m ≡ true → SendersPass f k m
unfolding are_senders
senders_first f k m h =
    let next = next_sender (entity_count f) m in
    let a = is_sender_part f m in
    let b = is_known_sender (part_name m) (decode_senders f k next) in
    let c = are_senders f k next in
    let t : T (a && (not b && c)) = rw h tt in
    let t₁ = and_r a (not b && c) t in
    record {
      part = is_true a (and_l a (not b && c) t);
      other = not-true b (is_true (not b) (and_l (not b) c t₁));
      later = is_true c (and_r (not b) c t₁);
    }

pub senders_sound : (f : File) → WithinCounts f → (k : ℕ) (m : List ℕ) → are_senders f k m ≡ true → SoundSenders f (decode_senders f k m)
unfolding decode_senders decode_sender
senders_sound f w zero m h = tt
senders_sound f w (suc k) m h =
    let p = senders_first f k m h in
    (sender_sound f w m p.part, p.other, senders_sound f w k (next_sender (entity_count f) m) p.later)

decoded_sound : (print : ℕ) (f : File) → WithinCounts f → (m : List ℕ) → StatePasses print f m → SoundState f (decode f m)
unfolding decode
decoded_sound print f w m p = record {
  stores = stores_sound f w (stores_part m) p.stores;
  few = rw (length_decoded f (known_count m) (senders_part (entity_count f) m)) p.few;
  senders = senders_sound f w (known_count m) (senders_part (entity_count f) m) p.senders;
}

pub state_decoded_sound : (f : File) → WithinCounts f → (print : ℕ) (m : List ℕ) (s : State) → state_of print f m ≡ some s → SoundState f s
state_decoded_sound f w print m s h =
    subst (SoundState f) (sym (is_decoded print f m h)) (decoded_sound print f w m (state_passes print f m h))
