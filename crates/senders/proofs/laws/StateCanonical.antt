-- The state image is canonical: memory of bytes that stands for a state has the very bytes of that state's image; and where the parts of such memory stand.
use Prim.Native.Nat.{ℕ, zero, suc, ◌+◌, ◌*◌, ◌≤◌, ◌<◌}
use native.Mathlib.Nat.{suc-mul}
use native.Mathlib.Omega.{arith}
use mathlib.Core.Path.{◌≡◌, sym, ap, ap₂, ◌∙◌}
use mathlib.Core.Bool.{true}
use mathlib.Core.List.{List, [], ◌∷◌, ◌++◌}
use mathlib.Core.Option.{some}
use lib.ListN.{length, get_or, take, drop, get_elem?, length-drop}
use lib.Seq.{take-add, drop-drop}
use Rattle.values.specs.definitions.Bytes.{low_first}
use Rattle.text.specs.definitions.Syntax.{File}
use Rattle.text.proofs.laws.ListLaws.{some_injective}
use Rattle.cycles.specs.definitions.Planes.{stores_size, entity_count, encode_stores, decode_stores, are_stores}
use Rattle.cycles.proofs.laws.TableLaws.{begins_with}
use Rattle.cycles.proofs.laws.CanonicalLaws.{first_byte, word_bytes, bytes_behind, stores_canonical}
use Rattle.senders.specs.definitions.Sender.{Sender, State, unknown, kept}
use Rattle.senders.specs.definitions.StateImage.{sender_size, image_size, STATE, encode_senders, encode, stores_part, senders_part, known_count, next_sender, decode_sender, decode_senders, decode, is_sender_part, are_senders, state_of}
use Rattle.senders.specs.inner_contracts.SenderMemory.{place}
use Rattle.senders.proofs.laws.SenderLaws.{kept_unknown, kept_there, below_known, last_unknown}
use Rattle.senders.proofs.laws.SenderImage.{sender_canonical}
use Rattle.senders.proofs.laws.StateLaws.{
  image_fits,
  image_first,
  length_decoded,
  senders_first,
  is_decoded,
  state_passes,
  print_is,
}

-- ---- senders that pass, one after another

more_parts : (k z : ℕ) → suc k * z ≡ z + k * z
more_parts k z = rw (suc-mul k z) (omega arith)

pub senders_canonical : (f : File) (k : ℕ) (m : List ℕ) → k * sender_size (entity_count f) ≤ length m → ((i : ℕ) → get_or m i 0 < 256) → are_senders f k m ≡ true
    → take (k * sender_size (entity_count f)) m ≡ encode_senders f (decode_senders f k m)
unfolding encode_senders decode_senders
senders_canonical f zero m l b h = let z : 0 * sender_size (entity_count f) ≡ 0 = omega arith in rw z
senders_canonical f (suc k) m l b h =
    let size = sender_size (entity_count f) in
    let next = next_sender (entity_count f) m in
    let e = more_parts k size in
    let p = senders_first f k m h in
    let d = length-drop size m in
    ap (λ (i : ℕ). take i m) e
    ∙ take-add size (k * size) m
    ∙ ap₂ ◌++◌ (sender_canonical f m (omega arith) b p.part) (senders_canonical f k next (omega arith) (bytes_behind m b size) p.later)

-- the part at a place
module _ (f : File) where
  abbrev pub nth_part : ℕ → List ℕ → List ℕ
  nth_part j m = drop (j * sender_size (entity_count f)) m

  next_part : (j : ℕ) (m : List ℕ) → nth_part (suc j) m ≡ nth_part j (next_sender (entity_count f) m)
  next_part j m =
      let size = sender_size (entity_count f) in
      ap (λ (i : ℕ). drop i m) (more_parts j size) ∙ sym (drop-drop (j * size) size m)

  first_part : (m : List ℕ) → nth_part 0 m ≡ m
  first_part m = let z : 0 * sender_size (entity_count f) ≡ 0 = omega arith in rw z

  pub part_decoded : (k j : ℕ) (m : List ℕ) → j < k → get_elem? (decode_senders f k m) j ≡ some (decode_sender f (nth_part j m))
  unfolding decode_senders
  part_decoded zero j m h = absurd (omega arith)
  part_decoded (suc k) zero m h = ap (λ (l : List ℕ). some (decode_sender f l)) (sym (first_part m))
  part_decoded (suc k) (suc j) m h =
      part_decoded k j (next_sender (entity_count f) m) (omega arith) ∙ ap (λ (l : List ℕ). some (decode_sender f l)) (sym (next_part j m))

  pub part_tested : (k j : ℕ) (m : List ℕ) → j < k → are_senders f k m ≡ true → is_sender_part f (nth_part j m) ≡ true
  part_tested zero j m h t = absurd (omega arith)
  part_tested (suc k) zero m h t = ap (is_sender_part f) (first_part m) ∙ (senders_first f k m t).part
  part_tested (suc k) (suc j) m h t =
      ap (is_sender_part f) (next_part j m) ∙ part_tested k j (next_sender (entity_count f) m) (omega arith) (senders_first f k m t).later

  -- in a state's memory
  pub part_there : (j : ℕ) (m : List ℕ) → nth_part j (senders_part (entity_count f) m) ≡ drop (image_size (entity_count f) j) m
  part_there j m = drop-drop (j * sender_size (entity_count f)) (5 + stores_size (entity_count f)) m

  pub first_there : (m : List ℕ) → drop (image_size (entity_count f) 0) m ≡ senders_part (entity_count f) m
  first_there m = ap (λ (i : ℕ). drop i m) (image_first (entity_count f))

-- ---- where the parts of a state stand in memory

module _ (print : ℕ) (f : File) (m : List ℕ) {s : State} (h : state_of print f m ≡ some s) where
  abbrev n : ℕ
  n = entity_count f

  pub stores_there : decode_stores n (stores_part m) ≡ s.stores
  unfolding decode
  stores_there = ap (λ (s : State). s.stores) (sym (is_decoded print f m h))

  pub stores_tested : are_stores f (stores_part m) ≡ true
  stores_tested = (state_passes print f m h).stores

  pub senders_there : decode_senders f (known_count m) (senders_part n m) ≡ s.senders
  unfolding decode
  senders_there = ap (λ (s : State). s.senders) (sym (is_decoded print f m h))

  pub senders_tested : are_senders f (known_count m) (senders_part n m) ≡ true
  senders_tested = (state_passes print f m h).senders

  pub known_is : known_count m ≡ length s.senders
  known_is = sym (length_decoded f (known_count m) (senders_part n m)) ∙ ap length senders_there

  pub senders_from : decode_senders f (known_count m) (drop (image_size n 0) m) ≡ s.senders
  senders_from = ap (decode_senders f (known_count m)) (first_there f m) ∙ senders_there

  pub sender_tested : (j : ℕ) → j < known_count m → is_sender_part f (drop (image_size n j) m) ≡ true
  sender_tested j a = ap (is_sender_part f) (sym (part_there f j m)) ∙ part_tested f (known_count m) j (senders_part n m) a senders_tested

  pub sender_there : (j : ℕ) → j < known_count m → get_elem? s.senders j ≡ some (decode_sender f (drop (image_size n j) m))
  sender_there j a =
      ap (λ (xs : List Sender). get_elem? xs j) (sym senders_there)
      ∙ part_decoded f (known_count m) j (senders_part n m) a
      ∙ ap (λ (l : List ℕ). some (decode_sender f l)) (part_there f j m)

  -- what is kept of a sender that is known stands at its place
  pub kept_stands : (name : List ℕ) → place name s.senders < known_count m
      → kept name s.senders ≡ decode_sender f (drop (image_size n (place name s.senders)) m)
  kept_stands name a =
      some_injective (sym (kept_there name s.senders (below_known name s.senders (rw (← known_is) a))) ∙ sender_there (place name s.senders) a)

  -- of one that is not known there is nothing
  pub unknown_stands : (name : List ℕ) → known_count m ≤ place name s.senders → kept name s.senders ≡ unknown name
  unknown_stands name a = kept_unknown name s.senders (last_unknown name s.senders (rw (← known_is) a))

  -- ---- memory of bytes

  module _ (few : n ≤ 32) (l : STATE ≤ length m) (b : (i : ℕ) → get_or m i 0 < 256) where
    front : take 5 m ≡ low_first 4 print ++ known_count m ∷ []
    front =
        take-add 4 1 m
        ∙ ap₂ ◌++◌ (sym (word_bytes 4 m 0 (omega arith) b) ∙ ap (low_first 4) (print_is print f m h)) (first_byte 0 m 4 (omega arith))

    pub state_canonical : take (image_size n (length s.senders)) m ≡ encode print f s
    unfolding encode
    state_canonical =
        let k = known_count m in
        let e = (state_passes print f m h).few in
        let size = stores_size n in
        let fits = image_fits n k few e in
        let d = length-drop 5 m in
        let d₂ = length-drop (5 + size) m in
        ap (λ (i : ℕ). take (image_size n i) m) (sym known_is)
        ∙ take-add (5 + size) (k * sender_size n) m
        ∙ ap₂ ◌++◌
        (take-add 5 size m
        ∙ ap₂ ◌++◌ front
        (stores_canonical f (stores_part m) (omega arith) (bytes_behind m b 5) stores_tested ∙ ap (encode_stores n) stores_there)
        ∙ ap (λ (i : ℕ). low_first 4 print ++ i ∷ encode_stores n s.stores) known_is)
        (senders_canonical f k (senders_part n m) (omega arith) (bytes_behind m b (5 + size)) senders_tested ∙ ap (encode_senders f) senders_there)

    pub state_begins : m ≡ encode print f s ++ drop (image_size n (length s.senders)) m
    state_begins = begins_with m (encode print f s) (image_size n (length s.senders)) state_canonical
