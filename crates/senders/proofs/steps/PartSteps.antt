-- The senders' parts of a state image, as the code finds and tests them: one after another.
use Prim.Native.Nat.{ℕ, zero, suc, ◌+◌, ◌-◌, ◌*◌, ◌≤◌, ◌<◌}
use native.Mathlib.Nat.{suc-mul}
use native.Mathlib.Numerals.{add-one}
use native.Mathlib.Omega.{arith}
use mathlib.Core.Path.{◌≡◌, refl, sym, ap, ap₂, ◌∙◌}
use mathlib.Core.Bool.{Bool, true, false, not, ◌&&◌, true≢false}
use mathlib.Core.List.{List, ◌∷◌}
use lib.Dec.{eqb}
use lib.ListN.{length, get_or, take, drop, length-take, length-drop}
use lib.Seq.{drop-drop, drop-cons}
use Rattle.std.specs.List.{list_all}
use Rattle.std.specs.Prelude.{Option, Some, None, is_some, unwrap_or, IfSome}
use borrow.Author.Tests.{le-leb, lt-leb, lt-ltb}
use Rattle.values.specs.definitions.Bytes.{same_bytes, word_at}
use Rattle.values.proofs.laws.ByteLaws.{same_bytes_equal}
use Rattle.text.specs.definitions.Syntax.{File}
use Rattle.checking.specs.inner_contracts.DirectoryReads.{Few}
use Rattle.checking.specs.inner_contracts.Directory.{Bench}
use Rattle.cycles.specs.declared.planes.Plane.TheVariants.{Kept}
use Rattle.cycles.specs.definitions.Planes.{each, entity_count, kept_fits, plane_fits}
use Rattle.cycles.specs.inner_contracts.PlaneMemory.{fit_of, bound_of, PlaneTest}
use Rattle.cycles.proofs.laws.TableLaws.{word_drop}
use Rattle.cycles.proofs.laws.PlaneTestLaws.{behind, behind_all}
use Rattle.senders.specs.definitions.Sender.{is_sender, is_known_sender}
use Rattle.senders.specs.definitions.StateImage.{
  sender_size,
  part_name,
  part_number,
  next_sender,
  decode_sender,
  decode_senders,
  is_padded,
  is_sender_head,
  is_sender_part,
  are_senders,
}
use Rattle.senders.specs.inner_contracts.SenderMemory.{place, PlaceRead, PartTest, PartsTest}
use Rattle.senders.proofs.laws.SenderLaws.{below_known, last_unknown}
use Rattle.senders.proofs.laws.SenderImage.{part_passes}
use Rattle.senders.proofs.laws.StateLaws.{length_decoded}

-- ---- names

-- another length, another name
pub other_length : (part name : List ℕ) → 29 ≤ length part → length name ≤ 24 → (get_or part 0 0 ≡ length name → ⊥)
    → false ≡ same_bytes name (part_name part)
other_length part name l h d = go (same_bytes name (part_name part)) refl
  where
    go : (b : Bool) → same_bytes name (part_name part) ≡ b → false ≡ b
    go true e =
        let n = ap length (same_bytes_equal name (part_name part) e) ∙ length-take (get_or part 0 0) (drop 1 part) in
        let k = length-drop 1 part in
        absurd (d (omega arith))
    go false e = refl

-- ---- the place of a name

-- the parts before place i have other names
pub record PlacesPassed (parts : List ℕ) (size count : ℕ) (name : List ℕ) (at i : ℕ) : Type 0 where
  pub few : i ≤ count
  pub left : at + (count - i) * size ≡ count * size
  pub is : (f : File) → sender_size (entity_count f) ≡ size
      → i + place name (decode_senders f (count - i) (drop at parts)) ≡ place name (decode_senders f count parts)

-- one part of those that are left
pub one_part : (k size : ℕ) → 0 < k → k * size ≡ (k - 1) * size + size
one_part k size h =
    let n : k ≡ suc (k - 1) = omega arith in
    ap (λ (j : ℕ). j * size) n ∙ suc-mul (k - 1) size

module _ {parts : List ℕ} {size count : ℕ} {name : List ℕ} where
  pub places_begin : PlacesPassed parts size count name 0 0
  places_begin =
      let z : count - 0 ≡ count = omega arith in
      record {
        few = omega arith;
        left = rw z (omega arith);
        is = λ f e. rw z (omega arith);
      }

  module _ {at i : ℕ} (p : PlacesPassed parts size count name at i) where
    pub place_none : count ≤ i → PlaceRead parts size count name count
    unfolding place decode_senders
    place_none h = record {
      within = omega arith;
      is = λ f e.
          let z : count - i ≡ 0 = omega arith in
          let q = p.few in
          let n : count ≡ i + 0 = omega arith in
          n ∙ rw z at (p.is f e);
    }

    module _ (h : i < count) where
      module _ {r : Bool} (s : r ≡ same_bytes name (part_name (behind at parts))) where
        first_name : same_bytes name (part_name (drop at parts)) ≡ r
        first_name = ap (λ (l : List ℕ). same_bytes name (part_name l)) (sym (behind_all at parts)) ∙ sym s

        pub place_found : r ≡ true → PlaceRead parts size count name i
        unfolding place decode_senders decode_sender
        place_found t = record {
          within = omega arith;
          is = λ f e.
              let n : count - i ≡ suc (count - i - 1) = omega arith in
              let z : i ≡ i + 0 = omega arith in
              z ∙ rw (n, first_name, t) at (p.is f e);
        }

        pub places_go_on : r ≡ false → PlacesPassed parts size count name (at + size) (i + 1)
        unfolding place decode_senders decode_sender
        places_go_on t = record {
          few = omega arith;
          left =
              let a = p.left in
              let b = one_part (count - i) size (omega arith) in
              let k : count - (i + 1) ≡ count - i - 1 = omega arith in
              rw k (omega arith);
          is = λ f e.
              let n : count - i ≡ suc (count - (i + 1)) = omega arith in
              let m : drop size (drop at parts) ≡ drop (at + size) parts = drop-drop size at parts in
              let q = place name (decode_senders f (count - (i + 1)) (drop (at + size) parts)) in
              let z : i + 1 + q ≡ i + suc q = omega arith in
              z ∙ rw (n, first_name, t, e, m) at (p.is f e);
        }

-- a place that is found is one of the parts, and a place that is none is one after the last
pub found_below : (r : Option ℕ) {n : ℕ} → IfSome r (λ i. i < n) → is_some r ≡ true → unwrap_or r n ≡ n → ⊥
found_below None b t e = true≢false (sym t)
found_below (Some i) b t e = omega arith

pub none_last : (r : Option ℕ) {n : ℕ} → is_some r ≡ false → unwrap_or r n ≡ n
none_last None t = refl
none_last (Some i) t = absurd (true≢false t)

-- ---- one part

zeros_each : (part : List ℕ) (k i : ℕ) → i + 1 + k ≤ length part → list_all (λ b. eqb b 0) (take k (drop (i + 1) part)) ≡ each (λ j. eqb (get_or part (j + 1) 0) 0) i k
unfolding each
zeros_each part zero i h = refl
zeros_each part (suc k) i h =
    let next : drop (i + 1) part ≡ get_or part (i + 1) 0 ∷ drop (i + 1 + 1) part =
    drop-cons part (i + 1) 0 (omega arith) ∙ ap (λ (n : ℕ). get_or part (i + 1) 0 ∷ drop n part) (sym (add-one (i + 1))) in
    rw next
    (ap (λ (b : Bool). eqb (get_or part (i + 1) 0) 0 && b) (zeros_each part k (i + 1) (omega arith)))

pub zeros_padded : (part : List ℕ) → 25 ≤ length part → get_or part 0 0 ≤ 24
    → list_all (λ b. eqb b 0) (take (25 - (get_or part 0 0 + 1)) (drop (get_or part 0 0 + 1) part)) ≡ is_padded part
unfolding is_padded
zeros_padded part h l =
    let n : 25 - (get_or part 0 0 + 1) ≡ 24 - get_or part 0 0 = omega arith in
    rw n (zeros_each part (24 - get_or part 0 0) (get_or part 0 0) (omega arith))

module _ (part : List ℕ) where
  pub long_name : 24 < get_or part 0 0 → false ≡ is_sender_head part
  unfolding is_sender_head
  long_name h = rw (lt-leb (get_or part 0 0) 24 h)

  module _ (h : get_or part 0 0 ≤ 24) where
    pub no_sender : is_sender (part_name part) ≡ false → false ≡ is_sender_head part
    unfolding is_sender_head
    no_sender e = rw (le-leb (get_or part 0 0) 24 h, e)

    module _ (e : is_sender (part_name part) ≡ true) where
      pub not_padded : is_padded part ≡ false → false ≡ is_sender_head part
      unfolding is_sender_head
      not_padded q = rw (le-leb (get_or part 0 0) 24 h, e, q)

      pub head_number : is_padded part ≡ true → {r : ℕ} → r ≡ word_at 4 (behind 25 part) 0 → r < 4294967296 → not (eqb r 0) ≡ is_sender_head part
      unfolding is_sender_head
      head_number q {r} n l =
          let k : r ≡ part_number part = n ∙ ap (λ (l : List ℕ). word_at 4 l 0) (behind_all 25 part) ∙ word_drop 4 25 part 0 in
          rw (le-leb (get_or part 0 0) 24 h, e, q, ← k, lt-ltb r 4294967296 l) (go (not (eqb r 0)))
        where
          go : (b : Bool) → b ≡ (b && true)
          go true = refl
          go false = refl

module _ {classes d part : List ℕ} {r : Bool} (h : r ≡ is_sender_head part) where
  pub head_fails : r ≡ false → PartTest classes d part false
  unfolding is_sender_part
  head_fails t = record { is = λ text offsets lengths w c. rw (← h, t) }

  pub plane_says : r ≡ true → {x : Bool} → PlaneTest Kept classes d (behind 29 part) x → PartTest classes d part x
  unfolding is_sender_part bound_of fit_of
  plane_says t s = record {
    is = λ text offsets lengths w c.
        rw (← h, t) (s.is text offsets lengths w c ∙ ap (plane_fits 3 (λ present. kept_fits) w.file) (behind_all 29 part));
  }

-- ---- all parts

pub record PartsPassed (classes d parts : List ℕ) (size count at left : ℕ) : Type 0 where
  pub few : left ≤ count
  pub left_bytes : at + left * size ≡ count * size
  pub is : (text offsets lengths : List ℕ) (w : Bench text classes offsets lengths d) → Few w.file
      → are_senders w.file left (drop at parts) ≡ are_senders w.file count parts

module _ {classes d parts : List ℕ} {size count : ℕ} where
  pub parts_begin : PartsPassed classes d parts size count 0 count
  parts_begin = record { few = omega arith; left_bytes = omega arith; is = λ text offsets lengths w c. refl }

  module _ {at left : ℕ} (p : PartsPassed classes d parts size count at left) where
    pub parts_end : left ≤ 0 → PartsTest classes d parts count true
    unfolding are_senders
    parts_end h = record { is = λ text offsets lengths w c. let z : left ≡ 0 = omega arith in rw z at (p.is text offsets lengths w c) }

    module _ (h : 0 < left) where
      pub next_part_fits : at + size + (left - 1) * size ≡ count * size
      next_part_fits =
          let a = p.left_bytes in
          let b = one_part left size h in
          omega arith

      module _ {r : Bool} (s : PartTest classes d (behind at parts) r) where
        module _ (text offsets lengths : List ℕ) (w : Bench text classes offsets lengths d) (c : Few w.file) where
          first_part : is_sender_part w.file (drop at parts) ≡ r
          first_part = ap (is_sender_part w.file) (sym (behind_all at parts)) ∙ sym (s.is text offsets lengths w c)

          all_parts : {k : ℕ} → left ≡ suc k → are_senders w.file (suc k) (drop at parts) ≡ are_senders w.file count parts
          all_parts e = ap (λ (j : ℕ). are_senders w.file j (drop at parts)) (sym e) ∙ p.is text offsets lengths w c

        pub part_fails : r ≡ false → PartsTest classes d parts count false
        unfolding are_senders
        part_fails t = record {
          is = λ text offsets lengths w c.
              let n : left ≡ suc (left - 1) = omega arith in
              rw (first_part text offsets lengths w c, t) at (all_parts text offsets lengths w c n);
        }

        -- the name of a part that passes, among the parts after it
        module _ (t : r ≡ true) {n : ℕ} (e : n ≡ get_or d 1 0) (z : size ≡ 29 + 109 * n) {name : List ℕ}
            (g : get_or (behind at parts) 0 0 ≤ 24 → name ≡ part_name (behind at parts)) {x : ℕ}
            (q : PlaceRead (behind (at + size) parts) size (left - 1) name x) where
          module _ (text offsets lengths : List ℕ) (w : Bench text classes offsets lengths d) (c : Few w.file) where
            abbrev f : File
            f = w.file

            abbrev after : List ℕ
            after = drop (at + size) parts

            its_size : sender_size (entity_count f) ≡ size
            its_size = let k = e ∙ w.directory.entities in omega arith

            its_name : name ≡ part_name (drop at parts)
            its_name =
                g (part_passes f (behind at parts) (sym (s.is text offsets lengths w c) ∙ t)).size ∙ ap part_name (behind_all at parts)

            its_place : x ≡ place (part_name (drop at parts)) (decode_senders f (left - 1) after)
            its_place =
                q.is f its_size ∙ ap₂ (λ (y l : List ℕ). place y (decode_senders f (left - 1) l)) its_name (behind_all (at + size) parts)

            next_is : next_sender (entity_count f) (drop at parts) ≡ after
            next_is = ap (λ (k : ℕ). drop k (drop at parts)) its_size ∙ drop-drop size at parts

            known : (x ≡ left - 1 → ⊥) → is_known_sender (part_name (drop at parts)) (decode_senders f (left - 1) after) ≡ true
            known other =
                let xs = decode_senders f (left - 1) after in
                let l = length_decoded f (left - 1) after in
                let i = q.within in
                let u : x ≡ place (part_name (drop at parts)) xs = its_place in
                below_known (part_name (drop at parts)) xs (omega (arith, other))

            unknown : x ≡ left - 1 → is_known_sender (part_name (drop at parts)) (decode_senders f (left - 1) after) ≡ false
            unknown same =
                let xs = decode_senders f (left - 1) after in
                let l = length_decoded f (left - 1) after in
                let u : x ≡ place (part_name (drop at parts)) xs = its_place in
                last_unknown (part_name (drop at parts)) xs (omega arith)

          pub name_twice : (x ≡ left - 1 → ⊥) → PartsTest classes d parts count false
          unfolding are_senders
          name_twice other = record {
            is = λ text offsets lengths w c.
                let n : left ≡ suc (left - 1) = omega arith in
                rw (first_part text offsets lengths w c, t, next_is text offsets lengths w c, known text offsets lengths w c other)
                at (all_parts text offsets lengths w c n);
          }

          pub parts_go_on : x ≡ left - 1 → PartsPassed classes d parts size count (at + size) (left - 1)
          unfolding are_senders
          parts_go_on same = record {
            few = let a = p.few in omega arith;
            left_bytes = next_part_fits;
            is = λ text offsets lengths w c.
                let n : left ≡ suc (left - 1) = omega arith in
                rw (first_part text offsets lengths w c, t, next_is text offsets lengths w c, unknown text offsets lengths w c same)
                at (all_parts text offsets lengths w c n);
          }

-- what each test of a part's head says
pub ruleset head_read = (long_name, no_sender, not_padded, head_number)
