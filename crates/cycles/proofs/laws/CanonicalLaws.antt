-- Planes are canonical: memory of bytes that passes the tests of a plane has, flag by flag and cell by cell, the bytes of what it stands for. Said of
-- planes of any pieces, and of the planes of stores.
use Prim.Native.Nat.{ℕ, zero, suc, ◌+◌, ◌*◌, ◌/◌, ◌%◌, ◌≤◌, ◌<◌}
use native.Mathlib.Nat.{suc-mul}
use native.Mathlib.Numerals.{add-one}
use native.Mathlib.Omega.{arith}
use mathlib.Core.Path.{◌≡◌, refl, sym, ap, ap₂, ◌∙◌}
use mathlib.Core.Bool.{Bool, true, false, cond, ◌&&◌, ◌||◌, false≢true}
use mathlib.Core.List.{List, [], ◌∷◌, ◌++◌}
use mathlib.Core.Option.{Option, none, some}
use lib.Dec.{T, ltb, eqb, ltb→lt, eqb→eq}
use lib.IntN.{sub_ℕ}
use lib.Ieee.{Float, nan, inf, fin, binary64, of_bits, is_nan}
use lib.Ieee.Bits.{is_true, to_bits-of_bits}
use lib.Ieee.Fits.{and_l, and_r}
use lib.ListN.{length, get_or, take, drop, length-drop}
use lib.Seq.{drop-cons, take-add, drop-drop, get_or-drop}
use borrow.Author.Tests.{lt-ltb, ltb-true, ltb-false, eqb-true, eqb-false}
use Rattle.values.specs.declared.Value.TheVariants.{Truth, Unset}
use Rattle.values.specs.declared.Kind.{Kind}
use Rattle.values.specs.declared.Kind.TheVariants.{Wholes, Bools, Reals}
use Rattle.values.specs.definitions.Value.{is_finite}
use Rattle.values.specs.definitions.Bytes.{word_at, low_first}
use Rattle.values.specs.definitions.Cells.{tag, payload, raised, unpacked, finite_bits, cell_bytes}
use Rattle.values.proofs.laws.RealLaws.{finite_of_bits}
use Rattle.text.specs.definitions.Syntax.{Sort, attribute, event, action, Member, File}
use Rattle.checking.specs.definitions.Scope.{member_of, is_attribute, is_action}
use Rattle.cycles.specs.definitions.Cycle.{is_sort}
use Rattle.cycles.specs.definitions.Planes.{plane_size, stores_size, table, presence_flag, presence_of, input_bytes, input_of, entity_count, cells_of, next_plane, encode_store, encode_stores, decode_store, decode_stores, flags_below, is_unset_cell, is_set_cell, is_value_cell, is_blank_cell, store_fits, kept_fits, cells_fit, plane_fits, are_stores}
use Rattle.cycles.proofs.laws.TableLaws.{each_at}
use Rattle.cycles.proofs.laws.CellFits.{no_blank, kept_attribute, kept_event, kept_action}
use Rattle.cycles.proofs.laws.PlaneParts.{flag_piece, cell_piece, plane}
use Rattle.cycles.proofs.laws.PlaneLaws.{plane_flags_below, plane_cells_fit, are_stores_passes}

-- ---- memory as a table

-- memory from piece i on, where each piece has its bytes
pub memory_table : (piece : ℕ → List ℕ) (size : ℕ) (l : List ℕ) (i k : ℕ) → ((j : ℕ) → i ≤ j → j < i + k → piece j ≡ take size (drop (j * size) l))
    → table piece i k ≡ take (k * size) (drop (i * size) l)
unfolding table
memory_table piece size l i zero h = let z : 0 * size ≡ 0 = omega arith in rw z
memory_table piece size l i (suc k) h =
    let n : suc k * size ≡ size + k * size = suc-mul k size ∙ omega arith in
    let m : i * size + size ≡ (i + 1) * size = sym (ap (λ (j : ℕ). j * size) (add-one i) ∙ suc-mul i size) in
    ap₂ ◌++◌ (h i (omega arith) (omega arith)) (memory_table piece size l (i + 1) k (λ j a b. h j (omega arith) (omega arith)))
    ∙ sym (ap (λ (j : ℕ). take j (drop (i * size) l)) n
    ∙ take-add size (k * size) (drop (i * size) l)
    ∙ ap (λ (x : List ℕ). take size (drop (i * size) l) ++ take (k * size) x) (drop-drop size (i * size) l ∙ ap (λ (j : ℕ). drop j l) m))

-- a byte, and those after it
pub first_byte : (n : ℕ) (l : List ℕ) (at : ℕ) → at < length l → take (suc n) (drop at l) ≡ get_or l at 0 ∷ take n (drop (at + 1) l)
first_byte n l at h = rw (drop-cons l at 0 h, add-one at)

-- the bytes of a number
pub word_bytes : (n : ℕ) (l : List ℕ) (at : ℕ) → at + n ≤ length l → ((k : ℕ) → get_or l k 0 < 256) → low_first n (word_at n l at) ≡ take n (drop at l)
word_bytes zero l at h b = refl
word_bytes (suc n) l at h b =
    let low = b at in
    let w = word_at n l (at + 1) in
    let p : (get_or l at 0 + 256 * w) % 256 ≡ get_or l at 0 = omega arith in
    let q : (get_or l at 0 + 256 * w) / 256 ≡ w = omega arith in
    ap₂ ◌∷◌ p (ap (low_first n) q ∙ word_bytes n l (at + 1) (omega arith) b) ∙ sym (first_byte n l at (omega arith))

-- ---- a cell that passes has its value's bytes

raised_lowered : (w : ℕ) → w < 4294967296 → raised (sub_ℕ w 2147483648) ≡ w
raised_lowered w h = go (ltb w 2147483648) refl
  where
    go : (t : Bool) → ltb w 2147483648 ≡ t → raised (sub_ℕ w 2147483648) ≡ w
    go true e = let b = ltb-true w 2147483648 e in rw e (omega arith)
    go false e = let b = ltb-false w 2147483648 e in rw e (omega arith)

finite_not_nan : (x : Float) → is_finite x ≡ true → is_nan x ≡ false
unfolding is_nan
finite_not_nan nan h = absurd (false≢true h)
finite_not_nan (inf s) h = refl
finite_not_nan (fin s m e) h = refl

set_packed : (k : Kind) (t w : ℕ) → T (is_set_cell k t w) → (tag (unpacked t w) ≡ t) × (payload (unpacked t w) ≡ w)
unfolding is_set_cell unpacked
set_packed Wholes t w h =
    let p = eqb→eq t 1 (and_l (eqb t 1) (ltb w 4294967296) h) in
    let g = and_r (eqb t 1) (ltb w 4294967296) h in
    rw (p, is_true (ltb w 4294967296) g) (refl, raised_lowered w (ltb→lt w 4294967296 g))
set_packed Bools t w h =
    rw (eqb→eq t 2 (and_l (eqb t 2) (ltb w 2) h)) (go (eqb w 0) refl (eqb w 1) refl (ltb→lt w 2 (and_r (eqb t 2) (ltb w 2) h)))
  where
    go : (a : Bool) → eqb w 0 ≡ a → (b : Bool) → eqb w 1 ≡ b → w < 2
        → (tag (cond a (Truth false) (cond b (Truth true) Unset)) ≡ 2) × (payload (cond a (Truth false) (cond b (Truth true) Unset)) ≡ w)
    go true p b q low = (refl, sym (eqb-true w 0 p))
    go false p true q low = (refl, sym (eqb-true w 1 q))
    go false p false q low = let x : w ≡ 0 → ⊥ = eqb-false w 0 p in let y : w ≡ 1 → ⊥ = eqb-false w 1 q in absurd (omega arith)
set_packed Reals t w h =
    let below = ltb w 18446744073709551616 in
    let g = and_r (eqb t 3) (below && finite_bits w) h in
    let f = is_true (finite_bits w) (and_r below (finite_bits w) g) in
    let n = finite_not_nan (of_bits binary64 w) (finite_of_bits w ∙ f) in
    rw (eqb→eq t 3 (and_l (eqb t 3) (below && finite_bits w) h), f, n)
    (refl, to_bits-of_bits binary64 w (ltb→lt w 18446744073709551616 (and_l below (finite_bits w) g)) (rw n tt))

unset_packed : (t w : ℕ) → T (is_unset_cell t w) → (tag (unpacked t w) ≡ t) × (payload (unpacked t w) ≡ w)
unfolding is_unset_cell unpacked
unset_packed t w u = rw (eqb→eq t 0 (and_l (eqb t 0) (eqb w 0) u), eqb→eq w 0 (and_r (eqb t 0) (eqb w 0) u)) (refl, refl)

pub value_packed : (k : Kind) (t w : ℕ) → T (is_value_cell k t w) → (tag (unpacked t w) ≡ t) × (payload (unpacked t w) ≡ w)
unfolding is_value_cell
value_packed k t w h = go (is_unset_cell t w) refl h
  where
    go : (b : Bool) → is_unset_cell t w ≡ b → T (b || is_set_cell k t w) → (tag (unpacked t w) ≡ t) × (payload (unpacked t w) ≡ w)
    go true e g = unset_packed t w (rw e tt)
    go false e g = set_packed k t w g

-- the bytes of a value whose tag and payload these are
packed_bytes : (t w : ℕ) → (tag (unpacked t w) ≡ t) × (payload (unpacked t w) ≡ w) → cell_bytes (unpacked t w) ≡ t ∷ low_first 8 w
packed_bytes t w (p, q) = ap₂ (λ (i j : ℕ). i ∷ low_first 8 j) p q

-- a store's cell
pub store_packed : (must_be_set : Bool) (o : Option Member) (t w : ℕ) → T (store_fits must_be_set o t w) → cell_bytes (unpacked t w) ≡ t ∷ low_first 8 w
unfolding store_fits
store_packed must_be_set none t w h = packed_bytes t w (unset_packed t w h)
store_packed must_be_set (some x) t w h = go (must_be_set && is_attribute x.sort) h
  where
    go : (b : Bool) → T (cond b (is_set_cell x.kind t w) (is_value_cell x.kind t w)) → cell_bytes (unpacked t w) ≡ t ∷ low_first 8 w
    go true g = packed_bytes t w (set_packed x.kind t w g)
    go false g = packed_bytes t w (value_packed x.kind t w g)

-- ---- a cell that is kept of a line, likewise

pub blank_bytes : (t w : ℕ) → T (is_blank_cell t w) → input_bytes none ≡ t ∷ low_first 8 w
unfolding is_blank_cell
blank_bytes t w h = rw (eqb→eq t 4 (and_l (eqb t 4) (eqb w 0) h), eqb→eq w 0 (and_r (eqb t 4) (eqb w 0) h))

pub blank_packed : (t w : ℕ) → T (is_blank_cell t w) → input_bytes (input_of t w) ≡ t ∷ low_first 8 w
unfolding is_blank_cell
blank_packed t w h = rw (eqb→eq t 4 (and_l (eqb t 4) (eqb w 0) h), eqb→eq w 0 (and_r (eqb t 4) (eqb w 0) h))

pub reading_packed : (k : Kind) (t w : ℕ) → T (is_value_cell k t w) → input_bytes (input_of t w) ≡ t ∷ low_first 8 w
reading_packed k t w h =
    let (p, q) = value_packed k t w h in
    let n : eqb t 4 ≡ false = ap (λ (i : ℕ). eqb i 4) (sym p) ∙ no_blank (unpacked t w) in
    rw n (ap₂ (λ (i j : ℕ). i ∷ low_first 8 j) p q)

-- an event's: a blank, or a reading
pub event_packed : (x : Member) (t w : ℕ) → x.sort ≡ event → T (kept_fits (some x) t w) → input_bytes (input_of t w) ≡ t ∷ low_first 8 w
event_packed x t w q h = go (is_blank_cell t w) refl (rw (kept_event x t w q) at h)
  where
    go : (b : Bool) → is_blank_cell t w ≡ b → T (b || is_value_cell x.kind t w) → input_bytes (input_of t w) ≡ t ∷ low_first 8 w
    go true e g = blank_packed t w (rw e tt)
    go false e g = reading_packed x.kind t w g

-- an action's: its value
pub fired_packed : (x : Member) (t w : ℕ) → x.sort ≡ action → T (kept_fits (some x) t w) → cell_bytes (unpacked t w) ≡ t ∷ low_first 8 w
fired_packed x t w q h = packed_bytes t w (value_packed x.kind t w (rw (kept_action x t w q) at h))

-- wherever there is no action
pub kept_packed : (o : Option Member) (t w : ℕ) → is_sort is_action o ≡ false → T (kept_fits o t w) → input_bytes (input_of t w) ≡ t ∷ low_first 8 w
unfolding kept_fits is_sort is_action
kept_packed none t w a h = blank_packed t w h
kept_packed (some x) t w a h = by_sort x.sort refl
  where
    by_sort : (s : Sort) → x.sort ≡ s → input_bytes (input_of t w) ≡ t ∷ low_first 8 w
    by_sort attribute q = blank_packed t w (rw (kept_attribute x t w q) at h)
    by_sort event q = event_packed x t w q h
    by_sort action q = absurd (false≢true (sym a ∙ ap is_action q))

-- ---- the parts of a plane

-- flags: pieces of one byte
pub flags_table : (piece : ℕ → List ℕ) (fs : List ℕ) (n : ℕ) → n ≤ length fs → ((e : ℕ) → e < n → piece e ≡ get_or fs e 0 ∷ []) → take n fs ≡ table piece 0 n
flags_table piece fs n l h =
    let z : n * 1 ≡ n = omega arith in
    sym (memory_table piece 1 fs 0 n (λ j a b. at_byte j (omega arith)) ∙ ap (λ (k : ℕ). take k fs) z)
  where
    at_byte : (j : ℕ) → j < n → piece j ≡ take 1 (drop (j * 1) fs)
    at_byte j b = let z : j * 1 ≡ j = omega arith in rw z (h j b ∙ sym (first_byte 0 fs j (omega arith)))

-- flags below a bound
pub flags_canonical : (bound : ℕ) (piece : ℕ → List ℕ) (fs : List ℕ) (n : ℕ) → n ≤ length fs → T (flags_below bound n fs)
    → ((e : ℕ) → e < n → get_or fs e 0 < bound → piece e ≡ get_or fs e 0 ∷ []) → take n fs ≡ table piece 0 n
unfolding flags_below
flags_canonical bound piece fs n l h g =
    flags_table piece fs n l
    (λ e b. g e b (ltb→lt (get_or fs e 0) bound (each_at (λ e. ltb (get_or fs e 0) bound) 0 n h e (omega arith) (omega arith))))

-- absent or present
pub flag_packed : (b : ℕ) → b < 2 → cond (eqb b 1) 1 0 ≡ b
flag_packed zero h = refl
flag_packed (suc zero) h = refl
flag_packed (suc (suc b)) h = absurd (omega arith)

-- no reading, absent or present
pub presence_packed : (b : ℕ) → b < 3 → presence_flag (presence_of b) ≡ b ∷ []
presence_packed zero h = refl
presence_packed (suc zero) h = refl
presence_packed (suc (suc zero)) h = refl
presence_packed (suc (suc (suc b))) h = absurd (omega arith)

-- cells that fit, of pieces that have the bytes of whatever fits
pub cells_canonical : (fit : Bool → Option Member → ℕ → ℕ → Bool) (f : File) (fs cs : List ℕ) (piece : ℕ → List ℕ) → 108 * entity_count f ≤ length cs
    → ((k : ℕ) → get_or cs k 0 < 256) → T (cells_fit fit f fs cs)
    → ((k : ℕ) → k < 12 * entity_count f
    → T (fit (eqb (get_or fs (k / 12) 0) 1) (member_of f (k / 12) (k % 12)) (get_or cs (k * 9) 0) (word_at 8 cs (k * 9 + 1)))
    → piece k ≡ get_or cs (k * 9) 0 ∷ low_first 8 (word_at 8 cs (k * 9 + 1)))
    → take (108 * entity_count f) cs ≡ table piece 0 (12 * entity_count f)
unfolding cells_fit
cells_canonical fit f fs cs piece l b h g =
    let z : 12 * n * 9 ≡ 108 * n = omega arith in
    sym (memory_table piece 9 cs 0 (12 * n) (λ k p q. at_cell k (omega arith)) ∙ ap (λ (k : ℕ). take k cs) z)
  where
    n : ℕ
    n = entity_count f

    test : ℕ → Bool
    test i = fit (eqb (get_or fs (i / 12) 0) 1) (member_of f (i / 12) (i % 12)) (get_or cs (i * 9) 0) (word_at 8 cs (i * 9 + 1))

    at_cell : (k : ℕ) → k < 12 * n → piece k ≡ take 9 (drop (k * 9) cs)
    at_cell k p =
        g k p (each_at test 0 (12 * n) h k (omega arith) (omega arith))
        ∙ ap (◌∷◌ (get_or cs (k * 9) 0)) (word_bytes 8 cs (k * 9 + 1) (omega arith) b)
        ∙ sym (first_byte 8 cs (k * 9) (omega arith))

-- bytes behind others
pub bytes_behind : (m : List ℕ) → ((k : ℕ) → get_or m k 0 < 256) → (d k : ℕ) → get_or (drop d m) k 0 < 256
bytes_behind m b d k = rw (get_or-drop d m k 0) (b (d + k))

-- a plane of any pieces
pub plane_canonical : (bound : ℕ) (fit : Bool → Option Member → ℕ → ℕ → Bool) (f : File) (m : List ℕ) (flags cells : ℕ → List ℕ)
    → plane_size (entity_count f) ≤ length m → ((k : ℕ) → get_or m k 0 < 256) → T (plane_fits bound fit f m)
    → ((e : ℕ) → e < entity_count f → get_or m e 0 < bound → flags e ≡ get_or m e 0 ∷ [])
    → ((k : ℕ) → k < 12 * entity_count f
    → T (fit (eqb (get_or m (k / 12) 0) 1) (member_of f (k / 12) (k % 12)) (get_or (cells_of (entity_count f) m) (k * 9) 0)
    (word_at 8 (cells_of (entity_count f) m) (k * 9 + 1)))
    → cells k ≡ get_or (cells_of (entity_count f) m) (k * 9) 0 ∷ low_first 8 (word_at 8 (cells_of (entity_count f) m) (k * 9 + 1)))
    → take (plane_size (entity_count f)) m ≡ plane flags cells (entity_count f)
plane_canonical bound fit f m flags cells l b h p q =
    let n = entity_count f in
    let cs = cells_of n m in
    let z : plane_size n ≡ n + 108 * n = omega arith in
    let d = length-drop n m in
    ap (λ (k : ℕ). take k m) z
    ∙ take-add n (108 * n) m
    ∙ ap₂ ◌++◌ (flags_canonical bound flags m n (omega arith) (plane_flags_below bound fit f m h) p)
    (cells_canonical fit f m cs cells (omega arith) (bytes_behind m b n) (plane_cells_fit bound fit f m h) q)

-- ---- stores

module _ (f : File) (m : List ℕ) (b : (k : ℕ) → get_or m k 0 < 256) where
  abbrev n : ℕ
  n = entity_count f

  pub store_canonical : (must_be_set : Bool → Bool) → plane_size n ≤ length m → T (plane_fits 2 (λ present. store_fits (must_be_set present)) f m)
      → take (plane_size n) m ≡ encode_store n (decode_store n m)
  unfolding encode_store decode_store
  store_canonical must_be_set l h =
      plane_canonical 2 (λ present. store_fits (must_be_set present)) f m (flag_piece (decode_store n m).present) (cell_piece (decode_store n m).cell) l b h
      (λ e a c. rw (lt-ltb e n a) (ap (λ (i : ℕ). i ∷ []) (flag_packed (get_or m e 0) c)))
      (λ k a t.
      let c : k / 12 * 12 + k % 12 ≡ k = omega arith in
      let e : k / 12 < n = omega arith in
      let j : k % 12 < 12 = omega arith in
      rw (lt-ltb (k / 12) n e, lt-ltb (k % 12) 12 j, c) (store_packed _ (member_of f (k / 12) (k % 12)) _ _ t))

-- memory of bytes that passes the test of stores has their very bytes
module _ (f : File) (m : List ℕ) (l : stores_size (entity_count f) ≤ length m) (b : (k : ℕ) → get_or m k 0 < 256) (h : are_stores f m ≡ true) where
  abbrev count : ℕ
  count = entity_count f

  pub stores_canonical : take (stores_size count) m ≡ encode_stores count (decode_stores count m)
  unfolding encode_stores decode_stores
  stores_canonical =
      let size = plane_size count in
      let next = next_plane count m in
      let p = are_stores_passes f m h in
      let z : stores_size count ≡ size + size = omega arith in
      let d = length-drop size m in
      ap (λ (k : ℕ). take k m) z
      ∙ take-add size size m
      ∙ ap₂ ◌++◌ (store_canonical f m b (λ present. true) (omega arith) p.now)
      (store_canonical f next (bytes_behind m b size) (λ present. present) (omega arith) p.previous)
