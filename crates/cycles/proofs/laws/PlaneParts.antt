-- The parts of a written plane: where each begins in memory, what is read back from each, and that each passes its tests. Said of planes of any
-- pieces, and of the planes of stores.
use mathlib.Core.Path.{◌≡◌, refl, sym, ap, ap₂, ◌∙◌, fun_ext}
use mathlib.Core.Bool.{Bool, true, false, cond, ◌&&◌}
use mathlib.Core.List.{List, ◌++◌, append_assoc}
use mathlib.Core.Option.{Option, none, some}
use Prim.Native.Nat.{ℕ, ◌+◌, ◌*◌, ◌/◌, ◌%◌, ◌<◌}
use native.Mathlib.Omega.{arith}
use lib.Dec.{T, ltb, eqb, lt→ltb}
use lib.Ieee.Fits.{and_i}
use lib.ListN.{length, get_or, drop, length-append}
use lib.Seq.{drop_at}
use borrow.Author.Tests.{ltb-true, ltb-false}
use Rattle.values.specs.declared.Kind.{Kind}
use Rattle.values.specs.declared.Kind.TheVariants.{Wholes}
use Rattle.values.specs.declared.Value.{Value}
use Rattle.values.specs.declared.Value.TheVariants.{Unset}
use Rattle.values.specs.definitions.Storable.{storable}
use Rattle.values.specs.definitions.Bytes.{word_at}
use Rattle.values.specs.definitions.Cells.{tag, payload, cell_bytes, cell_at}
use Rattle.values.proofs.laws.StorableLaws.{unset_storable, length_cell_bytes}
use Rattle.text.specs.definitions.Syntax.{Member, File}
use Rattle.text.proofs.laws.ListLaws.{none_some}
use Rattle.checking.specs.definitions.Scope.{member_of}
use Rattle.checking.proofs.laws.WithinCounts.{WithinCounts}
use Rattle.cycles.specs.definitions.Store.{Store, Stores, Inputs}
use Rattle.cycles.specs.definitions.SoundStores.{SoundStore, SoundInputs}
use Rattle.cycles.specs.definitions.Planes.{
  entity_count,
  plane_size,
  stores_size,
  table,
  flag,
  presence_flag,
  input_bytes,
  encode_store,
  encode_stores,
  presence_of,
  input_at,
  cells_of,
  next_plane,
  decode_store,
  flags_below,
  cells_fit,
  plane_fits,
}
use Rattle.cycles.proofs.laws.TableLaws.{
  length_table,
  length_flags,
  table_flag,
  table_tag,
  table_payload,
  table_cell,
  table_input,
  each_holds,
}
use Rattle.cycles.proofs.laws.CellFits.{payload_read, cell_read, EventValue, input_read, length_input_bytes}
use Rattle.cycles.proofs.laws.CellNumbers.{cell_entity, cell_member, cell_below, cell_cases, none_past, no_entity_no_cell, no_member_no_cell}

-- ---- the pieces of a plane
abbrev pub flag_piece : (ℕ → Bool) → ℕ → List ℕ
flag_piece p e = flag (p e)

abbrev pub presence_piece : (ℕ → Option Bool) → ℕ → List ℕ
presence_piece p e = presence_flag (p e)

abbrev pub cell_piece : (ℕ → ℕ → Value) → ℕ → List ℕ
cell_piece c i = cell_bytes (c (i / 12) (i % 12))

abbrev pub input_piece : (ℕ → ℕ → Option Value) → ℕ → List ℕ
input_piece g i = input_bytes (g (i / 12) (i % 12))

pub flag_sized : (p : ℕ → Bool) (e : ℕ) → length (flag_piece p e) ≡ 1
flag_sized p e = refl

pub presence_sized : (p : ℕ → Option Bool) (e : ℕ) → length (presence_piece p e) ≡ 1
presence_sized p e = go (p e)
  where
    go : (o : Option Bool) → length (presence_flag o) ≡ 1
    go none = refl
    go (some b) = refl

pub cell_sized : (c : ℕ → ℕ → Value) (i : ℕ) → length (cell_piece c i) ≡ 9
cell_sized c i = length_cell_bytes (c (i / 12) (i % 12))

pub input_sized : (g : ℕ → ℕ → Option Value) (i : ℕ) → length (input_piece g i) ≡ 9
input_sized g i = length_input_bytes (g (i / 12) (i % 12))

-- ---- a plane of any pieces, in memory that begins with it

-- n flags, and the cells of n entities
abbrev pub plane : (ℕ → List ℕ) → (ℕ → List ℕ) → ℕ → List ℕ
plane flags cells n = table flags 0 n ++ table cells 0 (12 * n)

module _ (flags cells : ℕ → List ℕ) (one : (e : ℕ) → length (flags e) ≡ 1) (nine : (i : ℕ) → length (cells i) ≡ 9) (n : ℕ) where
  pub length_plane : length (plane flags cells n) ≡ plane_size n
  length_plane =
      let a = length_flags flags one 0 n in
      let b = length_table cells 9 nine 0 (12 * n) in
      length-append (table flags 0 n) (table cells 0 (12 * n)) ∙ omega arith

  module _ (rest : List ℕ) where
    pub plane_begins : plane flags cells n ++ rest ≡ table flags 0 n ++ (table cells 0 (12 * n) ++ rest)
    plane_begins = append_assoc (table flags 0 n) (table cells 0 (12 * n)) rest

    pub plane_cells : cells_of n (plane flags cells n ++ rest) ≡ table cells 0 (12 * n) ++ rest
    plane_cells = ap (drop n) plane_begins ∙ drop_at (table flags 0 n) (table cells 0 (12 * n) ++ rest) n (length_flags flags one 0 n)

    pub plane_flag : (e : ℕ) → e < n → get_or (plane flags cells n ++ rest) e 0 ≡ get_or (flags e) 0 0
    plane_flag e h = ap (λ (l : List ℕ). get_or l e 0) plane_begins ∙ table_flag flags one n e (table cells 0 (12 * n) ++ rest) h

    pub plane_cell : (i : ℕ) → i < 12 * n → cell_at (cells_of n (plane flags cells n ++ rest)) i ≡ cell_at (cells i) 0
    plane_cell i h = ap (λ (l : List ℕ). cell_at l i) plane_cells ∙ table_cell cells nine (12 * n) i rest h

    pub plane_input : (i : ℕ) → i < 12 * n → input_at (cells_of n (plane flags cells n ++ rest)) i ≡ input_at (cells i) 0
    plane_input i h = ap (λ (l : List ℕ). input_at l i) plane_cells ∙ table_input cells nine (12 * n) i rest h

-- ---- the planes of stores

abbrev pub store_plane : ℕ → Store → List ℕ
store_plane n s = plane (flag_piece s.present) (cell_piece s.cell) n

pub store_encoded : (n : ℕ) (s : Store) → encode_store n s ≡ store_plane n s
unfolding encode_store
store_encoded n s = refl

pub length_encode_store : (n : ℕ) (s : Store) → length (encode_store n s) ≡ plane_size n
length_encode_store n s =
    ap length (store_encoded n s) ∙ length_plane (flag_piece s.present) (cell_piece s.cell) (flag_sized s.present) (cell_sized s.cell) n

pub length_encode_stores : (n : ℕ) (s : Stores) → length (encode_stores n s) ≡ stores_size n
unfolding encode_stores
length_encode_stores n s =
    let a = length_encode_store n s.now in
    let b = length_encode_store n s.previous in
    length-append (encode_store n s.now) (encode_store n s.previous) ∙ omega arith

module _ (n : ℕ) (s : Stores) (rest : List ℕ) where
  pub stores_begin : encode_stores n s ++ rest ≡ encode_store n s.now ++ (encode_store n s.previous ++ rest)
  unfolding encode_stores
  stores_begin = append_assoc (encode_store n s.now) (encode_store n s.previous) rest

  pub at_previous : next_plane n (encode_stores n s ++ rest) ≡ encode_store n s.previous ++ rest
  at_previous =
      ap (next_plane n) stores_begin
      ∙ drop_at (encode_store n s.now) (encode_store n s.previous ++ rest) (plane_size n) (length_encode_store n s.now)

  pub at_rest : drop (stores_size n) (encode_stores n s ++ rest) ≡ rest
  at_rest = drop_at (encode_stores n s) rest (stores_size n) (length_encode_stores n s)

-- ---- what is read back

pub read_flag : (b : Bool) → eqb (cond b 1 0) 1 ≡ b
read_flag true = refl
read_flag false = refl

pub read_presence : (o : Option Bool) → presence_of (get_or (presence_flag o) 0 0) ≡ o
read_presence none = refl
read_presence (some true) = refl
read_presence (some false) = refl

module _ (f : File) where
  abbrev n : ℕ
  n = entity_count f

  -- a store's cell is of some kind, since one that is not a member's is unset
  pub some_kind : (s : Store) → SoundStore f s → (e m : ℕ) → (k : Kind) × T (storable k (s.cell e m))
  some_kind s h e m = go (member_of f e m) refl
    where
      go : (o : Option Member) → member_of f e m ≡ o → (k : Kind) × T (storable k (s.cell e m))
      go none p = (Wholes, rw (h.no_cell e m p) (unset_storable Wholes))
      go (some x) p = (x.kind, h.of_kind e m x p)

  -- a store's flags and its cells, each in memory that begins with them
  module _ (s : Store) (h : SoundStore f s) (e : ℕ) (a : e < n) (r : List ℕ) where
    pub present_read : eqb (get_or (table (flag_piece s.present) 0 n ++ r) e 0) 1 ≡ s.present e
    present_read = ap (λ (b : ℕ). eqb b 1) (table_flag (flag_piece s.present) (flag_sized s.present) n e r a) ∙ read_flag (s.present e)

    pub cell_back : (m : ℕ) → m < 12 → cell_at (table (cell_piece s.cell) 0 (12 * n) ++ r) (e * 12 + m) ≡ s.cell e m
    cell_back m b =
        let i = e * 12 + m in
        let k = some_kind s h (i / 12) (i % 12) in
        table_cell (cell_piece s.cell) (cell_sized s.cell) (12 * n) i r (cell_below e m b n a)
        ∙ cell_read k.0 (s.cell (i / 12) (i % 12)) k.1
        ∙ ap₂ s.cell (cell_entity e m b) (cell_member e m b)

  pub store_read : WithinCounts f → (s : Store) → SoundStore f s → (rest : List ℕ) → decode_store n (encode_store n s ++ rest) ≡ s
  unfolding decode_store encode_store
  store_read w s h rest = λ i. record { present = fun_ext present i; cell = fun_ext (λ e. fun_ext (cell e)) i }
    where
      cs : List ℕ
      cs = table (cell_piece s.cell) 0 (12 * n) ++ rest

      begins : store_plane n s ++ rest ≡ table (flag_piece s.present) 0 n ++ cs
      begins = append_assoc (table (flag_piece s.present) 0 n) (table (cell_piece s.cell) 0 (12 * n)) rest

      present : (e : ℕ) → (ltb e n && eqb (get_or (store_plane n s ++ rest) e 0) 1) ≡ s.present e
      present e = go (ltb e n) refl
        where
          go : (b : Bool) → ltb e n ≡ b → (b && eqb (get_or (store_plane n s ++ rest) e 0) 1) ≡ s.present e
          go true p = rw begins (present_read s h e (ltb-true e n p) cs)
          go false p = sym (h.no_entity e (none_past f.entities e (ltb-false e n p)))

      cell : (e m : ℕ) → cond (ltb e n && ltb m 12) (cell_at (cells_of n (store_plane n s ++ rest)) (e * 12 + m)) Unset ≡ s.cell e m
      cell e m = cell_cases (λ v. v ≡ s.cell e m) n e m (cell_at (cells_of n (store_plane n s ++ rest)) (e * 12 + m)) Unset
          (λ a b.
          ap (λ (l : List ℕ). cell_at l (e * 12 + m))
          (plane_cells (flag_piece s.present) (cell_piece s.cell) (flag_sized s.present) (cell_sized s.cell) n rest)
          ∙ cell_back s h e a rest m b)
          (λ a. sym (h.no_cell e m (no_entity_no_cell f e m a)))
          (λ b. sym (h.no_cell e m (no_member_no_cell f e m w b)))

  -- readings, likewise
  module _ (i : Inputs) (h : SoundInputs f i) (e : ℕ) where
    module _ (a : e < n) (r : List ℕ) where
      pub presence_read : presence_of (get_or (table (presence_piece i.presence) 0 n ++ r) e 0) ≡ i.presence e
      presence_read =
          ap presence_of (table_flag (presence_piece i.presence) (presence_sized i.presence) n e r a) ∙ read_presence (i.presence e)

      pub given_read : (m : ℕ) → m < 12 → input_at (table (input_piece i.given) 0 (12 * n) ++ r) (e * 12 + m) ≡ i.given e m
      given_read m b =
          let j = e * 12 + m in
          table_input (input_piece i.given) (input_sized i.given) (12 * n) j r (cell_below e m b n a)
          ∙ input_read (i.given (j / 12) (j % 12)) (λ v p. let g = h.of_kind (j / 12) (j % 12) v p in (g.0.kind, g.3))
          ∙ ap₂ i.given (cell_entity e m b) (cell_member e m b)

    -- where the bench has no cell there is no reading
    pub no_reading : (m : ℕ) → member_of f e m ≡ none → none ≡ i.given e m
    no_reading m p = go (i.given e m) (h.of_kind e m)
      where
        go : (o : Option Value) → ((v : Value) → o ≡ some v → EventValue (member_of f e m) v) → none ≡ o
        go none g = refl
        go (some v) g = absurd (none_some (sym p ∙ (g v refl).1))

-- ---- what is written passes the tests

pub flags_pass : (bound : ℕ) (piece : ℕ → List ℕ) → ((e : ℕ) → length (piece e) ≡ 1) → ((e : ℕ) → get_or (piece e) 0 0 < bound) → (n : ℕ) (r : List ℕ)
    → T (flags_below bound n (table piece 0 n ++ r))
unfolding flags_below
flags_pass bound piece sized low n r =
    each_holds (λ e. ltb (get_or (table piece 0 n ++ r) e 0) bound) 0 n
    (λ e a b. let c : e < n = omega arith in rw (table_flag piece sized n e r c) (lt→ltb (get_or (piece e) 0 0) bound (low e)))

pub present_low : (p : ℕ → Bool) (e : ℕ) → get_or (flag_piece p e) 0 0 < 2
present_low p e = low (p e)
  where
    low : (b : Bool) → cond b 1 0 < 2
    low true = omega arith
    low false = omega arith

pub presence_low : (p : ℕ → Option Bool) (e : ℕ) → get_or (presence_piece p e) 0 0 < 3
presence_low p e = low (p e)
  where
    low : (o : Option Bool) → get_or (presence_flag o) 0 0 < 3
    low none = omega arith
    low (some true) = omega arith
    low (some false) = omega arith

pub cells_pass : (fit : Bool → Option Member → ℕ → ℕ → Bool) (f : File) (fs : List ℕ) (piece : ℕ → List ℕ) → ((i : ℕ) → length (piece i) ≡ 9)
    → ((i : ℕ) → i / 12 < entity_count f → T (fit (eqb (get_or fs (i / 12) 0) 1) (member_of f (i / 12) (i % 12)) (get_or (piece i) 0 0) (word_at 8 (piece i) 1)))
    → (r : List ℕ) → T (cells_fit fit f fs (table piece 0 (12 * entity_count f) ++ r))
unfolding cells_fit
cells_pass fit f fs piece sized h r =
    let k = 12 * entity_count f in
    let cs = table piece 0 k ++ r in
    each_holds (λ i. fit (eqb (get_or fs (i / 12) 0) 1) (member_of f (i / 12) (i % 12)) (get_or cs (i * 9) 0) (word_at 8 cs (i * 9 + 1))) 0 k
    (λ i a b. let c : i < k = omega arith in rw (table_tag piece sized k i r c, table_payload piece sized k i r c) (h i (omega arith)))

-- a plane of pieces that are below the bound, and fit
pub plane_pass : (bound : ℕ) (fit : Bool → Option Member → ℕ → ℕ → Bool) (f : File) (flags cells : ℕ → List ℕ)
    → ((e : ℕ) → length (flags e) ≡ 1) → ((i : ℕ) → length (cells i) ≡ 9) → ((e : ℕ) → get_or (flags e) 0 0 < bound)
    → ((i : ℕ) → i / 12 < entity_count f
    → T (fit (eqb (get_or (flags (i / 12)) 0 0) 1) (member_of f (i / 12) (i % 12)) (get_or (cells i) 0 0) (word_at 8 (cells i) 1)))
    → (rest : List ℕ) → T (plane_fits bound fit f (plane flags cells (entity_count f) ++ rest))
unfolding plane_fits
plane_pass bound fit f flags cells one nine low h rest =
    let n = entity_count f in
    let m = plane flags cells n ++ rest in
    let cs = table cells 0 (12 * n) ++ rest in
    and_i (flags_below bound n m) (cells_fit fit f m (cells_of n m))
    (rw (plane_begins flags cells one nine n rest) (flags_pass bound flags one low n cs))
    (rw (plane_cells flags cells one nine n rest)
    (cells_pass fit f m cells nine (λ i b. rw (plane_flag flags cells one nine n rest (i / 12) b) (h i b)) rest))

-- the plane of a store whose cells fit
pub store_pass : (f : File) (fit : Bool → Option Member → ℕ → ℕ → Bool) (s : Store) → SoundStore f s
    → ((e m : ℕ) → T (fit (s.present e) (member_of f e m) (tag (s.cell e m)) (payload (s.cell e m)))) → (rest : List ℕ)
    → T (plane_fits 2 fit f (encode_store (entity_count f) s ++ rest))
unfolding encode_store
store_pass f fit s h g rest =
    plane_pass 2 fit f (flag_piece s.present) (cell_piece s.cell) (flag_sized s.present) (cell_sized s.cell) (present_low s.present)
    (λ i b.
    let k = some_kind f s h (i / 12) (i % 12) in
    rw (payload_read k.0 (s.cell (i / 12) (i % 12)) k.1, read_flag (s.present (i / 12))) (g (i / 12) (i % 12)))
    rest
