-- A sender's part of a state image: what is written is read back and passes the tests, what passes is sound, and memory that passes has the very bytes
-- of what it stands for.
use Prim.Native.Nat.{ℕ, ◌+◌, ◌-◌, ◌*◌, ◌/◌, ◌%◌, ◌≤◌, ◌<◌}
use native.Mathlib.Numerals.{add-one}
use native.Mathlib.Omega.{arith}
use mathlib.Core.Path.{◌≡◌, refl, sym, ap, ap₂, ◌∙◌, subst, fun_ext}
use mathlib.Core.Bool.{Bool, true, false, not, cond, ◌&&◌, false≢true}
use mathlib.Core.List.{List, ◌∷◌, ◌++◌, append_assoc}
use mathlib.Core.Option.{Option, none, some}
use lib.Dec.{T, ltb, leb, eqb, leb→le, ltb→lt, lt→ltb, eqb→eq}
use lib.Ieee.Bits.{is_true}
use lib.Ieee.Fits.{and_i, and_l, and_r}
use lib.ListN.{length, get_or, take, drop, replicate, length-append, length-drop, length-replicate, get_or-replicate, get_or-append}
use lib.Seq.{length-take-le, take_at, drop_at, take-add, get_or-drop, get_or-take, get_or-append-add, ext_get_or}
use borrow.Author.Tests.{ltb-true, ltb-false, lt-ltb, le-ltb, le-leb, ne_eqb, eqb-false}
use Rattle.values.specs.declared.Value.{Value}
use Rattle.values.specs.declared.Value.TheVariants.{Unset}
use Rattle.values.specs.definitions.Storable.{storable}
use Rattle.values.specs.definitions.Bytes.{word_at, low_first}
use Rattle.values.specs.definitions.Cells.{cell_bytes, cell_at}
use Rattle.values.proofs.laws.StorableLaws.{unset_storable, length_cell_bytes}
use Rattle.text.specs.definitions.Syntax.{Sort, attribute, event, action, Member, File}
use Rattle.text.proofs.laws.ListLaws.{none_some, some_injective}
use Rattle.checking.specs.definitions.Scope.{member_of, is_action}
use Rattle.checking.proofs.laws.WithinCounts.{WithinCounts}
use Rattle.cycles.specs.definitions.Cycle.{is_sort}
use Rattle.cycles.specs.definitions.SoundStores.{SoundInputs}
use Rattle.cycles.specs.definitions.Planes.{
  plane_size,
  entity_count,
  table,
  input_bytes,
  presence_of,
  input_at,
  cells_of,
  kept_fits,
  plane_fits,
}
use Rattle.cycles.proofs.laws.TableLaws.{word_drop, word_low_first, part_after, each_holds, each_at}
use Rattle.cycles.proofs.laws.CellNumbers.{cell_entity, cell_member, cell_below, none_past, past_none, no_entity_no_cell, no_member_no_cell}
use Rattle.cycles.proofs.laws.CellFits.{cell_read, input_read, length_input_bytes, EventValue, kept_passes, event_sound, fired_sound, else_blank}
use Rattle.cycles.proofs.laws.PlaneParts.{
  plane,
  presence_piece,
  presence_sized,
  presence_low,
  read_presence,
  length_plane,
  plane_flag,
  plane_cell,
  plane_input,
  plane_pass,
}
use Rattle.cycles.proofs.laws.PlaneLaws.{plane_cells_fit, cell_test}
use Rattle.cycles.proofs.laws.CanonicalLaws.{first_byte, word_bytes, blank_bytes, event_packed, fired_packed, presence_packed, bytes_behind, plane_canonical}
use Rattle.senders.specs.definitions.Sender.{Sender, MOST_NAME_BYTES, is_sender}
use Rattle.senders.specs.definitions.SoundState.{SoundSender}
use Rattle.senders.specs.definitions.StateImage.{
  NAME_PLACE,
  SENDER_HEAD_BYTES,
  sender_size,
  name_bytes,
  kept_piece,
  encode_sender,
  part_name,
  part_number,
  kept_plane,
  next_sender,
  takes_readings,
  decode_inputs,
  decode_fired,
  decode_sender,
  is_padded,
  is_sender_head,
  is_sender_part,
}
use Rattle.senders.proofs.laws.SenderLaws.{name_short}

-- ---- a name in memory

pub length_name_bytes : (x : List ℕ) → length x ≤ MOST_NAME_BYTES → length (name_bytes x) ≡ NAME_PLACE
unfolding name_bytes
length_name_bytes x h =
    let a = length-append x (replicate (24 - length x) 0) in
    let b = length-replicate {A = ℕ} (24 - length x) 0 in
    omega arith

module _ (x rest : List ℕ) where
  pub name_read : part_name (name_bytes x ++ rest) ≡ x
  unfolding name_bytes
  name_read = rw (append_assoc x (replicate (24 - length x) 0) rest) (take_at x (replicate (24 - length x) 0 ++ rest) (length x) refl)

  name_size : length x ≤ MOST_NAME_BYTES → T (leb (get_or (name_bytes x ++ rest) 0 0) MOST_NAME_BYTES)
  unfolding name_bytes
  name_size d = rw (le-leb (length x) 24 d) tt

  name_padded : T (is_padded (name_bytes x ++ rest))
  unfolding is_padded name_bytes
  name_padded =
      each_holds (λ i. eqb (get_or (name_bytes x ++ rest) (i + 1) 0) 0) (length x) (24 - length x)
      (λ i a b. rw (at i a b) tt)
    where
      at : (i : ℕ) → length x ≤ i → i < length x + (24 - length x) → get_or (name_bytes x ++ rest) (i + 1) 0 ≡ 0
      at i a b =
          let pad : List ℕ = replicate (24 - length x) 0 in
          let j = i - length x in
          let e : i ≡ length x + j = omega arith in
          let c = length-replicate {A = ℕ} (24 - length x) 0 in
          let d : j < length pad = omega arith in
          ap (λ (k : ℕ). get_or (name_bytes x ++ rest) k 0) (add-one i)
          ∙ ap₂ (λ (l : List ℕ) (k : ℕ). get_or l k 0) (append_assoc x pad rest) e
          ∙ get_or-append-add x (pad ++ rest) j 0
          ∙ get_or-append pad rest 0 j d
          ∙ get_or-replicate (24 - length x) j 0 0 (omega arith)

-- ---- a sender's plane, as it is written

pub kept_sized : (f : File) (x : Sender) (i : ℕ) → length (kept_piece f x i) ≡ 9
unfolding kept_piece
kept_sized f x i = go (is_sort is_action (member_of f (i / 12) (i % 12)))
  where
    go : (b : Bool) → length (cond b (cell_bytes (x.fired (i / 12) (i % 12))) (input_bytes (x.inputs.given (i / 12) (i % 12)))) ≡ 9
    go true = length_cell_bytes (x.fired (i / 12) (i % 12))
    go false = length_input_bytes (x.inputs.given (i / 12) (i % 12))

-- where an entity has a member
pub inside : (f : File) → WithinCounts f → (e m : ℕ) {y : Member} → member_of f e m ≡ some y → (e < entity_count f) × (m < 12)
inside f w e m p = (go (ltb e n) refl, at (ltb m 12) refl)
  where
    n : ℕ
    n = entity_count f

    go : (b : Bool) → ltb e n ≡ b → e < n
    go true q = ltb-true e n q
    go false q = absurd (none_some (sym (no_entity_no_cell f e m (ltb-false e n q)) ∙ p))

    at : (b : Bool) → ltb m 12 ≡ b → m < 12
    at true q = ltb-true m 12 q
    at false q = absurd (none_some (sym (no_member_no_cell f e m w (ltb-false m 12 q)) ∙ p))

abbrev pub written_plane : File → Sender → List ℕ
written_plane f x = plane (presence_piece x.inputs.presence) (kept_piece f x) (entity_count f)

pub length_written_plane : (f : File) (x : Sender) → length (written_plane f x) ≡ plane_size (entity_count f)
length_written_plane f x =
    length_plane (presence_piece x.inputs.presence) (kept_piece f x) (presence_sized x.inputs.presence) (kept_sized f x) (entity_count f)

module _ (f : File) (w : WithinCounts f) (x : Sender) (h : SoundSender f x) (rest : List ℕ) where
  abbrev n : ℕ
  n = entity_count f

  abbrev written : List ℕ
  written = written_plane f x ++ rest

  piece_at : (e k : ℕ) → k < 12
      → kept_piece f x (e * 12 + k) ≡ cond (is_sort is_action (member_of f e k)) (cell_bytes (x.fired e k)) (input_bytes (x.inputs.given e k))
  unfolding kept_piece
  piece_at e k b = rw (cell_entity e k b, cell_member e k b)

  -- only events have readings
  no_reading : (e k : ℕ) → ((y : Member) → member_of f e k ≡ some y → y.sort ≡ event → ⊥) → none ≡ x.inputs.given e k
  no_reading e k g = go (x.inputs.given e k) (h.inputs.of_kind e k)
    where
      go : (o : Option Value) → ((v : Value) → o ≡ some v → EventValue (member_of f e k) v) → none ≡ o
      go none i = refl
      go (some v) i = absurd (g (i v refl).0 (i v refl).1 (i v refl).2)

  given_read : (e k : ℕ) → cond (is_sort takes_readings (member_of f e k)) (input_at (cells_of n written) (e * 12 + k)) none ≡ x.inputs.given e k
  unfolding is_sort is_action
  given_read e k = go (member_of f e k) refl
    where
      other : (y : Member) → member_of f e k ≡ some y → (y.sort ≡ event → ⊥) → none ≡ x.inputs.given e k
      other y p q = no_reading e k (λ z r t. q (ap (λ (u : Member). u.sort) (some_injective (sym p ∙ r)) ∙ t))

      at : (y : Member) → member_of f e k ≡ some y → (s : Sort) → y.sort ≡ s
          → cond (takes_readings s) (input_at (cells_of n written) (e * 12 + k)) none ≡ x.inputs.given e k
      at y p attribute q = other y p (λ t. let z : ◌≡◌ {A = ℕ} 0 1 = cc in omega arith)
      at y p action q = other y p (λ t. let z : ◌≡◌ {A = ℕ} 0 1 = cc in omega arith)
      at y p event q =
          let a = inside f w e k p in
          let i = e * 12 + k in
          let g : kept_piece f x i ≡ input_bytes (x.inputs.given e k) = piece_at e k a.1 ∙ rw (p, q) in
          plane_input (presence_piece x.inputs.presence) (kept_piece f x) (presence_sized x.inputs.presence) (kept_sized f x) n rest i
          (cell_below e k a.1 n a.0)
          ∙ ap (λ (l : List ℕ). input_at l 0) g
          ∙ input_read (x.inputs.given e k) (λ v r. let g = h.inputs.of_kind e k v r in (g.0.kind, g.3))

      go : (o : Option Member) → member_of f e k ≡ o → cond (is_sort takes_readings o) (input_at (cells_of n written) (e * 12 + k)) none ≡ x.inputs.given e k
      go none p = no_reading e k (λ y q r. none_some (sym p ∙ q))
      go (some y) p = at y p y.sort refl

  fired_read : (e k : ℕ) → cond (is_sort is_action (member_of f e k)) (cell_at (cells_of n written) (e * 12 + k)) Unset ≡ x.fired e k
  unfolding is_sort is_action
  fired_read e k = go (is_sort is_action (member_of f e k)) refl
    where
      fired : (y : Member) → member_of f e k ≡ some y → is_sort is_action (member_of f e k) ≡ true → cell_at (cells_of n written) (e * 12 + k) ≡ x.fired e k
      fired y p q =
          let a = inside f w e k p in
          let i = e * 12 + k in
          let g : kept_piece f x i ≡ cell_bytes (x.fired e k) = piece_at e k a.1 ∙ rw q in
          plane_cell (presence_piece x.inputs.presence) (kept_piece f x) (presence_sized x.inputs.presence) (kept_sized f x) n rest i
          (cell_below e k a.1 n a.0)
          ∙ ap (λ (l : List ℕ). cell_at l 0) g
          ∙ cell_read y.kind (x.fired e k) (h.fired e k y p)

      at : (o : Option Member) → member_of f e k ≡ o → is_sort is_action (member_of f e k) ≡ true → cell_at (cells_of n written) (e * 12 + k) ≡ x.fired e k
      at none p q = absurd (false≢true (rw p at q))
      at (some y) p q = fired y p q

      go : (b : Bool) → is_sort is_action (member_of f e k) ≡ b → cond b (cell_at (cells_of n written) (e * 12 + k)) Unset ≡ x.fired e k
      go true q = at (member_of f e k) refl q
      go false q = sym (h.elsewhere e k q)

  presence_read : (e : ℕ) → cond (ltb e n) (presence_of (get_or written e 0)) none ≡ x.inputs.presence e
  presence_read e = go (ltb e n) refl
    where
      go : (b : Bool) → ltb e n ≡ b → cond b (presence_of (get_or written e 0)) none ≡ x.inputs.presence e
      go true p =
          ap presence_of
          (plane_flag (presence_piece x.inputs.presence) (kept_piece f x) (presence_sized x.inputs.presence) (kept_sized f x) n rest e (ltb-true e n p))
          ∙ read_presence (x.inputs.presence e)
      go false p = sym (h.inputs.no_entity e (none_past f.entities e (ltb-false e n p)))

  pub inputs_read : decode_inputs f written ≡ x.inputs
  unfolding decode_inputs
  inputs_read = λ i. record { presence = fun_ext presence_read i; given = fun_ext (λ e. fun_ext (given_read e)) i }

  pub fired_back : decode_fired f written ≡ x.fired
  unfolding decode_fired
  fired_back = fun_ext (λ e. fun_ext (fired_read e))

  pub plane_passes : T (plane_fits 3 (λ present. kept_fits) f written)
  unfolding kept_piece
  plane_passes =
      plane_pass 3 (λ present. kept_fits) f (presence_piece x.inputs.presence) (kept_piece f x) (presence_sized x.inputs.presence) (kept_sized f x)
      (presence_low x.inputs.presence)
      (λ i b.
      kept_passes (member_of f (i / 12) (i % 12)) (x.fired (i / 12) (i % 12)) (x.inputs.given (i / 12) (i % 12))
      (λ y p q. h.fired (i / 12) (i % 12) y p) (h.inputs.of_kind (i / 12) (i % 12)))
      rest

-- ---- a sender's part, as it is written

-- the name, the last number, the plane
pub sender_encoded : (f : File) (x : Sender) → encode_sender f x ≡ name_bytes x.name ++ low_first 4 x.last ++ written_plane f x
unfolding encode_sender
sender_encoded f x =
    append_assoc (name_bytes x.name ++ low_first 4 x.last) (table (presence_piece x.inputs.presence) 0 (entity_count f))
    (table (kept_piece f x) 0 (12 * entity_count f))

module _ (f : File) (x : Sender) (short : length x.name ≤ MOST_NAME_BYTES) where
  pub length_encode_sender : length (encode_sender f x) ≡ sender_size (entity_count f)
  length_encode_sender =
      let a = length_name_bytes x.name short in
      let b = length_written_plane f x in
      let c = length-append (name_bytes x.name ++ low_first 4 x.last) (written_plane f x) in
      let d = length-append (name_bytes x.name) (low_first 4 x.last) in
      ap length (sender_encoded f x) ∙ omega arith

  module _ (rest : List ℕ) where
    abbrev image : List ℕ
    image = encode_sender f x ++ rest

    abbrev from_plane : List ℕ
    from_plane = written_plane f x ++ rest

    abbrev from_number : List ℕ
    from_number = low_first 4 x.last ++ from_plane

    pub sender_begins : image ≡ name_bytes x.name ++ from_number
    sender_begins =
        ap (λ (l : List ℕ). l ++ rest) (sender_encoded f x)
        ∙ append_assoc (name_bytes x.name ++ low_first 4 x.last) (written_plane f x) rest
        ∙ append_assoc (name_bytes x.name) (low_first 4 x.last) from_plane

    pub at_number : drop NAME_PLACE image ≡ from_number
    at_number = ap (drop NAME_PLACE) sender_begins ∙ drop_at (name_bytes x.name) from_number NAME_PLACE (length_name_bytes x.name short)

    pub at_plane : kept_plane image ≡ from_plane
    at_plane = part_after image (low_first 4 x.last) from_plane NAME_PLACE 4 SENDER_HEAD_BYTES at_number refl refl

    pub at_next : next_sender (entity_count f) image ≡ rest
    at_next = drop_at (encode_sender f x) rest (sender_size (entity_count f)) length_encode_sender

    pub name_back : part_name image ≡ x.name
    name_back = ap part_name sender_begins ∙ name_read x.name from_number

    pub number_back : x.last < 4294967296 → part_number image ≡ x.last
    number_back b = sym (word_drop 4 NAME_PLACE image 0) ∙ ap (λ (l : List ℕ). word_at 4 l 0) at_number ∙ word_low_first 4 x.last from_plane (omega arith)

module _ (f : File) (w : WithinCounts f) (x : Sender) (h : SoundSender f x) where
  short : length x.name ≤ MOST_NAME_BYTES
  short = name_short x.name h.name

  module _ (rest : List ℕ) where
    abbrev memory : List ℕ
    memory = encode_sender f x ++ rest

    last_back : part_number memory ≡ x.last
    last_back = let b = h.most in number_back f x short rest (omega arith)

    pub sender_read : decode_sender f memory ≡ x
    unfolding decode_sender
    sender_read = λ i. record {
      name = name_back f x short rest i;
      last = last_back i;
      inputs = (ap (decode_inputs f) (at_plane f x short rest) ∙ inputs_read f w x h rest) i;
      fired = (ap (decode_fired f) (at_plane f x short rest) ∙ fired_back f w x h rest) i;
    }

    head_passes : T (is_sender_head memory)
    unfolding is_sender_head
    head_passes =
        let b = h.least in
        let c = h.most in
        let size : T (leb (get_or memory 0 0) MOST_NAME_BYTES) =
        subst (λ (l : List ℕ). T (leb (get_or l 0 0) MOST_NAME_BYTES)) (sym (sender_begins f x short rest))
        (name_size x.name (from_number f x short rest) short) in
        let name : T (is_sender (part_name memory)) = rw (name_back f x short rest) h.name in
        let padded : T (is_padded memory) =
        subst (λ (l : List ℕ). T (is_padded l)) (sym (sender_begins f x short rest)) (name_padded x.name (from_number f x short rest)) in
        let least : T (not (eqb (part_number memory) 0)) = rw (last_back, ne_eqb x.last 0 (λ e. omega arith)) tt in
        let most : T (ltb (part_number memory) 4294967296) = rw last_back (lt→ltb x.last 4294967296 (omega arith)) in
        search and_i depth 9

    pub sender_passes : is_sender_part f memory ≡ true
    unfolding is_sender_part
    sender_passes =
        let plane : T (plane_fits 3 (λ present. kept_fits) f (kept_plane memory)) = rw (at_plane f x short rest) (plane_passes f w x h rest) in
        is_true (is_sender_head memory && plane_fits 3 (λ present. kept_fits) f (kept_plane memory))
        (and_i (is_sender_head memory) (plane_fits 3 (λ present. kept_fits) f (kept_plane memory)) head_passes plane)

-- ---- what passes is a sound sender

-- the tests of a part, one by one
pub record PartPasses (f : File) (m : List ℕ) : Type 0 where
  pub size : get_or m 0 0 ≤ MOST_NAME_BYTES
  pub name : T (is_sender (part_name m))
  pub padded : T (is_padded m)
  pub least : 1 ≤ part_number m
  pub most : part_number m < 4294967296
  pub plane : T (plane_fits 3 (λ present. kept_fits) f (kept_plane m))

at_least_one : (k : ℕ) → T (not (eqb k 0)) → 1 ≤ k
at_least_one k h = go (eqb k 0) refl h
  where
    go : (b : Bool) → eqb k 0 ≡ b → T (not b) → 1 ≤ k
    go false e t = let d = eqb-false k 0 e in omega arith
    go true e t = elim t [ ]

pub part_passes : (f : File) (m : List ℕ) → is_sender_part f m ≡ true → PartPasses f m
unfolding is_sender_part is_sender_head
part_passes f m h =
    let a = leb (get_or m 0 0) MOST_NAME_BYTES in
    let b = is_sender (part_name m) in
    let c = is_padded m in
    let d = not (eqb (part_number m) 0) in
    let e = ltb (part_number m) 4294967296 in
    let g = plane_fits 3 (λ present. kept_fits) f (kept_plane m) in
    let t : T ((a && (b && (c && (d && e)))) && g) = rw h tt in
    let t₀ = and_l (a && (b && (c && (d && e)))) g t in
    let t₁ = and_r a (b && (c && (d && e))) t₀ in
    let t₂ = and_r b (c && (d && e)) t₁ in
    let t₃ = and_r c (d && e) t₂ in
    record {
      size = leb→le (get_or m 0 0) MOST_NAME_BYTES (and_l a (b && (c && (d && e))) t₀);
      name = and_l b (c && (d && e)) t₁;
      padded = and_l c (d && e) t₂;
      least = at_least_one (part_number m) (and_l d e t₃);
      most = ltb→lt (part_number m) 4294967296 (and_r d e t₃);
      plane = and_r (a && (b && (c && (d && e)))) g t;
    }

-- a plane that passes
module _ (f : File) (w : WithinCounts f) (m : List ℕ) (h : T (plane_fits 3 (λ present. kept_fits) f m)) where
  abbrev cs : List ℕ
  cs = cells_of (entity_count f) m

  kept_test : (e k : ℕ) {y : Member} → member_of f e k ≡ some y
      → T (kept_fits (some y) (get_or cs ((e * 12 + k) * 9) 0) (word_at 8 cs ((e * 12 + k) * 9 + 1)))
  kept_test e k p =
      let a = inside f w e k p in
      rw p at (cell_test f (λ present. kept_fits) m cs (plane_cells_fit 3 (λ present. kept_fits) f m h) e k a.0 a.1)

  given_sound : (e k : ℕ) (v : Value) → cond (is_sort takes_readings (member_of f e k)) (input_at cs (e * 12 + k)) none ≡ some v → EventValue (member_of f e k) v
  unfolding is_sort
  given_sound e k v g = go (member_of f e k) refl g
    where
      at : (y : Member) → member_of f e k ≡ some y → (s : Sort) → y.sort ≡ s → cond (takes_readings s) (input_at cs (e * 12 + k)) none ≡ some v
          → EventValue (member_of f e k) v
      at y p attribute q r = absurd (none_some r)
      at y p action q r = absurd (none_some r)
      at y p event q r = (y, p, q, event_sound _ _ y v q (kept_test e k p) r)

      go : (o : Option Member) → member_of f e k ≡ o → cond (is_sort takes_readings o) (input_at cs (e * 12 + k)) none ≡ some v → EventValue (member_of f e k) v
      go none p r = absurd (none_some r)
      go (some y) p r = at y p y.sort refl r

  pub plane_inputs_sound : SoundInputs f (decode_inputs f m)
  unfolding decode_inputs
  plane_inputs_sound = record {
    of_kind = given_sound;
    no_entity = λ e p. rw (le-ltb e (entity_count f) (past_none f.entities e p));
  }

  pub plane_fired_sound : (e k : ℕ) (y : Member) → member_of f e k ≡ some y → T (storable y.kind (decode_fired f m e k))
  unfolding decode_fired is_sort is_action
  plane_fired_sound e k y p = rw p (at y.sort refl)
    where
      at : (s : Sort) → y.sort ≡ s → T (storable y.kind (cond (is_action s) (cell_at cs (e * 12 + k)) Unset))
      at attribute q = unset_storable y.kind
      at event q = unset_storable y.kind
      at action q = fired_sound _ _ y q (kept_test e k p)

pub sender_sound : (f : File) → WithinCounts f → (m : List ℕ) → is_sender_part f m ≡ true → SoundSender f (decode_sender f m)
unfolding decode_sender decode_fired
sender_sound f w m h =
    let p = part_passes f m h in
    let b = p.most in
    record {
      name = p.name;
      least = p.least;
      most = omega arith;
      inputs = plane_inputs_sound f w (kept_plane m) p.plane;
      fired = plane_fired_sound f w (kept_plane m) p.plane;
      elsewhere = λ e k q. rw q;
    }

-- ---- memory of bytes that passes

-- the name, and the zeros after it
pub name_canonical : (m : List ℕ) → NAME_PLACE ≤ length m → get_or m 0 0 ≤ MOST_NAME_BYTES → T (is_padded m) → take NAME_PLACE m ≡ name_bytes (part_name m)
unfolding name_bytes is_padded
name_canonical m l s h =
    first_byte 24 m 0 (omega arith)
    ∙ ap₂ ◌∷◌ (sym sized) (ap (λ (i : ℕ). take i (drop 1 m)) whole ∙ take-add k (24 - k) (drop 1 m) ∙ ap (λ (x : List ℕ). part_name m ++ x) zeros)
  where
    k : ℕ
    k = get_or m 0 0

    whole : 24 ≡ k + (24 - k)
    whole = omega arith

    sized : length (part_name m) ≡ k
    sized = let d = length-drop 1 m in length-take-le k (drop 1 m) (omega arith)

    zeros : take (24 - k) (drop k (drop 1 m)) ≡ replicate (24 - length (part_name m)) 0
    zeros =
        let d = length-drop 1 m in
        let e = length-drop k (drop 1 m) in
        let a = length-take-le (24 - k) (drop k (drop 1 m)) (omega arith) in
        let b = length-replicate {A = ℕ} (24 - length (part_name m)) 0 in
        let c = sized in
        ext_get_or 0 (take (24 - k) (drop k (drop 1 m))) (replicate (24 - length (part_name m)) 0) (omega arith) (λ i c. at i (omega arith))
      where
        at : (i : ℕ) → i < 24 - k → get_or (take (24 - k) (drop k (drop 1 m))) i 0 ≡ get_or (replicate (24 - length (part_name m)) 0) i 0
        at i c =
            let z : 1 + (k + i) ≡ k + i + 1 = omega arith in
            let s = sized in
            get_or-take (24 - k) (drop k (drop 1 m)) i 0 c
            ∙ get_or-drop k (drop 1 m) i 0
            ∙ get_or-drop 1 m (k + i) 0
            ∙ ap (λ (j : ℕ). get_or m j 0) z
            ∙ eqb→eq (get_or m (k + i + 1) 0) 0 (each_at (λ i. eqb (get_or m (i + 1) 0) 0) k (24 - k) h (k + i) (omega arith) (omega arith))
            ∙ sym (get_or-replicate (24 - length (part_name m)) i 0 0 (omega arith))

-- a plane
pub kept_canonical : (f : File) (m : List ℕ) → plane_size (entity_count f) ≤ length m → ((k : ℕ) → get_or m k 0 < 256)
    → T (plane_fits 3 (λ present. kept_fits) f m) → (x : Sender) → x.inputs ≡ decode_inputs f m → x.fired ≡ decode_fired f m
    → take (plane_size (entity_count f)) m ≡ written_plane f x
unfolding kept_piece is_sort is_action decode_inputs decode_fired
kept_canonical f m l b h x p q =
    plane_canonical 3 (λ present. kept_fits) f m (presence_piece x.inputs.presence) (kept_piece f x) l b h
    (λ e a c. rw (p, lt-ltb e (entity_count f) a) (presence_packed (get_or m e 0) c))
    one
  where
    cs : List ℕ
    cs = cells_of (entity_count f) m

    one : (k : ℕ) → k < 12 * entity_count f → T (kept_fits (member_of f (k / 12) (k % 12)) (get_or cs (k * 9) 0) (word_at 8 cs (k * 9 + 1)))
        → kept_piece f x k ≡ get_or cs (k * 9) 0 ∷ low_first 8 (word_at 8 cs (k * 9 + 1))
    one k a t = rw (p, q, z) (by (member_of f (k / 12) (k % 12)) t)
      where
        z : k / 12 * 12 + k % 12 ≡ k
        z = omega arith

        by : (o : Option Member) → T (kept_fits o (get_or cs (k * 9) 0) (word_at 8 cs (k * 9 + 1)))
            → cond (is_sort is_action o) (cell_bytes (cond (is_sort is_action o) (cell_at cs k) Unset))
            (input_bytes (cond (is_sort takes_readings o) (input_at cs k) none))
            ≡ get_or cs (k * 9) 0 ∷ low_first 8 (word_at 8 cs (k * 9 + 1))
        by none t = blank_bytes _ _ (else_blank _ _ none (λ y e. absurd (none_some e)) t)
        by (some y) t = at y.sort refl
          where
            at : (s : Sort) → y.sort ≡ s
                → cond (is_action y.sort) (cell_bytes (cond (is_action y.sort) (cell_at cs k) Unset))
                (input_bytes (cond (takes_readings y.sort) (input_at cs k) none))
                ≡ get_or cs (k * 9) 0 ∷ low_first 8 (word_at 8 cs (k * 9 + 1))
            at attribute e = rw e (blank_bytes _ _ (else_blank _ _ (some y) (λ z d. rw (← some_injective d) e) t))
            at event e = rw e (event_packed y _ _ e t)
            at action e = rw e (fired_packed y _ _ e t)

module _ (f : File) (m : List ℕ) (l : sender_size (entity_count f) ≤ length m) (b : (k : ℕ) → get_or m k 0 < 256) (h : is_sender_part f m ≡ true) where
  pub sender_canonical : take (sender_size (entity_count f)) m ≡ encode_sender f (decode_sender f m)
  unfolding decode_sender
  sender_canonical =
      let n = entity_count f in
      let p = part_passes f m h in
      let d = length-drop SENDER_HEAD_BYTES m in
      let x = decode_sender f m in
      take-add SENDER_HEAD_BYTES (plane_size n) m
      ∙ ap₂ ◌++◌ (take-add NAME_PLACE 4 m ∙ ap₂ ◌++◌ (name_canonical m (omega arith) p.size p.padded) (sym (word_bytes 4 m NAME_PLACE (omega arith) b)))
      (kept_canonical f (kept_plane m) (omega arith) (bytes_behind m b SENDER_HEAD_BYTES) p.plane x refl refl)
      ∙ sym (sender_encoded f x)
