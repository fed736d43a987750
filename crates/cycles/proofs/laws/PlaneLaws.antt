-- Planes: sound stores that are written are read back, no byte is added, and what memory stands for are sound stores.
use mathlib.Core.Path.{◌≡◌, refl, sym, ap, ◌∙◌}
use mathlib.Core.Bool.{Bool, true, ◌&&◌}
use mathlib.Core.List.{List, ◌++◌}
use mathlib.Core.Option.{Option, some}
use Prim.Native.Nat.{ℕ, ◌+◌, ◌*◌, ◌/◌, ◌%◌, ◌<◌}
use native.Mathlib.Omega.{arith}
use lib.Dec.{T, ltb, eqb}
use lib.ListN.{get_or}
use lib.Ieee.Fits.{and_i, and_l, and_r}
use lib.Ieee.Bits.{is_true}
use borrow.Author.Tests.{le-ltb}
use Rattle.values.specs.declared.Value.TheVariants.{Unset}
use Rattle.values.specs.definitions.Value.{is_set}
use Rattle.values.specs.definitions.Storable.{storable}
use Rattle.values.specs.definitions.Bytes.{word_at}
use Rattle.values.specs.definitions.Cells.{tag, payload, cell_at}
use Rattle.values.proofs.laws.StorableLaws.{unset_storable}
use Rattle.text.specs.definitions.Syntax.{Member, File}
use Rattle.text.proofs.laws.ListLaws.{none_some}
use Rattle.checking.specs.definitions.Scope.{member_of, is_attribute}
use Rattle.checking.proofs.laws.WithinCounts.{WithinCounts}
use Rattle.cycles.specs.definitions.Store.{Stores}
use Rattle.cycles.specs.definitions.SoundStores.{SoundStore, SoundStores}
use Rattle.cycles.specs.definitions.Planes.{entity_count, encode_store, encode_stores, cells_of, next_plane, decode_store, decode_stores, store_fits, cells_fit, flags_below, plane_fits, are_stores}
use Rattle.cycles.proofs.laws.TableLaws.{each_at}
use Rattle.cycles.proofs.laws.CellFits.{store_passes, store_of_kind, store_no_cell, store_set}
use Rattle.cycles.proofs.laws.CellNumbers.{cell_entity, cell_member, cell_below, cell_cases, past_none, no_entity_no_cell, no_member_no_cell}
use Rattle.cycles.proofs.laws.PlaneParts.{stores_begin, at_previous, store_read, store_pass}

-- ---- the tests of a plane, and of both stores

module _ (bound : ℕ) (fit : Bool → Option Member → ℕ → ℕ → Bool) (f : File) (m : List ℕ) (h : T (plane_fits bound fit f m)) where
  pub plane_flags_below : T (flags_below bound (entity_count f) m)
  unfolding plane_fits
  plane_flags_below = and_l (flags_below bound (entity_count f) m) (cells_fit fit f m (cells_of (entity_count f) m)) h

  pub plane_cells_fit : T (cells_fit fit f m (cells_of (entity_count f) m))
  unfolding plane_fits
  plane_cells_fit = and_r (flags_below bound (entity_count f) m) (cells_fit fit f m (cells_of (entity_count f) m)) h

pub record Passes (f : File) (m : List ℕ) : Type 0 where
  pub now : T (plane_fits 2 (λ present. store_fits true) f m)
  pub previous : T (plane_fits 2 (λ present. store_fits present) f (next_plane (entity_count f) m))

pub passes_are_stores : (f : File) (m : List ℕ) → Passes f m → are_stores f m ≡ true
unfolding are_stores
passes_are_stores f m p =
    let now = plane_fits 2 (λ present. store_fits true) f m in
    let previous = plane_fits 2 (λ present. store_fits present) f (next_plane (entity_count f) m) in
    is_true (now && previous) (and_i now previous p.now p.previous)

pub are_stores_passes : (f : File) (m : List ℕ) → are_stores f m ≡ true → Passes f m
unfolding are_stores
are_stores_passes f m h =
    let now = plane_fits 2 (λ present. store_fits true) f m in
    let previous = plane_fits 2 (λ present. store_fits present) f (next_plane (entity_count f) m) in
    let g : T (now && previous) = rw h tt in
    record { now = and_l now previous g; previous = and_r now previous g }

-- ---- writing

module _ (f : File) (s : Stores) (h : SoundStores f s) (rest : List ℕ) where
  abbrev n : ℕ
  n = entity_count f

  now_cell : (e m : ℕ) → T (store_fits true (member_of f e m) (tag (s.now.cell e m)) (payload (s.now.cell e m)))
  now_cell e m =
      store_passes true (member_of f e m) (s.now.cell e m) (h.now.of_kind e m) (h.now.no_cell e m) (λ x q a p. h.attributes e m x q a)

  previous_cell : (e m : ℕ) → T (store_fits (s.previous.present e) (member_of f e m) (tag (s.previous.cell e m)) (payload (s.previous.cell e m)))
  previous_cell e m =
      store_passes (s.previous.present e) (member_of f e m) (s.previous.cell e m) (h.previous.of_kind e m) (h.previous.no_cell e m)
      (h.attributes_before e m)

  pub stores_pass : are_stores f (encode_stores n s ++ rest) ≡ true
  stores_pass = passes_are_stores f (encode_stores n s ++ rest) (record {
    now = rw (stores_begin n s rest)
        (store_pass f (λ present. store_fits true) s.now h.now now_cell (encode_store n s.previous ++ rest));
    previous = rw (at_previous n s rest) (store_pass f (λ present. store_fits present) s.previous h.previous previous_cell rest);
  })

  pub stores_read : WithinCounts f → decode_stores n (encode_stores n s ++ rest) ≡ s
  unfolding decode_stores
  stores_read w = λ i. record {
    now = (ap (decode_store n) (stores_begin n s rest) ∙ store_read f w s.now h.now (encode_store n s.previous ++ rest)) i;
    previous = (ap (decode_store n) (at_previous n s rest) ∙ store_read f w s.previous h.previous rest) i;
  }

-- ---- reading

module _ (f : File) where
  abbrev count : ℕ
  count = entity_count f

  -- the test of the cell of member m of entity e
  pub cell_test : (fit : Bool → Option Member → ℕ → ℕ → Bool) (fs cs : List ℕ) → T (cells_fit fit f fs cs) → (e m : ℕ) → e < count → m < 12
      → T (fit (eqb (get_or fs e 0) 1) (member_of f e m) (get_or cs ((e * 12 + m) * 9) 0) (word_at 8 cs ((e * 12 + m) * 9 + 1)))
  unfolding cells_fit
  cell_test fit fs cs h e m a b =
      let test : ℕ → Bool =
      λ i. fit (eqb (get_or fs (i / 12) 0) 1) (member_of f (i / 12) (i % 12)) (get_or cs (i * 9) 0) (word_at 8 cs (i * 9 + 1)) in
      let below = cell_below e m b count a in
      let t = each_at test 0 (12 * count) h (e * 12 + m) (omega arith) (omega arith) in
      rw (cell_entity e m b, cell_member e m b) at t

  -- a store whose attributes must be set where `must_be_set` says so, by the entity's flag
  module _ (must_be_set : Bool → Bool) (m : List ℕ) (h : T (plane_fits 2 (λ present. store_fits (must_be_set present)) f m)) where
    abbrev cs : List ℕ
    cs = cells_of count m

    passes : (e k : ℕ) → e < count → k < 12
        → T (store_fits (must_be_set (eqb (get_or m e 0) 1)) (member_of f e k) (get_or cs ((e * 12 + k) * 9) 0) (word_at 8 cs ((e * 12 + k) * 9 + 1)))
    passes e k a b =
        let fit : Bool → Option Member → ℕ → ℕ → Bool = λ present. store_fits (must_be_set present) in
        cell_test fit m cs (plane_cells_fit 2 fit f m h) e k a b

    pub store_sound : SoundStore f (decode_store count m)
    unfolding decode_store
    store_sound = record {
      of_kind = λ e k x p. cell_cases (λ v. T (storable x.kind v)) count e k (cell_at cs (e * 12 + k)) Unset
          (λ a b. store_of_kind _ _ _ x (rw p at (passes e k a b)))
          (λ a. unset_storable x.kind)
          (λ b. unset_storable x.kind);
      no_cell = λ e k p. cell_cases (λ v. v ≡ Unset) count e k (cell_at cs (e * 12 + k)) Unset
          (λ a b. store_no_cell _ _ _ (rw p at (passes e k a b)))
          (λ a. refl)
          (λ b. refl);
      no_entity = λ e p. rw (le-ltb e count (past_none f.entities e p));
    }

    attributes_set : WithinCounts f → (e k : ℕ) (x : Member) → member_of f e k ≡ some x → T (is_attribute x.sort)
        → must_be_set (eqb (get_or m e 0) 1) ≡ true → T (is_set ((decode_store count m).cell e k))
    unfolding decode_store
    attributes_set w e k x p a s = cell_cases (λ v. T (is_set v)) count e k (cell_at cs (e * 12 + k)) Unset
        (λ b c. store_set _ _ _ x a s (rw p at (passes e k b c)))
        (λ b. absurd (none_some (sym (no_entity_no_cell f e k b) ∙ p)))
        (λ c. absurd (none_some (sym (no_member_no_cell f e k w c) ∙ p)))

  -- what a store has present is flagged
  flagged : (e : ℕ) (fs : List ℕ) → (ltb e count && eqb (get_or fs e 0) 1) ≡ true → eqb (get_or fs e 0) 1 ≡ true
  flagged e fs h = is_true (eqb (get_or fs e 0) 1) (and_r (ltb e count) (eqb (get_or fs e 0) 1) (rw h tt))

  pub stores_sound : WithinCounts f → (m : List ℕ) → are_stores f m ≡ true → SoundStores f (decode_stores count m)
  unfolding decode_stores decode_store
  stores_sound w m h =
      let p = are_stores_passes f m h in
      let next = next_plane count m in
      record {
        now = store_sound (λ present. true) m p.now;
        previous = store_sound (λ present. present) next p.previous;
        attributes = λ e k x q a. attributes_set (λ present. true) m p.now w e k x q a refl;
        attributes_before = λ e k x q a b. attributes_set (λ present. present) next p.previous w e k x q a (flagged e next b);
      }
