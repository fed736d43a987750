-- Cells put into the set of one rule, one after another.
use Prim.Native.Nat.{ℕ, suc, ◌+◌, ◌*◌, ◌-◌, ◌/◌, ◌%◌, ◌≤◌, ◌<◌}
use native.Mathlib.Omega.{arith}
use mathlib.Core.Path.{◌≡◌, refl, sym, ap, ◌∙◌}
use mathlib.Core.Bool.{Bool, true, false, ◌&&◌, ◌||◌, or-false, or_assoc}
use mathlib.Core.List.{List}
use lib.Dec.{eqb, ltb}
use lib.ListN.{length, get_or}
use borrow.Author.Tests.{eq-eqb, ne_eqb, eqb-true, eqb-false, lt-ltb, le-ltb, ltb-true, ltb-false}
use Rattle.cell_sets.specs.inner_contracts.Meeting.{with_member, row_has}
use Rattle.cell_sets.proofs.laws.SetLaws.{length_with_member, member_apart, member_added}
use Rattle.checking.specs.inner_contracts.Directory.{ENTITY_COUNT_ROW, entity_interface_row}
use Rattle.checking.specs.inner_contracts.Resolving.{OwnerOf}
use Rattle.cycles.specs.inner_contracts.ReadSets.{SCOPES_BYTES}
use Rattle.reads.specs.inner_contracts.ReadSteps.{set_start, set_has, CellsAdded, has_face, can_refer, MentionAdded}

-- ---- a cell's byte

-- a cell's byte is one of its set's
pub byte_below : (k e m : ℕ) → e < 32 → m < 12 → set_start k + (e * 12 + m) / 8 < set_start (suc k)
byte_below k e m h l = omega arith

-- where its byte is the same, so is whether it is in the set
pub same_set : (s t : List ℕ) (k e m : ℕ) → get_or t (set_start k + (e * 12 + m) / 8) 0 ≡ get_or s (set_start k + (e * 12 + m) / 8) 0
    → set_has t k e m ≡ set_has s k e m
unfolding row_has
same_set s t k e m q = rw q

-- two cells by their entities and members
pub same_cell : (e m a b : ℕ) → m < 12 → b < 12 → eqb (e * 12 + m) (a * 12 + b) ≡ (eqb e a && eqb m b)
same_cell e m a b h l = go (eqb e a) refl (eqb m b) refl
  where
    go : (s : Bool) → eqb e a ≡ s → (t : Bool) → eqb m b ≡ t → eqb (e * 12 + m) (a * 12 + b) ≡ (s && t)
    go true p true q = eq-eqb (e * 12 + m) (a * 12 + b) (rw (eqb-true e a p, eqb-true m b q))
    go true p false q = ne_eqb (e * 12 + m) (a * 12 + b) (λ i. eqb-false m b q (omega (arith, eqb-true e a p)))
    go false p t q = ne_eqb (e * 12 + m) (a * 12 + b) (λ i. eqb-false e a p (omega arith))

-- ---- additions

pub cell_added : (k e m : ℕ) {s t : List ℕ} → t ≡ with_member (set_start k) s (e * 12 + m) → k < 64 → e < 32 → m < 12 → SCOPES_BYTES ≤ length s
    → CellsAdded k (λ a b. eqb e a && eqb m b) s t
unfolding row_has
cell_added k e m {s} {t} put low h l room =
    let at = byte_below k e m h l in
    record {
      kept = rw put (length_with_member (set_start k) s (e * 12 + m));
      before = λ p q. rw put (member_apart (set_start k) s (e * 12 + m) p (λ i. omega arith));
      after = λ p q. rw put (member_apart (set_start k) s (e * 12 + m) p (λ i. omega arith));
      is = λ a b g f. rw put
          (member_added (set_start k) s (e * 12 + m) (a * 12 + b) (omega arith)
          ∙ ap (λ (t : Bool). set_has s k a b || t) (same_cell e m a b l f));
    }

pub none_added : (k : ℕ) {cell : ℕ → ℕ → Bool} (s : List ℕ) → ((e m : ℕ) → e < 32 → m < 12 → cell e m ≡ false) → CellsAdded k cell s s
none_added k s f = record {
  kept = refl;
  before = λ p q. refl;
  after = λ p q. refl;
  is = λ e m h l. sym (or-false (set_has s k e m)) ∙ ap (λ (t : Bool). set_has s k e m || t) (sym (f e m h l));
}

pub more_added : {k : ℕ} {f g h : ℕ → ℕ → Bool} {s t u : List ℕ} → CellsAdded k f s t → CellsAdded k g t u
    → ((e m : ℕ) → e < 32 → m < 12 → (f e m || g e m) ≡ h e m) → CellsAdded k h s u
more_added {k} {f} {g} {h} {s} {t} {u} a b j = record {
  kept = b.kept ∙ a.kept;
  before = λ p q. b.before p q ∙ a.before p q;
  after = λ p q. b.after p q ∙ a.after p q;
  is = λ e m i l.
      b.is e m i l ∙ ap (λ (x : Bool). x || g e m) (a.is e m i l) ∙ or_assoc (set_has s k e m) (f e m) (g e m)
      ∙ ap (λ (x : Bool). set_has s k e m || x) (j e m i l);
}

pub added_as : {k : ℕ} {f h : ℕ → ℕ → Bool} {s t : List ℕ} → CellsAdded k f s t → ((e m : ℕ) → e < 32 → m < 12 → f e m ≡ h e m) → CellsAdded k h s t
added_as {k} {s = s} a j = record {
  kept = a.kept;
  before = a.before;
  after = a.after;
  is = λ e m i l. a.is e m i l ∙ ap (λ (x : Bool). set_has s k e m || x) (j e m i l);
}

-- ---- the entities of an interface, from the first one on

-- those below number n
unfoldable pub face_below : List ℕ → ℕ → ℕ → ℕ → ℕ → ℕ → Bool
unfolding has_face
face_below d face m n a b = ltb a n && (has_face d face a && eqb m b)

module _ (d : List ℕ) (face m k : ℕ) where
  pub faces_start : {s : List ℕ} → CellsAdded k (face_below d face m 0) s s
  unfolding face_below
  faces_start {s} = none_added k s (λ a b h l. rw (le-ltb a 0 (omega arith)))

  below_next : (n a b : ℕ) → (face_below d face m n a b || (eqb n a && (has_face d face n && eqb m b))) ≡ face_below d face m (n + 1) a b
  unfolding face_below
  below_next n a b = go (eqb n a) refl (ltb a n) refl
    where
      go : (x : Bool) → eqb n a ≡ x → (y : Bool) → ltb a n ≡ y
          → ((y && (has_face d face a && eqb m b)) || (x && (has_face d face n && eqb m b))) ≡ (ltb a (n + 1) && (has_face d face a && eqb m b))
      go true p true q = absurd (omega (arith, eqb-true n a p, ltb-true a n q))
      go true p false q = let e = eqb-true n a p in rw (lt-ltb a (n + 1) (omega arith), e)
      go false p true q = let l = ltb-true a n q in rw (lt-ltb a (n + 1) (omega arith)) (or-false (has_face d face a && eqb m b))
      go false p false q =
          let l = ltb-false a n q in
          let z = eqb-false n a p in
          rw (le-ltb a (n + 1) (omega (arith, z)))

  module _ {s t : List ℕ} {n : ℕ} (h : CellsAdded k (face_below d face m n) s t) (inside : n < get_or d ENTITY_COUNT_ROW 0) where
    pub face_added : {u : List ℕ} → get_or d (entity_interface_row n) 0 ≡ face → CellsAdded k (λ a b. eqb n a && eqb m b) t u
        → CellsAdded k (face_below d face m (n + 1)) s u
    unfolding has_face
    face_added e g =
        let here : true ≡ has_face d face n = rw (lt-ltb n (get_or d ENTITY_COUNT_ROW 0) inside, eq-eqb (get_or d (entity_interface_row n) 0) face e) in
        more_added h g (λ a b i l.
        ap (λ (x : Bool). face_below d face m n a b || (eqb n a && (x && eqb m b))) here ∙ below_next n a b)

    pub face_passed : (get_or d (entity_interface_row n) 0 ≡ face → ⊥) → CellsAdded k (face_below d face m (n + 1)) s t
    unfolding has_face
    face_passed e = added_as h (λ a b i l.
        sym (or-false (face_below d face m n a b))
        ∙ ap (λ (x : Bool). face_below d face m n a b || x) (sym (none_here (eqb n a) b)) ∙ below_next n a b)
      where
        none_here : (x : Bool) (b : ℕ) → (x && (has_face d face n && eqb m b)) ≡ false
        none_here false b = refl
        none_here true b = rw (lt-ltb n (get_or d ENTITY_COUNT_ROW 0) inside, ne_eqb (get_or d (entity_interface_row n) 0) face e)

  -- all of them
  pub faces_counted : {s t : List ℕ} {n : ℕ} → CellsAdded k (face_below d face m n) s t → get_or d ENTITY_COUNT_ROW 0 ≤ n
      → CellsAdded k (λ a b. has_face d face a && eqb m b) s t
  unfolding face_below has_face
  faces_counted {n = n} h l = added_as h (λ a b i j. go a b (ltb a n) refl)
    where
      go : (a b : ℕ) (x : Bool) → ltb a n ≡ x → (x && (has_face d face a && eqb m b)) ≡ (has_face d face a && eqb m b)
      go a b true p = refl
      go a b false p = rw (le-ltb a (get_or d ENTITY_COUNT_ROW 0) (omega (arith, ltb-false a n p)))

  pub faces_all : {s t : List ℕ} {n : ℕ} → CellsAdded k (face_below d face m n) s t → 32 ≤ n → CellsAdded k (λ a b. has_face d face a && eqb m b) s t
  unfolding face_below
  faces_all {n = n} h l = added_as h (λ a b i j. rw (lt-ltb a n (omega arith)))

-- ---- a reference

module _ (d : List ℕ) (k r m : ℕ) {s : List ℕ} where
  pub no_member_added : 12 ≤ m → CellsAdded k (λ e b. can_refer d s k r e && eqb m b) s s
  no_member_added h = none_added k s (λ e b i l. rw (ne_eqb m b (λ q. omega arith)) (and_none (can_refer d s k r e)))
    where
      and_none : (x : Bool) → (x && false) ≡ false
      and_none true = refl
      and_none false = refl

  pub entity_added : {t : List ℕ} → r < 32 → CellsAdded k (λ a b. eqb r a && eqb m b) s t → CellsAdded k (λ e b. can_refer d s k r e && eqb m b) s t
  unfolding can_refer
  entity_added h a = added_as a (λ e b i l. rw (lt-ltb r 32 h))

  pub nothing_added : 32 ≤ r → 3 ≤ r - 32 → CellsAdded k (λ e b. can_refer d s k r e && eqb m b) s s
  unfolding can_refer
  nothing_added h l = none_added k s (λ e b i j. rw (le-ltb r 32 h, le-ltb (r - 32) 3 l))

  pub variable_added : {t : List ℕ} {face : ℕ} → 32 ≤ r → r - 32 < 3 → face ≡ get_or s (4 * k + 1 + (r - 32)) 0
      → CellsAdded k (λ a b. has_face d face a && eqb m b) s t → CellsAdded k (λ e b. can_refer d s k r e && eqb m b) s t
  unfolding can_refer
  variable_added h l e a = added_as a (λ x b i j. rw (le-ltb r 32 h, lt-ltb (r - 32) 3 l, ← e))

-- of the rows of a member's name and its owner's
pub mention_added : {classes d refs : List ℕ} {k i owner x y : ℕ} {s t : List ℕ} → OwnerOf classes i owner → x ≡ get_or refs owner 0 → y ≡ get_or refs i 0
    → CellsAdded k (λ e b. can_refer d s k (x % 256) e && eqb (y / 256) b) s t → MentionAdded classes d refs k i s t
mention_added {owner = owner} o p q a = record { owner = owner; owns = o; added = added_as a (λ e b h l. rw (p, q)) }
