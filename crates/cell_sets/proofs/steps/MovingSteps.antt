-- The cells that moved, entity by entity.
use Prim.Native.Nat.{ℕ, ◌+◌, ◌-◌, ◌*◌, ◌/◌, ◌≤◌, ◌<◌}
use native.Mathlib.Nat.{suc-mul, mul-le-mul_right}
use native.Mathlib.Numerals.{add-one}
use native.Mathlib.Omega.{arith}
use mathlib.Core.Path.{◌≡◌, refl, sym, ap, ◌∙◌, subst}
use mathlib.Core.List.{List}
use mathlib.Core.Bool.{Bool, true, false, ◌||◌}
use mathlib.Core.Logic.{inl, inr}
use lib.Arith.{digits_div}
use lib.Dec.{ltb}
use lib.ListN.{length, get_or, replicate}
use borrow.Author.Tests.{eq-eqb, ne_eqb, ltb-true, ltb-false}
use Rattle.values.specs.declared.Value.{Value}
use Rattle.values.specs.declared.Value.TheVariants.{Whole, Truth, Real, Unset}
use Rattle.values.specs.definitions.Value.{is_set, differ}
use Rattle.values.specs.definitions.Cells.{cell_at}
use Rattle.cell_sets.specs.definitions.Sets.{is_in}
use Rattle.cell_sets.specs.inner_contracts.Adding.{Added}
use Rattle.cell_sets.specs.inner_contracts.Meeting.{with_member}
use Rattle.cell_sets.specs.inner_contracts.Moving.{reading_at, moved_at, MovedSet, cells_differ, cell_is_set, entity_moved}
use Rattle.cell_sets.proofs.laws.SetLaws.{empty_set, length_with_member, member_in}
use Rattle.cell_sets.proofs.steps.AddingSteps.{added_pass, added_skip, added_by, added_none}

differ_unset : (v : Value) → differ v Unset ≡ is_set v
differ_unset (Whole x) = refl
differ_unset (Truth x) = refl
differ_unset (Real x) = refl
differ_unset Unset = refl

-- ---- cell by cell: the set as it is now, and with one more cell looked at

module _ (passes : ℕ → Bool) {first i : ℕ} (before s t : List ℕ) (a : Added passes first i (is_in before) (is_in s)) (h : first ≤ i)
    (l : length s ≡ length before) {r : Bool} (q : r ≡ passes i) where
  pub cell_passes : i < 8 * length before → r ≡ true → t ≡ with_member 0 s i
      → (length t ≡ length before) × Added passes first (i + 1) (is_in before) (is_in t)
  cell_passes g p e = (
    ap length e ∙ length_with_member 0 s i ∙ l,
    added_pass a h (sym q ∙ p) (λ j. ap (λ (m : List ℕ). is_in m j) e ∙ member_in s i j (omega arith)),
  )

  pub cell_fails : r ≡ false → t ≡ s → (length t ≡ length before) × Added passes first (i + 1) (is_in before) (is_in t)
  cell_fails p e =
      rw e (l, added_skip a h (sym q ∙ p))

pub set_here : (cells : List ℕ) (i : ℕ) {v : Value} {r : Bool} → r ≡ is_set v → v ≡ cell_at cells i → r ≡ cell_is_set cells i
unfolding cell_is_set
set_here cells i q e = q ∙ ap is_set e

-- ---- an entity by its two flags

module _ (flag previous_flag : ℕ) (cells previous_cells : List ℕ) {first end : ℕ} {before : ℕ → Bool} where
  pub present_both : {after : ℕ → Bool} → flag ≡ 1 → previous_flag ≡ 1 → Added (cells_differ cells previous_cells) first end before after
      → Added (entity_moved flag previous_flag cells previous_cells) first end before after
  unfolding entity_moved cells_differ
  present_both p q a = added_by (λ i. rw (eq-eqb flag 1 p, eq-eqb previous_flag 1 q)) a

  pub present_now : {after : ℕ → Bool} → flag ≡ 1 → (previous_flag ≡ 1 → ⊥) → Added (cell_is_set cells) first end before after
      → Added (entity_moved flag previous_flag cells previous_cells) first end before after
  unfolding entity_moved cell_is_set
  present_now p q a = added_by (λ i. rw (eq-eqb flag 1 p, ne_eqb previous_flag 1 q) (differ_unset (cell_at cells i))) a

  pub present_before : {after : ℕ → Bool} → (flag ≡ 1 → ⊥) → previous_flag ≡ 1 → Added (cell_is_set previous_cells) first end before after
      → Added (entity_moved flag previous_flag cells previous_cells) first end before after
  unfolding entity_moved cell_is_set
  present_before p q a = added_by (λ i. rw (ne_eqb flag 1 p, eq-eqb previous_flag 1 q)) a

  pub present_never : (flag ≡ 1 → ⊥) → (previous_flag ≡ 1 → ⊥) → Added (entity_moved flag previous_flag cells previous_cells) first end before before
  unfolding entity_moved
  present_never p q = added_none (λ i. rw (ne_eqb flag 1 p, ne_eqb previous_flag 1 q))

-- ---- one entity after another

pub entity_next : (per e : ℕ) → (e + 1) * per ≡ e * per + per
entity_next per e = ap (λ (x : ℕ). x * per) (add-one e) ∙ suc-mul e per

-- the cells of entity number e, of so many, end where all end or before
pub entity_within : (per e n : ℕ) → e < n → e * per + per ≤ n * per
entity_within per e n h = subst (λ (x : ℕ). x ≤ n * per) (suc-mul e per) (mul-le-mul_right per h)

-- the entity of a cell
entity_of : (per e i : ℕ) → e * per ≤ i → i < e * per + per → i / per ≡ e
entity_of per e i h g =
    let s : i ≡ e * per + (i - e * per) = omega arith in
    let l : i - e * per < per = omega arith in
    ap (λ (x : ℕ). x / per) s ∙ digits_div e l

module _ {per : ℕ} {flags cells previous_flags previous_cells : List ℕ} where
  pub moved_begin : (s : List ℕ) → s ≡ replicate (length s) 0 → MovedSet per 0 flags cells previous_flags previous_cells s
  moved_begin s e = record {
    is = λ i p. absurd (omega arith);
    none = λ i p. ap (λ (l : List ℕ). is_in l i) e ∙ empty_set (length s) i;
  }

  module _ (e : ℕ) {first : ℕ} (f : first ≡ e * per) {s : List ℕ} (t : List ℕ) (m : MovedSet per first flags cells previous_flags previous_cells s)
      (a : Added (entity_moved (get_or flags e 0) (get_or previous_flags e 0) cells previous_cells) first (first + per) (is_in s) (is_in t)) where
    here : (i : ℕ) → first ≤ i → i < first + per
        → entity_moved (get_or flags e 0) (get_or previous_flags e 0) cells previous_cells i ≡ moved_at per flags cells previous_flags previous_cells i
    unfolding entity_moved moved_at reading_at
    here i p q = rw (entity_of per e i (omega arith) (omega arith))

    pub moved_next : MovedSet per (first + per) flags cells previous_flags previous_cells t
    moved_next = record {
      is = λ i p. by_side i p (ltb i first) refl;
      none = λ i p. a.outside i (inr p) ∙ m.none i (omega arith);
    }
      where
        by_side : (i : ℕ) → i < first + per → (b : Bool) → ltb i first ≡ b → is_in t i ≡ moved_at per flags cells previous_flags previous_cells i
        by_side i p true l = let k = ltb-true i first l in a.outside i (inl k) ∙ m.is i k
        by_side i p false l =
            let k = ltb-false i first l in
            a.inside i k p
            ∙ ap (λ (b : Bool). b || entity_moved (get_or flags e 0) (get_or previous_flags e 0) cells previous_cells i) (m.none i k)
            ∙ here i k p

  pub moved_end : {first count : ℕ} {s : List ℕ} → first ≡ count → MovedSet per first flags cells previous_flags previous_cells s
      → MovedSet per count flags cells previous_flags previous_cells s
  moved_end {s = s} e m = subst (λ (n : ℕ). MovedSet per n flags cells previous_flags previous_cells s) e m
