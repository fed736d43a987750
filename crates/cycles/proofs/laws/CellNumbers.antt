-- The number of a cell, by its entity and its member; and that a bench has no entity and no member beyond its counts.
use mathlib.Core.Path.{◌≡◌, refl, ap}
use mathlib.Core.Bool.{Bool, true, false, cond, ◌&&◌}
use mathlib.Core.List.{List, [], ◌∷◌}
use mathlib.Core.Option.{Option, none, some}
use Prim.Native.Nat.{ℕ, zero, suc, ◌+◌, ◌*◌, ◌/◌, ◌%◌, ◌≤◌, ◌<◌}
use native.Mathlib.Nat.{le_trans}
use native.Mathlib.Omega.{arith}
use lib.Dec.{ltb}
use lib.ListN.{length, get_elem?}
use borrow.Author.Tests.{ltb-true, ltb-false}
use Rattle.text.specs.definitions.Syntax.{Interface, Entity, File}
use Rattle.checking.specs.definitions.Scope.{interface_of_entity, interface_of, nth_member, member_of}
use Rattle.checking.proofs.laws.WithinCounts.{WithinCounts}

-- ---- entity and member from the number of their cell, and back

module _ (e m : ℕ) (h : m < 12) where
  pub cell_entity : (e * 12 + m) / 12 ≡ e
  cell_entity = omega arith

  pub cell_member : (e * 12 + m) % 12 ≡ m
  cell_member = omega arith

  pub cell_below : (n : ℕ) → e < n → e * 12 + m < 12 * n
  cell_below n g = omega arith

-- a value that depends on whether a bench of n entities has the cell
module _ {A : Type 0} (P : A → Type 0) (n e m : ℕ) (x d : A) where
  pub cell_cases : (e < n → m < 12 → P x) → (n ≤ e → P d) → (12 ≤ m → P d) → P (cond (ltb e n && ltb m 12) x d)
  cell_cases i p q = go (ltb e n) refl (ltb m 12) refl
    where
      go : (a : Bool) → ltb e n ≡ a → (b : Bool) → ltb m 12 ≡ b → P (cond (a && b) x d)
      go true s true t = i (ltb-true e n s) (ltb-true m 12 t)
      go true s false t = q (ltb-false m 12 t)
      go false s b t = p (ltb-false e n s)

-- ---- past the end

module _ {A : Type 0} where
  pub none_past : (l : List A) (i : ℕ) → length l ≤ i → get_elem? l i ≡ none
  none_past [] i h = refl
  none_past (x ∷ xs) zero h = absurd (omega arith)
  none_past (x ∷ xs) (suc i) h = none_past xs i (omega arith)

  pub past_none : (l : List A) (i : ℕ) → get_elem? l i ≡ none → length l ≤ i
  past_none [] i h = omega arith
  past_none (x ∷ xs) zero h = let z : ◌≡◌ {A = ℕ} 0 1 = cc in absurd (omega arith)
  past_none (x ∷ xs) (suc i) h = let g = past_none xs i h in omega arith

module _ (f : File) (e m : ℕ) where
  pub no_entity_no_cell : length f.entities ≤ e → member_of f e m ≡ none
  unfolding member_of
  no_entity_no_cell h = ap (λ (o : Option Entity). nth_member (interface_of_entity f o) m) (none_past f.entities e h)

  pub no_member_no_cell : WithinCounts f → 12 ≤ m → member_of f e m ≡ none
  unfolding member_of
  no_member_no_cell w h = go (interface_of f e) refl
    where
      go : (o : Option Interface) → interface_of f e ≡ o → nth_member o m ≡ none
      go none p = refl
      go (some i) p = none_past i.members m (le_trans (w.members e i p) h)

  -- members stand one behind another
  pub no_member_on : member_of f e m ≡ none → (k : ℕ) → member_of f e (m + k) ≡ none
  unfolding member_of nth_member
  no_member_on h k = go (interface_of f e) h
    where
      go : (o : Option Interface) → nth_member o m ≡ none → nth_member o (m + k) ≡ none
      go none g = refl
      go (some i) g = let l = past_none i.members m g in none_past i.members (m + k) (omega arith)
