-- The write that stands in a cell is the one that prevails over all others to it, and there is none exactly if none is to the cell. So a write whose
-- priority is above that of every other write to its cell stands, wherever among them it is.
use Prim.Native.Nat.{ℕ, ◌≤◌, ◌<◌}
use native.Mathlib.Omega.{arith}
use mathlib.Core.Path.{◌≡◌, refl, sym, ap, ◌∙◌, subst}
use mathlib.Core.Logic.{◌↔◌, ◌⊎◌, inl, inr}
use mathlib.Core.List.Memᴰ
use mathlib.Core.List.{List, [], ◌∷◌, ◌++◌, Memᴰ}
use mathlib.Core.Bool.{Bool, true, false, cond, true≢false}
use mathlib.Core.Option.{Option, none, some}
use lib.Dec.{ltb}
use lib.Ieee.Bits.{is_true}
use borrow.Author.Tests.{ltb-true, ltb-false, lt-ltb, le-ltb}
use Rattle.writes.specs.definitions.Writes.{Write, is_to, stronger, standing}
use Rattle.writes.specs.definitions.Prevails.{Prevails}
use Rattle.writes.proofs.laws.StandingLaws.{strongest, standing_append, Holds, standing_holds}

none_some : {w : Write} → none ≡ some w → ⊥
none_some h = let z : ◌≡◌ {A = ℕ} 0 1 = cc in omega arith

some_same : {v w : Write} → some v ≡ some w → v ≡ w
some_same h = cc

module _ (e m : ℕ) where
  -- ---- what prevails stands

  over_later : (w : Write) (o : Option Write) → Holds (λ v. v.priority ≤ w.priority) o → stronger w o ≡ w
  unfolding stronger
  over_later w none h = refl
  over_later w (some v) h = rw (le-ltb w.priority v.priority h)

  over_earlier : (w : Write) (o : Option Write) → Holds (λ v. v.priority < w.priority) o → strongest o (some w) ≡ some w
  unfolding strongest stronger
  over_earlier w none h = refl
  over_earlier w (some v) h = rw (lt-ltb v.priority w.priority h)

  prevails_stands : (ws : List Write) (w : Write) → Prevails e m ws w → standing e m ws ≡ some w
  unfolding standing
  prevails_stands ws w p =
      ap (standing e m) (sym p.all)
      ∙ standing_append e m p.before (w ∷ p.after)
      ∙ ap (strongest (standing e m p.before)) first
      ∙ over_earlier w (standing e m p.before)
      (standing_holds (λ v. v.priority < w.priority) e m p.before (λ v n t. p.above_earlier v n (is_true (is_to e m v) t)))
    where
      first : standing e m (w ∷ p.after) ≡ some w
      first =
          ap (λ b. cond b (some (stronger w (standing e m p.after))) (standing e m p.after)) p.there
          ∙ ap some (over_later w (standing e m p.after)
          (standing_holds (λ v. v.priority ≤ w.priority) e m p.after (λ v n t. p.above_later v n (is_true (is_to e m v) t))))

  -- ---- what stands prevails

  none_to : (ws : List Write) → standing e m ws ≡ none → (v : Write) → Memᴰ v ws → is_to e m v ≡ false
  unfolding standing
  none_to [] h v n = absurd (Memᴰ.not-nil n)
  none_to (x ∷ xs) h v n = go (is_to e m x) refl h (Memᴰ.cases_cons n) (λ g. none_to xs g v)
    where
      go : (b : Bool) → is_to e m x ≡ b → cond b (some (stronger x (standing e m xs))) (standing e m xs) ≡ none → (v ≡ x) ⊎ Memᴰ v xs
          → (standing e m xs ≡ none → Memᴰ v xs → is_to e m v ≡ false) → is_to e m v ≡ false
      go true i h o k = absurd (none_some (sym h))
      go false i h (inl s) k = ap (is_to e m) s ∙ i
      go false i h (inr l) k = k h l

  to_none : (ws : List Write) → ((v : Write) → Memᴰ v ws → is_to e m v ≡ false) → standing e m ws ≡ none
  unfolding standing
  to_none [] h = refl
  to_none (x ∷ xs) h = rw (h x (Memᴰ.head refl)) (to_none xs (λ v n. h v (Memᴰ.tail n)))

  -- none of the writes to the cell is above it
  above_all : {ws : List Write} {w : Write} → Prevails e m ws w → (v : Write) → Memᴰ v ws → is_to e m v ≡ true → v.priority ≤ w.priority
  above_all {ws} {w} p v n t = go (Memᴰ.append_cases p.before (subst (λ l. Memᴰ v l) (sym p.all) n))
    where
      later : (v ≡ w) ⊎ Memᴰ v p.after → v.priority ≤ w.priority
      later (inl s) = let q : v.priority ≡ w.priority = ap (λ (x : Write). x.priority) s in omega arith
      later (inr k) = p.above_later v k t

      go : Memᴰ v p.before ⊎ Memᴰ v (w ∷ p.after) → v.priority ≤ w.priority
      go (inl k) = let l = p.above_earlier v k t in omega arith
      go (inr k) = later (Memᴰ.cases_cons k)

  -- a write more in front of those over which w prevails
  one_earlier : (x : Write) {ws : List Write} {w : Write} → Prevails e m ws w → (is_to e m x ≡ true → x.priority < w.priority) → Prevails e m (x ∷ ws) w
  one_earlier x {ws} {w} p h = record {
    before = x ∷ p.before;
    after = p.after;
    all = ap (λ l. x ∷ l) p.all;
    there = p.there;
    above_earlier = λ v n t. go v t (Memᴰ.cases_cons n);
    above_later = p.above_later;
  }
    where
      go : (v : Write) → is_to e m v ≡ true → (v ≡ x) ⊎ Memᴰ v p.before → v.priority < w.priority
      go v t (inl s) = subst (λ (y : Write). y.priority < w.priority) (sym s) (h (ap (is_to e m) (sym s) ∙ t))
      go v t (inr k) = p.above_earlier v k t

  -- the first write, over all after it
  first_prevails : (x : Write) (xs : List Write) → is_to e m x ≡ true → ((v : Write) → Memᴰ v xs → is_to e m v ≡ true → v.priority ≤ x.priority)
      → Prevails e m (x ∷ xs) x
  first_prevails x xs i h = record {
    before = [];
    after = xs;
    all = refl;
    there = i;
    above_earlier = λ v n t. absurd (Memᴰ.not-nil n);
    above_later = h;
  }

  stands_prevails : (ws : List Write) (w : Write) → standing e m ws ≡ some w → Prevails e m ws w
  unfolding standing stronger
  stands_prevails [] w h = absurd (none_some h)
  stands_prevails (x ∷ xs) w h = by_cell (λ y. stands_prevails xs y) (is_to e m x) refl h
    where
      Rest : Type 0
      Rest = (y : Write) → standing e m xs ≡ some y → Prevails e m xs y

      by_priority : is_to e m x ≡ true → (y : Write) → Prevails e m xs y → (b : Bool) → ltb x.priority y.priority ≡ b → cond b y x ≡ w → Prevails e m (x ∷ xs) w
      by_priority i y p true q s = subst (Prevails e m (x ∷ xs)) s (one_earlier x p (λ t. ltb-true x.priority y.priority q))
      by_priority i y p false q s = subst (Prevails e m (x ∷ xs)) s (first_prevails x xs i (λ v n t.
          let l = above_all p v n t in
          let k = ltb-false x.priority y.priority q in
          omega arith))

      by_rest : Rest → is_to e m x ≡ true → (o : Option Write) → standing e m xs ≡ o → stronger x o ≡ w → Prevails e m (x ∷ xs) w
      by_rest k i none q s = subst (Prevails e m (x ∷ xs)) s (first_prevails x xs i (λ v n t. absurd (true≢false (sym t ∙ none_to xs q v n))))
      by_rest k i (some y) q s = by_priority i y (k y q) (ltb x.priority y.priority) refl s

      by_cell : Rest → (b : Bool) → is_to e m x ≡ b → cond b (some (stronger x (standing e m xs))) (standing e m xs) ≡ some w → Prevails e m (x ∷ xs) w
      by_cell k true i h = by_rest k i (standing e m xs) refl (some_same h)
      by_cell k false i h = one_earlier x (k w h) (λ t. absurd (true≢false (sym t ∙ i)))

pub standing_exactly : (e m : ℕ) (ws : List Write) (w : Write) → (standing e m ws ≡ some w) ↔ Prevails e m ws w
standing_exactly e m ws w = (stands_prevails e m ws w, prevails_stands e m ws w)

pub standing_none : (e m : ℕ) (ws : List Write) → (standing e m ws ≡ none) ↔ ((v : Write) → Memᴰ v ws → is_to e m v ≡ false)
standing_none e m ws = (none_to e m ws, to_none e m ws)

-- "lab managers want the safety rule to stand wherever it is written"
pub highest_stands : (e m : ℕ) (xs ys : List Write) (w : Write) → is_to e m w ≡ true
    → ((v : Write) → Memᴰ v (xs ++ ys) → is_to e m v ≡ true → v.priority < w.priority) → standing e m (xs ++ w ∷ ys) ≡ some w
highest_stands e m xs ys w i h = prevails_stands e m (xs ++ w ∷ ys) w (record {
  before = xs;
  after = ys;
  all = refl;
  there = i;
  above_earlier = λ v n t. h v (Memᴰ.append_left ys n) t;
  above_later = λ v n t. let l = h v (Memᴰ.append_right xs n) t in omega arith;
})
