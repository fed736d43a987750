-- Numbers of a range, one after another, added to a set if they pass a test.
use Prim.Native.Nat.{ℕ, ◌+◌, ◌≤◌, ◌<◌}
use native.Mathlib.Omega.{arith}
use mathlib.Core.Path.{◌≡◌, refl, sym, ap, ◌∙◌, subst}
use mathlib.Core.Bool.{Bool, true, false, ◌||◌, or-true, or-false}
use mathlib.Core.Logic.{◌⊎◌, inl, inr}
use lib.Dec.{eqb}
use borrow.Author.Tests.{ne_eqb, eqb-true, eqb-false}
use Rattle.cell_sets.specs.inner_contracts.Adding.{Added}

-- of none
pub added_begin : {passes : ℕ → Bool} {first : ℕ} {before : ℕ → Bool} → Added passes first first before before
added_begin = record {
  inside = λ i p q. absurd (omega arith);
  outside = λ i o. refl;
}

module _ {passes : ℕ → Bool} {first i : ℕ} {before now_in : ℕ → Bool} (a : Added passes first i before now_in) (h : first ≤ i) where
  outside_next : (j : ℕ) → (j < first) ⊎ (i + 1 ≤ j) → (j < first) ⊎ (i ≤ j)
  outside_next j (inl p) = inl p
  outside_next j (inr p) = inr (omega arith)

  -- one more, which passes and is added
  pub added_pass : {after : ℕ → Bool} → passes i ≡ true → ((j : ℕ) → after j ≡ (now_in j || eqb i j)) → Added passes first (i + 1) before after
  added_pass {after} t w = record {
    inside = λ j p q. inner j p q (eqb i j) refl;
    outside = λ j o. outer j o;
  }
    where
      inner : (j : ℕ) → first ≤ j → j < i + 1 → (b : Bool) → eqb i j ≡ b → after j ≡ (before j || passes j)
      inner j p q true e =
          let s = eqb-true i j e in
          w j ∙ ap (λ (b : Bool). now_in j || b) e ∙ or-true (now_in j)
          ∙ sym (ap (λ (b : Bool). before j || b) (ap passes (sym s) ∙ t) ∙ or-true (before j))
      inner j p q false e =
          let d = eqb-false i j e in
          w j ∙ ap (λ (b : Bool). now_in j || b) e ∙ or-false (now_in j) ∙ a.inside j p (below j q d)
        where
          below : (j : ℕ) → j < i + 1 → (i ≡ j → ⊥) → j < i
          below j q d = omega arith

      apart : (j : ℕ) → (j < first) ⊎ (i + 1 ≤ j) → i ≡ j → ⊥
      apart j (inl p) s = omega arith
      apart j (inr p) s = omega arith

      outer : (j : ℕ) → (j < first) ⊎ (i + 1 ≤ j) → after j ≡ before j
      outer j o =
          w j ∙ ap (λ (b : Bool). now_in j || b) (ne_eqb i j (apart j o)) ∙ or-false (now_in j) ∙ a.outside j (outside_next j o)

  -- one more, which does not pass
  pub added_skip : passes i ≡ false → Added passes first (i + 1) before now_in
  added_skip t = record {
    inside = λ j p q. inner j p q (eqb i j) refl;
    outside = λ j o. a.outside j (outside_next j o);
  }
    where
      inner : (j : ℕ) → first ≤ j → j < i + 1 → (b : Bool) → eqb i j ≡ b → now_in j ≡ (before j || passes j)
      inner j p q true e =
          let s = eqb-true i j e in
          a.outside j (inr (omega arith)) ∙ sym (ap (λ (b : Bool). before j || b) (ap passes (sym s) ∙ t) ∙ or-false (before j))
      inner j p q false e = let d = eqb-false i j e in a.inside j p (below j q d)
        where
          below : (j : ℕ) → j < i + 1 → (i ≡ j → ⊥) → j < i
          below j q d = omega arith

-- of all
pub added_end : {passes : ℕ → Bool} {first i end : ℕ} {before after : ℕ → Bool} → i ≤ end → end ≤ i → Added passes first i before after
    → Added passes first end before after
added_end {passes} {first} {i} {end} {before} {after} h g a =
    let e : i ≡ end = omega arith in subst (λ (n : ℕ). Added passes first n before after) e a

-- by another test that says the same
pub added_by : {passes other : ℕ → Bool} {first end : ℕ} {before after : ℕ → Bool} → ((i : ℕ) → passes i ≡ other i) → Added other first end before after
    → Added passes first end before after
added_by {before = before} s a = record {
  inside = λ i p q. a.inside i p q ∙ ap (λ (b : Bool). before i || b) (sym (s i));
  outside = a.outside;
}

-- by a test that nothing passes
pub added_none : {passes : ℕ → Bool} {first end : ℕ} {before : ℕ → Bool} → ((i : ℕ) → passes i ≡ false) → Added passes first end before before
added_none {before = before} s = record {
  inside = λ i p q. sym (ap (λ (b : Bool). before i || b) (s i) ∙ or-false (before i));
  outside = λ i o. refl;
}
