-- The numbers of the tokens of some classes are those at which a grammatical file's items begin.
use Prim.Native.Nat.{ℕ, zero, suc, ◌+◌, ◌-◌, ◌≤◌, ◌<◌}
use native.Mathlib.Omega.{arith}
use mathlib.Core.Path.{◌≡◌, refl, sym, ap, ◌∙◌, subst}
use mathlib.Core.Logic.{◌≢◌}
use mathlib.Core.Bool.{Bool, true, false, ◌&&◌}
use mathlib.Core.List.{List, [], ◌∷◌, ◌++◌, map, head-eq_of_cons-eq, tail-eq_of_cons-eq, nil≢cons}
use mathlib.Core.Option.{some}
use lib.Dec.{leb, ltb}
use lib.ListN.{length, get_or, get_elem?}
use borrow.Author.Tests.{eq-eqb, ltb-true, ltb-false}
use Rattle.text.specs.definitions.Tokens.{Token, INTERFACE, ATTRIBUTE, ACTION, BRACE_CLOSE}
use Rattle.text.specs.definitions.Syntax.{Member, Interface}
use Rattle.text.specs.definitions.Grammar.{interface_after}
use Rattle.text.proofs.laws.LanguageLaws.{is}
use Rattle.text.proofs.laws.ListLaws.{none_some, some_injective}
use Rattle.text.proofs.laws.SpotLaws.{Starts, Spots, over, skip, spot, spots_le, stands_below}
use Rattle.text.proofs.laws.DeclarationMarks.{ClassAt, MemberAt, Declared, member_mark, close_mark, DeclaredAt, is_leading, interface_after_marks}
use Rattle.text.proofs.laws.FlatLaws.{is_member, of_sort, sort_other, not_wanted, not_member}
use Rattle.checking.specs.inner_contracts.ClassSearch.{FirstOf}
use Rattle.checking.specs.inner_contracts.CountChecked.{ClassesOf}
use Rattle.checking.specs.inner_contracts.TokenPlaces.{place_if, places}

-- as many numbers as items, and each item at its number
pub record Placed {X : Type 0} (at : ℕ → X → Type 0) (ps : List ℕ) (xs : List X) : Type 0 where
  pub count : length ps ≡ length xs
  pub each : (j : ℕ) (x : X) → get_elem? xs j ≡ some x → at (get_or ps j 0) x

module _ {X : Type 0} {at : ℕ → X → Type 0} where
  placed_none : Placed at [] []
  placed_none = record { count = refl; each = λ j x e. absurd (none_some e) }

  placed_more : {p : ℕ} {ps : List ℕ} {x : X} {xs : List X} → at p x → Placed at ps xs → Placed at (p ∷ ps) (x ∷ xs)
  placed_more {p} {ps} {x} {xs} a h = record { count = ap suc h.count; each = go }
    where
      go : (j : ℕ) (y : X) → get_elem? (x ∷ xs) j ≡ some y → at (get_or (p ∷ ps) j 0) y
      go zero y e = subst (at p) (some_injective e) a
      go (suc j) y e = h.each j y e

module _ {classes : List ℕ} {ts : List Token} (w : ClassesOf classes ts) where
  -- of a part of the tokens
  pub spots_placed : {X : Type 0} {at : ℕ → X → Type 0} {wanted : ℕ → Bool} {p q : ℕ} {xs : List X} → Spots ts wanted at p q xs
      → (low high : ℕ) → ((c : ℕ) → leb low c && leb c high ≡ wanted c) → (k : ℕ) → p + k ≡ q → Placed at (places classes low high k p) xs
  unfolding places
  spots_placed over low high r zero e = placed_none
  spots_placed over low high r (suc k) e = absurd (omega arith)
  spots_placed (skip t s v h) low high r zero e = absurd (omega (arith, spots_le h))
  spots_placed (skip {p = p} t s v h) low high r (suc k) e =
      rw (← w.class p t s, r t.class, v) (spots_placed h low high r k (omega arith))
  spots_placed (spot t s v a h) low high r zero e = absurd (omega (arith, spots_le h))
  spots_placed (spot {p = p} t s v a h) low high r (suc k) e =
      rw (← w.class p t s, r t.class, v) (placed_more a (spots_placed h low high r k (omega arith)))

  -- ---- up to the first token of a class

  -- that token is a later one than a token of another class
  first_later : {c s r : ℕ} {t : Token} → FirstOf classes c s r → get_elem? ts s ≡ some t → is c t.class ≡ false → FirstOf classes c (suc s) r
  first_later {c} {s} {r} {t} h st n = record {
    low = later;
    high = omega (arith, h.high);
    before = λ k l m. h.before k l (omega arith);
    here = h.here;
  }
    where
      there : r ≢ s
      there e =
          let i : s < length classes = omega (arith, stands_below ts s st, w.count) in
          let g : get_or classes r 0 ≡ c = h.here (omega arith) in
          let o : t.class ≡ c = w.class s t st ∙ ap (λ k. get_or classes k 0) (sym e) ∙ g in
          let f : true ≡ false = sym (eq-eqb t.class c o) ∙ n in
          let z : ◌≡◌ {A = ℕ} 0 1 = cc in omega arith

      later : suc s ≤ r
      later = omega (arith, h.low, there)

  -- a token before the `}` that begins no member
  no_member : {s r : ℕ} {t : Token} → FirstOf classes BRACE_CLOSE (suc s) r → get_elem? ts s ≡ some t → is_member t.class ≡ false
      → places classes ATTRIBUTE ACTION (r - s) s ≡ places classes ATTRIBUTE ACTION (r - suc s) (suc s)
  unfolding places place_if
  no_member {s} {r} {t} h st n = let e : r - s ≡ suc (r - suc s) = omega (arith, h.low) in rw (e, ← w.class s t st, n)

  one_member : {s r : ℕ} {t : Token} → FirstOf classes BRACE_CLOSE (suc s) r → get_elem? ts s ≡ some t → is_member t.class ≡ true
      → places classes ATTRIBUTE ACTION (r - s) s ≡ s ∷ places classes ATTRIBUTE ACTION (r - suc s) (suc s)
  unfolding places place_if
  one_member {s} {r} {t} h st n = let e : r - s ≡ suc (r - suc s) = omega (arith, h.low) in rw (e, ← w.class s t st, n)

  -- `}` itself
  at_close : {s r : ℕ} → FirstOf classes BRACE_CLOSE s r → ClassAt ts s BRACE_CLOSE → r - s ≡ 0
  at_close {s} {r} h a = go (ltb s r) refl
    where
      go : (b : Bool) → ltb s r ≡ b → r - s ≡ 0
      go true e = absurd (h.before s (ltb-true s r e) (omega arith) (sym (w.class s a.token a.stands) ∙ a.class))
      go false e = omega (arith, ltb-false s r e)

  -- the members up to the `}`, by the first token
  UpTo : ℕ → ℕ → List Member → Type 0
  UpTo s r ms = Placed (MemberAt ts) (places classes ATTRIBUTE ACTION (r - s) s) ms

  past_other : {s r : ℕ} {t : Token} (ms : List Member) → get_elem? ts s ≡ some t → is BRACE_CLOSE t.class ≡ false → is_member t.class ≡ false
      → FirstOf classes BRACE_CLOSE s r → (FirstOf classes BRACE_CLOSE (suc s) r → UpTo (suc s) r ms) → UpTo s r ms
  unfolding UpTo
  past_other ms st c n f k = let g = first_later f st c in rw (no_member g st n) (k g)

  past_member : {s r : ℕ} {m : Member} (ms : List Member) → MemberAt ts s m → FirstOf classes BRACE_CLOSE s r
      → (FirstOf classes BRACE_CLOSE (suc s) r → UpTo (suc s) r ms) → UpTo s r (m ∷ ms)
  unfolding UpTo
  past_member {m = m} ms b f k =
      let g = first_later f b.first.stands (ap (is BRACE_CLOSE) b.first.class ∙ sort_other BRACE_CLOSE refl refl refl m.sort) in
      rw (one_member g b.first.stands (ap is_member b.first.class ∙ of_sort m.sort)) (placed_more b (k g))

  past_none : {s r : ℕ} → ClassAt ts s BRACE_CLOSE → FirstOf classes BRACE_CLOSE s r → UpTo s r []
  unfolding UpTo places
  past_none a f = rw (at_close f a) placed_none

  members_placed : {s e : ℕ} {xs : List Declared} → Spots ts is_leading (DeclaredAt ts) s e xs → (ms : List Member)
      → xs ≡ map member_mark ms ++ close_mark ∷ [] → {r : ℕ} → FirstOf classes BRACE_CLOSE s r → UpTo s r ms
  members_placed over [] g f = absurd (nil≢cons g)
  members_placed over (m ∷ ms) g f = absurd (nil≢cons g)
  members_placed (skip t s v h) ms g f =
      past_other ms s (not_wanted is_leading BRACE_CLOSE refl t.class v) (not_member t.class v) f (members_placed h ms g)
  members_placed (spot {p = p} t s v a h) [] g f = past_none (subst (DeclaredAt ts p) (head-eq_of_cons-eq g) a) f
  members_placed (spot {p = p} t s v a h) (m ∷ ms) g f =
      past_member ms (subst (DeclaredAt ts p) (head-eq_of_cons-eq g) a) f (members_placed h ms (tail-eq_of_cons-eq g))

  -- from the interface's own token on
  pub interface_members_placed : {p r : ℕ} {i : Interface} → Starts ts p INTERFACE interface_after i → FirstOf classes BRACE_CLOSE p r
      → Placed (MemberAt ts) (places classes ATTRIBUTE ACTION (r - p) p) i.members
  unfolding UpTo
  interface_members_placed {p} {r} {i} s f =
      let (xs, q, h) = (interface_after_marks ts s.token (suc p)).marks i s.used s.reads in
      past_other i.members s.stands (ap (is BRACE_CLOSE) s.class) (ap is_member s.class) f (members_placed q i.members h.0)
