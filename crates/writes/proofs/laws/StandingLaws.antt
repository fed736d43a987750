-- Which write stands, of lists of writes one after another: it can be told from which stands of each list.
use Prim.Native.Nat.{ℕ, ◌≤◌, ◌<◌}
use native.Mathlib.Omega.{arith}
use mathlib.Core.Path.{◌≡◌, refl, sym, ap, ◌∙◌}
use mathlib.Core.List.{List, [], ◌∷◌, ◌++◌, Memᴰ}
use mathlib.Core.Bool.{Bool, true, false, cond}
use mathlib.Core.Option.{Option, none, some}
use lib.Dec.{T, ltb}
use borrow.Author.Tests.{ltb-true, ltb-false, lt-ltb, le-ltb}
use Rattle.writes.specs.definitions.Writes.{Write, is_to, stronger, standing}

-- of the write that stands so far, and the one that stands of those after it
unfoldable pub strongest : Option Write → Option Write → Option Write
unfolding stronger
strongest none o = o
strongest (some w) o = some (stronger w o)

pub strongest_none : (o : Option Write) → strongest o none ≡ o
unfolding strongest
strongest_none none = refl
strongest_none (some w) = refl

stronger_chain : (x y z : Write) → stronger (stronger x (some y)) (some z) ≡ stronger x (some (stronger y (some z)))
unfolding stronger
stronger_chain x y z = go (ltb x.priority y.priority) refl (ltb y.priority z.priority) refl
  where
    go : (a : Bool) → ltb x.priority y.priority ≡ a → (b : Bool) → ltb y.priority z.priority ≡ b
        → cond (ltb (cond (ltb x.priority y.priority) y x).priority z.priority) z (cond (ltb x.priority y.priority) y x)
        ≡ cond (ltb x.priority (cond (ltb y.priority z.priority) z y).priority) (cond (ltb y.priority z.priority) z y) x
    go true p true q =
        let h : x.priority < z.priority = omega (arith, ltb-true x.priority y.priority p, ltb-true y.priority z.priority q) in
        rw (p, q, lt-ltb x.priority z.priority h)
    go true p false q = rw (p, q, p)
    go false p true q = rw (p, q)
    go false p false q =
        let h : z.priority ≤ x.priority = omega (arith, ltb-false x.priority y.priority p, ltb-false y.priority z.priority q) in
        rw (p, q, p, le-ltb x.priority z.priority h)

pub strongest_chain : (a b c : Option Write) → strongest (strongest a b) c ≡ strongest a (strongest b c)
unfolding strongest stronger
strongest_chain none b c = refl
strongest_chain (some x) none c = refl
strongest_chain (some x) (some y) none = refl
strongest_chain (some x) (some y) (some z) = ap some (stronger_chain x y z)

module _ (e m : ℕ) where
  -- the first of writes, and those after it
  pub standing_cons : (w : Write) (ws : List Write) → standing e m (w ∷ ws) ≡ strongest (standing e m (w ∷ [])) (standing e m ws)
  unfolding standing strongest stronger
  standing_cons w ws = go (is_to e m w)
    where
      go : (b : Bool) → cond b (some (stronger w (standing e m ws))) (standing e m ws) ≡ strongest (cond b (some w) none) (standing e m ws)
      go true = refl
      go false = refl

  -- writes, and further ones after them
  pub standing_append : (xs ys : List Write) → standing e m (xs ++ ys) ≡ strongest (standing e m xs) (standing e m ys)
  unfolding strongest standing
  standing_append [] ys = refl
  standing_append (x ∷ xs) ys =
      standing_cons x (xs ++ ys)
      ∙ ap (strongest (standing e m (x ∷ []))) (standing_append xs ys)
      ∙ sym (strongest_chain (standing e m (x ∷ [])) (standing e m xs) (standing e m ys))
      ∙ ap (λ o. strongest o (standing e m ys)) (sym (standing_cons x xs))

-- ---- what holds of the write that stands

abbrev pub Holds : (Write → Type 0) → Option Write → Type 0
Holds has none = Unit {0}
Holds has (some w) = has w

stronger_holds : (has : Write → Type 0) (w : Write) (o : Option Write) → has w → Holds has o → has (stronger w o)
unfolding stronger
stronger_holds has w none h g = h
stronger_holds has w (some v) h g = go (ltb w.priority v.priority)
  where
    go : (b : Bool) → has (cond b v w)
    go true = g
    go false = h

-- what holds of every write to the cell
pub standing_holds : (has : Write → Type 0) (e m : ℕ) (ws : List Write) → ((w : Write) → Memᴰ w ws → T (is_to e m w) → has w)
    → Holds has (standing e m ws)
unfolding standing
standing_holds has e m [] h = tt
standing_holds has e m (w ∷ ws) h = go (is_to e m w) refl (standing_holds has e m ws (λ v n. h v (Memᴰ.tail n)))
  where
    go : (b : Bool) → is_to e m w ≡ b → Holds has (standing e m ws) → Holds has (cond b (some (stronger w (standing e m ws))) (standing e m ws))
    go true i g = stronger_holds has w (standing e m ws) (h w (Memᴰ.head refl) (rw i tt)) g
    go false i g = g
