-- Guards of a rule: levels, guards that are put, and what a list of them promises.
use Prim.Native.Nat.{ℕ, ◌+◌, ◌%◌, ◌<◌, ◌≤◌}
use mathlib.Core.Path.{◌≡◌, refl}
use mathlib.Core.List.{List, [], ◌∷◌}
use mathlib.Core.Bool.{Bool, true, false}
use native.Mathlib.Omega.{arith}
use lib.Dec.{ltb}
use lib.ListN.{get_or}
use borrow.Author.Tests.{ltb-true, ltb-false}
use Rattle.std.proofs.lemmas.List.Elements.{All-append, All-cons, All-nil}
use Rattle.text.specs.inner_contracts.Walks.{Rows}
use Rattle.cycles.specs.declared.guards.Guard.{Guard}
use Rattle.cycles.specs.declared.guards.GuardKind.{GuardKind}
use Rattle.cycles.specs.definitions.Store.{Store}
use Rattle.cycles.specs.definitions.Spots.{Spots}
use Rattle.cycles.specs.inner_contracts.GuardKinds.{Covered, Silences, equals_now, differs_before, changes, group, Guarded}
use Rattle.cycles.specs.inner_contracts.Finding.{Growth, GuardPut, none_put, one_put, PartPut, Extends}

-- ---- levels

module _ {refs : List ℕ} where
  pub covered_fewer : {level low high top : ℕ} → high ≤ top → Covered refs level low top → Covered refs level low high
  covered_fewer h c = record { covers = λ i v l k e s. c.covers i v l (omega arith) e s }

  pub covered_more : {a b low high : ℕ} → a ≤ b → Covered refs a low high → Covered refs b low high
  covered_more h c = record { covers = λ i v l k e s. omega (arith, c.covers i v l k e s) }

  pub covered_append : {level low middle high : ℕ} → Covered refs level low middle → Covered refs level middle high → Covered refs level low high
  covered_append {level} {low} {middle} {high} c d = record { covers = λ i v l h e s. go i v l h e s (ltb i middle) refl }
    where
      go : (i v : ℕ) → low ≤ i → i < high → get_or refs i 0 % 256 ≡ 32 + v → v < 3 → (t : Bool) → ltb i middle ≡ t → v < level
      go i v l h e s true q = c.covers i v l (ltb-true i middle q) e s
      go i v l h e s false q = d.covers i v (ltb-false i middle q) h e s

-- ---- guards that are put

module _ {classes : List ℕ} {w : Rows classes} {refs : List ℕ} {silence : Spots → Store → Store → Type 0} where
  -- a guard of what is silent holds where that silences more
  pub guard_along : {other : Spots → Store → Store → Type 0} {guard : Guard}
      → ((sp : Spots) (now previous : Store) → silence sp now previous → other sp now previous)
      → Silences w refs silence guard → Silences w refs other guard
  guard_along f (equals_now k names own h part q) = equals_now k names own h part (λ sp now previous e. f sp now previous (q sp now previous e))
  guard_along f (differs_before k names own h part q) = differs_before k names own h part (λ sp now previous e. f sp now previous (q sp now previous e))
  guard_along f (changes k names own q) = changes k names own (λ sp now previous e. f sp now previous (q sp now previous e))
  guard_along f (group k part q) = group k part (λ sp now previous e. f sp now previous (q sp now previous e))

  -- guards, and one more
  pub guarded_more : {guard : Guard} {g : Growth} → GuardPut guard g → Silences w refs silence guard → Guarded w refs silence g.before
      → Guarded w refs silence g.after
  guarded_more (none_put e) x all = rw e all
  guarded_more {guard} {g} (one_put e) x all = rw e (All-append (Silences w refs silence) g.before (guard ∷ []) all (All-cons (Silences w refs silence) guard [] x (All-nil (Silences w refs silence))))

-- no guard is put, as if its level were that of all variables
pub nothing_put : {refs : List ℕ} {kind : GuardKind} {n m at next : ℕ} {g : Growth} → g.after ≡ g.before → PartPut refs kind n m at next g
nothing_put e = record {
  level = 3;
  inner = 3;
  within = omega arith;
  own = record { covers = λ i v l h r few. few };
  inside = record { covers = λ i v l h r few. few };
  put = none_put e;
}

-- ---- what guards promise of a part

module _ {classes : List ℕ} {w : Rows classes} {refs : List ℕ} {fails : Spots → Store → Store → Type 0} where
  -- guards that are left as they were
  pub extends_same : {g : Growth} → g.after ≡ g.before → Extends w refs fails g
  extends_same e = record { extends = λ r f all. rw e all }

  pub extends_put : {kind : GuardKind} {n m at next : ℕ} {g : Growth} (put : PartPut refs kind n m at next g)
      → Silences w refs fails (record { kind = kind; level = put.level; inner = put.inner; name = n; member = m; at = at }) → Extends w refs fails g
  extends_put put x = record { extends = λ r f all. guarded_more put.put (guard_along f x) all }

  pub extends_then : {a b c : List Guard} → Extends w refs fails (record { before = a; after = b })
      → Extends w refs fails (record { before = b; after = c })
      → Extends w refs fails (record { before = a; after = c })
  extends_then x y = record { extends = λ r f all. y.extends r f (x.extends r f all) }

  -- of a whole that fails with its part
  pub extends_whole : {other : Spots → Store → Store → Type 0} {g : Growth}
      → ((sp : Spots) (now previous : Store) → fails sp now previous → other sp now previous) → Extends w refs fails g → Extends w refs other g
  extends_whole q x = record { extends = λ r f all. x.extends r (λ sp now previous e. f sp now previous (q sp now previous e)) all }
