-- A run of bytes beside one byte.
use mathlib.Core.Path.{◌≡◌, refl}
use mathlib.Core.List.{List, [], ◌∷◌}
use mathlib.Core.Bool.{Bool, true, false, cond}
use Prim.Native.Nat.{ℕ}
use native.Mathlib.Omega.{arith}
use lib.Dec.{eqb}
use lib.ListN.{length, get_or}
use Rattle.values.specs.definitions.Bytes.{same_bytes}

pub byte_same : (s : List ℕ) (b : ℕ) → length s ≡ 1 → same_bytes s (b ∷ []) ≡ eqb (get_or s 0 0) b
unfolding same_bytes
byte_same [] b h = absurd (omega arith)
byte_same (x ∷ []) b h = go (eqb x b)
  where
    go : (t : Bool) → cond t true false ≡ t
    go true = refl
    go false = refl
byte_same (x ∷ y ∷ s) b h = absurd (omega arith)

pub byte_not_alone : (s : List ℕ) (b : ℕ) → (length s ≡ 1 → ⊥) → same_bytes s (b ∷ []) ≡ false
unfolding same_bytes
byte_not_alone [] b h = refl
byte_not_alone (x ∷ []) b h = absurd (h refl)
byte_not_alone (x ∷ y ∷ s) b h = go (eqb x b)
  where
    go : (t : Bool) → cond t false false ≡ false
    go true = refl
    go false = refl
