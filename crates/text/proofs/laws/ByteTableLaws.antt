-- What a table of bytes has at each entry; two functions whose tables are equal agree at each byte.
use Prim.Native.Nat.{ℕ, zero, suc, ◌+◌, ◌<◌}
use mathlib.Core.Path.{◌≡◌, refl, sym, ap, ◌∙◌}
use native.Mathlib.Nat.{add-zero}
use native.Mathlib.Omega.{arith}
use mathlib.Core.List.{List, [], ◌∷◌}
use lib.ListN.{length, get_or}
use Rattle.std.specs.Prelude.{map}
use Rattle.text.specs.inner_contracts.ByteTables.{tabulate, BYTES, at_bytes}

module _ {A : Type 0} (f : ℕ → A) where
  length_tabulate : (at n : ℕ) → length (tabulate f at n) ≡ n
  unfolding tabulate
  length_tabulate at zero = refl
  length_tabulate at (suc n) = ap suc (length_tabulate (at + 1) n)

  pub entry_from : (d : A) (at n k : ℕ) → k < n → get_or (tabulate f at n) k d ≡ f (at + k)
  unfolding tabulate
  entry_from d at zero k h = absurd (omega arith)
  entry_from d at (suc n) zero h = ap f (sym (add-zero at))
  entry_from d at (suc n) (suc k) h = let e : at + 1 + k ≡ at + suc k = omega arith in entry_from d (at + 1) n k (omega arith) ∙ ap f e

  pub length_at_bytes : length (at_bytes f) ≡ BYTES
  length_at_bytes = length_tabulate 0 BYTES

  pub entry_at : (d : A) (b : ℕ) → b < BYTES → get_or (at_bytes f) b d ≡ f b
  entry_at d b h = entry_from d 0 BYTES b h ∙ ap f (omega arith)

-- two functions of bytes whose tables are equal agree at each byte
pub agree : {A : Type 0} (f g : ℕ → A) → at_bytes f ≡ at_bytes g → (b : ℕ) → b < BYTES → f b ≡ g b
agree f g e b h = sym (entry_at f (f b) b h) ∙ ap (λ t. get_or t b (f b)) e ∙ entry_at g (f b) b h

-- a table of numbered entries, by its numbers
pub numbered_at : {A : Type 0} (number : A → ℕ) (f : ℕ → ℕ) (t : List A) → map number t ≡ at_bytes f → (d : A) (b : ℕ) → b < BYTES → number (get_or t b d) ≡ f b
numbered_at {A} number f t e d b h =
    sym (get_or_map t b) ∙ ap (λ l. get_or l b (number d)) e ∙ entry_at f (number d) b h
  where
    get_or_map : (l : List A) (i : ℕ) → get_or (map number l) i (number d) ≡ number (get_or l i d)
    get_or_map [] i = refl
    get_or_map (x ∷ xs) zero = refl
    get_or_map (x ∷ xs) (suc i) = get_or_map xs i
