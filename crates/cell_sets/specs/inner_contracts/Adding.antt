-- Numbers added to a set, those of a range that pass a test.
use Rattle.std.specs.Prelude.{ℕ, ◌≤◌, ◌<◌, ◌≡◌, Bool, ◌||◌, ◌⊎◌}

-- by what was in the set before and what is after: of the numbers from `first` to below `end` those that pass are added, and no others
pub record Added (passes : ℕ → Bool) (first end : ℕ) (before after : ℕ → Bool) : Type 0 where
  pub inside : (i : ℕ) → first ≤ i → i < end → after i ≡ (before i || passes i)
  pub outside : (i : ℕ) → (i < first) ⊎ (end ≤ i) → after i ≡ before i
