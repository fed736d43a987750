-- Which write stands in a cell, said without a fold, for a theorem (document 02, order 6).
use Rattle.std.specs.Prelude.{ℕ, ◌≤◌, ◌<◌, ◌≡◌, true}
use mathlib.Core.List.{List, ◌∷◌, ◌++◌, Memᴰ}
use Rattle.writes.specs.definitions.Writes.{Write, is_to}

-- it is to the cell; of the other writes to the cell those before it have lower priorities ("among equal ranks the earliest write does"), and those after
-- it no higher ones ("The write of the highest rank stands")
pub record Prevails (e m : ℕ) (ws : List Write) (w : Write) : Type 0 where
  pub before : List Write
  pub after : List Write
  pub all : before ++ w ∷ after ≡ ws
  pub there : is_to e m w ≡ true
  pub above_earlier : (v : Write) → Memᴰ v before → is_to e m v ≡ true → v.priority < w.priority
  pub above_later : (v : Write) → Memᴰ v after → is_to e m v ≡ true → v.priority ≤ w.priority
