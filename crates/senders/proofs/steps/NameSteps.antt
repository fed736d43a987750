-- The form of a sender's name, byte by byte, as the code tests it.
use mathlib.Core.Path.{◌≡◌, refl, ap, ◌∙◌}
use Rattle.std.specs.List.{list_all}
use mathlib.Core.Bool.{Bool, true, false, ◌&&◌}
use mathlib.Core.List.{List, [], ◌∷◌}
use Prim.Native.Nat.{ℕ, ◌≤◌, ◌<◌}
use native.Mathlib.Omega.{arith}
use lib.ListN.{length, get_or}
use borrow.Author.Tests.{le-leb, lt-leb}
use Rattle.text.specs.definitions.Bytes.{is_letter, is_name_byte}
use Rattle.cycles.specs.definitions.Spots.{every}
use Rattle.senders.specs.definitions.Sender.{starts_with_letter, is_sender}

-- ---- names

pub too_long : (x : List ℕ) → 24 < length x → false ≡ is_sender x
unfolding is_sender
too_long x h = rw (lt-leb (length x) 24 h) (go (starts_with_letter x) (every is_name_byte x))
  where
    go : (a b : Bool) → false ≡ (a && (b && false))
    go true true = refl
    go true false = refl
    go false b = refl

pub no_name : (x : List ℕ) → length x ≡ 0 → false ≡ is_sender x
unfolding is_sender starts_with_letter
no_name [] h = refl
no_name (b ∷ x) h = absurd (omega arith)

first_byte : (x : List ℕ) → 0 < length x → starts_with_letter x ≡ is_letter (get_or x 0 0)
unfolding starts_with_letter
first_byte [] h = absurd (omega arith)
first_byte (b ∷ x) h = refl

pub no_first_letter : (x : List ℕ) → 0 < length x → is_letter (get_or x 0 0) ≡ false → false ≡ is_sender x
unfolding is_sender
no_first_letter x h e = rw (first_byte x h, e)

pub every_all : (x : List ℕ) → list_all is_name_byte x ≡ every is_name_byte x
unfolding every
every_all [] = refl
every_all (b ∷ x) = ap (λ (t : Bool). is_name_byte b && t) (every_all x)

-- a name that is not too long and begins with a letter
module _ (x : List ℕ) (short : length x ≤ 24) (some : 0 < length x) (letter : is_letter (get_or x 0 0) ≡ true) where
  pub by_bytes : list_all is_name_byte x ≡ is_sender x
  unfolding is_sender
  by_bytes = every_all x ∙ rw (first_byte x some, letter, le-leb (length x) 24 short) (go (every is_name_byte x))
    where
      go : (b : Bool) → b ≡ (b && true)
      go true = refl
      go false = refl

-- what each test of a name says
pub ruleset name_read = (too_long, no_name, no_first_letter, by_bytes)
