-- The fingerprint of a text, byte by byte and three bytes at once.
use mathlib.Core.Path.{◌≡◌, refl, ◌∙◌}
use mathlib.Core.List.{List}
use Prim.Native.Nat.{ℕ, ◌+◌, ◌%◌, ◌≤◌, ◌<◌}
use native.Mathlib.Numerals.{add-one}
use native.Mathlib.Omega.{arith}
use lib.ListN.{length, get_or, drop, drop_of_length-le}
use lib.Seq.{drop-cons}
use Rattle.senders.specs.definitions.Fingerprint.{PRIME, next_fingerprint, fingerprint_from, fingerprint}

-- ---- a text

module _ (text : List ℕ) where
  pub print_begins : fingerprint_from (0 % PRIME) (drop 0 text) ≡ fingerprint text
  unfolding fingerprint
  print_begins = refl

  module _ (print i : ℕ) where
    pub print_step : (b : ℕ) → b ≡ get_or text i 0 → i < length text
        → fingerprint_from (next_fingerprint print b) (drop (i + 1) text) ≡ fingerprint_from print (drop i text)
    unfolding fingerprint_from
    print_step b e h = rw (drop-cons text i 0 h, e, add-one i)

    pub print_ends : length text ≤ i → fingerprint_from print (drop i text) ≡ print
    unfolding fingerprint_from
    print_ends h = rw (drop_of_length-le text h)

  pub three_steps : (print i : ℕ) → i + 3 ≤ length text
      → fingerprint_from (next_fingerprint (next_fingerprint (next_fingerprint print (get_or text i 0)) (get_or text (i + 1) 0)) (get_or text (i + 1 + 1) 0)) (drop (i + 1 + 1 + 1) text)
      ≡ fingerprint_from print (drop i text)
  three_steps print i h =
      let a = get_or text i 0 in
      let b = get_or text (i + 1) 0 in
      print_step (next_fingerprint (next_fingerprint print a) b) (i + 1 + 1) _ refl (omega arith)
      ∙ print_step (next_fingerprint print a) (i + 1) b refl (omega arith)
      ∙ print_step print i a refl (omega arith)
