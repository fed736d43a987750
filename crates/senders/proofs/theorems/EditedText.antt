-- A state of one bench text is no state of a text that differs from it in one byte, whatever that byte is and wherever it stands: their fingerprints
-- differ.
use Prim.Native.Nat.{ℕ, ◌+◌, ◌*◌, ◌/◌, ◌%◌, ◌<◌}
use native.Mathlib.Nat.{add-mul-mod_self_left, mod-eq_of_lt}
use native.Mathlib.Omega.{arith}
use mathlib.Core.Path.{◌≡◌, refl, sym, ap, ◌∙◌}
use mathlib.Core.Bool.{Bool, true, false}
use mathlib.Core.List.{List, [], ◌∷◌, ◌++◌}
use mathlib.Core.Option.{none, some}
use Rattle.text.specs.definitions.Syntax.{File}
use Rattle.senders.specs.definitions.Sender.{State}
use Rattle.senders.specs.definitions.Fingerprint.{PRIME, next_fingerprint, fingerprint_from, fingerprint}
use Rattle.senders.specs.definitions.StateImage.{is_state, state_of}
use Rattle.senders.proofs.laws.StateLaws.{is_state_passes, no_state, print_is}

-- ---- one byte more

print_below : (print b : ℕ) → next_fingerprint print b < PRIME
print_below print b = omega arith

-- 257 has an inverse modulo the prime: 257 * 3225403452 = 1 + 193 * 4294967291
prints_told : (x y b : ℕ) → x < PRIME → y < PRIME → next_fingerprint x b ≡ next_fingerprint y b → x ≡ y
prints_told x y b h g e =
    sym (left x h (193 * x + 3225403452 * p)) ∙ ap (λ (k : ℕ). k % PRIME) same ∙ left y g (193 * y + 3225403452 * q)
  where
    q : ℕ
    q = (x * 257 + b + 1) / PRIME

    p : ℕ
    p = (y * 257 + b + 1) / PRIME

    left : (z : ℕ) → z < PRIME → (k : ℕ) → (z + PRIME * k) % PRIME ≡ z
    left z small k = add-mul-mod_self_left z PRIME k ∙ mod-eq_of_lt small

    same : x + PRIME * (193 * x + 3225403452 * p) ≡ y + PRIME * (193 * y + 3225403452 * q)
    same = omega arith

byte_told : (print a b : ℕ) → a < 256 → b < 256 → next_fingerprint print a ≡ next_fingerprint print b → a ≡ b
byte_told print a b h g e = omega arith

-- ---- texts

-- what comes after tells them apart too
after_told : (x y : ℕ) (text : List ℕ) → x < PRIME → y < PRIME → fingerprint_from x text ≡ fingerprint_from y text → x ≡ y
unfolding fingerprint_from
after_told x y [] h g e = e
after_told x y (b ∷ bs) h g e = prints_told x y b h g (after_told (next_fingerprint x b) (next_fingerprint y b) bs (print_below x b) (print_below y b) e)

edited_from : (acc : ℕ) (before after : List ℕ) (a b : ℕ) → a < 256 → b < 256
    → fingerprint_from acc (before ++ a ∷ after) ≡ fingerprint_from acc (before ++ b ∷ after) → a ≡ b
unfolding fingerprint_from
edited_from acc [] after a b h g e = byte_told acc a b h g (after_told (next_fingerprint acc a) (next_fingerprint acc b) after (print_below acc a) (print_below acc b) e)
edited_from acc (x ∷ xs) after a b h g e = edited_from (next_fingerprint acc x) xs after a b h g e

-- one byte in place of another
pub edited_text : (before after : List ℕ) (a b : ℕ) → a < 256 → b < 256 → (a ≡ b → ⊥)
    → fingerprint (before ++ a ∷ after) ≡ fingerprint (before ++ b ∷ after) → ⊥
unfolding fingerprint
edited_text before after a b h g other e = other (edited_from 0 before after a b h g e)

-- memory that is a state of the one is none of the other, whatever their files are
pub edited_state : (before after : List ℕ) (a b : ℕ) → a < 256 → b < 256 → (a ≡ b → ⊥) → (f g : File) (m : List ℕ) (s : State)
    → state_of (fingerprint (before ++ a ∷ after)) f m ≡ some s → state_of (fingerprint (before ++ b ∷ after)) g m ≡ none
edited_state before after a b h k other f g m s i = no_state print g m (go (is_state print g m) refl)
  where
    print : ℕ
    print = fingerprint (before ++ b ∷ after)

    go : (t : Bool) → is_state print g m ≡ t → is_state print g m ≡ false
    go false e = e
    go true e =
        absurd
        (edited_text before after a b h k other (sym (print_is (fingerprint (before ++ a ∷ after)) f m i) ∙ (is_state_passes print g m e).print_is))
