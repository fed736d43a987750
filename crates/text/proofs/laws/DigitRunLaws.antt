-- Laws of runs of digits: each byte of one is a digit, and the value is had byte by byte.
use mathlib.Core.Path.{◌≡◌, refl, sym, ap, ◌∙◌}
use mathlib.Core.List.{List, [], ◌∷◌, cons≢nil}
use mathlib.Core.Bool.{Bool, true, false}
use Prim.Native.Nat.{ℕ, zero, suc, ◌+◌, ◌*◌, ◌-◌, ◌<◌, ◌≤◌}
use native.Mathlib.Omega.{arith}
use lib.ListN.{length, get_or, drop}
use Rattle.text.specs.definitions.Bytes.{is_digit, run}
use Rattle.text.specs.definitions.Tokens.{digits_value}
use Rattle.text.proofs.laws.RunLaws.{byte_at, run_yes, run_no}
use Rattle.text.proofs.laws.FixedLaws.{between_bounds}

pub digit_bounds : (c : ℕ) → is_digit c ≡ true → (48 ≤ c) × (c ≤ 57)
unfolding is_digit
digit_bounds c e = between_bounds 48 57 c e

pub digit_there : (ds : List ℕ) → run is_digit ds ≡ ds → (i : ℕ) → i < length ds → is_digit (get_or ds i 0) ≡ true
digit_there [] all i h = absurd (omega arith)
digit_there (d ∷ ds) all i h = go (is_digit d) refl (digit_there ds) i h
  where
    go : (t : Bool) → is_digit d ≡ t → (run is_digit ds ≡ ds → (i : ℕ) → i < length ds → is_digit (get_or ds i 0) ≡ true)
        → (i : ℕ) → i < suc (length ds) → is_digit (get_or (d ∷ ds) i 0) ≡ true
    go true e rest zero h = e
    go true e rest (suc i) h = rest (ap (drop 1) (sym (run_yes is_digit d ds e) ∙ all)) i (omega arith)
    go false e rest i h = absurd (cons≢nil (sym all ∙ run_no is_digit d ds e))

pub value_step : (n : ℕ) (ds : List ℕ) (i : ℕ) → i < length ds
    → digits_value n (drop i ds) ≡ digits_value (n * 10 + (get_or ds i 0 - 48)) (drop (i + 1) ds)
unfolding digits_value
value_step n ds i h = rw (byte_at ds i h)
