-- Laws of runs: how long the longest run is, that it is a front part, and what a walk from an index on finds of it.
use mathlib.Core.Path.{◌≡◌, refl, ap}
use mathlib.Core.List.{List, [], ◌∷◌}
use mathlib.Core.Bool.{Bool, true, false}
use Prim.Native.Nat.{ℕ, suc, ◌+◌, ◌-◌, ◌<◌, ◌≤◌}
use native.Mathlib.Numerals.{add-one}
use native.Mathlib.Omega.{arith}
use lib.ListN.{length, get_or, take, drop, drop_of_length-le}
use lib.Seq.{drop-cons}
use Rattle.text.specs.definitions.Bytes.{run}
use Rattle.text.specs.inner_contracts.TokenTable.{part}

-- the byte at an index, and the bytes after it
pub byte_at : (text : List ℕ) (i : ℕ) → i < length text → drop i text ≡ get_or text i 0 ∷ drop (i + 1) text
byte_at text i h = rw (add-one, drop-cons text i 0)

module _ (test : ℕ → Bool) where
  pub run_yes : (b : ℕ) (bs : List ℕ) → test b ≡ true → run test (b ∷ bs) ≡ b ∷ run test bs
  unfolding run
  run_yes b bs e = rw (e, run)

  pub run_no : (b : ℕ) (bs : List ℕ) → test b ≡ false → run test (b ∷ bs) ≡ []
  unfolding run
  run_no b bs e = rw (e, run)

  pub run_within : (bs : List ℕ) → length (run test bs) ≤ length bs
  unfolding run
  run_within [] = omega arith
  run_within (b ∷ bs) = go (test b) refl (run_within bs)
    where
      go : (t : Bool) → test b ≡ t → length (run test bs) ≤ length bs → length (run test (b ∷ bs)) ≤ suc (length bs)
      go true e h = rw (run_yes b bs e) (omega arith)
      go false e h = rw (run_no b bs e) (omega arith)

  pub run_front : (bs : List ℕ) → take (length (run test bs)) bs ≡ run test bs
  unfolding run
  run_front [] = refl
  run_front (b ∷ bs) = go (test b) refl (run_front bs)
    where
      go : (t : Bool) → test b ≡ t → take (length (run test bs)) bs ≡ run test bs → take (length (run test (b ∷ bs))) (b ∷ bs) ≡ run test (b ∷ bs)
      go true e h = rw (run_yes b bs e) (ap (◌∷◌ b) h)
      go false e h = rw (run_no b bs e)

  -- a run's bytes all pass
  pub run_again : (bs : List ℕ) → run test (run test bs) ≡ run test bs
  unfolding run
  run_again [] = refl
  run_again (b ∷ bs) = go (test b) refl (run_again bs)
    where
      go : (t : Bool) → test b ≡ t → run test (run test bs) ≡ run test bs → run test (run test (b ∷ bs)) ≡ run test (b ∷ bs)
      go true e h = rw (run_yes b bs e, run_yes b (run test bs) e) (ap (◌∷◌ b) h)
      go false e h = rw (run_no b bs e)

  -- from index i on
  module _ (text : List ℕ) (i : ℕ) where
    pub run_past : length text ≤ i → i ≡ i + length (run test (drop i text))
    unfolding run
    run_past h = rw (drop_of_length-le text {i = i} h) (omega arith)

    pub run_stop : i < length text → test (get_or text i 0) ≡ false → i ≡ i + length (run test (drop i text))
    run_stop h e = rw (byte_at text i h, run_no (get_or text i 0) (drop (i + 1) text) e) (omega arith)

    pub run_step : i < length text → test (get_or text i 0) ≡ true → i + 1 + length (run test (drop (i + 1) text)) ≡ i + length (run test (drop i text))
    run_step h e = rw (byte_at text i h, run_yes (get_or text i 0) (drop (i + 1) text) e) (omega arith)

    -- the byte at i and the run after it, as a part of the text
    pub run_part : i < length text → part i (i + 1 + length (run test (drop (i + 1) text))) text ≡ get_or text i 0 ∷ run test (drop (i + 1) text)
    run_part h =
        let more = length (run test (drop (i + 1) text)) in
        let e : i + 1 + more - i ≡ suc more = omega arith in
        rw (e, byte_at text i h) (ap (◌∷◌ (get_or text i 0)) (run_front (drop (i + 1) text)))
