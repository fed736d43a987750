-- A line's readings beside those that are kept, as the code compares them: the flags, then cell by cell.
use Prim.Native.Nat.{ℕ, ◌+◌, ◌-◌, ◌*◌, ◌≤◌, ◌<◌}
use native.Mathlib.Omega.{arith}
use mathlib.Core.Path.{◌≡◌, sym, ap, ◌∙◌}
use mathlib.Core.Bool.{Bool, true, false, not, ◌&&◌}
use mathlib.Core.List.{List}
use lib.ListN.{length, get_or, take, drop}
use borrow.Author.Tests.{not-true, not-false}
use Rattle.values.specs.definitions.Bytes.{same_bytes}
use Rattle.checking.specs.inner_contracts.DirectoryReads.{Few}
use Rattle.checking.specs.inner_contracts.Directory.{Bench}
use Rattle.cycles.specs.definitions.Planes.{entity_count, each}
use Rattle.cycles.specs.inner_contracts.CellTokens.{CellToken, SortTest}
use Rattle.cycles.proofs.laws.CellTokenLaws.{few_within}
use Rattle.cycles.proofs.laws.TableLaws.{each_fails, each_goes_on, each_ends}
use Rattle.cycles.proofs.laws.PlaneTestLaws.{behind, behind_all}
use Rattle.senders.specs.inner_contracts.Judging.{same_cell, SameReading, SameRead}
use Rattle.senders.proofs.laws.SameInputsLaws.{same_read}
use Rattle.senders.proofs.steps.KeptSteps.{action_told}

-- ---- a loop that asks a function for each number's test

module _ (test : ℕ → Bool) (end i : ℕ) {b : Bool} (e : b ≡ test i) (h : i < end) where
  pub call_fails : not b ≡ true → false ≡ each test i (end - i)
  call_fails t = each_fails test end i h (sym e ∙ not-true b t)

  pub call_passes : not b ≡ false → each test (i + 1) (end - (i + 1)) ≡ each test i (end - i)
  call_passes t = each_goes_on test end i h (sym e ∙ not-false b t)

-- ---- one cell

module _ {classes d : List ℕ} {i token : ℕ} {r : Bool} (t : CellToken d i token) (s : SortTest classes token 6 r) {kept cells : List ℕ} where
  pub action_same : r ≡ true → SameReading classes d kept cells i true
  unfolding same_cell
  action_same e = record { is = λ text offsets lengths w c. rw (action_told t s text offsets lengths w c, e) }

  pub bytes_same : r ≡ false → {x : Bool}
      → x ≡ same_bytes (take (i * 9 + 9 - i * 9) (drop (i * 9) kept)) (take (i * 9 + 9 - i * 9) (drop (i * 9) cells)) → SameReading classes d kept cells i x
  unfolding same_cell
  bytes_same e p = record {
    is = λ text offsets lengths w c.
        let n : i * 9 + 9 - i * 9 ≡ 9 = omega arith in
        rw (action_told t s text offsets lengths w c, e) (rw n at p);
  }

-- ---- all cells

flags_compared : (n : ℕ) (plane flags : List ℕ) {r : Bool} → r ≡ same_bytes (take (n - 0) plane) (take (n - 0) flags)
    → same_bytes (take n plane) (take n flags) ≡ r
flags_compared n plane flags p = let z : n - 0 ≡ n = omega arith in sym (rw z at p)

module _ {classes d plane flags cells : List ℕ} {n : ℕ} (e : n ≡ get_or d 1 0) (long : 109 * n ≤ length plane) (l : n ≤ length flags)
    (bytes : (k : ℕ) → get_or plane k 0 < 256) where
  -- what is said of a line's inputs, by the comparison of flags and of cells
  compared : {r : Bool}
      → ((text offsets lengths : List ℕ) (w : Bench text classes offsets lengths d) → Few w.file
      → r ≡ (same_bytes (take n plane) (take n flags) && each (same_cell (behind n plane) cells w.file) 0 (12 * n)))
      → SameRead classes d plane flags cells r
  compared p = record {
    is = λ text offsets lengths w c fits i stand.
        let f = w.file in
        let k : n ≡ entity_count f = e ∙ w.directory.entities in
        p text offsets lengths w c
        ∙ ap (λ (x : List ℕ). same_bytes (take n plane) (take n flags) && each (same_cell x cells f) 0 (12 * n)) (behind_all n plane)
        ∙ ap (λ (j : ℕ). same_bytes (take j plane) (take j flags) && each (same_cell (drop j plane) cells f) 0 (12 * j)) k
        ∙ same_read f (few_within f c) plane flags cells (omega arith) bytes fits i stand (omega arith);
  }

  module _ {r : Bool} (p : r ≡ same_bytes (take (n - 0) plane) (take (n - 0) flags)) where
    pub flags_differ : r ≡ false → SameRead classes d plane flags cells false
    flags_differ t = compared (λ text offsets lengths w c. rw (flags_compared n plane flags p, t))

    module _ (t : r ≡ true) where
      pub cells_compared : {x : Bool}
          → ((text offsets lengths : List ℕ) (w : Bench text classes offsets lengths d) → Few w.file
          → x ≡ each (same_cell (behind n plane) cells w.file) 0 (12 * n))
          → SameRead classes d plane flags cells x
      cells_compared q = compared (λ text offsets lengths w c. rw (flags_compared n plane flags p, t) (q text offsets lengths w c))

-- what is left of the cells says the same as all of them
pub record ReadingsPassed (classes d kept cells : List ℕ) (end i : ℕ) : Type 0 where
  pub is : (text offsets lengths : List ℕ) (w : Bench text classes offsets lengths d) → Few w.file
      → each (same_cell kept cells w.file) i (end - i) ≡ each (same_cell kept cells w.file) 0 end

module _ {classes d kept cells : List ℕ} {end : ℕ} where
  pub readings_begin : ReadingsPassed classes d kept cells end 0
  readings_begin = record {
    is = λ text offsets lengths w c. let z : end - 0 ≡ end = omega arith in ap (each (same_cell kept cells w.file) 0) z;
  }

  module _ {i : ℕ} (p : ReadingsPassed classes d kept cells end i) where
    pub readings_end : end ≤ i → (text offsets lengths : List ℕ) (w : Bench text classes offsets lengths d) → Few w.file
        → true ≡ each (same_cell kept cells w.file) 0 end
    readings_end h text offsets lengths w c = each_ends (same_cell kept cells w.file) end i h ∙ p.is text offsets lengths w c

    module _ (h : i < end) {b : Bool} (s : SameReading classes d kept cells i b) where
      pub reading_differs : not b ≡ true → (text offsets lengths : List ℕ) (w : Bench text classes offsets lengths d) → Few w.file
          → false ≡ each (same_cell kept cells w.file) 0 end
      reading_differs t text offsets lengths w c =
          call_fails (same_cell kept cells w.file) end i (s.is text offsets lengths w c) h t ∙ p.is text offsets lengths w c

      pub readings_go_on : not b ≡ false → ReadingsPassed classes d kept cells end (i + 1)
      readings_go_on t = record {
        is = λ text offsets lengths w c.
            call_passes (same_cell kept cells w.file) end i (s.is text offsets lengths w c) h t ∙ p.is text offsets lengths w c;
      }
