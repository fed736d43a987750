-- The bench image, written and read back.
use Prim.Native.Nat.{ℕ, ◌+◌, ◌≤◌, ◌<◌}
use native.Mathlib.Omega.{arith}
use mathlib.Core.Path.{◌≡◌, refl, ap, ◌∙◌}
use mathlib.Core.Bool.{Bool, true, false}
use mathlib.Core.List.{List, ◌++◌, append_assoc}
use mathlib.Core.Option.{none, some}
use lib.Dec.{leb}
use lib.ListN.{length, take, drop, length-append, length-drop}
use lib.Seq.{take-append_seam}
use borrow.Author.Tests.{le-leb}
use Rattle.values.specs.definitions.Bytes.{word_at, low_first, overwritten}
use Rattle.text.specs.definitions.Syntax.{File}
use Rattle.checking.specs.definitions.Verdict.{Verdict, verdict, MOST_BYTES, accepted_file}
use Rattle.checking.proofs.laws.VerdictLaws.{file_is_accepted}
use Rattle.values.specs.inner_contracts.Puts.{Put}
use Rattle.values.proofs.laws.PutLaws.{put_next}
use Rattle.cycles.proofs.laws.PutLaws.{put_in_front}
use Rattle.senders.specs.definitions.Fingerprint.{fingerprint}
use Rattle.senders.proofs.laws.StandsLaws.{fingerprint_below}
use Rattle.engine.specs.definitions.BenchImage.{BENCH, with_bench, bench_of, text_in}
use Rattle.engine.specs.definitions.Calls.{fingerprint_of}

-- the length and the text, put one after the other
pub bench_put : (text m : List ℕ) → (length text ≤ MOST_BYTES) × (BENCH ≤ length m) → {n k : List ℕ} {r : ℕ}
    → n ≡ overwritten m 0 (low_first 4 (length text)) → Put text n 4 k r → k ≡ with_bench text m
unfolding with_bench
bench_put text m (h, g) {n} p q =
    let x : Put (low_first 4 (length text)) m 0 n 4 = record { end = refl; is = p } in
    let e = q.end in
    let i = put_in_front (put_next x q) (omega arith) in
    i.is
    ∙ ap (λ (k : ℕ). (low_first 4 (length text) ++ text) ++ drop k m) e
    ∙ append_assoc (low_first 4 (length text)) text (drop (4 + length text) m)

-- the length that the first 4 bytes hold
length_word : (n : ℕ) (rest : List ℕ) → n ≤ MOST_BYTES → word_at 4 (low_first 4 n ++ rest) 0 ≡ n
length_word n rest h = omega arith

pub bench_written : (text m : List ℕ) → length text ≤ MOST_BYTES → bench_of (with_bench text m) ≡ accepted_file text
unfolding bench_of with_bench
bench_written text m h =
    let rest = text ++ drop (4 + length text) m in
    rw (length_word (length text) rest h, le-leb (length text) MOST_BYTES h, bench_of)
    (rw (length_word (length text) rest h) (ap accepted_file (take-append_seam text (drop (4 + length text) m))))

pub text_written : (text m : List ℕ) → length text ≤ MOST_BYTES → text_in (with_bench text m) ≡ text
unfolding text_in with_bench
text_written text m h =
    let rest = text ++ drop (4 + length text) m in
    rw (length_word (length text) rest h, le-leb (length text) MOST_BYTES h, text_in)
    (rw (length_word (length text) rest h) (take-append_seam text (drop (4 + length text) m)))

pub bench_length : (text m : List ℕ) → BENCH ≤ length m → length text ≤ MOST_BYTES → length (with_bench text m) ≡ length m
unfolding with_bench
bench_length text m h g = simp (length-append, length-drop) (omega arith)

-- memory that stands for a bench holds an accepted text
pub record HoldsText (f : File) : Type 0 where
  pub text : List ℕ
  pub is_accepted : verdict text ≡ Verdict.accepted f

pub bench_accepted : (m : List ℕ) {f : File} → bench_of m ≡ some f → HoldsText f
unfolding bench_of
bench_accepted m {f} h = go (leb (word_at 4 m 0) MOST_BYTES) refl
  where
    go : (b : Bool) → leb (word_at 4 m 0) MOST_BYTES ≡ b → HoldsText f
    go true e =
        let t = take (word_at 4 m 0) (drop 4 m) in
        record { text = t; is_accepted = file_is_accepted t (rw (e, bench_of) at h) }
    go false e =
        let g : none ≡ some f = rw (e, bench_of) at h in
        let z : ◌≡◌ {A = ℕ} 0 1 = cc in
        absurd (omega arith)

-- ---- the fingerprint of the text

pub print_of_below : (bench : List ℕ) → fingerprint_of bench < 4294967296
unfolding fingerprint_of
print_of_below bench = fingerprint_below (text_in bench)

pub print_written : (text m : List ℕ) → length text ≤ MOST_BYTES → fingerprint_of (with_bench text m) ≡ fingerprint text
unfolding fingerprint_of
print_written text m h = ap fingerprint (text_written text m h)
