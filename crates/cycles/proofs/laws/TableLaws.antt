-- Tables of pieces in memory: their length, one more piece, what is read at a piece's number; and tests of every number.
use mathlib.Core.Path.{◌≡◌, refl, sym, ap, ap₂, ◌∙◌, subst}
use mathlib.Core.Bool.{Bool, true, false}
use mathlib.Core.List.{List, [], ◌∷◌, ◌++◌, append_assoc, append-nil}
use Prim.Native.Nat.{ℕ, zero, suc, ◌+◌, ◌-◌, ◌*◌, ◌/◌, ◌%◌, ◌^◌, ◌≤◌, ◌<◌}
use native.Mathlib.Nat.{add-zero, zero-mul, suc-mul, mul-one, add_assoc, pow-succ'}
use native.Mathlib.Numerals.{add-one}
use native.Mathlib.Omega.{arith}
use lib.Dec.{T, eqb}
use lib.ListN.{length, get_or, set, replicate, take, drop, take-append-drop, length-append, length-drop, get_or-append}
use lib.Seq.{take_at, drop_at, drop-drop, get_or-drop}
use lib.Ieee.Fits.{and_i, and_l, and_r}
use borrow.Author.Tests.{eqb-true, eqb-false}
use Rattle.values.specs.definitions.Bytes.{word_at, low_first, overwritten}
use Rattle.values.specs.definitions.Cells.{unpacked, cell_at}
use Rattle.values.proofs.laws.ByteLaws.{word_same, overwritten_parts}
use Rattle.cycles.specs.definitions.Planes.{table, each, input_of, input_at}

-- ---- numbers in memory

-- a number of the memory from d on
pub word_drop : (n d : ℕ) (l : List ℕ) (at : ℕ) → word_at n (drop d l) at ≡ word_at n l (d + at)
word_drop zero d l at = refl
word_drop (suc n) d l at =
    ap₂ (λ (b w : ℕ). b + 256 * w) (get_or-drop d l at 0) (word_drop n d l (at + 1) ∙ ap (word_at n l) (sym (add_assoc d at 1)))

-- the number that was written
pub word_low_first : (n w : ℕ) (rest : List ℕ) → w < 256 ^ n → word_at n (low_first n w ++ rest) 0 ≡ w
word_low_first zero w rest h = none w h
  where
    none : (w : ℕ) → w < 256 ^ 0 → 0 ≡ w
    none w h = omega arith
word_low_first (suc n) w rest h =
    ap (λ (v : ℕ). w % 256 + 256 * v)
    (sym (word_drop n 1 ((w % 256) ∷ (low_first n (w / 256) ++ rest)) 0) ∙ word_low_first n (w / 256) rest (less w (256 ^ n) (rw (pow-succ' 256 n) at h)))
    ∙ all w
  where
    less : (w m : ℕ) → w < 256 * m → w / 256 < m
    less w m h = omega arith

    all : (w : ℕ) → w % 256 + 256 * (w / 256) ≡ w
    all w = omega arith

-- a number within the first of two parts
pub word_first : (n : ℕ) (l rest : List ℕ) (at : ℕ) → at + n ≤ length l → word_at n (l ++ rest) at ≡ word_at n l at
word_first n l rest at h = word_same n (l ++ rest) l at (λ k p q. get_or-append l rest 0 k (omega arith))

-- ---- tables

pub table_same : (p q : ℕ → List ℕ) (i k : ℕ) → ((j : ℕ) → i ≤ j → j < i + k → p j ≡ q j) → table p i k ≡ table q i k
unfolding table
table_same p q i zero e = refl
table_same p q i (suc k) e =
    ap₂ (λ (x y : List ℕ). x ++ y) (e i (omega arith) (omega arith)) (table_same p q (i + 1) k (λ j a b. e j (omega arith) (omega arith)))

-- j pieces, then k
pub table_append : (piece : ℕ → List ℕ) (i j k : ℕ) → table piece i (j + k) ≡ table piece i j ++ table piece (i + j) k
unfolding table
table_append piece i zero k =
    let a : 0 + k ≡ k = omega arith in
    ap (table piece i) a ∙ ap (λ (n : ℕ). table piece n k) (sym (add-zero i))
table_append piece i (suc j) k =
    let a : suc j + k ≡ suc (j + k) = omega arith in
    let b : i + 1 + j ≡ i + suc j = omega arith in
    ap (table piece i) a
    ∙ ap (λ (l : List ℕ). piece i ++ l) (table_append piece (i + 1) j k ∙ ap (λ (n : ℕ). table piece (i + 1) j ++ table piece n k) b)
    ∙ sym (append_assoc (piece i) (table piece (i + 1) j) (table piece (i + suc j) k))

-- one more piece at the end
pub table_snoc : (piece : ℕ → List ℕ) (i k : ℕ) → table piece i (suc k) ≡ table piece i k ++ piece (i + k)
unfolding table
table_snoc piece i k =
    ap (table piece i) (sym (add-one k)) ∙ table_append piece i k 1 ∙ ap (λ (l : List ℕ). table piece i k ++ l) (append-nil (piece (i + k)))

-- the same, as a loop from 0 has it
pub table_next : (piece : ℕ → List ℕ) (k : ℕ) → table piece 0 (k + 1) ≡ table piece 0 k ++ piece k
table_next piece k =
    let a : 0 + k ≡ k = omega arith in
    ap (table piece 0) (add-one k) ∙ table_snoc piece 0 k ∙ ap (λ (n : ℕ). table piece 0 k ++ piece n) a

-- pieces of one size
module _ (piece : ℕ → List ℕ) (size : ℕ) (sized : (i : ℕ) → length (piece i) ≡ size) where
  pub length_table : (i k : ℕ) → length (table piece i k) ≡ k * size
  unfolding table
  length_table i zero = sym (zero-mul size)
  length_table i (suc k) = rw (length-append (piece i) (table piece (i + 1) k), sized i, length_table (i + 1) k, suc-mul k size) (omega arith)

  -- a table from its piece number i on
  pub table_from : (k i : ℕ) (rest : List ℕ) → i < k → drop (i * size) (table piece 0 k ++ rest) ≡ piece i ++ (table piece (i + 1) (k - i - 1) ++ rest)
  unfolding table
  table_from k i rest h =
      let a : k ≡ i + suc (k - i - 1) = omega arith in
      let b : 0 + i ≡ i = omega arith in
      ap (λ (n : ℕ). drop (i * size) (table piece 0 n ++ rest)) a
      ∙ rw (table_append piece 0 i (suc (k - i - 1)), b, append_assoc (table piece 0 i) (piece i ++ table piece (i + 1) (k - i - 1)) rest)
      (drop_at (table piece 0 i) (piece i ++ table piece (i + 1) (k - i - 1) ++ rest) (i * size) (length_table 0 i)
      ∙ append_assoc (piece i) (table piece (i + 1) (k - i - 1)) rest)

  -- byte j of piece i
  pub table_byte : (k i j : ℕ) (rest : List ℕ) → i < k → j < size → get_or (table piece 0 k ++ rest) (i * size + j) 0 ≡ get_or (piece i) j 0
  table_byte k i j rest h g =
      sym (get_or-drop (i * size) (table piece 0 k ++ rest) j 0)
      ∙ ap (λ (l : List ℕ). get_or l j 0) (table_from k i rest h)
      ∙ get_or-append (piece i) (table piece (i + 1) (k - i - 1) ++ rest) 0 j (rw (sized i) g)

  -- the number in n bytes of piece i, from byte j on
  pub table_word : (n k i j : ℕ) (rest : List ℕ) → i < k → j + n ≤ size → word_at n (table piece 0 k ++ rest) (i * size + j) ≡ word_at n (piece i) j
  table_word n k i j rest h g =
      sym (word_drop n (i * size) (table piece 0 k ++ rest) j)
      ∙ ap (λ (l : List ℕ). word_at n l j) (table_from k i rest h)
      ∙ word_first n (piece i) (table piece (i + 1) (k - i - 1) ++ rest) j (rw (sized i) g)

  -- a loop that writes piece after piece over what was there: the next piece
  pub table_fill : (i : ℕ) (was : List ℕ) → (i + 1) * size ≤ length was
      → overwritten (table piece 0 i ++ drop (i * size) was) (i * size) (piece i) ≡ table piece 0 (i + 1) ++ drop ((i + 1) * size) was
  table_fill i was h =
      let at = i * size in
      let l = table piece 0 i ++ drop at was in
      let n : (i + 1) * size ≡ at + size = rw (add-one i) (suc-mul i size) in
      let b : length l ≡ at + (length was - at) = rw (length-append (table piece 0 i) (drop at was), length_table 0 i, length-drop at was) refl in
      overwritten_parts l at (piece i) (rw (sized i) (omega arith))
      ∙ rw (sized i, take_at (table piece 0 i) (drop at was) at (length_table 0 i), ← table_next piece i, n)
      (ap (λ (x : List ℕ). table piece 0 (i + 1) ++ x)
      (sym (drop-drop size at l) ∙ ap (drop size) (drop_at (table piece 0 i) (drop at was) at (length_table 0 i)) ∙ drop-drop size at was))

-- pieces of one byte, as flags have
module _ (piece : ℕ → List ℕ) (sized : (i : ℕ) → length (piece i) ≡ 1) where
  pub length_flags : (i k : ℕ) → length (table piece i k) ≡ k
  length_flags i k = length_table piece 1 sized i k ∙ mul-one k

  pub flag_fill : (i x : ℕ) (was : List ℕ) → piece i ≡ x ∷ [] → i < length was
      → set (table piece 0 i ++ drop i was) i x ≡ table piece 0 (i + 1) ++ drop (i + 1) was
  flag_fill i x was e h =
      let a : i * 1 ≡ i = omega arith in
      let b : (i + 1) * 1 ≡ i + 1 = omega arith in
      let g : (i + 1) * 1 ≤ length was = omega arith in
      rw (a, b, e) at (table_fill piece 1 sized i was g)

  pub table_flag : (k i : ℕ) (rest : List ℕ) → i < k → get_or (table piece 0 k ++ rest) i 0 ≡ get_or (piece i) 0 0
  table_flag k i rest h =
      let a : i ≡ i * 1 + 0 = omega arith in
      ap (λ (n : ℕ). get_or (table piece 0 k ++ rest) n 0) a ∙ table_byte piece 1 sized k i 0 rest h (omega arith)

-- pieces of one and the same byte, as `fill` puts them
pub flags_same : (b i k : ℕ) → table (λ e. b ∷ []) i k ≡ replicate k b
unfolding table
flags_same b i zero = refl
flags_same b i (suc k) = ap (◌∷◌ b) (flags_same b (i + 1) k)

pub flags_filled : (new rest : List ℕ) (n k b : ℕ) → k ≡ n → new ≡ replicate k b → new ++ rest ≡ table (λ e. b ∷ []) 0 n ++ rest
flags_filled new rest n k b e f = rw (f, e, flags_same b 0 n)

-- pieces of 9 bytes, as cells have: a tag, then a number in 8 bytes
module _ (piece : ℕ → List ℕ) (sized : (i : ℕ) → length (piece i) ≡ 9) (k i : ℕ) (rest : List ℕ) (h : i < k) where
  pub table_tag : get_or (table piece 0 k ++ rest) (i * 9) 0 ≡ get_or (piece i) 0 0
  table_tag = ap (λ (n : ℕ). get_or (table piece 0 k ++ rest) n 0) (sym (add-zero (i * 9))) ∙ table_byte piece 9 sized k i 0 rest h (omega arith)

  pub table_payload : word_at 8 (table piece 0 k ++ rest) (i * 9 + 1) ≡ word_at 8 (piece i) 1
  table_payload = table_word piece 9 sized 8 k i 1 rest h (omega arith)

  pub table_cell : cell_at (table piece 0 k ++ rest) i ≡ cell_at (piece i) 0
  table_cell = ap₂ unpacked table_tag table_payload

  pub table_input : input_at (table piece 0 k ++ rest) i ≡ input_at (piece i) 0
  table_input = ap₂ input_of table_tag table_payload

-- ---- parts of memory one after another

-- a part begins where the one before it ends
pub part_after : (m part rest : List ℕ) (from size end : ℕ) → drop from m ≡ part ++ rest → length part ≡ size → from + size ≡ end → drop end m ≡ rest
part_after m part rest from size end e l s =
    ap (λ (n : ℕ). drop n m) (sym s) ∙ sym (drop-drop size from m) ∙ ap (drop size) e ∙ drop_at part rest size l

-- ---- tests of every number

module _ (test : ℕ → Bool) where
  pub each_holds : (i k : ℕ) → ((j : ℕ) → i ≤ j → j < i + k → T (test j)) → T (each test i k)
  unfolding each
  each_holds i zero h = tt
  each_holds i (suc k) h =
      and_i (test i) (each test (i + 1) k) (h i (omega arith) (omega arith)) (each_holds (i + 1) k (λ j p q. h j (omega arith) (omega arith)))

  pub each_at : (i k : ℕ) → T (each test i k) → (j : ℕ) → i ≤ j → j < i + k → T (test j)
  unfolding each
  each_at i zero h j p q = absurd (omega arith)
  each_at i (suc k) h j p q = go (eqb i j) refl (each_at (i + 1) k (and_r (test i) (each test (i + 1) k) h) j)
    where
      go : (b : Bool) → eqb i j ≡ b → (i + 1 ≤ j → j < i + 1 + k → T (test j)) → T (test j)
      go true e later = subst (λ n. T (test n)) (eqb-true i j e) (and_l (test i) (each test (i + 1) k) h)
      go false e later = let d : i ≡ j → ⊥ = eqb-false i j e in later (omega arith) (omega arith)

  -- a loop's test of the numbers from i to the end: it fails, it goes on, it is over
  module _ (end i : ℕ) where
    pub each_fails : i < end → test i ≡ false → false ≡ each test i (end - i)
    unfolding each
    each_fails h e = let n : end - i ≡ suc (end - i - 1) = omega arith in rw (n, e)

    pub each_goes_on : i < end → test i ≡ true → each test (i + 1) (end - (i + 1)) ≡ each test i (end - i)
    unfolding each
    each_goes_on h e = let n : end - i ≡ suc (end - (i + 1)) = omega arith in rw (n, e)

    pub each_ends : end ≤ i → true ≡ each test i (end - i)
    unfolding each
    each_ends h = let n : end - i ≡ 0 = omega arith in rw n

-- memory that begins with a part
pub begins_with : (l part : List ℕ) (n : ℕ) → take n l ≡ part → l ≡ part ++ drop n l
begins_with l part n e = sym (take-append-drop n l) ∙ ap (λ (x : List ℕ). x ++ drop n l) e
