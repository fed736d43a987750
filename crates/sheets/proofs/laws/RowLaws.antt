-- The rows of a printed line: sizes, and how their parts are put.
use mathlib.Core.Path.{◌≡◌, refl, sym, ap, ◌∙◌}
use mathlib.Core.List.{List, [], ◌∷◌, ◌++◌, flat_map, append_assoc, append-nil}
use mathlib.Core.Bool.{Bool, true, false, cond, ◌||◌, false≢true, true≢false}
use Rattle.std.specs.List.{list_any}
use Prim.Native.Nat.{ℕ, suc, ◌+◌, ◌-◌, ◌*◌, ◌≤◌, ◌<◌}
use native.Mathlib.Numerals.{add-one}
use native.Mathlib.Omega.{arith}
use lib.Dec.{lit≤}
use lib.IntN.{ℤ, pos, negsuc}
use lib.Ieee.{nan, inf, fin, binary64, to_bits, is_nan}
use lib.ListN.{length, get_or, take, drop, replicate, length-append, length-drop, length-take}
use lib.Seq.{take_all, take-suc, length-take-le}
use Rattle.values.specs.declared.Value.{Value}
use Rattle.values.specs.declared.Value.TheVariants.{Whole, Truth, Real, Unset}
use Rattle.values.specs.definitions.Bytes.{overwritten}
use Rattle.values.specs.definitions.Forms.{decimal, whole_text, printed}
use Rattle.values.specs.inner_contracts.Puts.{Put}
use Rattle.values.proofs.laws.ByteLaws.{length_overwritten}
use Rattle.values.proofs.laws.DigitLaws.{hexadecimal_length}
use Rattle.values.proofs.laws.FormLaws.{decimal_most, printed_most}
use Rattle.values.proofs.laws.PutLaws.{put_none, put_next, put_same}
use Rattle.sheets.specs.definitions.Layout.{SHEET_COLUMNS, NUMBER_COLUMNS, CELL_COLUMNS, MOST_CHOSEN, HALF_DIGITS, right_aligned}
use Rattle.sheets.specs.definitions.Rows.{PrintedLine, is_set_real, half, cell_columns, sheet_row, has_set_real, line_rows}
use Rattle.sheets.specs.definitions.Sheet.{with_feeds}
use Rattle.sheets.specs.definitions.Sizes.{SHEET_ROW_BYTES, MOST_LINE_BYTES}
use Rattle.sheets.proofs.laws.LayoutLaws.{length_right, length_filled, front}
use Rattle.sheets.proofs.laws.FedRows.{Full, full_none, full_cons, fed_most, rows_next, rows_end, row_put}

-- ---- texts of values

-- a set real has 16 digits, any other value at most 11 bytes
real_length : (v : Value) → is_set_real v ≡ true → length (printed v) ≡ 2 * HALF_DIGITS
unfolding is_set_real is_nan
real_length (Whole z) h = absurd (false≢true h)
real_length (Truth b) h = absurd (false≢true h)
real_length (Real nan) h = absurd (false≢true h)
real_length (Real (inf s)) h = hexadecimal_length 16 (to_bits binary64 (inf s))
real_length (Real (fin s m e)) h = hexadecimal_length 16 (to_bits binary64 (fin s m e))
real_length Unset h = absurd (false≢true h)

whole_most : (z : ℤ) → length (whole_text z) ≤ 11
whole_most (pos n) = omega (arith, decimal_most n)
whole_most (negsuc n) = omega (arith, decimal_most (suc n))

other_most : (v : Value) → is_set_real v ≡ false → length (printed v) ≤ 11
unfolding is_set_real is_nan
other_most (Whole z) h = whole_most z
other_most (Truth true) h = lit≤ tt
other_most (Truth false) h = lit≤ tt
other_most (Real nan) h = lit≤ tt
other_most (Real (inf s)) h = absurd (true≢false h)
other_most (Real (fin s m e)) h = absurd (true≢false h)
other_most Unset h = lit≤ tt

half_real : (below : Bool) (v : Value) → is_set_real v ≡ true → half below v ≡ cond below (drop HALF_DIGITS (printed v)) (take HALF_DIGITS (printed v))
unfolding half
half_real true v e = rw e
half_real false v e = rw e

half_other : (below : Bool) (v : Value) → is_set_real v ≡ false → half below v ≡ cond below [] (printed v)
unfolding half
half_other true v e = rw e
half_other false v e = rw e

pub half_most : (below : Bool) (v : Value) → length (half below v) ≤ CELL_COLUMNS
half_most below v = go below (is_set_real v) refl
  where
    go : (below t : Bool) → is_set_real v ≡ t → length (half below v) ≤ CELL_COLUMNS
    go true true e = rw (half_real true v e, length-drop HALF_DIGITS (printed v), real_length v e) (lit≤ tt)
    go false true e = rw (half_real false v e, length-take-le HALF_DIGITS (printed v) (rw (real_length v e) (lit≤ tt))) (lit≤ tt)
    go true false e = rw (half_other true v e) (lit≤ tt)
    go false false e = rw (half_other false v e) (omega (arith, other_most v e))

-- ---- halves of a value's text, in 16 bytes of memory

pub printed_fits : (v : Value) → 0 + length (printed v) ≤ 2 * HALF_DIGITS
printed_fits v = omega (arith, printed_most v)

-- the text of a set real fills the memory
real_fills : (l : List ℕ) (v : Value) → is_set_real v ≡ true → length l ≡ 2 * HALF_DIGITS → overwritten l 0 (printed v) ≡ printed v
real_fills l v e h =
    let n : length (printed v) ≡ length l = real_length v e ∙ sym h in
    sym (take_all (length (printed v)) (overwritten l 0 (printed v)) (rw (length_overwritten l 0 (printed v)) (omega arith)))
    ∙ front l (printed v) (omega arith)

module _ (l m : List ℕ) (below : Bool) (v : Value) (t : Bool) (is : t ≡ is_set_real v) (h : length l ≡ 2 * HALF_DIGITS)
    (e : m ≡ overwritten l 0 (printed v)) where
  pub second_half : t ≡ true → below ≡ true → take HALF_DIGITS (drop HALF_DIGITS m) ≡ half below v
  second_half q p =
      let r = sym is ∙ q in
      let k : length (drop HALF_DIGITS (printed v)) ≤ HALF_DIGITS = rw (length-drop HALF_DIGITS (printed v), real_length v r) (lit≤ tt) in
      rw (e, real_fills l v r h, p, half_real true v r) (take_all HALF_DIGITS (drop HALF_DIGITS (printed v)) k)

  pub first_half : t ≡ true → below ≡ false → take HALF_DIGITS m ≡ half below v
  first_half q p = let r = sym is ∙ q in rw (e, real_fills l v r h, p, half_real false v r)

  pub no_half : t ≡ false → below ≡ true → [] ≡ half below v
  no_half q p = rw (p, half_other true v (sym is ∙ q))

  pub whole_text_half : (n : ℕ) → n ≡ 0 + length (printed v) → t ≡ false → below ≡ false → take (n - 0) m ≡ half below v
  whole_text_half n k q p =
      let z : n - 0 ≡ length (printed v) = omega arith in
      rw (e, z, p, half_other false v (sym is ∙ q)) (front l (printed v) (rw h (printed_most v)))

-- ---- cells, one after another

length_columns : (below : Bool) (vs : List Value) → length (cell_columns below vs) ≡ CELL_COLUMNS * length vs
unfolding cell_columns flat_map
length_columns below [] = refl
length_columns below (v ∷ vs) =
    let r = right_aligned CELL_COLUMNS (half below v) in
    rw (length-append r (cell_columns below vs), length_right CELL_COLUMNS (half below v) (half_most below v), length_columns below vs) (omega arith)

columns_snoc : (below : Bool) (vs : List Value) (v : Value)
    → cell_columns below (vs ++ (v ∷ [])) ≡ cell_columns below vs ++ right_aligned CELL_COLUMNS (half below v)
unfolding cell_columns flat_map
columns_snoc below [] v = append-nil (right_aligned CELL_COLUMNS (half below v))
columns_snoc below (u ∷ vs) v =
    rw (columns_snoc below vs v)
    (sym (append_assoc (right_aligned CELL_COLUMNS (half below u)) (cell_columns below vs) (right_aligned CELL_COLUMNS (half below v))))

pub columns_none : (l : List ℕ) (at : ℕ) (below : Bool) → Put (cell_columns below []) l at l at
unfolding cell_columns flat_map
columns_none l at below = put_none l at

pub columns_next : (below : Bool) (vs : List Value) (i : ℕ) (d : Value) {l m n : List ℕ} {at a r : ℕ} → i < length vs
    → Put (cell_columns below (take i vs)) l at m a → Put (right_aligned CELL_COLUMNS (half below (get_or vs i d))) m a n r
    → Put (cell_columns below (take (i + 1) vs)) l at n r
columns_next below vs i d h p q =
    let e : take (i + 1) vs ≡ take i vs ++ (get_or vs i d ∷ []) = rw (add-one i, take-suc vs i d h) in
    put_same (put_next p q) (sym (ap (cell_columns below) e ∙ columns_snoc below (take i vs) (get_or vs i d)))

pub columns_end : (below : Bool) (vs : List Value) (i : ℕ) {l m : List ℕ} {at r : ℕ} → i ≤ length vs → Put (cell_columns below (take i vs)) l at m r
    → r ≡ at + CELL_COLUMNS * i
columns_end below vs i h p = p.end ∙ rw (length_columns below (take i vs), length-take-le i vs h)

pub columns_whole : (below : Bool) (vs : List Value) {l m : List ℕ} {at r : ℕ} → Put (cell_columns below vs) l at m r → r ≡ at + CELL_COLUMNS * length vs
columns_whole below vs p = p.end ∙ rw (length_columns below vs)

-- ---- a set real among the values

pub any_set_real : (vs : List Value) → list_any is_set_real vs ≡ has_set_real vs
unfolding has_set_real
any_set_real [] = refl
any_set_real (v ∷ vs) = go (is_set_real v) (any_set_real vs)
  where
    go : (b : Bool) → list_any is_set_real vs ≡ has_set_real vs → (b || list_any is_set_real vs) ≡ cond b true (has_set_real vs)
    go true e = refl
    go false e = e

-- ---- rows

pub length_row : (below : Bool) (lead : List ℕ) (vs : List Value) → length lead ≤ NUMBER_COLUMNS → length vs ≤ MOST_CHOSEN
    → length (sheet_row below lead vs) ≡ SHEET_COLUMNS
unfolding sheet_row
length_row below lead vs h k =
    let e : length (right_aligned NUMBER_COLUMNS lead ++ cell_columns below vs) ≡ NUMBER_COLUMNS + CELL_COLUMNS * length vs =
    rw (length-append (right_aligned NUMBER_COLUMNS lead) (cell_columns below vs), length_right NUMBER_COLUMNS lead h, length_columns below vs) in
    length_filled (right_aligned NUMBER_COLUMNS lead ++ cell_columns below vs) (omega arith)

pub row_of_parts : (below : Bool) (lead : List ℕ) (vs : List Value) {l m n o : List ℕ} {at a b r : ℕ}
    → Put (right_aligned NUMBER_COLUMNS lead) l at m a → Put (cell_columns below vs) m a n b
    → Put (replicate (at + SHEET_COLUMNS - b) 32 ++ 10 ∷ []) n b o r → Put (with_feeds (sheet_row below lead vs ∷ [])) l at o r
unfolding sheet_row
row_of_parts below lead vs p q s = row_put (right_aligned NUMBER_COLUMNS lead ++ cell_columns below vs) (put_next p q) s

pub row_same : (below : Bool) (vs : List Value) {t u l m : List ℕ} {at r : ℕ} → t ≡ u → Put (with_feeds (sheet_row below t vs ∷ [])) l at m r
    → Put (with_feeds (sheet_row below u vs ∷ [])) l at m r
row_same below vs e p = rw e at p

pub row_end : (below : Bool) (lead : List ℕ) (vs : List Value) {l m : List ℕ} {at r : ℕ} → length lead ≤ NUMBER_COLUMNS → length vs ≤ MOST_CHOSEN
    → Put (with_feeds (sheet_row below lead vs ∷ [])) l at m r → r ≡ at + SHEET_ROW_BYTES
row_end below lead vs h k p = rows_end (sheet_row below lead vs ∷ []) (full_cons (length_row below lead vs h k) full_none) p

-- ---- a printed line

pub decimal_fits : (n : ℕ) → 0 + length (decimal n) ≤ NUMBER_COLUMNS
decimal_fits n = omega (arith, decimal_most n)

pub decimal_text : (l m : List ℕ) (n e : ℕ) → length l ≡ NUMBER_COLUMNS → e ≡ 0 + length (decimal n) → m ≡ overwritten l 0 (decimal n)
    → take (e - 0) m ≡ decimal n
decimal_text l m n e h k q =
    let z : e - 0 ≡ length (decimal n) = omega arith in
    let f = decimal_most n in
    rw (z, q) (front l (decimal n) (omega arith))

pub chosen_most : (vs : List Value) (count : ℕ) → count ≤ MOST_CHOSEN → length (take count vs) ≤ MOST_CHOSEN
chosen_most vs count h = rw (length-take count vs) (omega arith)

module _ (l : PrintedLine) where
  abbrev first_row : List ℕ
  first_row = sheet_row false (decimal l.number) l.values

  abbrev second_row : List ℕ
  second_row = sheet_row true [] l.values

  pub line_one : has_set_real l.values ≡ false → line_rows l ≡ first_row ∷ []
  unfolding line_rows
  line_one e = rw e

  pub line_two : has_set_real l.values ≡ true → line_rows l ≡ first_row ∷ second_row ∷ []
  unfolding line_rows
  line_two e = rw e

  pub line_one_put : {a b : List ℕ} {at r : ℕ} → has_set_real l.values ≡ false → Put (with_feeds (first_row ∷ [])) a at b r
      → Put (with_feeds (line_rows l)) a at b r
  line_one_put e p = put_same p (ap with_feeds (sym (line_one e)))

  pub line_two_put : {a b c : List ℕ} {at q r : ℕ} → has_set_real l.values ≡ true → Put (with_feeds (first_row ∷ [])) a at b q
      → Put (with_feeds (second_row ∷ [])) b q c r → Put (with_feeds (line_rows l)) a at c r
  line_two_put e p q = put_same (rows_next (first_row ∷ []) (second_row ∷ []) p q) (ap with_feeds (sym (line_two e)))

  pub line_full : length l.values ≤ MOST_CHOSEN → Full (line_rows l)
  line_full h = go (has_set_real l.values) refl
    where
      first : length first_row ≡ SHEET_COLUMNS
      first = length_row false (decimal l.number) l.values (decimal_most l.number) h

      second : length second_row ≡ SHEET_COLUMNS
      second = length_row true [] l.values (lit≤ tt) h

      go : (t : Bool) → has_set_real l.values ≡ t → Full (line_rows l)
      go true e = rw (line_two e) (full_cons first (full_cons second full_none))
      go false e = rw (line_one e) (full_cons first full_none)

  pub line_count : length (line_rows l) ≤ 2
  line_count = go (has_set_real l.values) refl
    where
      go : (t : Bool) → has_set_real l.values ≡ t → length (line_rows l) ≤ 2
      go true e = rw (line_two e) (lit≤ tt)
      go false e = rw (line_one e) (lit≤ tt)

  -- 162 bytes
  pub line_most : length l.values ≤ MOST_CHOSEN → length (with_feeds (line_rows l)) ≤ MOST_LINE_BYTES
  line_most h = fed_most (line_rows l) 2 (line_full h) line_count
