-- The rows of all printed lines: one line more, their size, and the closing rows after them.
use mathlib.Core.Path.{◌≡◌, refl, sym, ap, ◌∙◌}
use mathlib.Core.List.{List, [], ◌∷◌, ◌++◌, flat_map, append_assoc, append-nil, Memᴰ}
use mathlib.Core.Bool.{Bool}
use Prim.Native.Nat.{ℕ, ◌*◌, ◌≤◌, zero-le}
use native.Mathlib.Omega.{arith}
use lib.ListN.{length, length-append}
use Rattle.values.specs.inner_contracts.Puts.{Put}
use Rattle.values.proofs.laws.PutLaws.{put_none, put_same}
use Rattle.sheets.specs.definitions.Layout.{MOST_CHOSEN}
use Rattle.sheets.specs.definitions.Rows.{PrintedLine, line_rows}
use Rattle.sheets.specs.definitions.Folds.{folds}
use Rattle.sheets.specs.definitions.Closing.{all_closing_rows}
use Rattle.sheets.specs.definitions.Sheet.{sheet_rows, with_feeds, sheet}
use Rattle.sheets.specs.definitions.Sizes.{MOST_LINE_BYTES}
use Rattle.sheets.proofs.laws.FedRows.{Full, full_none, full_append, fed_none, fed_most, rows_next}
use Rattle.sheets.proofs.laws.RowLaws.{line_full, line_count}

pub lines_snoc : (ls : List PrintedLine) (l : PrintedLine) → flat_map line_rows (ls ++ (l ∷ [])) ≡ flat_map line_rows ls ++ line_rows l
unfolding flat_map
lines_snoc [] l = append-nil (line_rows l)
lines_snoc (k ∷ ls) l =
    ap (λ (rows : List (List ℕ)). line_rows k ++ rows) (lines_snoc ls l) ∙ sym (append_assoc (line_rows k) (flat_map line_rows ls) (line_rows l))

-- every line has at most as many values as may be chosen
abbrev pub Narrow : List PrintedLine → Type 0
Narrow ls = (l : PrintedLine) → Memᴰ l ls → length l.values ≤ MOST_CHOSEN

pub lines_full : (ls : List PrintedLine) → Narrow ls → Full (flat_map line_rows ls)
unfolding flat_map
lines_full [] h = full_none
lines_full (l ∷ ls) h = full_append (line_rows l) (line_full l (h l (Memᴰ.head refl))) (lines_full ls (λ k m. h k (Memᴰ.tail m)))

lines_count : (ls : List PrintedLine) → length (flat_map line_rows ls) ≤ 2 * length ls
unfolding flat_map
lines_count [] = zero-le
lines_count (l ∷ ls) =
    let a = line_count l in
    let b = lines_count ls in
    rw (length-append (line_rows l) (flat_map line_rows ls)) (omega arith)

pub lines_most : (ls : List PrintedLine) → Narrow ls → length (with_feeds (flat_map line_rows ls)) ≤ MOST_LINE_BYTES * length ls
lines_most ls h =
    let m = fed_most (flat_map line_rows ls) (2 * length ls) (lines_full ls h) (lines_count ls) in
    omega arith

-- ---- for a loop over the lines

pub lines_none : (l : List ℕ) (at : ℕ) → Put (with_feeds (flat_map line_rows [])) l at l at
unfolding flat_map
lines_none l at = put_same (put_none l at) (sym fed_none)

pub lines_next : (ls : List PrintedLine) (l : PrintedLine) {a b c : List ℕ} {at q r : ℕ} → Put (with_feeds (flat_map line_rows ls)) a at b q
    → Put (with_feeds (line_rows l)) b q c r → Put (with_feeds (flat_map line_rows (ls ++ (l ∷ [])))) a at c r
lines_next ls l p q = put_same (rows_next (flat_map line_rows ls) (line_rows l) p q) (ap with_feeds (sym (lines_snoc ls l)))

pub sheet_put : (reals : List Bool) (ls : List PrintedLine) {a b c : List ℕ} {at q r : ℕ} → Put (with_feeds (flat_map line_rows ls)) a at b q
    → Put (with_feeds (all_closing_rows 0 reals (folds ls))) b q c r → Put (sheet reals ls) a at c r
unfolding sheet sheet_rows
sheet_put reals ls p q = rows_next (flat_map line_rows ls) (all_closing_rows 0 reals (folds ls)) p q
