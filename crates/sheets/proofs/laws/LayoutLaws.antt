-- Sizes of texts in columns, and how they are put: the spaces, then the text.
use mathlib.Core.Path.{◌≡◌, refl, ◌∙◌}
use mathlib.Core.List.{List}
use Prim.Native.Nat.{ℕ, ◌+◌, ◌-◌, ◌≤◌}
use native.Mathlib.Omega.{arith}
use lib.ListN.{length, take, drop, replicate, length-append, length-replicate}
use lib.Seq.{take_at}
use Rattle.values.specs.definitions.Bytes.{overwritten}
use Rattle.values.specs.inner_contracts.Puts.{Put}
use Rattle.values.proofs.laws.ByteLaws.{overwritten_parts}
use Rattle.values.proofs.laws.PutLaws.{put_next}
use Rattle.sheets.specs.definitions.Layout.{SHEET_COLUMNS, right_aligned, filled}

-- ---- sizes

pub length_right : (w : ℕ) (t : List ℕ) → length t ≤ w → length (right_aligned w t) ≡ w
unfolding right_aligned
length_right w t h = rw (length-append (replicate (w - length t) 32) t, length-replicate {A = ℕ} (w - length t) 32) (omega arith)

pub length_filled : (t : List ℕ) → length t ≤ SHEET_COLUMNS → length (filled t) ≡ SHEET_COLUMNS
unfolding filled
length_filled t h =
    rw (length-append t (replicate (SHEET_COLUMNS - length t) 32), length-replicate {A = ℕ} (SHEET_COLUMNS - length t) 32) (omega arith)

-- ---- spaces

pub spaces_end : (count : ℕ) {l m : List ℕ} {at r : ℕ} → Put (replicate count 32) l at m r → r ≡ at + count
spaces_end count p = p.end ∙ rw (length-replicate {A = ℕ} count 32)

-- ---- texts in columns

pub right_put : (w : ℕ) (t : List ℕ) {l m n : List ℕ} {at a r : ℕ} → Put (replicate (w - length t) 32) l at m a
    → Put t m a n r → Put (right_aligned w t) l at n r
unfolding right_aligned
right_put w t p q = put_next p q

pub right_end : (w : ℕ) (t : List ℕ) {l m : List ℕ} {at r : ℕ} → length t ≤ w → Put (right_aligned w t) l at m r → r ≡ at + w
right_end w t h p = p.end ∙ rw (length_right w t h)

pub right_same : (w : ℕ) {t u l m : List ℕ} {at r : ℕ} → t ≡ u → Put (right_aligned w t) l at m r → Put (right_aligned w u) l at m r
right_same w e p = rw e at p

-- what was put at the front of memory is read back
pub front : (l bs : List ℕ) → length bs ≤ length l → take (length bs) (overwritten l 0 bs) ≡ bs
front l bs h = rw (overwritten_parts l 0 bs (omega arith)) (take_at bs (drop (0 + length bs) l) (length bs) refl)
