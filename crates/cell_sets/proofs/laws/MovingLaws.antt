-- What bytes alone say of two cells: with the same bytes they do not differ, nor with the tag 0.
use Prim.Native.Nat.{ℕ, ◌+◌, ◌*◌}
use mathlib.Core.Path.{◌≡◌, sym, ap, ◌∙◌}
use mathlib.Core.List.{List}
use mathlib.Core.Bool.{false}
use lib.ListN.{get_or}
use Rattle.values.specs.declared.Value.TheVariants.{Unset}
use Rattle.values.specs.definitions.Value.{differ}
use Rattle.values.specs.definitions.Bytes.{word_at}
use Rattle.values.specs.definitions.Cells.{unpacked}
use Rattle.values.proofs.laws.StorableLaws.{tag_kind, unpacked_storable}
use Rattle.values.proofs.laws.SameLaws.{same_refl}
use Rattle.cell_sets.specs.inner_contracts.Moving.{cells_differ}

module _ (cells previous_cells : List ℕ) (i : ℕ) (t : get_or cells (i * 9) 0 ≡ get_or previous_cells (i * 9) 0) where
  pub same_bytes_same : word_at 8 cells (i * 9 + 1) ≡ word_at 8 previous_cells (i * 9 + 1) → cells_differ cells previous_cells i ≡ false
  unfolding cells_differ
  same_bytes_same w =
      let p = get_or previous_cells (i * 9) 0 in
      let q = word_at 8 previous_cells (i * 9 + 1) in
      ap (λ (x : ℕ). differ (unpacked x (word_at 8 cells (i * 9 + 1))) (unpacked p q)) t
      ∙ ap (λ (x : ℕ). differ (unpacked p x) (unpacked p q)) w
      ∙ same_refl (tag_kind p) (unpacked p q) (unpacked_storable p q)

  pub no_tag_same : get_or cells (i * 9) 0 ≡ 0 → cells_differ cells previous_cells i ≡ false
  unfolding cells_differ unpacked
  no_tag_same z =
      ap (λ (x : ℕ). differ (unpacked x (word_at 8 cells (i * 9 + 1))) (unpacked (get_or previous_cells (i * 9) 0) (word_at 8 previous_cells (i * 9 + 1)))) z
      ∙ ap (λ (x : ℕ). differ Unset (unpacked x (word_at 8 previous_cells (i * 9 + 1)))) (sym t ∙ z)
