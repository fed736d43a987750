-- The fresh stores, put part by part.
use Prim.Native.Nat.{ℕ, zero, suc, ◌+◌, ◌*◌, ◌≤◌, ◌<◌}
use native.Mathlib.Omega.{arith}
use mathlib.Core.Path.{◌≡◌, refl, sym, ap, ap₂, ◌∙◌}
use mathlib.Core.List.{List, [], ◌∷◌, ◌++◌, append_assoc}
use mathlib.Core.Option.{Option}
use lib.ListN.{length, get_or, get_elem?, replicate, drop}
use Rattle.values.specs.declared.Value.{Value}
use Rattle.values.specs.definitions.Bytes.{low_first}
use Rattle.values.specs.definitions.Cells.{tag, payload, cell_bytes}
use Rattle.text.specs.definitions.Syntax.{Entity, File}
use Rattle.checking.specs.definitions.Scope.{is_found}
use Rattle.checking.proofs.laws.DirectoryLaws.{number_inside}
use Rattle.cycles.specs.definitions.Cycle.{fresh_stores}
use Rattle.cycles.specs.definitions.Planes.{MOST_STORES_BYTES, table, flag, encode_store, encode_stores, entity_count, stores_size, with_stores}
use Rattle.values.specs.inner_contracts.Puts.{Put}
use Rattle.cycles.specs.inner_contracts.FreshMemory.{fresh_value, FreshCell, FreshCellsPut, flags_of, unset_cells, FreshPut}
use Rattle.cycles.proofs.laws.TableLaws.{table_same, flags_same}
use Rattle.cycles.proofs.laws.PlaneParts.{length_encode_stores}
use Rattle.values.proofs.laws.PutLaws.{put_length, put_next, put_same}
use Rattle.cycles.proofs.laws.PutLaws.{put_piece, put_no_piece, put_in_front}

-- ---- runs of one byte

pub flags_run : (flag n : ℕ) {l m : List ℕ} {at r : ℕ} → Put (replicate n flag) l at m r → Put (flags_of flag n) l at m r
flags_run flag n p = put_same p (sym (flags_same flag 0 n))

unset_run : (k : ℕ) → unset_cells k ≡ replicate (9 * k) 0
unfolding table
unset_run k = go 0 k
  where
    nine : (k : ℕ) → 9 * suc k ≡ suc (suc (suc (suc (suc (suc (suc (suc (suc (9 * k)))))))))
    nine k = omega arith

    go : (i k : ℕ) → table (λ i. 0 ∷ low_first 8 0) i k ≡ replicate (9 * k) 0
    go i zero = refl
    go i (suc k) = ap (λ (l : List ℕ). (0 ∷ low_first 8 0) ++ l) (go (i + 1) k) ∙ sym (ap (λ (n : ℕ). replicate n 0) (nine k))

pub unset_cells_run : (k : ℕ) {l m : List ℕ} {at r : ℕ} → Put (replicate (9 * k) 0) l at m r → Put (unset_cells k) l at m r
unset_cells_run k p = put_same p (sym (unset_run k))

-- ---- loops

module _ {text classes offsets lengths values d : List ℕ} where
  pub fresh_cells_begin : (l : List ℕ) (at : ℕ) → FreshCellsPut text classes offsets lengths values d 0 l at l at
  fresh_cells_begin l at = record {
    same = refl;
    end = omega arith;
    is = λ w few vs. put_no_piece (λ i. cell_bytes (fresh_value w.file i)) l at;
  }

  pub fresh_cells_next : {l m k : List ℕ} {i at q r t word : ℕ} {v : Value} → FreshCellsPut text classes offsets lengths values d i l at m q
      → FreshCell text classes offsets lengths values d i v → (t ≡ tag v) × (word ≡ payload v) → (r ≡ q + 9) × Put (t ∷ low_first 8 word) m q k r
      → FreshCellsPut text classes offsets lengths values d (i + 1) l at k r
  fresh_cells_next {i = i} p h g c = record {
    same = put_length c.1 ∙ p.same;
    end = let e = p.end in let f = c.0 in omega arith;
    is = λ w few vs.
        put_piece (λ i. cell_bytes (fresh_value w.file i)) i (p.is w few vs)
        (put_same c.1 (ap₂ (λ (a b : ℕ). a ∷ low_first 8 b) g.0 g.1 ∙ ap cell_bytes (h.is w few vs)));
  }

-- ---- the whole

-- every entity is present
all_present : (f : File) → flags_of 1 (entity_count f) ≡ table (λ e. flag (is_found (get_elem? f.entities e))) 0 (entity_count f)
unfolding is_found
all_present f =
    table_same (λ e. 1 ∷ []) (λ e. flag (is_found (get_elem? f.entities e))) 0 (entity_count f)
    (λ e p q. sym (ap (λ (o : Option Entity). flag (is_found o)) (number_inside f.entities e (omega arith)).1))

fresh_parts : (f : File)
    → flags_of 1 (entity_count f) ++ table (λ i. cell_bytes (fresh_value f i)) 0 (12 * entity_count f)
    ++ flags_of 0 (entity_count f)
    ++ unset_cells (12 * entity_count f)
    ≡ encode_stores (entity_count f) (fresh_stores f)
unfolding encode_stores encode_store fresh_stores fresh_value
fresh_parts f =
    let n = entity_count f in
    ap (λ (x : List ℕ). x ++ table (λ i. cell_bytes (fresh_value f i)) 0 (12 * n) ++ flags_of 0 n ++ unset_cells (12 * n)) (all_present f)
    ∙ append_assoc (table (λ e. flag (is_found (get_elem? f.entities e))) 0 n ++ table (λ i. cell_bytes (fresh_value f i)) 0 (12 * n)) (flags_of 0 n)
    (unset_cells (12 * n))

module _ {text classes offsets lengths values d : List ℕ} {n : ℕ} (e : n ≡ get_or d 1 0) where
  pub fresh_impossible : 32 < n → {l m : List ℕ} → FreshPut text classes offsets lengths values d l m
  fresh_impossible h = record { is = λ w few. let q = w.directory.entities in absurd (omega (arith, few.entities)) }

  pub fresh_put : {l a b c m : List ℕ} {o p q r : ℕ} → Put (flags_of 1 n) l 0 a o
      → FreshCellsPut text classes offsets lengths values d (12 * n) a o b p → Put (flags_of 0 n) b p c q
      → Put (unset_cells (12 * n)) c q m r → MOST_STORES_BYTES ≤ length l → n ≤ 32 → FreshPut text classes offsets lengths values d l m
  unfolding with_stores
  fresh_put {l} {a} {b} {c} {m} {o} {p} {q} {r} flags cells absent previous big few = record {
    is = λ w counts vs.
        let f = w.file in
        let z : n ≡ entity_count f = e ∙ w.directory.entities in
        let whole = put_next (put_next (put_next flags (cells.is w counts vs)) absent) previous in
        let all = put_same whole (parts f z) in
        let size = length_encode_stores (entity_count f) (fresh_stores f) in
        let end = all.end in
        let k : r ≡ stores_size (entity_count f) = omega arith in
        (put_in_front all (omega arith)).is ∙ ap (λ (i : ℕ). encode_stores (entity_count f) (fresh_stores f) ++ drop i l) k;
  }
    where
      parts : (f : File) → n ≡ entity_count f
          → flags_of 1 n ++ table (λ i. cell_bytes (fresh_value f i)) 0 (12 * n) ++ flags_of 0 n ++ unset_cells (12 * n)
          ≡ encode_stores (entity_count f) (fresh_stores f)
      parts f z =
          ap (λ (k : ℕ). flags_of 1 k ++ table (λ i. cell_bytes (fresh_value f i)) 0 (12 * k) ++ flags_of 0 k ++ unset_cells (12 * k)) z ∙ fresh_parts f
