-- Planes gathered from areas: exact bytes, and which stores' planes they are.
use Prim.Native.Nat.{ℕ, ◌*◌, ◌≤◌, ◌<◌}
use native.Mathlib.Omega.{arith}
use mathlib.Core.Path.{◌≡◌, refl, ap, ap₂, ◌∙◌}
use mathlib.Core.List.{List, ◌++◌}
use lib.ListN.{length, take, drop}
use lib.Seq.{take_at}
use Rattle.values.specs.inner_contracts.Puts.{Put}
use Rattle.values.proofs.laws.PutLaws.{put_next, put_length}
use Rattle.cycles.specs.definitions.Store.{Store, Stores}
use Rattle.cycles.specs.definitions.Planes.{table, stores_size, encode_store, encode_stores, with_stores}
use Rattle.cycles.specs.inner_contracts.PlaneMemory.{gathered, StoresGathered}
use Rattle.cycles.proofs.laws.TableLaws.{length_table}
use Rattle.cycles.proofs.laws.PlaneParts.{flag_piece, cell_piece}
use Rattle.cycles.proofs.laws.PutLaws.{put_in_front}

-- ---- as code puts them

pub plane_put : (n : ℕ) (flags cells : List ℕ) {before between after : List ℕ} {at next r : ℕ} → Put (take n flags) before at between next
    → Put (take (108 * n) cells) between next after r → Put (gathered n flags cells) before at after r
unfolding gathered
plane_put n flags cells p q = put_next p q

module _ {n : ℕ} {flags now_cells previous_cells before : List ℕ} where
  -- more entities than a bench has: nothing is put
  pub none_gathered : 32 < n → StoresGathered n flags now_cells previous_cells before before
  none_gathered h = record { same = refl; is = λ few. absurd (omega arith) }

  pub both_gathered : {between after : List ℕ} {next r : ℕ} → Put (gathered n flags now_cells) before 0 between next
      → Put (gathered n flags previous_cells) between next after r → r ≡ stores_size n → stores_size n ≤ length before
      → StoresGathered n flags now_cells previous_cells before after
  both_gathered {r = r} p q e l =
      let both = put_next p q in
      record {
        same = put_length both;
        is = λ few.
            (put_in_front both (omega arith)).is
            ∙ ap (λ (k : ℕ). gathered n flags now_cells ++ gathered n flags previous_cells ++ drop k before) e;
      }

-- ---- the planes of stores

-- the areas hold the parts of two stores of n entities, of the same presence
pub record AreasOf (n : ℕ) (s : Stores) (flags now_cells previous_cells : List ℕ) : Type 0 where
  pub present : take n flags ≡ table (flag_piece s.now.present) 0 n
  pub now : take (108 * n) now_cells ≡ table (cell_piece s.now.cell) 0 (12 * n)
  pub previous_present : take n flags ≡ table (flag_piece s.previous.present) 0 n
  pub previous : take (108 * n) previous_cells ≡ table (cell_piece s.previous.cell) 0 (12 * n)

pub gathered_store : (n : ℕ) (s : Store) (flags cells : List ℕ) → take n flags ≡ table (flag_piece s.present) 0 n
    → take (108 * n) cells ≡ table (cell_piece s.cell) 0 (12 * n) → gathered n flags cells ≡ encode_store n s
unfolding gathered encode_store
gathered_store n s flags cells p c = ap₂ ◌++◌ p c

-- memory with stores written to it
pub gathered_stores : (n : ℕ) (s : Stores) {flags now_cells previous_cells : List ℕ} → AreasOf n s flags now_cells previous_cells → (m : List ℕ)
    → gathered n flags now_cells ++ gathered n flags previous_cells ++ drop (stores_size n) m ≡ with_stores n s m
unfolding with_stores encode_stores
gathered_stores n s {flags} {now_cells} {previous_cells} h m =
    ap₂ (λ (x y : List ℕ). x ++ y ++ drop (stores_size n) m) (gathered_store n s.now flags now_cells h.present h.now)
    (gathered_store n s.previous flags previous_cells h.previous_present h.previous)

-- an area that begins with a table
pub area_taken : (piece : ℕ → List ℕ) (size : ℕ) → ((i : ℕ) → length (piece i) ≡ size) → (k bytes : ℕ) → k * size ≡ bytes
    → {area : List ℕ} (rest : List ℕ) → area ≡ table piece 0 k ++ rest → take bytes area ≡ table piece 0 k
area_taken piece size sized k bytes b {area} rest e = ap (take bytes) e ∙ take_at (table piece 0 k) rest bytes (length_table piece size sized 0 k ∙ b)
