-- What is kept of a line, as the code puts it: cell by cell, and then a sender's whole part.
use Prim.Native.Nat.{ℕ, zero, suc, ◌+◌, ◌-◌, ◌*◌, ◌/◌, ◌%◌, ◌≤◌, ◌<◌}
use native.Mathlib.Omega.{arith}
use mathlib.Core.Path.{◌≡◌, sym, ap, ◌∙◌}
use mathlib.Core.Bool.{Bool, true, false, cond}
use mathlib.Core.List.{List, ◌∷◌, ◌++◌, append_assoc}
use mathlib.Core.Option.{none}
use lib.ListN.{length, set, take, drop, replicate, length-drop, take-append-drop}
use lib.Seq.{length-take-le, drop_at, drop-drop}
use Rattle.values.specs.definitions.Bytes.{low_first, overwritten}
use Rattle.values.specs.definitions.Cells.{cell_bytes, cell_at, with_cell}
use Rattle.values.specs.inner_contracts.Puts.{Put}
use Rattle.values.proofs.laws.ByteLaws.{overwritten_parts}
use Rattle.values.proofs.laws.PutLaws.{put_byte, put_next, put_same}
use Rattle.values.proofs.laws.StorableLaws.{length_cell_bytes}
use Rattle.text.specs.definitions.Syntax.{File}
use Rattle.checking.specs.definitions.Scope.{member_of, is_action}
use Rattle.checking.specs.inner_contracts.DirectoryReads.{Few}
use Rattle.checking.specs.inner_contracts.Directory.{Bench}
use Rattle.cycles.specs.definitions.Cycle.{is_sort}
use Rattle.cycles.specs.definitions.Planes.{table}
use Rattle.cycles.specs.inner_contracts.CellTokens.{NO_TOKEN, CellToken, SortTest}
use Rattle.cycles.specs.inner_contracts.PlaneMemory.{gathered}
use Rattle.cycles.proofs.laws.PlaneTestLaws.{behind}
use Rattle.cycles.proofs.laws.CellTokenLaws.{action_class, none_behind}
use Rattle.cycles.proofs.laws.PutLaws.{put_piece, put_no_piece, put_in_front}
use Rattle.senders.specs.definitions.StateImage.{sender_size, name_bytes}
use Rattle.senders.specs.inner_contracts.SenderMemory.{kept_at, KeptCellPut, KeptPut, part_of}
use Rattle.senders.proofs.laws.LentLaws.{with_behind, put_behind}

-- bytes that are put where they stand
put_back : (l : List ℕ) (at n : ℕ) → at + n ≤ length l → overwritten l at (take n (drop at l)) ≡ l
put_back l at n h =
    let d = length-drop at l in
    let k : length (take n (drop at l)) ≡ n = length-take-le n (drop at l) (omega arith) in
    overwritten_parts l at (take n (drop at l)) (omega arith)
    ∙ ap (λ (j : ℕ). take at l ++ take n (drop at l) ++ drop (at + j) l) k
    ∙ append_assoc (take at l) (take n (drop at l)) (drop (at + n) l)
    ∙ ap (λ (m : List ℕ). take at l ++ (take n (drop at l) ++ m)) (sym (drop-drop n at l))
    ∙ ap (λ (m : List ℕ). take at l ++ m) (take-append-drop n (drop at l))
    ∙ take-append-drop at l

-- ---- is a cell an action's?

module _ {classes d : List ℕ} {i token : ℕ} {r : Bool} (t : CellToken d i token) (s : SortTest classes token 6 r) where
  pub action_told : (text offsets lengths : List ℕ) (w : Bench text classes offsets lengths d) → Few w.file
      → is_sort is_action (member_of w.file (i / 12) (i % 12)) ≡ r
  action_told text offsets lengths w c =
      sym (s.is text offsets lengths (member_of w.file (i / 12) (i % 12)) (t.is text classes offsets lengths w c) is_action action_class)

-- ---- one cell

-- what is put at a cell that is an action's, and at one that is not
module _ (f : File) (i : ℕ) (fired before : List ℕ) where
  fired_kept : is_sort is_action (member_of f (i / 12) (i % 12)) ≡ true
      → with_cell before i (cell_at fired i) ≡ overwritten before (i * 9) (kept_at before fired f i)
  unfolding kept_at
  fired_kept e = rw e

  reading_kept : is_sort is_action (member_of f (i / 12) (i % 12)) ≡ false → i * 9 + 9 ≤ length before
      → before ≡ overwritten before (i * 9) (kept_at before fired f i)
  unfolding kept_at
  reading_kept e h = rw e (sym (put_back before (i * 9) 9 h))

-- ---- one cell after another

length_kept_at : (inputs fired : List ℕ) (f : File) (i : ℕ) → i * 9 + 9 ≤ length inputs → length (kept_at inputs fired f i) ≡ 9
unfolding kept_at
length_kept_at inputs fired f i h = go (is_sort is_action (member_of f (i / 12) (i % 12)))
  where
    go : (b : Bool) → length (cond b (cell_bytes (cell_at fired i)) (take 9 (drop (i * 9) inputs))) ≡ 9
    go true = length_cell_bytes (cell_at fired i)
    go false = let l = length-drop (i * 9) inputs in length-take-le 9 (drop (i * 9) inputs) (omega arith)

pub record KeptSoFar (classes d inputs fired : List ℕ) (i : ℕ) (before after : List ℕ) : Type 0 where
  pub is : (text offsets lengths : List ℕ) (w : Bench text classes offsets lengths d) → Few w.file
      → Put (table (kept_at inputs fired w.file) 0 i) before 0 after (i * 9)

-- behind the cells that are put the inputs stand as they were
same_behind : (inputs fired : List ℕ) (f : File) (i : ℕ) {now : List ℕ} → Put (table (kept_at inputs fired f) 0 i) inputs 0 now (i * 9)
    → i * 9 ≤ length inputs → kept_at now fired f i ≡ kept_at inputs fired f i
unfolding kept_at
same_behind inputs fired f i {now} p h =
    let q = put_in_front p h in
    let e : drop (i * 9) now ≡ drop (i * 9) inputs =
    ap (drop (i * 9)) q.is ∙ drop_at (table (kept_at inputs fired f) 0 i) (drop (i * 9) inputs) (i * 9) (sym q.count) in
    ap (λ (m : List ℕ). cond (is_sort is_action (member_of f (i / 12) (i % 12))) (cell_bytes (cell_at fired i)) (take 9 m)) e

module _ (inputs fired : List ℕ) (f : File) {now : List ℕ} where
  one_more : (i : ℕ) → Put (table (kept_at inputs fired f) 0 i) inputs 0 now (i * 9) → {after : List ℕ} → i * 9 + 9 ≤ length inputs
      → after ≡ overwritten now (i * 9) (kept_at now fired f i) → Put (table (kept_at inputs fired f) 0 (i + 1)) inputs 0 after (i * 9 + 9)
  one_more i q h k =
      let l = length_kept_at inputs fired f i h in
      put_piece (kept_at inputs fired f) i q
      (record { end = omega arith; is = k ∙ ap (overwritten now (i * 9)) (same_behind inputs fired f i q (omega arith)) })

  -- from a cell without a member on, as far as its entity's cells go
  rest_put : (i : ℕ) → ((k : ℕ) → i % 12 + k < 12 → member_of f ((i + k) / 12) ((i + k) % 12) ≡ none) → length now ≡ length inputs → (k : ℕ)
      → i % 12 + k ≤ 12 → (i + k) * 9 ≤ length inputs → Put (table (kept_at inputs fired f) 0 i) inputs 0 now (i * 9)
      → Put (table (kept_at inputs fired f) 0 (i + k)) inputs 0 now ((i + k) * 9)
  unfolding is_sort
  rest_put i none_there l zero room long q = let e : i + 0 ≡ i = omega arith in rw e q
  rest_put i none_there l (suc k) room long q =
      let e : i + suc k ≡ i + k + 1 = omega arith in
      let z : (i + k + 1) * 9 ≡ (i + k) * 9 + 9 = omega arith in
      rw (e, z)
      (one_more (i + k) (rest_put i none_there l k (omega arith) (omega arith) q) (omega arith)
      (reading_kept f (i + k) fired now (ap (is_sort is_action) (none_there k (omega arith))) (omega arith)))

module _ {classes d inputs fired : List ℕ} where
  pub none_kept : KeptSoFar classes d inputs fired 0 inputs inputs
  none_kept = record { is = λ text offsets lengths w c. put_no_piece (kept_at inputs fired w.file) inputs 0 }

  module _ {i : ℕ} {now : List ℕ} (p : KeptSoFar classes d inputs fired i inputs now) where
    module _ {token : ℕ} (t : CellToken d i token) (l : length now ≡ length inputs) where
      pub member_kept : {after : List ℕ} → KeptCellPut classes token fired i now after → i * 9 + 9 ≤ length inputs
          → KeptSoFar classes d inputs fired (i + 1) inputs after
      member_kept {after} k h = record {
        is = λ text offsets lengths w c.
            let told = action_told t k.tested text offsets lengths w c in
            let z : (i + 1) * 9 ≡ i * 9 + 9 = omega arith in
            rw z (one_more inputs fired w.file i (p.is text offsets lengths w c) h (put_at w.file k.action told k.is));
      }
        where
          put_at : (f : File) (b : Bool) → is_sort is_action (member_of f (i / 12) (i % 12)) ≡ b → after ≡ cond b (with_cell now i (cell_at fired i)) now
              → after ≡ overwritten now (i * 9) (kept_at now fired f i)
          put_at f true e q = q ∙ fired_kept f i fired now e
          put_at f false e q = q ∙ reading_kept f i fired now e (omega arith)

      pub rest_kept : NO_TOKEN ≤ token → {r : ℕ} → r ≡ i - i % 12 + 12 → r * 9 ≤ length inputs → KeptSoFar classes d inputs fired r inputs now
      rest_kept h {r} e long = record {
        is = λ text offsets lengths w c.
            let k : r ≡ i + (12 - i % 12) = omega arith in
            rw k
            (rest_put inputs fired w.file i (none_behind t h w c) l (12 - i % 12) (omega arith) (omega arith) (p.is text offsets lengths w c));
      }

    pub kept_until : {j : ℕ} → i ≡ j → KeptSoFar classes d inputs fired j inputs now
    kept_until e = rw e at p

    pub all_kept : (n : ℕ) → i ≡ n → n * 9 ≤ length inputs → KeptPut classes d inputs fired n inputs now
    all_kept n e h = record {
      is = λ text offsets lengths w c. (put_in_front (rw e at (p.is text offsets lengths w c)) h).is;
    }

-- ---- a sender's part

pub sender_put : (n last : ℕ) (name flags cells m : List ℕ) {named padded part after : List ℕ} {end r : ℕ} → length name ≤ 24
    → Put name (set m 0 (length name)) 1 named end → Put (replicate (25 - end) 0) named end padded 25
    → part ≡ overwritten (behind 25 padded) 0 (low_first 4 last)
    → (r ≡ 29 + 109 * n) × Put (gathered n flags cells) (with_behind 25 padded part) 29 after r → sender_size n ≤ length m → 29 ≤ length padded
    → after ≡ part_of n name last flags cells ++ drop (sender_size n) m
unfolding part_of name_bytes
sender_put n last name flags cells m {named} {padded} {part} {after} {end} {r} short put zeros number plane fits long =
    let a : Put (length name ∷ name) m 0 named end = put_next (put_byte m 0 (length name)) put in
    let k : 25 - end ≡ 24 - length name = let e = put.end in omega arith in
    let b : Put (name_bytes name) m 0 padded 25 = put_same (put_next a zeros) (ap (λ (j : ℕ). (length name ∷ name) ++ replicate j 0) k) in
    let c : Put (low_first 4 last) padded 25 (with_behind 25 padded part) 29 = put_behind 25 padded (low_first 4 last) long number in
    let e = plane.0 in
    (put_in_front (put_next (put_next b c) plane.1) (omega arith)).is
    ∙ ap (λ (j : ℕ). part_of n name last flags cells ++ drop j m) e
