-- The state image as the code tests it, and as it writes the fresh state.
use Prim.Native.Nat.{ℕ, ◌+◌, ◌≤◌, ◌<◌}
use native.Mathlib.Omega.{arith}
use mathlib.Core.Path.{◌≡◌, refl, sym, ap, ap₂, ◌∙◌}
use mathlib.Core.Bool.{Bool, true, false}
use mathlib.Core.List.{List, [], ◌∷◌, ◌++◌, append-nil, append_assoc}
use lib.ListN.{length, get_or, set, take, drop}
use lib.Seq.{drop-drop}
use borrow.Author.Tests.{le-leb, lt-leb, eq-eqb, ne_eqb}
use Rattle.values.specs.definitions.Bytes.{word_at, low_first, overwritten}
use Rattle.values.specs.inner_contracts.Puts.{Put}
use Rattle.values.proofs.laws.PutLaws.{put_byte, put_next}
use Rattle.checking.specs.inner_contracts.DirectoryReads.{Few}
use Rattle.checking.specs.inner_contracts.Directory.{Bench}
use Rattle.cycles.specs.definitions.Planes.{entity_count, stores_size, encode_stores, are_stores, with_stores}
use Rattle.cycles.specs.definitions.Cycle.{fresh_stores}
use Rattle.cycles.specs.inner_contracts.PlaneMemory.{StoresTest}
use Rattle.cycles.specs.inner_contracts.FreshMemory.{FreshPut}
use Rattle.cycles.proofs.laws.PlaneTestLaws.{behind, behind_all}
use Rattle.cycles.proofs.laws.PutLaws.{put_in_front}
use Rattle.senders.specs.definitions.Follow.{fresh}
use Rattle.senders.specs.definitions.StateImage.{image_size, stores_part, encode_senders, encode, are_senders, is_state, with_state}
use Rattle.senders.specs.inner_contracts.SenderMemory.{PartsTest, StateTest}
use Rattle.senders.specs.inner_contracts.RowMemory.{FreshStatePut}
use Rattle.senders.proofs.laws.LentLaws.{with_behind, given_back}

-- ---- tests

stores_tested : (state : List ℕ) {classes d : List ℕ} {r : Bool} → StoresTest classes d (behind 5 state) r
    → (text offsets lengths : List ℕ) (w : Bench text classes offsets lengths d) → Few w.file → are_stores w.file (stores_part state) ≡ r
stores_tested state s text offsets lengths w c = ap (are_stores w.file) (sym (behind_all 5 state)) ∙ sym (s.is text offsets lengths w c)

module _ {print : ℕ} {classes d state : List ℕ} where
  -- more entities than a bench has
  pub state_impossible : {n : ℕ} {r : Bool} → n ≡ get_or d 1 0 → 32 < n → StateTest print classes d state r
  state_impossible e l = record { is = λ text offsets lengths w c. let q = w.directory.entities in absurd (omega (arith, c.entities)) }

  module _ {x : ℕ} (p : x ≡ word_at 4 state 0) where
    pub other_print : (x ≡ print → ⊥) → StateTest print classes d state false
    unfolding is_state
    other_print h = record { is = λ text offsets lengths w c. rw (← p, ne_eqb x print h) }

    module _ (h : x ≡ print) where
      pub too_many : 8 < get_or state 4 0 → StateTest print classes d state false
      unfolding is_state
      too_many g = record { is = λ text offsets lengths w c. rw (← p, eq-eqb x print h, lt-leb (get_or state 4 0) 8 g) }

      module _ (g : get_or state 4 0 ≤ 8) {r : Bool} (s : StoresTest classes d (behind 5 state) r) where
        pub no_stores : r ≡ false → StateTest print classes d state false
        unfolding is_state
        no_stores t = record {
          is = λ text offsets lengths w c.
              rw (← p, eq-eqb x print h, le-leb (get_or state 4 0) 8 g, stores_tested state s text offsets lengths w c, t);
        }

        pub senders_say : r ≡ true → {n from : ℕ} → n ≡ get_or d 1 0 → from ≡ image_size n 0 → {y : Bool}
            → PartsTest classes d (behind from state) (get_or state 4 0) y → StateTest print classes d state y
        unfolding is_state
        senders_say t {n} {from} e q u = record {
          is = λ text offsets lengths w c.
              let k = w.directory.entities in
              let start : from ≡ 5 + stores_size (entity_count w.file) = omega arith in
              rw (← p, eq-eqb x print h, le-leb (get_or state 4 0) 8 g, stores_tested state s text offsets lengths w c, t)
              (u.is text offsets lengths w c
              ∙ ap (are_senders w.file (get_or state 4 0)) (behind_all from state ∙ ap (λ (j : ℕ). drop j state) start));
        }

-- ---- the fresh state

pub fresh_put : {text classes offsets lengths values d : List ℕ} (print : ℕ) (before : List ℕ) {numbered part : List ℕ} → 5 ≤ length before
    → numbered ≡ overwritten before 0 (low_first 4 print)
    → FreshPut text classes offsets lengths values d (behind 5 (set numbered 4 0)) part
    → FreshStatePut text classes offsets lengths values d print before (with_behind 5 (set numbered 4 0) part)
unfolding with_state encode encode_senders fresh with_stores
fresh_put print before {numbered} {part} long number stores = record {
  is = λ w c v.
      let n = entity_count w.file in
      let head = low_first 4 print ++ 0 ∷ [] in
      let first : Put (low_first 4 print) before 0 numbered 4 = record { end = refl; is = number } in
      let put : Put head before 0 (set numbered 4 0) 5 = put_next first (put_byte numbered 4 0) in
      let begins : set numbered 4 0 ≡ head ++ drop 5 before = (put_in_front put long).is in
      let front : take 5 (set numbered 4 0) ≡ head = ap (take 5) begins in
      let behind_is : behind 5 (set numbered 4 0) ≡ drop 5 before = behind_all 5 (set numbered 4 0) ∙ ap (drop 5) begins in
      let all = encode_stores n (fresh_stores w.file) in
      let size : 5 + stores_size n ≡ image_size n 0 = omega arith in
      let rest : drop (stores_size n) (drop 5 before) ≡ drop (image_size n 0) before =
      drop-drop (stores_size n) 5 before ∙ ap (λ (j : ℕ). drop j before) size in
      given_back 5 (set numbered 4 0) part
      ∙ ap₂ ◌++◌ front (stores.is w c v ∙ ap (λ (l : List ℕ). all ++ drop (stores_size n) l) behind_is ∙ ap (λ (l : List ℕ). all ++ l) rest)
      ∙ sym (append_assoc head all (drop (image_size n 0) before))
      ∙ ap (λ (l : List ℕ). l ++ drop (image_size n 0) before) (sym (append-nil (head ++ all)));
}

-- what each test of a state says
pub ruleset state_read = (state_impossible, other_print, too_many, no_stores, senders_say)
