-- Memory from a place on, lent to a call that writes there, and given back.
use Prim.Native.Nat.{ℕ, ◌+◌, ◌-◌, ◌≤◌}
use native.Mathlib.Omega.{arith}
use mathlib.Core.Path.{◌≡◌, refl, sym, ap, ◌∙◌}
use mathlib.Core.List.{List, [], ◌++◌, append-nil, append_assoc}
use lib.ListN.{length, take, drop, length-drop, drop_of_length-le}
use lib.Seq.{drop-drop}
use Rattle.values.specs.definitions.Bytes.{overwritten}
use Rattle.values.specs.inner_contracts.Puts.{Put}
use Rattle.values.proofs.laws.ByteLaws.{overwritten_parts}
use Rattle.cycles.proofs.laws.PlaneTestLaws.{behind, behind_all}

-- the memory with another part from k on, as code gives it back
abbrev pub with_behind : ℕ → List ℕ → List ℕ → List ℕ
with_behind k l part = take k l ++ (part ++ drop (length l - k) (drop k l))

module _ (k : ℕ) (l : List ℕ) where
  pub given_back : (part : List ℕ) → with_behind k l part ≡ take k l ++ part
  given_back part =
      let n = length-drop k l in
      let long : length (drop k l) ≤ length l - k = omega arith in
      let none : drop (length l - k) (drop k l) ≡ [] = drop_of_length-le (drop k l) long in
      rw (none, append-nil part)

  -- bytes put at the front of the part are put from k on
  pub put_behind : (bytes : List ℕ) {part : List ℕ} → k + length bytes ≤ length l → part ≡ overwritten (behind k l) 0 bytes
      → Put bytes l k (with_behind k l part) (k + length bytes)
  put_behind bytes {part} h e =
      let n = length-drop k l in
      let z : 0 + length bytes ≡ length bytes = omega arith in
      let front : overwritten (drop k l) 0 bytes ≡ bytes ++ drop (length bytes) (drop k l) =
      overwritten_parts (drop k l) 0 bytes (omega arith) ∙ ap (λ (j : ℕ). bytes ++ drop j (drop k l)) z in
      record {
        end = refl;
        is =
            given_back part
            ∙ ap (λ (x : List ℕ). take k l ++ x)
            (e ∙ ap (λ (x : List ℕ). overwritten x 0 bytes) (behind_all k l) ∙ front ∙ ap (λ (x : List ℕ). bytes ++ x) (drop-drop (length bytes) k l))
            ∙ sym (append_assoc (take k l) bytes (drop (k + length bytes) l))
            ∙ sym (overwritten_parts l k bytes h);
      }
