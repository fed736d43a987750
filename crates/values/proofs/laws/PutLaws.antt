-- Runs of bytes put over memory one after another.
use Prim.Native.Nat.{ℕ, ◌+◌, ◌≤◌}
use native.Mathlib.Nat.{add-zero}
use native.Mathlib.Omega.{arith}
use mathlib.Core.Path.{◌≡◌, refl, sym, ap, ap₂, ◌∙◌, subst}
use mathlib.Core.List.{List, [], ◌∷◌, ◌++◌}
use lib.ListN.{length, set, replicate, length-append, length-replicate}
use borrow.Rule.Slice.PartMut.{put_mid}
use Rattle.values.specs.definitions.Bytes.{overwritten}
use Rattle.values.specs.inner_contracts.Puts.{Put}
use Rattle.values.proofs.laws.ByteLaws.{part_overwritten, overwritten_append, length_overwritten}

pub put_none : (l : List ℕ) (at : ℕ) → Put [] l at l at
put_none l at = record { end = sym (add-zero at); is = refl }

-- a part of a slice filled with one byte, as `fill` leaves it
pub put_filled : (l : List ℕ) (at n b : ℕ) (new : List ℕ) (k : ℕ) → at + n ≤ length l → k ≡ n → new ≡ replicate k b
    → Put (replicate n b) l at (put_mid at k l new) (at + n)
put_filled l at n b new k h e f = record {
  end = rw (length-replicate {A = ℕ} n b);
  is = part_overwritten l at (replicate n b) new k (rw (length-replicate {A = ℕ} n b) h) (rw (length-replicate {A = ℕ} n b) e) (rw e at f);
}

-- one byte
pub put_byte : (l : List ℕ) (at b : ℕ) → Put (b ∷ []) l at (set l at b) (at + 1)
put_byte l at b = record { end = refl; is = refl }

module _ {xs a b : List ℕ} {at q : ℕ} (p : Put xs a at b q) where
  pub put_length : length b ≡ length a
  put_length = ap length p.is ∙ length_overwritten a at xs

  pub put_next : {ys c : List ℕ} {r : ℕ} → Put ys b q c r → Put (xs ++ ys) a at c r
  put_next {ys} {c} {r} s = record {
    end =
        let e = p.end in
        let f = s.end in
        rw (length-append xs ys) (omega arith);
    is = s.is ∙ ap₂ (λ (l : List ℕ) (k : ℕ). overwritten l k ys) p.is p.end ∙ sym (overwritten_append a at xs ys);
  }

  pub put_same : {ys : List ℕ} → xs ≡ ys → Put ys a at b q
  put_same e = subst (λ (l : List ℕ). Put l a at b q) e p
