-- The earliest fault, found part by part: what is found so far and what is left come to the whole.
use Prim.Native.Nat.{ℕ, ◌+◌, ◌≤◌, ◌<◌}
use native.Mathlib.Numerals.{add-one}
use mathlib.Core.Path.{◌≡◌, sym, ap, ap₂, ◌∙◌, subst}
use mathlib.Core.Bool.{Bool}
use mathlib.Core.List.{List, [], ◌++◌, flat_map}
use mathlib.Core.Option.{Option, none, some}
use lib.ListN.{length, get_elem?, drop, drop_of_length-le}
use Rattle.text.proofs.laws.SpotLaws.{stands_drop}
use Rattle.checking.specs.definitions.Faults.{Fault, fault_unless, earliest}
use Rattle.checking.specs.inner_contracts.FoundFaults.{merged}
use Rattle.checking.proofs.laws.FaultLaws.{merged_none_left, merged_none_right, merged_assoc, earliest_append}
use Rattle.checking.proofs.laws.DirectoryLaws.{number_inside}

-- one test by what it is equal to
pub unless_same : {passed passes : Bool} {at offset : ℕ} (code : ℕ) → passed ≡ passes → at ≡ offset
    → earliest (fault_unless passed code at) ≡ earliest (fault_unless passes code offset)
unless_same code e f = ap₂ (λ (b : Bool) (p : ℕ). earliest (fault_unless b code p)) e f

-- what is found so far, with what is left
pub record Left (found : Option Fault) (rest whole : List Fault) : Type 0 where
  pub same : merged found (earliest rest) ≡ earliest whole

-- nothing is found yet
pub left_all : {found : Option Fault} (whole : List Fault) → found ≡ none → Left found whole whole
left_all whole e = record { same = ap (λ (o : Option Fault). merged o (earliest whole)) e ∙ merged_none_left (earliest whole) }

-- the first of two parts is found
pub left_second : {found : Option Fault} (first second : List Fault) → found ≡ earliest first → Left found second (first ++ second)
left_second first second e = record {
  same = ap (λ (o : Option Fault). merged o (earliest second)) e ∙ sym (earliest_append first second);
}

module _ {found : Option Fault} {whole : List Fault} where
  -- one part more
  pub left_next : {one both : Option Fault} (part : List Fault) {rest : List Fault} → Left found (part ++ rest) whole → one ≡ earliest part
      → both ≡ merged found one → Left both rest whole
  left_next {one} {both} part {rest} l e f = record {
    same =
        ap (λ (o : Option Fault). merged o (earliest rest)) (f ∙ ap (merged found) e)
        ∙ merged_assoc found (earliest part) (earliest rest)
        ∙ ap (merged found) (sym (earliest_append part rest))
        ∙ l.same;
  }

  pub left_none : {rest : List Fault} → Left found rest whole → rest ≡ [] → found ≡ earliest whole
  unfolding earliest
  left_none l e = sym (merged_none_right found) ∙ ap (λ (fs : List Fault). merged found (earliest fs)) (sym e) ∙ l.same

  -- the items of a list by their numbers
  module _ {A : Type 0} (faults : A → List Fault) (xs : List A) {k : ℕ} (l : Left found (flat_map faults (drop k xs)) whole) where
    pub left_item : {one both : Option Fault} → k < length xs → ((x : A) → get_elem? xs k ≡ some x → one ≡ earliest (faults x)) → both ≡ merged found one
        → Left both (flat_map faults (drop (k + 1) xs)) whole
    unfolding flat_map
    left_item {one} {both} h e f = go (number_inside xs k h)
      where
        go : (x : A) × (get_elem? xs k ≡ some x) → Left both (flat_map faults (drop (k + 1) xs)) whole
        go (x, s) =
            rw (add-one k)
            (left_next (faults x) (subst (λ (ys : List A). Left found (flat_map faults ys) whole) (stands_drop xs k s) l) (e x s) f)

    pub left_end : length xs ≤ k → found ≡ earliest whole
    unfolding flat_map
    left_end h = left_none l (ap (flat_map faults) (drop_of_length-le xs h))

-- the items of every world: what is found among the first k, and what is left
module _ {W A : Type 0} (items : W → List A) (faults : W → A → List Fault) (whole : W → List Fault) where
  pub record ItemsLeft (found : Option Fault) (k : ℕ) : Type 0 where
    pub left : (w : W) → Left found (flat_map (faults w) (drop k (items w))) (whole w)

  module _ {found : Option Fault} {k : ℕ} (l : ItemsLeft found k) where
    pub items_next : {one both : Option Fault} → ((w : W) → k < length (items w))
        → ((w : W) (x : A) → get_elem? (items w) k ≡ some x → one ≡ earliest (faults w x)) → both ≡ merged found one → ItemsLeft both (k + 1)
    items_next h e f = record { left = λ w. left_item (faults w) (items w) (l.left w) (h w) (e w) f }

    pub items_end : ((w : W) → length (items w) ≤ k) → (w : W) → found ≡ earliest (whole w)
    items_end h w = left_end (faults w) (items w) (l.left w) (h w)
