-- Names that stand among those before them, by the rows of a directory's items.
use Prim.Native.Nat.{ℕ, zero, suc, ◌+◌, ◌≤◌, ◌<◌}
use native.Mathlib.Numerals.{add-one}
use native.Mathlib.Omega.{arith}
use mathlib.Core.Path.{◌≡◌, refl, sym, ap, ◌∙◌, subst}
use mathlib.Core.Bool.{not}
use mathlib.Core.List.{List, [], ◌∷◌, ◌++◌, map}
use mathlib.Core.Option.{Option, none, some}
use Rattle.std.specs.Prelude as code
use Rattle.std.specs.Prelude.{Bool, Some, None, IfSome, unwrap_or, is_none}
use lib.ListN.{length, length-map, get_or, get_elem?, take, drop, drop_of_length-le}
use lib.Seq.{length-take-le}
use Rattle.text.specs.definitions.Syntax.{Name}
use Rattle.text.proofs.laws.ListLaws.{none_some, some_injective}
use Rattle.text.proofs.laws.SpotLaws.{stands_drop}
use Rattle.checking.specs.definitions.Faults.{Fault, fault_unless, earliest}
use Rattle.checking.specs.inner_contracts.FoundFaults.{Found, found_as, merged}
use Rattle.checking.specs.definitions.Scope.{Indexed as Numbered, look_up, is_found}
use Rattle.checking.specs.definitions.NameFaults.{repeated_faults, again_faults}
use Rattle.checking.specs.inner_contracts.Directory.{name_in, Named, Bench, number_or}
use Rattle.checking.specs.inner_contracts.DirectoryReads.{FirstNamed}
use Rattle.checking.specs.inner_contracts.DeclarationWalk.{RepeatedRows}
use Rattle.checking.proofs.laws.LookUpLaws.{found_at}
use Rattle.checking.proofs.laws.DirectoryLaws.{number_below, number_inside, column_bytes, column_offset}
use Rattle.checking.proofs.laws.CalledLaws.{first_named}
use Rattle.checking.proofs.laws.WalkedFaults.{unless_same, Left, left_all, left_next, left_none}

-- ---- the first items of a list

module _ {A : Type 0} where
  take_one_more : (xs : List A) (k : ℕ) {x : A} → get_elem? xs k ≡ some x → take (suc k) xs ≡ take k xs ++ x ∷ []
  take_one_more [] k h = absurd (none_some h)
  take_one_more (y ∷ ys) zero h = ap (λ z. z ∷ []) (some_injective h)
  take_one_more (y ∷ ys) (suc k) h = ap (λ l. y ∷ l) (take_one_more ys k h)

  taken_number : (xs : List A) (k j : ℕ) {x : A} → get_elem? (take k xs) j ≡ some x → get_elem? xs j ≡ some x
  taken_number [] zero j h = absurd (none_some h)
  taken_number [] (suc k) j h = absurd (none_some h)
  taken_number (y ∷ ys) zero j h = absurd (none_some h)
  taken_number (y ∷ ys) (suc k) zero h = h
  taken_number (y ∷ ys) (suc k) (suc j) h = taken_number ys k j h

  -- found, or the number for none
  number_tells : (most : ℕ) (o : Option (Numbered A)) → ((r : Numbered A) → o ≡ some r → r.number < most) → (q : code.Option ℕ) → IfSome q (λ k. k < most)
      → unwrap_or q most ≡ number_or most o → is_none q ≡ not (is_found o)
  unfolding number_or is_found
  number_tells most none h None b e = refl
  number_tells most none h (Some k) b e = absurd (omega arith)
  number_tells most (some r) h None b e = let l = h r refl in absurd (omega arith)
  number_tells most (some r) h (Some k) b e = refl

-- ---- the names of rows, one after another

-- what is found among the first k of them
pub record Repeating (text offsets lengths d : List ℕ) (base count : ℕ) (found : Option Fault) (k : ℕ) : Type 0 where
  pub left : (classes : List ℕ) (w : Bench text classes offsets lengths d) (ns : List Name)
      → ((j : ℕ) (n : Name) → get_elem? ns j ≡ some n → Named w.tokens (get_or d (base + j) 0 + 1) n) → count ≡ length ns
      → Left found (repeated_faults (take k ns) (drop k ns)) (again_faults ns)

module _ {text offsets lengths d : List ℕ} {base count : ℕ} where
  pub repeating_none : {found : Option Fault} → found ≡ none → Repeating text offsets lengths d base count found 0
  unfolding again_faults
  repeating_none e = record { left = λ classes w ns rows size. left_all (again_faults ns) e }

  module _ {k : ℕ} where
    pub repeating_all : {r : Found} → Repeating text offsets lengths d base count (found_as r) k → count ≤ k
        → RepeatedRows text offsets lengths d base count r
    unfolding repeated_faults
    repeating_all p h = record {
      is = λ classes w ns rows size.
          let l : length ns ≤ k = omega arith in
          left_none (p.left classes w ns rows size) (ap (repeated_faults (take k ns)) (drop_of_length-le ns l));
    }

    module _ {found one both : Option Fault} (p : Repeating text offsets lengths d base count found k) (m : k < count)
        {at offset : ℕ} (e : at ≡ get_or d (base + k) 0) {called : List ℕ} (q : called ≡ name_in text offsets lengths (at + 1)) {first : code.Option ℕ}
        (f : FirstNamed text offsets lengths d base k called first) (o : offset ≡ get_or offsets (at + 1) 0) {none_before : Bool} (z : none_before ≡ is_none first)
        (u : one ≡ earliest (fault_unless none_before 15 offset)) (v : both ≡ merged found one) where
      module _ {classes : List ℕ} (w : Bench text classes offsets lengths d) (ns : List Name)
          (rows : (j : ℕ) (n : Name) → get_elem? ns j ≡ some n → Named w.tokens (get_or d (base + j) 0 + 1) n)
          (n : Name) (s : get_elem? ns k ≡ some n) where
        here : Named w.tokens (at + 1) n
        here = rw e (rows k n s)

        is_new : none_before ≡ not (is_found (look_up (λ m. m) n.bytes (take k ns)))
        is_new =
            let inside : k < length ns = number_below ns k s in
            let size : length (take k ns) ≡ k = length-take-le k ns (omega arith) in
            let number : unwrap_or first k ≡ number_or k (look_up (λ m. m) n.bytes (take k ns)) =
            rw (← column_bytes w.columns here, ← q)
            (first_named w.columns (λ m. m) (take k ns) d base called (λ j x t. rows j x (taken_number ns k j t)) k f (sym size)) in
            z
            ∙ number_tells k (look_up (λ m. m) n.bytes (take k ns))
            (λ r t. let b = number_below (take k ns) r.number (found_at (λ m. m) n.bytes (take k ns) t) in omega arith) first f.below number

        next : Left found (repeated_faults (take k ns) (drop k ns)) (again_faults ns)
            → Left both (repeated_faults (take (k + 1) ns) (drop (k + 1) ns)) (again_faults ns)
        unfolding repeated_faults
        next left =
            rw (add-one k, take_one_more ns k s)
            (left_next (fault_unless (not (is_found (look_up (λ m. m) n.bytes (take k ns)))) 15 n.at)
            (rw (stands_drop ns k s) at left)
            (u ∙ unless_same 15 is_new (o ∙ column_offset w.columns here))
            v)

      pub repeating_on : Repeating text offsets lengths d base count both (k + 1)
      repeating_on = record {
        left = λ classes w ns rows size.
            let (n, s) = number_inside ns k (omega arith) in
            next w ns rows n s (p.left classes w ns rows size);
      }

-- ---- the names of items

mapped_number : {A B : Type 0} (f : A → B) (xs : List A) (k : ℕ) {y : B} → get_elem? (map f xs) k ≡ some y → (x : A) × (get_elem? xs k ≡ some x) × (f x ≡ y)
mapped_number f [] k h = absurd (none_some h)
mapped_number f (x ∷ xs) zero h = (x, refl, some_injective h)
mapped_number f (x ∷ xs) (suc k) h = mapped_number f xs k h

module _ {text classes offsets lengths d : List ℕ} (w : Bench text classes offsets lengths d) {A : Type 0} (name : A → Name) (xs : List A) (base : ℕ) where
  pub repeated_items : {count : ℕ} {r : Found} → RepeatedRows text offsets lengths d base count r
      → ((k : ℕ) (x : A) → get_elem? xs k ≡ some x → Named w.tokens (get_or d (base + k) 0 + 1) (name x)) → count ≡ length xs
      → found_as r ≡ earliest (again_faults (map name xs))
  repeated_items h rows size = h.is classes w (map name xs) named (size ∙ sym (length-map xs name))
    where
      named : (k : ℕ) (n : Name) → get_elem? (map name xs) k ≡ some n → Named w.tokens (get_or d (base + k) 0 + 1) n
      named k n s = let (x, t, e) = mapped_number name xs k s in subst (Named w.tokens (get_or d (base + k) 0 + 1)) e (rows k x t)
