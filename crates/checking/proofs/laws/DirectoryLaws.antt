-- What the columns and the directory say of a file: names by their rows, numbers by names, a member's sort and kind.
use Prim.Native.Nat.{ℕ, zero, suc, ◌+◌, ◌-◌, ◌≤◌, ◌<◌}
use native.Mathlib.Nat.{add-zero}
use native.Mathlib.Omega.{arith}
use mathlib.Core.Path.{◌≡◌, refl, sym, ap, ◌∙◌}
use mathlib.Core.Bool.{Bool, true, false}
use mathlib.Core.List.{List, [], ◌∷◌}
use mathlib.Core.Option.{Option, none, some}
use lib.ListN.{length, get_or, get_elem?, take, drop, length-drop, drop_of_length-le}
use lib.Seq.{take_all, take-nil}
use Rattle.values.specs.definitions.Bytes.{same_bytes}
use Rattle.text.specs.definitions.Tokens.{Token}
use Rattle.values.specs.declared.Kind.{Kind}
use Rattle.text.specs.definitions.Syntax.{Name, Member, Interface}
use Rattle.text.specs.definitions.Grammar.{name_of}
use Rattle.text.proofs.laws.ListLaws.{none_some}
use Rattle.checking.specs.definitions.Scope.{Indexed, here_or_later, look_up}
use Rattle.checking.specs.inner_contracts.Directory.{name_in, ColumnsOf, Named, Bench, sort_class, kind_class, number_or, member_row}
use Rattle.checking.specs.inner_contracts.DirectoryReads.{first_number, MemberRow, MemberPart}

-- ---- items by their numbers

module _ {A : Type 0} where
  pub number_below : (xs : List A) (k : ℕ) {x : A} → get_elem? xs k ≡ some x → k < length xs
  number_below [] k h = absurd (none_some h)
  number_below (y ∷ ys) zero h = omega arith
  number_below (y ∷ ys) (suc k) h = let z : k < length ys = number_below ys k h in omega arith

  pub number_beyond : (xs : List A) (k : ℕ) → length xs ≤ k → get_elem? xs k ≡ none
  number_beyond [] k h = refl
  number_beyond (y ∷ ys) zero h = absurd (omega arith)
  number_beyond (y ∷ ys) (suc k) h = number_beyond ys k (omega arith)

  pub number_inside : (xs : List A) (k : ℕ) → k < length xs → (x : A) × (get_elem? xs k ≡ some x)
  number_inside [] k h = absurd (omega arith)
  number_inside (y ∷ ys) zero h = (y, refl)
  number_inside (y ∷ ys) (suc k) h = number_inside ys k (omega arith)

-- ---- parts of a text

-- so much of it as there is
module _ (l : List ℕ) {offset size start count : ℕ} (p : start ≡ offset) (q : count ≡ size) where
  pub none_there : length l ≤ start → [] ≡ take size (drop offset l)
  none_there h = rw (← p, drop_of_length-le l h) (sym (take-nil size))

  pub short_there : length l - start ≤ count → take (length l - start) (drop start l) ≡ take size (drop offset l)
  short_there h =
      let k : length (drop start l) ≤ length l - start = rw (length-drop start l) (omega arith) in
      let m : length (drop start l) ≤ count = rw (length-drop start l) h in
      rw (← p, ← q) (take_all (length l - start) (drop start l) k ∙ sym (take_all count (drop start l) m))

  pub whole_there : take (start + count - start) (drop start l) ≡ take size (drop offset l)
  whole_there = let k : start + count - start ≡ count = omega arith in rw (k, ← p, ← q)

-- ---- the first number that passes a test

module _ (test : ℕ → Bool) (other k n : ℕ) where
  pub first_end : n ≤ k → first_number test other k (n - k) ≡ other
  unfolding first_number
  first_end h = let e : n - k ≡ 0 = omega arith in rw e

  module _ (h : k < n) where
    left_one : n - k ≡ suc (n - (k + 1))
    left_one = omega arith

    pub first_here : test k ≡ true → first_number test other k (n - k) ≡ k
    unfolding first_number
    first_here t = rw (left_one, t, first_number)

    pub first_later : test k ≡ false → first_number test other k (n - k) ≡ first_number test other (k + 1) (n - (k + 1))
    unfolding first_number
    first_later t = rw (left_one, t, first_number)

-- ---- the first item of a name

module _ {A : Type 0} (name_of : A → Name) (n : List ℕ) (test : ℕ → Bool) (other : ℕ) where
  -- the number of what is found, with those before it
  unfoldable pub after : ℕ → Option (Indexed A) → ℕ
  after k none = other
  after k (some f) = k + f.number

  pub first_found : (k : ℕ) (xs : List A) → ((j : ℕ) (x : A) → get_elem? xs j ≡ some x → test (k + j) ≡ same_bytes n (name_of x).bytes)
      → first_number test other k (length xs) ≡ after k (look_up name_of n xs)
  unfolding first_number look_up here_or_later after
  first_found k [] h = refl
  first_found k (x ∷ xs) h =
      go (same_bytes n (name_of x).bytes) (ap test (sym (add-zero k)) ∙ h 0 x refl) (look_up name_of n xs)
      (first_found (k + 1) xs (λ j y e. ap test (next j) ∙ h (suc j) y e))
    where
      next : (j : ℕ) → k + 1 + j ≡ k + suc j
      next j = omega arith

      go : (b : Bool) → test k ≡ b → (o : Option (Indexed A)) → first_number test other (k + 1) (length xs) ≡ after (k + 1) o
          → first_number test other k (suc (length xs)) ≡ after k (here_or_later b x o)
      go true e o r = rw (e, first_number) (sym (add-zero k))
      go false e none r = rw (e, first_number) r
      go false e (some f) r = rw (e, first_number) (r ∙ next f.number)

  pub number_found : (xs : List A) → ((j : ℕ) (x : A) → get_elem? xs j ≡ some x → test j ≡ same_bytes n (name_of x).bytes)
      → first_number test other 0 (length xs) ≡ number_or other (look_up name_of n xs)
  unfolding number_or after
  number_found xs h = first_found 0 xs (λ j x e. ap test (zero_plus j) ∙ h j x e) ∙ same (look_up name_of n xs)
    where
      zero_plus : (j : ℕ) → 0 + j ≡ j
      zero_plus j = omega arith

      same : (o : Option (Indexed A)) → after 0 o ≡ number_or other o
      same none = refl
      same (some f) = zero_plus f.number

-- ---- tokens that stand in columns

module _ {text classes offsets lengths : List ℕ} {ts : List Token} (columns : ColumnsOf text classes offsets lengths ts) where
  pub column_bytes : {p : ℕ} {n : Name} → Named ts p n → name_in text offsets lengths p ≡ n.bytes
  unfolding name_of
  column_bytes {p} m = sym (columns.bytes p m.token m.stands) ∙ ap (λ (n : Name). n.bytes) m.is

  pub column_offset : {p : ℕ} {n : Name} → Named ts p n → get_or offsets p 0 ≡ n.at
  unfolding name_of
  column_offset {p} m = sym (columns.offset p m.token m.stands) ∙ ap (λ (n : Name). n.at) m.is

-- ---- a file that stands in the columns and the directory

module _ {text classes offsets lengths d : List ℕ} (w : Bench text classes offsets lengths d) where
  pub named_bytes : {p : ℕ} {n : Name} → Named w.tokens p n → name_in text offsets lengths p ≡ n.bytes
  named_bytes m = column_bytes w.columns m

  pub class_stands : (p : ℕ) {c : ℕ} → (t : Token) × (get_elem? w.tokens p ≡ some t) × (t.class ≡ c) → get_or classes p 0 ≡ c
  class_stands p (t, s, e) = sym (w.columns.class p t s) ∙ e

-- ---- what stands at a member

module _ {classes d : List ℕ} {k m at : ℕ} (h : MemberRow d k m at) where
  -- the row, for a member of a file
  row_stands : {text offsets lengths : List ℕ} (w : Bench text classes offsets lengths d) (i : Interface) (x : Member)
      → get_elem? w.file.interfaces k ≡ some i → get_elem? i.members m ≡ some x → at ≡ get_or d (member_row k m) 0
  row_stands w i x s t =
      let a = number_below w.file.interfaces k s in
      let b = number_below i.members m t in
      let p = w.directory.interfaces in
      let q = w.directory.member_count k i s in
      h.is (omega arith) (omega arith)

  pub sort_stands : {r : ℕ} → r ≡ get_or classes at 0 → MemberPart classes d k m (λ x. sort_class x.sort) r
  sort_stands e = record {
    is = λ text offsets lengths w i x s t.
        e ∙ ap (λ (p : ℕ). get_or classes p 0) (row_stands w i x s t) ∙ class_stands w (get_or d (member_row k m) 0) (w.directory.member_sort k m i x s t);
  }

  pub kind_stands : {c : ℕ} {r : Kind} → c ≡ get_or classes (at + 3) 0 → ((j : Kind) → c ≡ kind_class j → r ≡ j) → MemberPart classes d k m (λ x. x.kind) r
  kind_stands e f = record {
    is = λ text offsets lengths w i x s t.
        f x.kind
        (e ∙ ap (λ (p : ℕ). get_or classes (p + 3) 0) (row_stands w i x s t) ∙ class_stands w (get_or d (member_row k m) 0 + 3) (w.directory.member_kind k m i x s t));
  }
