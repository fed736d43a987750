-- The search among the directory's items: the first that is called by some bytes is the first item of that name of the file.
use Prim.Native.Nat.{ℕ, ◌+◌, ◌-◌, ◌*◌, ◌≤◌, ◌<◌}
use native.Mathlib.Omega.{arith}
use mathlib.Core.Path.{◌≡◌, refl, sym, ap, ◌∙◌, subst}
use mathlib.Core.Bool.{Bool, true, false, not, true≢false}
use mathlib.Core.List.{List}
use mathlib.Core.Option.{Option, none, some}
use Rattle.std.specs.Prelude as code
use Rattle.std.specs.Prelude.{Some, None, IfSome, unwrap_or, is_some, is_none, min}
use lib.ListN.{length, get_or, get_elem?, drop}
use Rattle.std.proofs.Common.{get_or-drop}
use Rattle.values.specs.definitions.Bytes.{same_bytes}
use Rattle.text.specs.definitions.Tokens.{Token}
use Rattle.text.specs.definitions.Syntax.{Name, Member, Interface, Entity, File}
use Rattle.checking.specs.definitions.Scope.{Indexed, look_up, item_of, interface_of_entity, interface_of}
use Rattle.checking.specs.inner_contracts.Directory.{
  name_in,
  ColumnsOf,
  Named,
  Bench,
  number_or,
  interface_number,
  entity_number,
  member_number,
  entity_interface_row,
}
use Rattle.checking.specs.inner_contracts.DirectoryReads.{first_number, is_named, FirstNamed, NumberOf, Numbered, FewMembers}
use Rattle.checking.proofs.laws.LookUpLaws.{found_at}
use Rattle.checking.proofs.laws.DirectoryLaws.{
  number_below,
  number_beyond,
  number_inside,
  first_end,
  first_here,
  first_later,
  number_found,
  column_bytes,
}

-- ---- a loop over the items

-- the first k items are not called so
pub record Passed (text offsets lengths d : List ℕ) (base count : ℕ) (called : List ℕ) (k : ℕ) : Type 0 where
  pub same : (other : ℕ) → first_number (is_named text offsets lengths d base called) other k (count - k)
      ≡ first_number (is_named text offsets lengths d base called) other 0 count

module _ {text offsets lengths d : List ℕ} {base count : ℕ} {called : List ℕ} where
  pub passed_none : Passed text offsets lengths d base count called 0
  passed_none = record {
    same = λ other. let all : count - 0 ≡ count = omega arith in ap (first_number (is_named text offsets lengths d base called) other 0) all;
  }

  module _ {k : ℕ} (p : Passed text offsets lengths d base count called k) where
    pub passed_all : count ≤ k → FirstNamed text offsets lengths d base count called None
    passed_all h = record {
      below = tt;
      first = λ other. sym (first_end (is_named text offsets lengths d base called) other k count h) ∙ p.same other;
    }

    module _ (m : k < count) {at : ℕ} (e : at ≡ get_or d (base + k) 0) {its : List ℕ}
        (n : its ≡ name_in text offsets lengths (at + 1)) {b : Bool} (f : b ≡ same_bytes called its) where
      tested : is_named text offsets lengths d base called k ≡ b
      unfolding is_named
      tested = sym (f ∙ ap (same_bytes called) (n ∙ ap (λ (q : ℕ). name_in text offsets lengths (q + 1)) e))

      pub passed_here : b ≡ true → FirstNamed text offsets lengths d base count called (Some k)
      passed_here t = record {
        below = m;
        first = λ other. sym (first_here (is_named text offsets lengths d base called) other k count m (tested ∙ t)) ∙ p.same other;
      }

      pub passed_on : b ≡ false → Passed text offsets lengths d base count called (k + 1)
      passed_on t = record {
        same = λ other. sym (first_later (is_named text offsets lengths d base called) other k count m (tested ∙ t)) ∙ p.same other;
      }

-- ---- the number in the file

-- the first of the directory's items is the first item of the file
module _ {text classes offsets lengths : List ℕ} {ts : List Token} (columns : ColumnsOf text classes offsets lengths ts) {A : Type 0} (name : A → Name)
    (xs : List A) (d : List ℕ) (base : ℕ) (called : List ℕ)
    (rows : (k : ℕ) (x : A) → get_elem? xs k ≡ some x → Named ts (get_or d (base + k) 0 + 1) (name x)) where
  pub first_named : {count : ℕ} {r : code.Option ℕ} (other : ℕ) → FirstNamed text offsets lengths d base count called r → count ≡ length xs
      → unwrap_or r other ≡ number_or other (look_up name called xs)
  unfolding is_named
  first_named {count} other f e =
      f.first other
      ∙ ap (first_number (is_named text offsets lengths d base called) other 0) e
      ∙ number_found name called (is_named text offsets lengths d base called) other xs (λ j x s. ap (same_bytes called) (column_bytes columns (rows j x s)))

below_most : {count most : ℕ} (r : code.Option ℕ) → count ≤ most → IfSome r (λ k. k < count) → IfSome r (λ k. k < most)
below_most None h b = tt
below_most (Some k) h b = omega arith

module _ {text offsets lengths d called : List ℕ} {r : code.Option ℕ} where
  pub interface_numbered : {count : ℕ} → count ≡ min (get_or d 0 0) 16 → FirstNamed text offsets lengths d 3 count called r
      → Numbered text offsets lengths d 16 (λ f. length f.interfaces ≤ 16) (λ f. interface_number f called) r
  unfolding interface_number
  interface_numbered {count} e f = record {
    below = below_most r (omega arith) f.below;
    is = λ classes w few.
        let c = w.directory.interfaces in
        first_named w.columns (λ (x : Interface). x.name) w.file.interfaces d 3 called w.directory.interface_name 16 f (omega arith);
  }

  pub entity_numbered : {count : ℕ} → count ≡ min (get_or d 1 0) 32 → FirstNamed text offsets lengths d 227 count called r
      → Numbered text offsets lengths d 32 (λ f. length f.entities ≤ 32) (λ f. entity_number f called) r
  unfolding entity_number
  entity_numbered {count} e f = record {
    below = below_most r (omega arith) f.below;
    is = λ classes w few.
        let c = w.directory.entities in
        first_named w.columns (λ (x : Entity). x.name) w.file.entities d 227 called w.directory.entity_name 32 f (omega arith);
  }

  module _ (face : ℕ) {interfaces : ℕ} (n : interfaces ≡ get_or d 0 0) where
    pub member_numbered : {count : ℕ} → face < interfaces → count ≡ min (get_or d (19 + face) 0) 12
        → FirstNamed text offsets lengths d (35 + face * 12) count called r
        → Numbered text offsets lengths d 12 (FewMembers face) (λ f. member_number (get_elem? f.interfaces face) called) r
    unfolding member_number
    member_numbered {count} h e f = record { below = below_most r (omega arith) f.below; is = λ classes w few. go w few (inside w) }
      where
        inside : {classes : List ℕ} (w : Bench text classes offsets lengths d) → (x : Interface) × (get_elem? w.file.interfaces face ≡ some x)
        inside w = let c = w.directory.interfaces in number_inside w.file.interfaces face (omega arith)

        go : {classes : List ℕ} (w : Bench text classes offsets lengths d) → FewMembers face w.file
            → (x : Interface) × (get_elem? w.file.interfaces face ≡ some x)
            → unwrap_or r 12 ≡ member_number (get_elem? w.file.interfaces face) called
        go w few (x, s) =
            let c = w.directory.member_count face x s in
            let most = few x s in
            rw s
            (first_named w.columns (λ (m : Member). m.name) x.members d (35 + face * 12) called (λ j m t. w.directory.member_name face j x m s t) 12 f
            (omega arith))

-- no interface has that number
pub no_member_numbered : {text offsets lengths d : List ℕ} (called : List ℕ) (face : ℕ) {interfaces : ℕ} → interfaces ≡ get_or d 0 0 → interfaces ≤ face
    → Numbered text offsets lengths d 12 (FewMembers face) (λ f. member_number (get_elem? f.interfaces face) called) None
unfolding member_number
no_member_numbered called face n h = record {
  below = tt;
  is = λ classes w few.
      let c = w.directory.interfaces in
      let z : get_elem? w.file.interfaces face ≡ none = number_beyond w.file.interfaces face (omega arith) in
      rw z;
}

-- ---- a number that was found, or the number for none

pub some_below : {text offsets lengths d : List ℕ} {most k : ℕ} {within_counts : File → Type 0} {number : File → ℕ} {r : code.Option ℕ}
    → Numbered text offsets lengths d most within_counts number r → r ≡ Some k → k < most
some_below {most = most} n e = subst (λ q. IfSome q (λ k. k < most)) e n.below

-- what `is_none` answers
pub none_is : (o : code.Option ℕ) (b : Bool) → is_some o ≡ not b → b ≡ is_none o
none_is None true e = refl
none_is None false e = absurd (true≢false (sym e))
none_is (Some k) true e = absurd (true≢false e)
none_is (Some k) false e = refl

-- by bytes that are those of a token
module _ {text offsets lengths d : List ℕ} {most : ℕ} {within_counts : File → Type 0} (number : File → List ℕ → ℕ) {its called : List ℕ}
    {r : code.Option ℕ} (e : its ≡ called) (n : Numbered text offsets lengths d most within_counts (λ f. number f its) r) where
  pub or_by : {k : ℕ} → k ≡ unwrap_or r most → NumberOf text offsets lengths d most within_counts (λ f. number f called) k
  or_by {k} u = record { within = within r n.below u; is = λ classes w few. u ∙ n.is classes w few ∙ ap (number w.file) e }
    where
      within : (o : code.Option ℕ) → IfSome o (λ j. j < most) → k ≡ unwrap_or o most → k ≤ most
      within None b v = omega arith
      within (Some j) b v = omega arith

  pub some_by : {k : ℕ} → r ≡ Some k → NumberOf text offsets lengths d most within_counts (λ f. number f called) k
  some_by f = or_by (sym (ap (λ q. unwrap_or q most) f))

  pub none_by : r ≡ None → NumberOf text offsets lengths d most within_counts (λ f. number f called) most
  none_by f = or_by (sym (ap (λ q. unwrap_or q most) f))

-- ---- what a number says

module _ {A : Type 0} (name_of : A → Name) (n : List ℕ) (xs : List A) (most : ℕ) (few : length xs ≤ most) where
  pub none_found : number_or most (look_up name_of n xs) ≡ most → look_up name_of n xs ≡ none
  unfolding number_or
  none_found h = go (look_up name_of n xs) refl h
    where
      go : (o : Option (Indexed A)) → look_up name_of n xs ≡ o → number_or most o ≡ most → o ≡ none
      go none q h = refl
      go (some r) q h = let b = number_below xs r.number (found_at name_of n xs q) in absurd (omega arith)

  pub some_found : (k : ℕ) → k ≡ number_or most (look_up name_of n xs) → (k ≡ most → ⊥) → (r : Indexed A) × (look_up name_of n xs ≡ some r) × (k ≡ r.number)
  unfolding number_or
  some_found k e d = go (look_up name_of n xs) refl e
    where
      go : (o : Option (Indexed A)) → look_up name_of n xs ≡ o → k ≡ number_or most o → (r : Indexed A) × (o ≡ some r) × (k ≡ r.number)
      go none q e = absurd (d e)
      go (some r) q e = (r, refl, e)

-- an entity's interface stands at the number in its row
pub row_interface : {text classes offsets lengths d : List ℕ} (w : Bench text classes offsets lengths d) → length w.file.interfaces ≤ 16
    → (e : ℕ) (x : Entity) → get_elem? w.file.entities e ≡ some x
    → get_elem? w.file.interfaces (get_or d (entity_interface_row e) 0) ≡ interface_of w.file e
unfolding interface_of interface_number
row_interface {d = d} w few e x s =
    ap (get_elem? w.file.interfaces) (w.directory.entity_interface e x s)
    ∙ go (look_up (λ (i : Interface). i.name) x.interface.bytes w.file.interfaces) refl
    ∙ sym (ap (interface_of_entity w.file) s)
  where
    go : (o : Option (Indexed Interface)) → look_up (λ (i : Interface). i.name) x.interface.bytes w.file.interfaces ≡ o
        → get_elem? w.file.interfaces (number_or 16 o) ≡ item_of o
    go none q = number_beyond w.file.interfaces 16 few
    go (some r) q = found_at (λ (i : Interface). i.name) x.interface.bytes w.file.interfaces q

-- a row of the directory, read from the rows after the first ones
pub item_row : (d : List ℕ) (base k : ℕ) {rows : List ℕ} {at : ℕ} → rows ≡ drop base d → at ≡ get_or rows k 0 → at ≡ get_or d (base + k) 0
item_row d base k e a = a ∙ ap (λ l. get_or l k 0) e ∙ get_or-drop base d k 0

-- what the loop over the items needs
pub ruleset items_passed = (passed_none, passed_all, passed_here, passed_on)
