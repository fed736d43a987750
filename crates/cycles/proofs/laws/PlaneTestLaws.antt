-- Tests of planes in code: of a cell by the classes of its member's tokens, of all cells in a loop, of a plane's parts and of two planes.
use Prim.Native.Nat.{ℕ, ◌+◌, ◌-◌, ◌*◌, ◌/◌, ◌%◌, ◌≤◌, ◌<◌}
use native.Mathlib.Omega.{arith}
use mathlib.Core.Path.{◌≡◌, refl, sym, ap, ap₂, ◌∙◌}
use mathlib.Core.List.{List}
use mathlib.Core.Bool.{Bool, true, false}
use mathlib.Core.Option.{Option, none, some}
use lib.Dec.{eqb}
use lib.ListN.{length, get_or, take, drop, length-drop}
use lib.Seq.{take_all}
use Rattle.values.specs.declared.Kind.{Kind}
use Rattle.values.specs.declared.Kind.TheVariants.{Wholes, Bools, Reals}
use Rattle.values.specs.definitions.Bytes.{word_at}
use Rattle.text.specs.definitions.Syntax.{Sort, attribute, event, action, Member, File}
use Rattle.checking.specs.inner_contracts.DirectoryReads.{Few}
use Rattle.checking.specs.definitions.Scope.{member_of, is_attribute}
use Rattle.checking.specs.inner_contracts.Directory.{sort_class, kind_class, Bench}
use Rattle.cycles.specs.declared.planes.Plane.{Plane}
use Rattle.cycles.specs.declared.planes.Plane.TheVariants.{Now, Previous}
use Rattle.cycles.specs.definitions.Planes.{
  each,
  entity_count,
  is_unset_cell,
  is_set_cell,
  is_value_cell,
  is_blank_cell,
  store_fits,
  kept_fits,
  cells_fit,
  flags_below,
  cells_of,
  next_plane,
  plane_fits,
  are_stores,
}
use Rattle.cycles.specs.inner_contracts.CellTokens.{NO_TOKEN, TokenOf, no_member, a_member, CellToken}
use Rattle.cycles.specs.inner_contracts.PlaneMemory.{KindTest, fit_of, CellTest, CellsTest, bound_of, PlaneTest, StoresTest}
use Rattle.cycles.proofs.laws.TableLaws.{each_fails, each_goes_on, each_ends}
use Rattle.cycles.proofs.laws.CellFits.{kept_attribute, kept_event, kept_action}

-- ---- a kind by its class

kind_one : (j k : Kind) → kind_class j ≡ kind_class k → j ≡ k
unfolding kind_class
kind_one Wholes Wholes e = refl
kind_one Wholes Bools e = absurd (omega arith)
kind_one Wholes Reals e = absurd (omega arith)
kind_one Bools Wholes e = absurd (omega arith)
kind_one Bools Bools e = refl
kind_one Bools Reals e = absurd (omega arith)
kind_one Reals Wholes e = absurd (omega arith)
kind_one Reals Bools e = absurd (omega arith)
kind_one Reals Reals e = refl

module _ (test : Kind → ℕ → ℕ → Bool) {class t w : ℕ} {r : Bool} where
  pub kind_tested : (j : Kind) → class ≡ kind_class j → r ≡ test j t w → KindTest test class t w r
  kind_tested j c e = record { is = λ k q. e ∙ ap (λ (i : Kind). test i t w) (kind_one j k (sym c ∙ q)) }

  -- no whole and no bool
  pub kind_left : (class ≡ 21 → ⊥) → (class ≡ 22 → ⊥) → r ≡ test Reals t w → KindTest test class t w r
  unfolding kind_class
  kind_left a b e = record { is = go }
    where
      go : (k : Kind) → class ≡ kind_class k → r ≡ test k t w
      go Wholes q = absurd (a q)
      go Bools q = absurd (b q)
      go Reals q = e

module _ {class t w : ℕ} where
  pub value_unset : is_unset_cell t w ≡ true → KindTest is_value_cell class t w true
  unfolding is_value_cell
  value_unset e = record { is = λ k q. rw e }

  pub value_set : {r : Bool} → is_unset_cell t w ≡ false → KindTest is_set_cell class t w r → KindTest is_value_cell class t w r
  unfolding is_value_cell
  value_set e h = record { is = λ k q. rw e (h.is k q) }

-- ---- a cell by its member's tokens

module _ {fit : Option Member → ℕ → ℕ → Bool} {classes : List ℕ} {at t w : ℕ} {r : Bool} where
  pub no_token_tested : NO_TOKEN ≤ at → r ≡ fit none t w → CellTest fit classes at t w r
  no_token_tested h e = record { is = λ text offsets lengths o. go text offsets lengths }
    where
      go : (text offsets lengths : List ℕ) {o : Option Member} → TokenOf text classes offsets lengths at o → r ≡ fit o t w
      go text offsets lengths (no_member q) = e
      go text offsets lengths (a_member m) = absurd (omega (arith, m.within))

  pub token_tested : at < NO_TOKEN → {sort kind : ℕ} → sort ≡ get_or classes at 0 → kind ≡ get_or classes (at + 3) 0
      → ((x : Member) → sort ≡ sort_class x.sort → kind ≡ kind_class x.kind → r ≡ fit (some x) t w)
      → CellTest fit classes at t w r
  token_tested h {sort} {kind} s k e = record { is = λ text offsets lengths o. go text offsets lengths }
    where
      go : (text offsets lengths : List ℕ) {o : Option Member} → TokenOf text classes offsets lengths at o → r ≡ fit o t w
      go text offsets lengths (no_member q) = absurd (omega arith)
      go text offsets lengths (a_member {x} m) = e x (s ∙ m.sort) (k ∙ m.kind)

attribute_class : (q : Sort) → sort_class q ≡ 4 → is_attribute q ≡ true
unfolding sort_class is_attribute
attribute_class attribute e = refl
attribute_class event e = absurd (omega arith)
attribute_class action e = absurd (omega arith)

other_class : (q : Sort) → (sort_class q ≡ 4 → ⊥) → is_attribute q ≡ false
unfolding sort_class is_attribute
other_class attribute e = absurd (e refl)
other_class event e = refl
other_class action e = refl

module _ {sort kind t w : ℕ} {r : Bool} where
  pub store_any : {must_be_set : Bool} → must_be_set ≡ false → KindTest is_value_cell kind t w r
      → (x : Member) → sort ≡ sort_class x.sort → kind ≡ kind_class x.kind → r ≡ store_fits must_be_set (some x) t w
  unfolding store_fits
  store_any e h x s k = rw e (h.is x.kind k)

  pub store_attribute : {must_be_set : Bool} → must_be_set ≡ true → sort ≡ 4 → KindTest is_set_cell kind t w r
      → (x : Member) → sort ≡ sort_class x.sort → kind ≡ kind_class x.kind → r ≡ store_fits must_be_set (some x) t w
  unfolding store_fits
  store_attribute e c h x s k = rw (e, attribute_class x.sort (sym s ∙ c)) (h.is x.kind k)

  pub store_other : {must_be_set : Bool} → must_be_set ≡ true → (sort ≡ 4 → ⊥) → KindTest is_value_cell kind t w r
      → (x : Member) → sort ≡ sort_class x.sort → kind ≡ kind_class x.kind → r ≡ store_fits must_be_set (some x) t w
  unfolding store_fits
  store_other e c h x s k = rw (e, other_class x.sort (λ q. c (s ∙ q))) (h.is x.kind k)

  pub kept_by_action : sort ≡ 6 → KindTest is_value_cell kind t w r
      → (x : Member) → sort ≡ sort_class x.sort → kind ≡ kind_class x.kind → r ≡ kept_fits (some x) t w
  unfolding sort_class
  kept_by_action c h x s k = go x.sort refl
    where
      go : (q : Sort) → x.sort ≡ q → r ≡ kept_fits (some x) t w
      go attribute e = let z : sort ≡ 4 = s ∙ ap sort_class e in absurd (omega arith)
      go event e = let z : sort ≡ 5 = s ∙ ap sort_class e in absurd (omega arith)
      go action e = h.is x.kind k ∙ sym (kept_action x t w e)

  pub kept_by_event : is_blank_cell t w ≡ false → sort ≡ 5 → KindTest is_value_cell kind t w r
      → (x : Member) → sort ≡ sort_class x.sort → kind ≡ kind_class x.kind → r ≡ kept_fits (some x) t w
  unfolding sort_class
  kept_by_event b c h x s k = go x.sort refl
    where
      go : (q : Sort) → x.sort ≡ q → r ≡ kept_fits (some x) t w
      go attribute e = let z : sort ≡ 4 = s ∙ ap sort_class e in absurd (omega arith)
      go event e = rw (kept_event x t w e, b) (h.is x.kind k)
      go action e = let z : sort ≡ 6 = s ∙ ap sort_class e in absurd (omega arith)

-- a member that is no action
module _ (t w : ℕ) {sort : ℕ} (no_action : sort ≡ 6 → ⊥) (x : Member) (s : sort ≡ sort_class x.sort) where
  pub kept_blank : is_blank_cell t w ≡ true → true ≡ kept_fits (some x) t w
  unfolding sort_class
  kept_blank b = go x.sort refl
    where
      go : (q : Sort) → x.sort ≡ q → true ≡ kept_fits (some x) t w
      go attribute e = rw (kept_attribute x t w e, b)
      go event e = rw (kept_event x t w e, b)
      go action e = absurd (no_action (s ∙ ap sort_class e))

  pub kept_none : is_blank_cell t w ≡ false → (sort ≡ 5 → ⊥) → false ≡ kept_fits (some x) t w
  unfolding sort_class
  kept_none b c = go x.sort refl
    where
      go : (q : Sort) → x.sort ≡ q → false ≡ kept_fits (some x) t w
      go attribute e = rw (kept_attribute x t w e, b)
      go event e = absurd (c (s ∙ ap sort_class e))
      go action e = absurd (no_action (s ∙ ap sort_class e))

-- ---- every cell of a plane

-- the test of cell number i
abbrev pub test_at : (Bool → Option Member → ℕ → ℕ → Bool) → File → List ℕ → List ℕ → ℕ → Bool
test_at fit f flags cells i = fit (eqb (get_or flags (i / 12) 0) 1) (member_of f (i / 12) (i % 12)) (get_or cells (i * 9) 0) (word_at 8 cells (i * 9 + 1))

-- the first i cells pass
pub record CellsPassed (plane : Plane) (classes d flags cells : List ℕ) (i : ℕ) : Type 0 where
  pub is : (text offsets lengths : List ℕ) (w : Bench text classes offsets lengths d) → Few w.file
      → each (test_at (fit_of plane) w.file flags cells) i (12 * entity_count w.file - i) ≡ cells_fit (fit_of plane) w.file flags cells

module _ {plane : Plane} {classes d flags cells : List ℕ} where
  pub cells_begin : CellsPassed plane classes d flags cells 0
  unfolding cells_fit
  cells_begin = record {
    is = λ text offsets lengths w c.
        let k : 12 * entity_count w.file - 0 ≡ 12 * entity_count w.file = omega arith in
        ap (each (test_at (fit_of plane) w.file flags cells) 0) k;
  }

  module _ {i : ℕ} (p : CellsPassed plane classes d flags cells i) {n : ℕ} (e : n ≡ get_or d 1 0) where
    pub cells_pass_end : 12 * n ≤ i → CellsTest plane classes d flags cells true
    cells_pass_end h = record {
      is = λ text offsets lengths w c.
          let q = w.directory.entities in
          each_ends (test_at (fit_of plane) w.file flags cells) (12 * entity_count w.file) i (omega arith) ∙ p.is text offsets lengths w c;
    }

    module _ (h : i < 12 * n) {token word : ℕ} (t : CellToken d i token) (o : word ≡ word_at 8 cells (i * 9 + 1))
        {r : Bool} (s : CellTest (fit_of plane (eqb (get_or flags (i / 12) 0) 1)) classes token (get_or cells (i * 9) 0) word r) where
      tested : (text offsets lengths : List ℕ) (w : Bench text classes offsets lengths d) → Few w.file → test_at (fit_of plane) w.file flags cells i ≡ r
      tested text offsets lengths w c =
          let present = eqb (get_or flags (i / 12) 0) 1 in
          sym (s.is text offsets lengths (member_of w.file (i / 12) (i % 12)) (t.is text classes offsets lengths w c)
          ∙ ap (fit_of plane present (member_of w.file (i / 12) (i % 12)) (get_or cells (i * 9) 0)) o)

      pub cells_fail : r ≡ false → CellsTest plane classes d flags cells false
      cells_fail f = record {
        is = λ text offsets lengths w c.
            let q = w.directory.entities in
            each_fails (test_at (fit_of plane) w.file flags cells) (12 * entity_count w.file) i (omega arith) (tested text offsets lengths w c ∙ f)
            ∙ p.is text offsets lengths w c;
      }

      pub cells_go_on : r ≡ true → CellsPassed plane classes d flags cells (i + 1)
      cells_go_on f = record {
        is = λ text offsets lengths w c.
            let q = w.directory.entities in
            each_goes_on (test_at (fit_of plane) w.file flags cells) (12 * entity_count w.file) i (omega arith) (tested text offsets lengths w c ∙ f)
            ∙ p.is text offsets lengths w c;
      }

-- ---- a plane

-- the memory from k on, as code lends it
abbrev pub behind : ℕ → List ℕ → List ℕ
behind k m = take (length m - k) (drop k m)

pub behind_all : (k : ℕ) (m : List ℕ) → behind k m ≡ drop k m
behind_all k m = take_all (length m - k) (drop k m) (rw (length-drop k m) (omega arith))

pub length_behind : (k : ℕ) (m : List ℕ) → length (behind k m) ≡ length m - k
length_behind k m = ap length (behind_all k m) ∙ length-drop k m

-- the flags of as many entities as the directory says
flags_tested : (plane : Plane) (m : List ℕ) {n bound : ℕ} → bound ≡ bound_of plane → {r : Bool} → r ≡ flags_below bound n m → (f : File)
    → n ≡ entity_count f → flags_below (bound_of plane) (entity_count f) m ≡ r
flags_tested plane m b h f q = ap₂ (λ (j k : ℕ). flags_below j k m) (sym b) (sym q) ∙ sym h

module _ (plane : Plane) {classes d m : List ℕ} {n bound : ℕ} (e : n ≡ get_or d 1 0) (b : bound ≡ bound_of plane) {r : Bool}
    (h : r ≡ flags_below bound n m) where
  pub plane_flags_fail : r ≡ false → PlaneTest plane classes d m false
  unfolding plane_fits
  plane_flags_fail t = record { is = λ text offsets lengths w c. rw (flags_tested plane m b h w.file (e ∙ w.directory.entities), t) }

  pub plane_cells_say : r ≡ true → {x : Bool} → CellsTest plane classes d m (behind n m) x → PlaneTest plane classes d m x
  unfolding plane_fits
  plane_cells_say t {x} s = record {
    is = λ text offsets lengths w c.
        let f = w.file in
        let q : n ≡ entity_count f = e ∙ w.directory.entities in
        let k : behind n m ≡ cells_of (entity_count f) m = behind_all n m ∙ ap (λ (j : ℕ). drop j m) q in
        rw (flags_tested plane m b h f q, t) (s.is text offsets lengths w c ∙ ap (cells_fit (fit_of plane) f m) k);
  }

-- ---- two stores

-- more entities than a bench has
pub stores_impossible : {classes d m : List ℕ} {r : Bool} {n : ℕ} → n ≡ get_or d 1 0 → 32 < n → StoresTest classes d m r
stores_impossible e l = record { is = λ text offsets lengths w c. let q = w.directory.entities in absurd (omega (arith, c.entities)) }

module _ {classes d m : List ℕ} {u : Bool} (now : PlaneTest Now classes d m u) where
  now_tested : (text offsets lengths : List ℕ) (w : Bench text classes offsets lengths d) → Few w.file
      → u ≡ plane_fits 2 (λ present. store_fits true) w.file m
  unfolding bound_of fit_of
  now_tested text offsets lengths w c = now.is text offsets lengths w c

  pub now_fails : u ≡ false → StoresTest classes d m false
  unfolding are_stores
  now_fails t = record { is = λ text offsets lengths w c. rw (← now_tested text offsets lengths w c, t) }

  pub previous_says : u ≡ true → {n : ℕ} → n ≡ get_or d 1 0 → {r : Bool} → PlaneTest Previous classes d (behind (109 * n) m) r → StoresTest classes d m r
  unfolding are_stores bound_of fit_of
  previous_says t {n} e s = record {
    is = λ text offsets lengths w c.
        let f = w.file in
        let k : behind (109 * n) m ≡ next_plane (entity_count f) m =
        behind_all (109 * n) m ∙ ap (λ (j : ℕ). drop (109 * j) m) (e ∙ w.directory.entities) in
        rw (← now_tested text offsets lengths w c, t)
        (s.is text offsets lengths w c ∙ ap (plane_fits 2 (λ present. store_fits present) f) k);
  }

-- ---- what a function's goals need together

pub ruleset store_tests = (token_tested, store_any, store_attribute, store_other)

pub ruleset kept_tests = (token_tested, kept_by_action, kept_by_event, kept_blank, kept_none)

pub ruleset cells_tests = (cells_begin, cells_pass_end, cells_fail, cells_go_on)

pub ruleset stores_tests = (length_behind, stores_impossible, now_fails, previous_says)
