-- Fields by their places: what is split from a place on, from the end of a line to its start.
use Prim.Native.Nat.{ℕ, zero, suc, ◌+◌, ◌-◌, ◌≤◌, ◌<◌}
use native.Mathlib.Numerals.{add-one}
use native.Mathlib.Omega.{arith}
use mathlib.Core.Path.{◌≡◌, refl, sym, ap, ◌∙◌, subst}
use mathlib.Core.Bool.{Bool, true, false, not, cond, ◌&&◌, ◌||◌}
use mathlib.Core.List.{List, [], ◌∷◌, ◌++◌, append-nil, append_assoc}
use lib.Dec.{eqb, ltb}
use lib.ListN.{length, get_or, take, drop, length-take, length-drop, drop_of_length-le}
use lib.Seq.{drop-cons, take-suc, take_all}
use borrow.Author.Tests.{eq-eqb, ne_eqb, eqb-true, eqb-false, ltb-false}
use Rattle.std.specs.Prelude.{Option, Some, None, position}
use Rattle.std.specs.List.{list_any, position_or_len}
use Rattle.std.proofs.lemmas.List.Quantifiers.{position-Some}
use Rattle.std.proofs.lemmas.List.Sums.{fails_before_first}
use Rattle.std.proofs.lemmas.Option.{none-some}
use Rattle.cycles.specs.definitions.Fields.{lengthened, split, fields, is_empty, has_byte}
use Rattle.cycles.specs.inner_contracts.FieldReads.{FieldStart, FieldEnd, none_empty, first_length, first_size}

-- ---- a line from a place on

pub part_to_end : (l : List ℕ) (k : ℕ) → take (length l - k) (drop k l) ≡ drop k l
part_to_end l k = take_all (length l - k) (drop k l) (rw (length-drop k l) (omega arith))

-- ---- a byte more

module _ (c : ℕ) (l : List ℕ) (i : ℕ) where
  pub split_end : length l ≤ i → split c (drop i l) ≡ [] ∷ []
  unfolding split
  split_end h = rw (drop_of_length-le l h)

  module _ (h : i < length l) where
    pub split_mark : get_or l i 0 ≡ c → split c (drop i l) ≡ [] ∷ split c (drop (i + 1) l)
    unfolding split
    split_mark e = rw (drop-cons l i 0 h, eq-eqb (get_or l i 0) c e, add-one i)

    pub split_byte : (get_or l i 0 ≡ c → ⊥) → split c (drop i l) ≡ lengthened (get_or l i 0) (split c (drop (i + 1) l))
    unfolding split
    split_byte e = rw (drop-cons l i 0 h, ne_eqb (get_or l i 0) c e, add-one i)

-- ---- the start of a field

-- no mark stands from i to the end
pub record RunsFrom (mark : ℕ) (l : List ℕ) (end i : ℕ) : Type 0 where
  pub within : i ≤ end
  pub field : (rest : List (List ℕ)) → split mark (drop end l) ≡ [] ∷ rest → split mark (drop i l) ≡ take (end - i) (drop i l) ∷ rest

module _ (mark : ℕ) (l : List ℕ) (end : ℕ) where
  pub runs_none : RunsFrom mark l end end
  runs_none = record {
    within = omega arith;
    field = λ rest e. let n : end - end ≡ 0 = omega arith in rw n e;
  }

  module _ (i : ℕ) (r : RunsFrom mark l end i) where
    pub runs_more : 0 < i → end ≤ length l → (get_or l (i - 1) 0 ≡ mark → ⊥) → RunsFrom mark l end (i - 1)
    unfolding lengthened
    runs_more p h d =
        let w = r.within in
        let n : i - 1 + 1 ≡ i = omega arith in
        let m : end - (i - 1) ≡ suc (end - i) = omega arith in
        let b : i - 1 < length l = omega arith in
        let s : suc (i - 1) ≡ i = omega arith in
        record {
          within = omega arith;
          field = λ rest e.
              split_byte mark l (i - 1) b d
              ∙ rw (n, r.field rest e, m, drop-cons l (i - 1) 0 b, s);
        }

    pub starts_after_mark : 0 < i → end ≤ length l → get_or l (i - 1) 0 ≡ mark → FieldStart mark l end i
    starts_after_mark p h e =
        let w = r.within in
        let n : i - 1 + 1 ≡ i = omega arith in
        let b : i - 1 < length l = omega arith in
        record {
          within = w;
          field = r.field;
          marked = λ q. rw n at (split_mark mark l (i - 1) b e);
        }

    pub starts_first : i ≤ 0 → FieldStart mark l end 0
    starts_first h =
        let n : i ≡ 0 = omega arith in
        record {
          within = omega arith;
          field = rw n at r.field;
          marked = λ q. absurd (omega arith);
        }

-- ---- the end of the first field

-- no mark stands before i
pub record RunsTo (mark : ℕ) (l : List ℕ) (i : ℕ) : Type 0 where
  pub within : i ≤ length l
  pub field : (x : List ℕ) (rest : List (List ℕ)) → split mark (drop i l) ≡ x ∷ rest → split mark l ≡ (take i l ++ x) ∷ rest

module _ (mark : ℕ) (l : List ℕ) where
  pub runs_to_none : RunsTo mark l 0
  runs_to_none = record { within = omega arith; field = λ x rest e. e }

  module _ (i : ℕ) (r : RunsTo mark l i) where
    module _ (h : i < length l) where
      pub runs_to_more : (get_or l i 0 ≡ mark → ⊥) → RunsTo mark l (i + 1)
      unfolding lengthened
      runs_to_more d = record {
        within = omega arith;
        field = λ x rest e.
            r.field (get_or l i 0 ∷ x) rest (split_byte mark l i h d ∙ ap (lengthened (get_or l i 0)) e)
            ∙ ap (λ (y : List ℕ). y ∷ rest) (sym (ap (λ (y : List ℕ). y ++ x) (ap (λ (k : ℕ). take k l) (add-one i) ∙ take-suc l i 0 h)
            ∙ append_assoc (take i l) (get_or l i 0 ∷ []) x));
      }

      pub ends_before_mark : get_or l i 0 ≡ mark → FieldEnd mark l i
      ends_before_mark e = record {
        within = h;
        marked =
            r.field [] (split mark (drop (i + 1) l)) (split_mark mark l i h e)
            ∙ ap (λ (y : List ℕ). y ∷ split mark (drop (i + 1) l)) (append-nil (take i l));
      }

    ends_line : length l ≤ i → split mark l ≡ l ∷ []
    ends_line h =
        r.field [] [] (split_end mark l i h)
        ∙ ap (λ (y : List ℕ). y ∷ []) (append-nil (take i l) ∙ take_all i l h)

  -- no mark stands before i, by a test of each byte
  runs_up : (i : ℕ) → i ≤ length l → ((k : ℕ) → k < i → eqb (get_or l k 0) mark ≡ false) → RunsTo mark l i
  runs_up zero h e = runs_to_none
  runs_up (suc i) h e =
      let n : i + 1 ≡ suc i = omega arith in
      subst (λ (k : ℕ). RunsTo mark l k) n
      (runs_to_more i (runs_up i (omega arith) (λ k p. e k (omega arith))) (omega arith) (eqb-false (get_or l i 0) mark (e i (omega arith))))

  -- the first mark that is found ends the first field, and where there is none the line is one field
  module _ {o : Option ℕ} (q : o ≡ position (λ b. eqb b mark) l) where
    pub mark_found : {i : ℕ} → o ≡ Some i → FieldEnd mark l i
    mark_found {i} e =
        let (h, here, before) = position-Some (λ (b : ℕ). eqb b mark) l i 0 (sym q ∙ e) in
        ends_before_mark i (runs_up i (omega arith) before) h (eqb-true (get_or l i 0) mark here)

    pub mark_nowhere : o ≡ None → split mark l ≡ l ∷ []
    mark_nowhere e =
        let n : length l ≤ position_or_len (λ b. eqb b mark) l = none_long (ltb (position_or_len (λ b. eqb b mark) l) (length l)) refl (sym q ∙ e) in
        ends_line (length l) (runs_up (length l) (omega arith) (λ k p. fails_before_first (λ (b : ℕ). eqb b mark) l k 0 (omega arith))) (omega arith)
      where
        none_long : (t : Bool) → ltb (position_or_len (λ b. eqb b mark) l) (length l) ≡ t
            → cond t (Some (position_or_len (λ b. eqb b mark) l)) None ≡ None → length l ≤ position_or_len (λ b. eqb b mark) l
        none_long true e g = absurd (none-some (position_or_len (λ b. eqb b mark) l) (sym g))
        none_long false e g = ltb-false (position_or_len (λ b. eqb b mark) l) (length l) e

-- ---- what was read is the end of all

-- the fields after a place are the last of all fields
pub record LastOf (xs rest : List (List ℕ)) : Type 0 where
  pub before : List (List ℕ)
  pub first : List ℕ
  pub all : xs ≡ before ++ first ∷ rest

module _ (c : ℕ) where
  lengthened_last : (b : ℕ) (xs rest : List (List ℕ)) → LastOf xs rest → LastOf (lengthened b xs) rest
  unfolding lengthened
  lengthened_last b xs rest h = go h.before h.all
    where
      go : (ps : List (List ℕ)) → xs ≡ ps ++ h.first ∷ rest → LastOf (lengthened b xs) rest
      go [] e = record { before = []; first = b ∷ h.first; all = rw e }
      go (p ∷ ps) e = record { before = (b ∷ p) ∷ ps; first = h.first; all = rw e }

  pub split_last : (l : List ℕ) (i : ℕ) {x : List ℕ} {rest : List (List ℕ)} → split c (drop i l) ≡ x ∷ rest → LastOf (split c l) rest
  unfolding split
  split_last [] zero {x} e = record { before = []; first = x; all = e }
  split_last [] (suc i) {x} e = record { before = []; first = x; all = e }
  split_last (b ∷ bs) zero {x} e = record { before = []; first = x; all = e }
  split_last (b ∷ bs) (suc i) {x} {rest} e = go (eqb b c) (split_last bs i e)
    where
      go : (t : Bool) → LastOf (split c bs) rest → LastOf (cond t ([] ∷ split c bs) (lengthened b (split c bs))) rest
      go true h = record { before = [] ∷ h.before; first = h.first; all = ap (◌∷◌ []) h.all }
      go false h = lengthened_last b (split c bs) rest h

-- ---- the first of the fields

pub split_first : (c : ℕ) (l : List ℕ) {x : List ℕ} {xs : List (List ℕ)} → split c l ≡ x ∷ xs → take (length x) l ≡ x
unfolding split lengthened
split_first c [] {x} {xs} e = let n : [] ≡ x = cc in rw (← n)
split_first c (b ∷ bs) {x} {xs} e = go (eqb b c) (split c bs) (λ y zs q. split_first c bs q) e
  where
    go : (t : Bool) (ys : List (List ℕ)) → ((y : List ℕ) (zs : List (List ℕ)) → ys ≡ y ∷ zs → take (length y) bs ≡ y)
        → cond t ([] ∷ ys) (lengthened b ys) ≡ x ∷ xs → take (length x) (b ∷ bs) ≡ x
    go true ys k e = let n : [] ≡ x = cc in rw (← n)
    go false [] k e = let n : b ∷ [] ≡ x = cc in rw (← n)
    go false (y ∷ zs) k e = let n : b ∷ y ≡ x = cc in rw (← n) (ap (◌∷◌ b) (k y zs refl))

-- and what stands after it where there are more
pub split_more : (c : ℕ) (l : List ℕ) {x y : List ℕ} {ys : List (List ℕ)} → split c l ≡ x ∷ y ∷ ys → l ≡ x ++ c ∷ drop (suc (length x)) l
unfolding split lengthened
split_more c [] {x} {y} {ys} e = let z : ◌≡◌ {A = ℕ} 0 1 = cc in absurd (omega arith)
split_more c (b ∷ bs) {x} {y} {ys} e = go (eqb b c) refl (split c bs) (λ z q. split_more c bs q) e
  where
    go : (t : Bool) → eqb b c ≡ t → (zs : List (List ℕ)) → ((z : List ℕ) → zs ≡ z ∷ y ∷ ys → bs ≡ z ++ c ∷ drop (suc (length z)) bs)
        → cond t ([] ∷ zs) (lengthened b zs) ≡ x ∷ y ∷ ys → b ∷ bs ≡ x ++ c ∷ drop (suc (length x)) (b ∷ bs)
    go true q zs k e = let n : [] ≡ x = cc in rw (← n) (ap (λ (a : ℕ). a ∷ bs) (eqb-true b c q))
    go false q [] k e = let z : ◌≡◌ {A = ℕ} 0 1 = cc in absurd (omega arith)
    go false q (z ∷ zs) k e =
        let n : b ∷ z ≡ x = cc in
        let m : zs ≡ y ∷ ys = cc in
        rw (← n) (ap (◌∷◌ b) (k z (ap (◌∷◌ z) m)))

-- ---- a byte that occurs

pub contains_has : (b : ℕ) (l : List ℕ) → list_any (λ y. eqb y b) l ≡ has_byte b l
unfolding has_byte
contains_has b [] = refl
contains_has b (x ∷ xs) = go (eqb x b) (contains_has b xs)
  where
    go : (t : Bool) → list_any (λ y. eqb y b) xs ≡ has_byte b xs → (t || list_any (λ y. eqb y b) xs) ≡ cond t true (has_byte b xs)
    go true e = refl
    go false e = e

-- ---- counting fields

-- so many fields from the last on, none of them empty; the next one ends at `end`
pub record FieldsPassed (l : List ℕ) (end passed : ℕ) : Type 0 where
  pub within : passed + end ≤ length l
  pub rest : List (List ℕ)
  pub stands : fields (drop end l) ≡ [] ∷ rest
  pub full : none_empty rest ≡ true
  pub counted : length rest ≡ passed

pub none_passed : (l : List ℕ) → FieldsPassed l (length l) 0
unfolding fields none_empty
none_passed l = record {
  within = omega arith;
  rest = [];
  stands = split_end 32 l (length l) (omega arith);
  full = refl;
  counted = refl;
}

empty_among : (xs ys : List (List ℕ)) → none_empty (xs ++ [] ∷ ys) ≡ false
unfolding none_empty
empty_among [] ys = refl
empty_among (x ∷ xs) ys = go (not (is_empty x)) (empty_among xs ys)
  where
    go : (b : Bool) → none_empty (xs ++ [] ∷ ys) ≡ false → (b && none_empty (xs ++ [] ∷ ys)) ≡ false
    go true h = h
    go false h = refl

module _ {l : List ℕ} {end passed : ℕ} (p : FieldsPassed l end passed) {start : ℕ} (s : FieldStart 32 l end start) where
  abbrev its_field : List ℕ
  its_field = take (end - start) (drop start l)

  its_fields : fields (drop start l) ≡ its_field ∷ p.rest
  unfolding fields
  its_fields = s.field p.rest p.stands

  pub empty_passed : start ≡ end → none_empty (fields l) ≡ false
  unfolding fields none_empty
  empty_passed e = go start refl
    where
      here : split 32 (drop start l) ≡ [] ∷ p.rest
      here = let n : end - start ≡ 0 = omega arith in rw n at its_fields

      go : (k : ℕ) → start ≡ k → none_empty (split 32 l) ≡ false
      go zero z = rw (rw z at here)
      go (suc k) z =
          let h = split_last 32 l (start - 1) (s.marked (omega arith) ∙ ap (◌∷◌ []) here) in
          rw h.all (ap none_empty (more h.before h.first) ∙ empty_among (h.before ++ h.first ∷ []) p.rest)
        where
          more : (xs : List (List ℕ)) (x : List ℕ) → xs ++ x ∷ [] ∷ p.rest ≡ (xs ++ x ∷ []) ++ [] ∷ p.rest
          more [] x = refl
          more (y ∷ ys) x = ap (◌∷◌ y) (more ys x)

  module _ (d : start ≡ end → ⊥) where
    its_length : length its_field ≡ end - start
    its_length =
        let a = p.within in
        let b = s.within in
        rw (length-take (end - start) (drop start l), length-drop start l) (omega arith)

    full_field : (x : List ℕ) → 0 < length x → is_empty x ≡ false
    unfolding is_empty
    full_field [] h = absurd (omega arith)
    full_field (b ∷ x) h = refl

    more_full : none_empty (its_field ∷ p.rest) ≡ true
    unfolding none_empty
    more_full = let b = s.within in rw (full_field its_field (rw its_length (omega arith)), p.full)

    pub first_passed : (count : ℕ) → start ≡ 0 → first_size count (fields l) ≡ cond (eqb passed count) (Some end) None
    unfolding first_size first_length
    first_passed count e =
        let n : length its_field ≡ end = its_length ∙ omega arith in
        let all : fields l ≡ its_field ∷ p.rest = subst (λ (k : ℕ). fields (drop k l) ≡ its_field ∷ p.rest) e its_fields in
        rw (all, more_full, p.counted, n)

    pub next_passed : 0 < start → FieldsPassed l (start - 1) (passed + 1)
    unfolding fields
    next_passed h =
        let a = p.within in
        let b = s.within in
        let c = p.counted in
        record {
          within = omega arith;
          rest = its_field ∷ p.rest;
          stands = s.marked h ∙ ap (◌∷◌ []) its_fields;
          full = more_full;
          counted = omega arith;
        }

pub empty_size : (count : ℕ) (xs : List (List ℕ)) → none_empty xs ≡ false → first_size count xs ≡ None
unfolding first_size
empty_size count xs e = rw e
