-- The names that a rule declares, found by the classes of its tokens: the first of a name, and those declared again.
use Prim.Native.Nat.{ℕ, zero, suc, ◌+◌, ◌-◌, ◌≤◌, ◌<◌}
use native.Mathlib.Numerals.{add-one}
use native.Mathlib.Omega.{arith}
use mathlib.Core.Path.{◌≡◌, refl, sym, ap, ◌∙◌}
use mathlib.Core.Bool.{Bool, true, false, not, ◌&&◌, false≢true}
use mathlib.Core.List.{List, [], ◌∷◌, ◌++◌, map, map-append, append_assoc}
use mathlib.Core.Option.{Option, none, some}
use lib.Dec.{eqb, ltb}
use lib.ListN.{length, get_or, drop, drop_of_length-le}
use lib.Seq.{drop-cons, get_or-drop}
use borrow.Author.Tests.{eq-eqb, ne_eqb, eqb-true, eqb-false, ltb-true, ltb-false}
use Rattle.values.specs.definitions.Bytes.{same_bytes}
use Rattle.text.specs.definitions.Tokens.{END, COLON}
use Rattle.text.specs.definitions.Syntax.{Name}
use Rattle.text.proofs.laws.WalkLaws.{class_inside}
use Rattle.std.specs.Prelude.{None}
use Rattle.checking.specs.definitions.Faults.{fault_unless, earliest}
use Rattle.checking.specs.inner_contracts.FoundFaults.{Found, found_as, merged}
use Rattle.checking.specs.definitions.Scope.{Indexed as Numbered, here_or_later, look_up, is_found}
use Rattle.checking.specs.definitions.NameFaults.{repeated_faults, again_faults}
use Rattle.checking.specs.inner_contracts.Directory.{name_in}
use Rattle.checking.specs.inner_contracts.RuleParts.{name_row, name_before, declared_names, first_alike, Declaration, RepeatedAt, Repeated}
use Rattle.checking.proofs.laws.FaultLaws.{merged_none_right, merged_assoc, earliest_append}
use Rattle.checking.proofs.laws.LookUpLaws.{same_bytes_refl}

and_true : (x y : Bool) → x && y ≡ true → (x ≡ true) × (y ≡ true)
and_true true true h = (refl, refl)
and_true true false h = absurd (false≢true h)
and_true false y h = absurd (false≢true h)

-- ---- one token more

module _ (classes : List ℕ) (n : ℕ) where
  abbrev pub names_from : List ℕ
  names_from = declared_names n (drop (n + 1) classes)

module _ (classes : List ℕ) (n : ℕ) where
  next_class : n + 1 < length classes → drop (n + 1) classes ≡ get_or classes (n + 1) 0 ∷ drop (n + 1 + 1) classes
  next_class h = rw (add-one (n + 1)) (drop-cons classes (n + 1) 0 h)

  pub names_over : length classes ≤ n + 1 → names_from classes n ≡ []
  unfolding declared_names
  names_over h = rw (drop_of_length-le classes h)

  module _ {class : ℕ} (e : class ≡ get_or classes (n + 1) 0) where
    pub names_end : class ≡ END → names_from classes n ≡ []
    unfolding declared_names name_before
    names_end q =
        let c : get_or classes (n + 1) 0 ≡ END = sym e ∙ q in
        rw (next_class (class_inside classes (n + 1) c (omega arith)), c)

    pub names_colon : class ≡ COLON → names_from classes n ≡ n ∷ names_from classes (n + 1)
    unfolding declared_names name_before
    names_colon q =
        let c : get_or classes (n + 1) 0 ≡ COLON = sym e ∙ q in
        rw (next_class (class_inside classes (n + 1) c (omega arith)), c)

    pub names_other : (class ≡ END → ⊥) → (class ≡ COLON → ⊥) → names_from classes n ≡ names_from classes (n + 1)
    unfolding declared_names name_before
    names_other p q = go (ltb (n + 1) (length classes)) refl
      where
        go : (t : Bool) → ltb (n + 1) (length classes) ≡ t → names_from classes n ≡ names_from classes (n + 1)
        go true z =
            let h = ltb-true (n + 1) (length classes) z in
            rw (next_class h, ne_eqb (get_or classes (n + 1) 0) END (λ r. p (e ∙ r)), ne_eqb (get_or classes (n + 1) 0) COLON (λ r. q (e ∙ r)))
        go false z =
            let h = ltb-false (n + 1) (length classes) z in
            let k : length classes ≤ n + 1 + 1 = omega arith in
            names_over h ∙ sym (rw (drop_of_length-le classes k))

-- ---- numbers within bounds

pub data Between (low high : ℕ) : List ℕ → Type 0 where
  no_number : Between low high []
  number : {n : ℕ} {ns : List ℕ} → low ≤ n → n < high → Between low high ns → Between low high (n ∷ ns)

pub between_wider : {low high low' high' : ℕ} {ns : List ℕ} → low' ≤ low → high ≤ high' → Between low high ns → Between low' high' ns
between_wider p q no_number = no_number
between_wider p q (number {n = n} h k b) = number {n = n} (omega arith) (omega arith) (between_wider p q b)

between_snoc : {low n : ℕ} {ns : List ℕ} → low ≤ n → Between low n ns → Between low (n + 1) (ns ++ n ∷ [])
between_snoc {n = m} p no_number = number {n = m} p (omega arith) no_number
between_snoc p (number {n = n} h k b) = number {n = n} h (omega arith) (between_snoc p b)

-- those before an `end`
names_before_end : (n : ℕ) (cs : List ℕ) (j : ℕ) → get_or cs j 0 ≡ END → Between n (n + j) (declared_names n cs)
unfolding declared_names name_before
names_before_end n [] j e = no_number
names_before_end n (c ∷ cs) zero e = rw e no_number
names_before_end n (c ∷ cs) (suc j) e = go (eqb c END) (eqb c COLON) (between_wider (omega arith) (omega arith) (names_before_end (n + 1) cs j e))
  where
    go : (t k : Bool) → Between n (n + suc j) (declared_names (n + 1) cs) → Between n (n + suc j) (name_before t k n (declared_names (n + 1) cs))
    go true k b = no_number
    go false true b = number {n = n} (omega arith) (omega arith) b
    go false false b = b

pub names_before : (classes : List ℕ) (start e : ℕ) → start < e → get_or classes e 0 ≡ END → Between start (e - 1) (names_from classes start)
names_before classes start e h c =
    let k : start + 1 + (e - (start + 1)) ≡ e = omega arith in
    let z : get_or (drop (start + 1) classes) (e - (start + 1)) 0 ≡ END = get_or-drop (start + 1) classes (e - (start + 1)) 0 ∙ ap (λ i. get_or classes i 0) k ∙ c in
    between_wider (omega arith) (omega arith) (names_before_end start (drop (start + 1) classes) (e - (start + 1)) z)

-- ---- the first declaration of a name

module _ (text classes offsets lengths : List ℕ) (start i : ℕ) where
  -- what is left gives the same as all
  pub record Sought (n : ℕ) : Type 0 where
    pub same : first_alike text offsets lengths (length classes) i (names_from classes n)
        ≡ first_alike text offsets lengths (length classes) i (names_from classes start)

module _ {text classes offsets lengths : List ℕ} {start i : ℕ} where
  pub sought_all : Sought text classes offsets lengths start i start
  sought_all = record { same = refl }

  module _ {n : ℕ} (s : Sought text classes offsets lengths start i n) where
    pub sought_over : length classes ≤ n → Declaration text classes offsets lengths start i (length classes)
    unfolding first_alike
    sought_over h = record { first = sym (ap (first_alike text offsets lengths (length classes) i) (names_over classes n (omega arith))) ∙ s.same }

    module _ {class : ℕ} (e : class ≡ get_or classes (n + 1) 0) where
      pub sought_end : class ≡ END → Declaration text classes offsets lengths start i (length classes)
      unfolding first_alike
      sought_end q = record { first = sym (ap (first_alike text offsets lengths (length classes) i) (names_end classes n e q)) ∙ s.same }

      module _ (w : class ≡ END → ⊥) {r : Bool}
          (t : r ≡ (eqb class COLON && same_bytes (name_in text offsets lengths i) (name_in text offsets lengths n))) where
        pub sought_here : r ≡ true → Declaration text classes offsets lengths start i n
        unfolding first_alike
        sought_here h =
            let (p, q) = and_true (eqb class COLON) (same_bytes (name_in text offsets lengths i) (name_in text offsets lengths n)) (sym t ∙ h) in
            let here = ap (first_alike text offsets lengths (length classes) i) (names_colon classes n e (eqb-true class COLON p)) in
            record { first = sym (here ∙ rw (q, first_alike)) ∙ s.same }

        pub sought_on : r ≡ false → Sought text classes offsets lengths start i (n + 1)
        unfolding first_alike
        sought_on h = go (eqb class COLON) refl (sym t ∙ h)
          where
            go : (x : Bool) → eqb class COLON ≡ x → x && same_bytes (name_in text offsets lengths i) (name_in text offsets lengths n) ≡ false
                → Sought text classes offsets lengths start i (n + 1)
            go true p q =
                let here = ap (first_alike text offsets lengths (length classes) i) (names_colon classes n e (eqb-true class COLON p)) in
                record { same = sym (here ∙ rw (q, first_alike)) ∙ s.same }
            go false p q =
                record { same = sym (ap (first_alike text offsets lengths (length classes) i) (names_other classes n e w (eqb-false class COLON p))) ∙ s.same }

-- ---- names declared again

module _ (text classes offsets lengths : List ℕ) (start : ℕ) where
  -- those before token number n, and what is found of them
  pub record Repeating (n : ℕ) (found : Found) : Type 0 where
    pub before : List ℕ
    pub below : Between 0 n before
    pub all : before ++ names_from classes n ≡ names_from classes start
    pub same : merged (found_as found)
        (earliest (repeated_faults (map (name_row text offsets lengths) before) (map (name_row text offsets lengths) (names_from classes n))))
        ≡ earliest (again_faults (map (name_row text offsets lengths) (names_from classes start)))

is_later : (x : Name) (o : Option (Numbered Name)) → is_found (here_or_later false x o) ≡ is_found o
unfolding here_or_later is_found
is_later x none = refl
is_later x (some f) = refl

module _ (text offsets lengths : List ℕ) (other n : ℕ) where
  -- the first of its name, unless one before it has the name
  first_or_again : (before others : List ℕ) → Between 0 n before
      → eqb (first_alike text offsets lengths other n (before ++ n ∷ others)) n
      ≡ not (is_found (look_up (λ m. m) (name_in text offsets lengths n) (map (name_row text offsets lengths) before)))
  unfolding first_alike look_up is_found
  first_or_again [] others b = rw (same_bytes_refl (name_in text offsets lengths n), first_alike) (eq-eqb n n refl)
  first_or_again (m ∷ ms) others (number l h b) =
      go (same_bytes (name_in text offsets lengths n) (name_in text offsets lengths m)) refl (first_or_again ms others b)
    where
      go : (t : Bool) → same_bytes (name_in text offsets lengths n) (name_in text offsets lengths m) ≡ t
          → eqb (first_alike text offsets lengths other n (ms ++ n ∷ others)) n
          ≡ not (is_found (look_up (λ m. m) (name_in text offsets lengths n) (map (name_row text offsets lengths) ms)))
          → eqb (first_alike text offsets lengths other n (m ∷ ms ++ n ∷ others)) n
          ≡ not (is_found (look_up (λ m. m) (name_in text offsets lengths n) (map (name_row text offsets lengths) (m ∷ ms))))
      go true e k = rw (e, first_alike) (ne_eqb m n (λ z. omega arith))
      go false e k = rw (e, first_alike)
          (k ∙ ap not (sym (is_later (name_row text offsets lengths m)
          (look_up (λ m. m) (name_in text offsets lengths n) (map (name_row text offsets lengths) ms)))))

module _ {text classes offsets lengths : List ℕ} {start : ℕ} where
  pub repeating_none : Repeating text classes offsets lengths start start None
  unfolding merged again_faults found_as
  repeating_none = record { before = []; below = no_number; all = refl; same = refl }

  module _ {n : ℕ} {found : Found} (s : Repeating text classes offsets lengths start n found) where
    no_more : names_from classes n ≡ [] → Repeated text classes offsets lengths start found
    unfolding repeated_faults earliest
    no_more e = record {
      faults =
          sym (merged_none_right (found_as found))
          ∙ ap (λ ns. merged (found_as found)
          (earliest (repeated_faults (map (name_row text offsets lengths) s.before) (map (name_row text offsets lengths) ns)))) (sym e)
          ∙ s.same;
    }

    pub repeating_over : length classes ≤ n → Repeated text classes offsets lengths start found
    repeating_over h = no_more (names_over classes n (omega arith))

    module _ {class : ℕ} (e : class ≡ get_or classes (n + 1) 0) where
      pub repeating_end : class ≡ END → Repeated text classes offsets lengths start found
      repeating_end q = no_more (names_end classes n e q)

      module _ (w : class ≡ END → ⊥) {r more : Found} (h : RepeatedAt text classes offsets lengths start class n r)
          (m : found_as more ≡ merged (found_as found) (found_as r)) where
        pub repeating_on : Repeating text classes offsets lengths start (n + 1) more
        unfolding repeated_faults
        repeating_on = go (eqb class COLON) refl
          where
            go : (x : Bool) → eqb class COLON ≡ x → Repeating text classes offsets lengths start (n + 1) more
            go false p =
                let z = eqb-false class COLON p in
                let o = names_other classes n e w z in
                record {
                  before = s.before;
                  below = between_wider (omega arith) (omega arith) s.below;
                  all = rw (← o) s.all;
                  same = rw (m, h.other z, merged_none_right, ← o) s.same;
                }
            go true p =
                let c = eqb-true class COLON p in
                let o = names_colon classes n e c in
                let l = ap (λ ns. s.before ++ ns) (sym o) ∙ s.all in
                let names = map (name_row text offsets lengths) s.before in
                let test = not (is_found (look_up (λ m. m) (name_in text offsets lengths n) names)) in
                let k : eqb (first_alike text offsets lengths (length classes) n (names_from classes start)) n ≡ test =
                ap (λ ns. eqb (first_alike text offsets lengths (length classes) n ns) n) (sym l)
                ∙ first_or_again text offsets lengths (length classes) n s.before (names_from classes (n + 1)) s.below in
                let here = fault_unless test 15 (get_or offsets n 0) in
                let others = repeated_faults (names ++ name_row text offsets lengths n ∷ [])
                (map (name_row text offsets lengths) (names_from classes (n + 1))) in
                record {
                  before = s.before ++ n ∷ [];
                  below = between_snoc (omega arith) s.below;
                  all = append_assoc s.before (n ∷ []) (names_from classes (n + 1)) ∙ l;
                  same = rw (m, h.faults c, k, map-append (name_row text offsets lengths) s.before (n ∷ []))
                      (merged_assoc (found_as found) (earliest here) (earliest others) ∙ ap (merged (found_as found)) (sym (earliest_append here others))
                      ∙ ap (λ ns. merged (found_as found) (earliest (repeated_faults names (map (name_row text offsets lengths) ns)))) (sym o) ∙ s.same);
                }

  module _ {class n : ℕ} where
    pub repeated_other : (class ≡ COLON → ⊥) → RepeatedAt text classes offsets lengths start class n None
    unfolding found_as
    repeated_other h = record { other = λ z. refl; faults = λ e. absurd (h e) }

    pub repeated_again : class ≡ COLON → {first at : ℕ} {r : Found} → Declaration text classes offsets lengths start n first → at ≡ get_or offsets n 0
        → found_as r ≡ earliest (fault_unless (eqb first n) 15 at) → RepeatedAt text classes offsets lengths start class n r
    repeated_again h f o u = record { other = λ z. absurd (z h); faults = λ e. u ∙ rw (f.first, o) }

-- the turns of the search for a declaration
pub ruleset sought_turns = (sought_all, sought_end, sought_here, sought_on)
