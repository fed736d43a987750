-- The column of scopes: a rule's variables, found by the classes of its tokens, and the rows that hold them.
use Prim.Native.Nat.{ℕ, zero, suc, ◌+◌, ◌*◌, ◌-◌, ◌≤◌, ◌<◌}
use native.Mathlib.Omega.{arith}
use mathlib.Core.Path.{◌≡◌, refl, sym, ap, ◌∙◌}
use mathlib.Core.Bool.{Bool, true, false}
use mathlib.Core.List.{List, [], ◌∷◌, map}
use mathlib.Core.Option.{some}
use lib.Dec.{leb, ltb}
use lib.ListN.{length, get_or, get_elem?, set, length-set}
use lib.Seq.{get_or-set_same, get_or-set_other}
use borrow.Author.Tests.{le-leb, lt-leb, ltb-true, ltb-false}
use Rattle.text.specs.definitions.Tokens.{COLON, END}
use Rattle.text.specs.inner_contracts.Walks.{Steps}
use Rattle.text.proofs.laws.ListLaws.{none_some, some_injective}
use Rattle.checking.specs.definitions.Scope.{Variable, variables}
use Rattle.checking.specs.inner_contracts.Directory.{name_in, interface_number, rule_row}
use Rattle.checking.specs.inner_contracts.DirectoryReads.{NumberOf}
use Rattle.checking.specs.inner_contracts.RuleParts.{RuleWorld}
use Rattle.checking.specs.inner_contracts.Resolution.{scope_row}
use Rattle.checking.specs.inner_contracts.Resolving.{DeclarationNumber, present, InterfaceAt, ScopeHeld, ScopesResolved}
use Rattle.checking.proofs.laws.DirectoryLaws.{number_below}
use Rattle.checking.proofs.steps.RuleNames.{names_from, names_over, names_end, names_colon, names_other, Between, no_number, number}
use Rattle.checking.proofs.steps.MeaningLaws.{variable_row, world_inside, world_variables}

-- ---- declarations by their numbers

-- from token number n on, `left` before it
pub record Counting (classes : List ℕ) (start v n left : ℕ) : Type 0 where
  pub same : get_or (names_from classes n) left (length classes) ≡ get_or (names_from classes start) v (length classes)

module _ {classes : List ℕ} {start v : ℕ} where
  pub counting_all : Counting classes start v start v
  counting_all = record { same = refl }

  module _ {n left : ℕ} (s : Counting classes start v n left) where
    none_left : names_from classes n ≡ [] → DeclarationNumber classes start v (length classes)
    none_left e = record { is = sym (ap (λ ns. get_or ns left (length classes)) e) ∙ s.same }

    pub counting_over : length classes ≤ n → DeclarationNumber classes start v (length classes)
    counting_over h = none_left (names_over classes n (omega arith))

    module _ {class : ℕ} (e : class ≡ get_or classes (n + 1) 0) where
      pub counting_end : class ≡ END → DeclarationNumber classes start v (length classes)
      counting_end q = none_left (names_end classes n e q)

      pub counting_other : (class ≡ END → ⊥) → (class ≡ COLON → ⊥) → Counting classes start v (n + 1) left
      counting_other p q = record { same = sym (ap (λ ns. get_or ns left (length classes)) (names_other classes n e p q)) ∙ s.same }

      module _ (q : class ≡ COLON) where
        pub counting_here : left ≡ 0 → DeclarationNumber classes start v n
        counting_here z = record {
          is =
              sym (ap (λ k. get_or (names_from classes n) k (length classes)) z ∙ ap (λ ns. get_or ns 0 (length classes)) (names_colon classes n e q))
              ∙ s.same;
        }

        pub counting_on : (left ≡ 0 → ⊥) → Counting classes start v (n + 1) (left - 1)
        counting_on z =
            let k : left ≡ suc (left - 1) = omega arith in
            record {
              same =
                  sym (ap (λ m. get_or (names_from classes n) m (length classes)) k
                  ∙ ap (λ ns. get_or ns (suc (left - 1)) (length classes)) (names_colon classes n e q))
                  ∙ s.same;
            }

-- ---- a rule's variables

module _ {high size : ℕ} (l : high ≤ size) where
  present_count : {ns : List ℕ} → Between 0 high ns → length ns ≤ 3
      → present (leb size (get_or ns 0 size)) (leb size (get_or ns 1 size)) (leb size (get_or ns 2 size)) ≡ length ns
  unfolding present
  present_count no_number h = rw (le-leb size size (omega arith))
  present_count (number {n = a} x p no_number) h =
      let i : a < size = omega arith in
      rw (lt-leb size a i, le-leb size size (omega arith))
  present_count (number {n = a} x p (number {n = b} y q no_number)) h =
      let i : a < size = omega arith in
      let j : b < size = omega arith in
      rw (lt-leb size a i, lt-leb size b j, le-leb size size (omega arith))
  present_count (number {n = a} x p (number {n = b} y q (number {n = c} z r no_number))) h =
      let i : a < size = omega arith in
      let j : b < size = omega arith in
      let k : c < size = omega arith in
      rw (lt-leb size a i, lt-leb size b j, lt-leb size c k)
  present_count (number x p (number y q (number z r (number w s b)))) h = absurd (omega arith)

nth_mapped : {A : Type 0} {high : ℕ} (f : ℕ → A) (size : ℕ) {ns : List ℕ} → Between 0 high ns → (v : ℕ) {x : A} → get_elem? (map f ns) v ≡ some x
    → (f (get_or ns v size) ≡ x) × (get_or ns v size < high)
nth_mapped f size no_number v e = absurd (none_some e)
nth_mapped f size (number x p b) zero e = (some_injective e, p)
nth_mapped f size (number x p b) (suc v) e = nth_mapped f size b v e

module _ {text classes offsets lengths d : List ℕ} where
  pub interface_stands : {n colon j r : ℕ} → Steps (length classes) n colon → Steps (length classes) colon j
      → NumberOf text offsets lengths d 16 (λ f. length f.interfaces ≤ 16) (λ f. interface_number f (name_in text offsets lengths j)) r
      → InterfaceAt text classes offsets lengths d n r
  interface_stands {n} {colon} {j} s t g = record {
    is = λ h w few.
        let x = s.steps (omega arith) in
        let y = t.steps (omega arith) in
        let z : j ≡ n + 1 + 1 = omega arith in
        g.is classes w few.interfaces ∙ ap (λ i. interface_number w.file (name_in text offsets lengths i)) z;
  }

  module _ {start a b c : ℕ} (p : DeclarationNumber classes start 0 a) (q : DeclarationNumber classes start 1 b) (r : DeclarationNumber classes start 2 c) where
    pub variables_held : {count x y z : ℕ} → count ≡ present (leb (length classes) a) (leb (length classes) b) (leb (length classes) c)
        → InterfaceAt text classes offsets lengths d a x → InterfaceAt text classes offsets lengths d b y → InterfaceAt text classes offsets lengths d c z
        → ScopeHeld text classes offsets lengths d start count x y z
    variables_held {count} {x} {y} {z} n f g h = record { count_is = counted; interface_is = λ w k v u e. item w k v u e }
      where
        length_map : {A : Type 0} (f : ℕ → A) (ms : List ℕ) → length (map f ms) ≡ length ms
        length_map f [] = refl
        length_map f (m ∷ ms) = ap suc (length_map f ms)

        as_many : (w : RuleWorld text classes offsets lengths d start) → length (variables w.rule) ≡ length (names_from classes start)
        as_many w = ap length (world_variables w) ∙ length_map (variable_row text offsets lengths) (names_from classes start)

        counted : (w : RuleWorld text classes offsets lengths d start) → length (variables w.rule) ≤ 3 → count ≡ length (variables w.rule)
        counted w k =
            let few : length (names_from classes start) ≤ 3 = omega (arith, as_many w) in
            let low : length classes - 2 ≤ length classes = omega arith in
            n ∙ rw (p.is, q.is, r.is) (present_count low (world_inside w) few) ∙ sym (as_many w)

        stands : (w : RuleWorld text classes offsets lengths d start) (v : ℕ) (u : Variable) → get_elem? (variables w.rule) v ≡ some u
            → (variable_row text offsets lengths (get_or (names_from classes start) v (length classes)) ≡ u)
            × (get_or (names_from classes start) v (length classes) < length classes - 2)
        stands w v u e =
            nth_mapped (variable_row text offsets lengths) (length classes) (world_inside w) v (ap (λ l. get_elem? l v) (sym (world_variables w)) ∙ e)

        found : (w : RuleWorld text classes offsets lengths d start) {m t : ℕ} (v : ℕ) (u : Variable)
            → m ≡ get_or (names_from classes start) v (length classes) → InterfaceAt text classes offsets lengths d m t
            → (variable_row text offsets lengths (get_or (names_from classes start) v (length classes)) ≡ u)
            × (get_or (names_from classes start) v (length classes) < length classes - 2)
            → t ≡ interface_number w.bench.file u.interface.bytes
        found w {m} v u i j (e, k) =
            let inside : m + 1 < length classes = omega arith in
            j.is inside w.bench w.few ∙ ap (λ o. interface_number w.bench.file (name_in text offsets lengths (o + 1 + 1))) i
            ∙ ap (λ (o : Variable). interface_number w.bench.file o.interface.bytes) e

        item : (w : RuleWorld text classes offsets lengths d start) → length (variables w.rule) ≤ 3 → (v : ℕ) (u : Variable)
            → get_elem? (variables w.rule) v ≡ some u → get_or (x ∷ y ∷ z ∷ []) v 0 ≡ interface_number w.bench.file u.interface.bytes
        item w k zero u e = found w 0 u p.is f (stands w 0 u e)
        item w k (suc zero) u e = found w 1 u q.is g (stands w 1 u e)
        item w k (suc (suc zero)) u e = found w 2 u r.is h (stands w 2 u e)
        item w k (suc (suc (suc v))) u e = let b = number_below (variables w.rule) (suc (suc (suc v))) e in absurd (omega arith)

-- ---- the rows

-- four stores in a row
module _ (l : List ℕ) (at n a b c : ℕ) where
  abbrev stored : List ℕ
  stored = set (set (set (set l at n) (at + 1) a) (at + 2) b) (at + 3) c

module _ (l : List ℕ) (at n a b c : ℕ) where
  stored_length : length (stored l at n a b c) ≡ length l
  stored_length = simp length-set

  stored_other : (i : ℕ) → i < at → get_or (stored l at n a b c) i 0 ≡ get_or l i 0
  stored_other i h =
      get_or-set_other (set (set (set l at n) (at + 1) a) (at + 2) b) (at + 3) i c 0 (λ e. omega arith)
      ∙ get_or-set_other (set (set l at n) (at + 1) a) (at + 2) i b 0 (λ e. omega arith)
      ∙ get_or-set_other (set l at n) (at + 1) i a 0 (λ e. omega arith) ∙ get_or-set_other l at i n 0 (λ e. omega arith)

  module _ (h : at + 3 < length l) where
    stored_count : get_or (stored l at n a b c) at 0 ≡ n
    stored_count =
        get_or-set_other (set (set (set l at n) (at + 1) a) (at + 2) b) (at + 3) at c 0 (λ e. omega arith)
        ∙ get_or-set_other (set (set l at n) (at + 1) a) (at + 2) at b 0 (λ e. omega arith)
        ∙ get_or-set_other (set l at n) (at + 1) at a 0 (λ e. omega arith) ∙ get_or-set_same l at n 0 (omega arith)

    stored_first : get_or (stored l at n a b c) (at + 1) 0 ≡ a
    stored_first =
        get_or-set_other (set (set (set l at n) (at + 1) a) (at + 2) b) (at + 3) (at + 1) c 0 (λ e. omega arith)
        ∙ get_or-set_other (set (set l at n) (at + 1) a) (at + 2) (at + 1) b 0 (λ e. omega arith)
        ∙ get_or-set_same (set l at n) (at + 1) a 0 (simp length-set (omega arith))

    stored_second : get_or (stored l at n a b c) (at + 2) 0 ≡ b
    stored_second =
        get_or-set_other (set (set (set l at n) (at + 1) a) (at + 2) b) (at + 3) (at + 2) c 0 (λ e. omega arith)
        ∙ get_or-set_same (set (set l at n) (at + 1) a) (at + 2) b 0 (simp length-set (omega arith))

    stored_third : get_or (stored l at n a b c) (at + 3) 0 ≡ c
    stored_third = get_or-set_same (set (set (set l at n) (at + 1) a) (at + 2) b) (at + 3) c 0 (simp length-set (omega arith))

-- the rows of the rules before number k are filled
pub record Scoping (text classes offsets lengths d scopes new : List ℕ) (k : ℕ) : Type 0 where
  pub size : length new ≡ length scopes
  pub rows : (j : ℕ) → j < k
      → ScopeHeld text classes offsets lengths d (get_or d (259 + j) 0) (get_or new (4 * j) 0) (get_or new (4 * j + 1) 0) (get_or new (4 * j + 2) 0)
      (get_or new (4 * j + 3) 0)

held_as : {text classes offsets lengths d : List ℕ} {start start' n n' a a' b b' c c' : ℕ} → start ≡ start' → n ≡ n' → a ≡ a' → b ≡ b' → c ≡ c'
    → ScopeHeld text classes offsets lengths d start n a b c → ScopeHeld text classes offsets lengths d start' n' a' b' c'
held_as p q r s t h = rw (← p, ← q, ← r, ← s, ← t) h

module _ {text classes offsets lengths d scopes : List ℕ} where
  pub scoping_none : Scoping text classes offsets lengths d scopes scopes 0
  scoping_none = record { size = refl; rows = λ j h. absurd (omega arith) }

  module _ {new : List ℕ} {k : ℕ} (s : Scoping text classes offsets lengths d scopes new k) where
    pub scoping_on : 256 ≤ length scopes → k < 64 → {start n a b c : ℕ} → start ≡ get_or d (259 + k) 0
        → ScopeHeld text classes offsets lengths d start n a b c → {now : List ℕ} → now ≡ stored new (4 * k) n a b c
        → Scoping text classes offsets lengths d scopes now (k + 1)
    scoping_on l m {start} {n} {a} {b} {c} e h {now} q = rw q (record {
      size = stored_length new (4 * k) n a b c ∙ s.size;
      rows = λ j i. go j i (ltb j k) refl;
    })
      where
        go : (j : ℕ) → j < k + 1 → (x : Bool) → ltb j k ≡ x
            → ScopeHeld text classes offsets lengths d (get_or d (259 + j) 0) (get_or (stored new (4 * k) n a b c) (4 * j) 0)
            (get_or (stored new (4 * k) n a b c) (4 * j + 1) 0) (get_or (stored new (4 * k) n a b c) (4 * j + 2) 0)
            (get_or (stored new (4 * k) n a b c) (4 * j + 3) 0)
        go j i true x =
            let y = ltb-true j k x in
            held_as refl (sym (stored_other new (4 * k) n a b c (4 * j) (omega arith))) (sym (stored_other new (4 * k) n a b c (4 * j + 1) (omega arith)))
            (sym (stored_other new (4 * k) n a b c (4 * j + 2) (omega arith))) (sym (stored_other new (4 * k) n a b c (4 * j + 3) (omega arith)))
            (s.rows j y)
        go j i false x =
            let y : k ≡ j = omega (arith, ltb-false j k x) in
            let r : 4 * k + 3 < length new = omega (arith, s.size) in
            rw (← y) (held_as e (sym (stored_count new (4 * k) n a b c r)) (sym (stored_first new (4 * k) n a b c r))
            (sym (stored_second new (4 * k) n a b c r)) (sym (stored_third new (4 * k) n a b c r)) h)

    pub scoping_ends : ((j : ℕ) → j < get_or d 2 0 → j < 64 → j < k) → ScopesResolved text classes offsets lengths d scopes new
    scoping_ends f = record {
      scopes_are = record {
        count = λ j h i c l. (s.rows j (f j h i)).count_is c l;
        interface = λ j h i c l v x e. item j c l v x e ((s.rows j (f j h i)).interface_is c l v x e);
      };
      kept = s.size;
    }
      where
        item : (j : ℕ) (c : RuleWorld text classes offsets lengths d (get_or d (rule_row j) 0)) → length (variables c.rule) ≤ 3 → (v : ℕ) (x : Variable)
            → get_elem? (variables c.rule) v ≡ some x → {y : ℕ}
            → get_or (get_or new (4 * j + 1) 0 ∷ get_or new (4 * j + 2) 0 ∷ get_or new (4 * j + 3) 0 ∷ []) v 0 ≡ y → get_or new (scope_row j + 1 + v) 0 ≡ y
        item j c l zero x e g = let z : 4 * j + 1 + 0 ≡ 4 * j + 1 = omega arith in ap (λ i. get_or new i 0) z ∙ g
        item j c l (suc zero) x e g = let z : 4 * j + 1 + 1 ≡ 4 * j + 2 = omega arith in ap (λ i. get_or new i 0) z ∙ g
        item j c l (suc (suc zero)) x e g = let z : 4 * j + 1 + 2 ≡ 4 * j + 3 = omega arith in ap (λ i. get_or new i 0) z ∙ g
        item j c l (suc (suc (suc v))) x e g = let b = number_below (variables c.rule) (suc (suc (suc v))) e in absurd (omega arith)

-- the turns of the count of declarations
pub ruleset counting_turns = (counting_all, counting_over, counting_end, counting_other, counting_here, counting_on)
