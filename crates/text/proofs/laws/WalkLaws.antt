-- Laws of walks over a column of classes: one for each combinator of readers, and how a walk in a loop begins, goes on and stops.
use Prim.Native.Nat.{ℕ, zero, suc, ◌+◌, ◌-◌, ◌<◌, ◌≤◌}
use mathlib.Core.Path.{◌≡◌, refl, sym, ap, ◌∙◌}
use mathlib.Core.List.{List, [], ◌∷◌, ◌++◌}
use mathlib.Core.Bool.{Bool, true, false, true≢false}
use mathlib.Core.Option.{some}
use native.Mathlib.Nat.{add-zero}
use native.Mathlib.Numerals.{add-one}
use native.Mathlib.Omega.{arith}
use lib.Dec.{eqb, ltb}
use lib.ListN.{length, get_or, get_elem?, drop, drop_of_length-le}
use lib.Seq.{drop-cons, drop-drop}
use borrow.Author.Tests.{eq-eqb, ne_eqb, eqb-true, eqb-false, ltb-true, ltb-false}
use Rattle.text.specs.definitions.Tokens.{Token}
use Rattle.text.specs.definitions.Readers.{
  Parse,
  read,
  unfit_after,
  Parser,
  shift,
  give,
  expect,
  pick,
  next_is,
  if_next,
  and_then,
  loop,
  joined,
  chain,
  added,
  many,
}
use Rattle.text.specs.inner_contracts.Walks.{no_token, nth_token, Rows, Stands, Steps, Means, meant, vain, MeansAt, Walks, Looping}
use Rattle.text.proofs.laws.ReaderLaws.{
  expect_takes,
  expect_refuses,
  if_next_first,
  if_next_second,
  and_then_reads,
  and_then_refuses,
  loop_ends,
  loop_stops,
  loop_turns,
}

-- ---- a column and its tokens

-- a class other than 0 stands at a token
pub class_inside : (classes : List ℕ) (i : ℕ) {c : ℕ} → get_or classes i 0 ≡ c → 0 < c → i < length classes
class_inside [] i e h = absurd (omega arith)
class_inside (x ∷ xs) zero e h = omega arith
class_inside (x ∷ xs) (suc i) e h = let r = class_inside xs i e h in omega arith

-- a class that passes a test which 0 fails stands at a token
pub test_inside : (test : ℕ → Bool) (classes : List ℕ) (i : ℕ) → test 0 ≡ false → test (get_or classes i 0) ≡ true → i < length classes
test_inside test classes i z e = go (eqb (get_or classes i 0) 0) refl
  where
    go : (t : Bool) → eqb (get_or classes i 0) 0 ≡ t → i < length classes
    go true q = absurd (true≢false (sym e ∙ ap test (eqb-true (get_or classes i 0) 0 q) ∙ z))
    go false q = let n = eqb-false (get_or classes i 0) 0 q in class_inside classes i refl (omega arith)

-- a test of the class that was read
pub test_read : (test : ℕ → Bool) {class c : ℕ} {r b : Bool} → class ≡ c → r ≡ test class → r ≡ b → test c ≡ b
test_read test e f g = ap test (sym e) ∙ sym f ∙ g

-- a turn of a loop leaves fewer tokens
pub turn_less : (test : ℕ → Bool) (classes : List ℕ) {i j n m : ℕ} → test 0 ≡ false → test (get_or classes i 0) ≡ true → Steps (length classes) i j → j ≤ n
    → m ≡ n → length classes - m < length classes - i
turn_less test classes {i} z e s o k =
    let h = test_inside test classes i z e in
    let q = s.steps h in
    omega arith

-- the next number, by a sum
pub next_steps : {size : ℕ} (i : ℕ) → Steps size i (i + 1)
next_steps i = record { onward = omega arith; steps = λ h. refl }

-- a token that was taken on the way from `at` to `next`
pub stands : {classes : List ℕ} {w : Rows classes} {at i j k next : ℕ} → w.low ≤ at → at ≤ i → i < length classes → get_or classes i 0 ≡ k
    → Steps (length classes) i j → j ≤ next → next ≤ w.high → Stands w i k
stands l a h e s n k = let q = s.steps h in record { from = omega arith; before = omega arith; inside = h; class = e }

module _ {A : Type 0} where
  pub getElem?_inside : (xs : List A) (i : ℕ) (d : A) → i < length xs → get_elem? xs i ≡ some (get_or xs i d)
  getElem?_inside [] i d h = absurd (omega arith)
  getElem?_inside (x ∷ xs) zero d h = refl
  getElem?_inside (x ∷ xs) (suc i) d h = getElem?_inside xs i d (omega arith)

module _ {classes : List ℕ} (w : Rows classes) where
  pub row_token : (i : ℕ) → i < length classes → drop i w.tokens ≡ nth_token w.tokens i ∷ drop (i + 1) w.tokens
  row_token i h =
      let k : i < length w.tokens = rw w.count h in
      rw (add-one i) (drop-cons w.tokens i no_token k)

  pub row_class : (i : ℕ) → i < length classes → (nth_token w.tokens i).class ≡ get_or classes i 0
  row_class i h =
      let k : i < length w.tokens = rw w.count h in
      w.class i (nth_token w.tokens i) (getElem?_inside w.tokens i no_token k)

  pub rows_end : (i : ℕ) → length classes ≤ i → drop i w.tokens ≡ []
  rows_end i h = let k : length w.tokens ≤ i = rw w.count h in drop_of_length-le w.tokens k

  pub next_is_other : (c i : ℕ) → (get_or classes i 0 ≡ c → ⊥) → next_is c (drop i w.tokens) ≡ false
  unfolding next_is
  next_is_other c i e = go (ltb i (length classes)) refl
    where
      go : (t : Bool) → ltb i (length classes) ≡ t → next_is c (drop i w.tokens) ≡ false
      go true q =
          let h = ltb-true i (length classes) q in
          rw (row_token i h) (ne_eqb (nth_token w.tokens i).class c (λ z. e (sym (row_class i h) ∙ z)))
      go false q = rw (rows_end i (ltb-false i (length classes) q))

  pub expect_other : {A : Type 0} (c : ℕ) (k : Token → Parser A) (i : ℕ) → (get_or classes i 0 ≡ c → ⊥) → expect c k (drop i w.tokens) ≡ unfit_after 0
  unfolding expect
  expect_other c k i e = go (ltb i (length classes)) refl
    where
      go : (t : Bool) → ltb i (length classes) ≡ t → expect c k (drop i w.tokens) ≡ unfit_after 0
      go true q =
          let h = ltb-true i (length classes) q in
          let n = ne_eqb (nth_token w.tokens i).class c (λ z. e (sym (row_class i h) ∙ z)) in
          rw (row_token i h) (expect_refuses c k (nth_token w.tokens i) (drop (i + 1) w.tokens) n)
      go false q = rw (rows_end i (ltb-false i (length classes) q))

-- ---- one law for each combinator

module _ {A R : Type 0} {high : ℕ} {yields : A → R → Type 0} {v : R} {next : ℕ} (at n : ℕ) where
  pub means_shift : {p : Parse A} → Means high yields v next (at + n) p → Means high yields v next at (shift n p)
  unfolding shift
  means_shift (meant {n = k} e f) = let g : next ≡ at + (n + k) = omega arith in meant e g
  means_shift vain = vain

  pub means_unshift : (p : Parse A) → Means high yields v next at (shift n p) → Means high yields v next (at + n) p
  unfolding shift
  means_unshift (read a k) (meant y f) = let g : next ≡ at + n + k = omega arith in meant y g
  means_unshift (unfit_after k) vain = vain

module _ {classes : List ℕ} (w : Rows classes) {A R : Type 0} (yields : A → R → Type 0) {v : R} {next : ℕ} where
  pub give_means : (a : A) {i : ℕ} → (next ≤ w.high → yields a v) → next ≡ i → MeansAt w yields (give a) i v next
  unfolding give
  give_means a {i} y e = meant y (e ∙ sym (add-zero i))

  pub expect_means : (c : ℕ) (k : Token → Parser A) {i j : ℕ} → Steps (length classes) i j
      → (i < length classes → get_or classes i 0 ≡ c → MeansAt w yields (k (nth_token w.tokens i)) j v next) → MeansAt w yields (expect c k) i v next
  unfolding expect
  expect_means c k {i} {j} s f = go (ltb i (length classes)) refl
    where
      test : (t : Bool) → eqb (nth_token w.tokens i).class c ≡ t → i < length classes
          → Means w.high yields v next i (expect c k (nth_token w.tokens i ∷ drop (i + 1) w.tokens))
      test true e h =
          let q = eqb-true (nth_token w.tokens i).class c e in
          let m = f h (sym (row_class w i h) ∙ q) in
          rw (expect_takes c k (nth_token w.tokens i) (drop (i + 1) w.tokens) q)
          (means_shift i 1 {p = k (nth_token w.tokens i) (drop (i + 1) w.tokens)} (rw (s.steps h) at m))
      test false e h = rw (expect_refuses c k (nth_token w.tokens i) (drop (i + 1) w.tokens) e) vain

      go : (t : Bool) → ltb i (length classes) ≡ t → MeansAt w yields (expect c k) i v next
      go true e =
          let h = ltb-true i (length classes) e in
          rw (row_token w i h) (test (eqb (nth_token w.tokens i).class c) refl h)
      go false e = rw (rows_end w i (ltb-false i (length classes) e)) vain

  pub next_yes : (c : ℕ) (r s : Parser A) {i : ℕ} → i < length classes → get_or classes i 0 ≡ c → MeansAt w yields r i v next
      → MeansAt w yields (if_next c r s) i v next
  unfolding next_is
  next_yes c r s {i} h e m =
      let t : next_is c (drop i w.tokens) ≡ true = rw (row_token w i h) (eq-eqb (nth_token w.tokens i).class c (row_class w i h ∙ e)) in
      rw (if_next_first c r s (drop i w.tokens) t) m

  pub next_no : (c : ℕ) (r s : Parser A) {i : ℕ} → (get_or classes i 0 ≡ c → ⊥) → MeansAt w yields s i v next → MeansAt w yields (if_next c r s) i v next
  next_no c r s {i} e m = rw (if_next_second c r s (drop i w.tokens) (next_is_other w c i e)) m

  -- whichever class comes next
  pub next_either : (c : ℕ) (r s : Parser A) {i : ℕ} → MeansAt w yields r i v next → MeansAt w yields s i v next
      → MeansAt w yields (if_next c r s) i v next
  unfolding if_next pick
  next_either c r s {i} m n = go (next_is c (drop i w.tokens))
    where
      go : (b : Bool) → MeansAt w yields (pick b r s) i v next
      go true = m
      go false = n

  pub next_end : (c : ℕ) (r s : Parser A) {i : ℕ} → length classes ≤ i → MeansAt w yields s i v next → MeansAt w yields (if_next c r s) i v next
  unfolding next_is
  next_end c r s {i} h m = rw (if_next_second c r s (drop i w.tokens) (rw (rows_end w i h))) m

  -- what r reads, which yields x, and then what k reads
  pub then_means : {B Q : Type 0} {first : B → Q → Type 0} {x : Q} {n : ℕ} (r : Parser B) (k : B → Parser A) {i : ℕ} → MeansAt w first r i x n
      → ((b : B) → (n ≤ w.high → first b x) → MeansAt w yields (k b) n v next) → MeansAt w yields (and_then r k) i v next
  then_means {B} {Q} {first} {x} {n} r k {i} m f = go (r (drop i w.tokens)) refl m
    where
      go : (p : Parse B) → r (drop i w.tokens) ≡ p → Means w.high first x n i p → MeansAt w yields (and_then r k) i v next
      go (read b j) e (meant y q) =
          rw (and_then_reads r k b j (drop i w.tokens) e, drop-drop j i w.tokens)
          (means_shift i j {p = k b (drop (i + j) w.tokens)} (rw q at (f b y)))
      go (unfit_after j) e vain = rw (and_then_refuses r k j (drop i w.tokens) e) vain

module _ {classes : List ℕ} (w : Rows classes) {A R : Type 0} {yields : A → R → Type 0} {v : R} {next : ℕ} where
  -- what is read after a token of class c, from what is read with it
  pub after_means : (c : ℕ) (k : Token → Parser A) {i j : ℕ} → i < length classes → get_or classes i 0 ≡ c → Steps (length classes) i j
      → MeansAt w yields (expect c k) i v next → MeansAt w yields (k (nth_token w.tokens i)) j v next
  after_means c k {i} {j} h e s m =
      let t = nth_token w.tokens i in
      let n : Means w.high yields v next i (shift 1 (k t (drop (i + 1) w.tokens))) =
      rw (row_token w i h, expect_takes c k t (drop (i + 1) w.tokens) (row_class w i h ∙ e)) at m in
      rw (s.steps h) (means_unshift i 1 (k t (drop (i + 1) w.tokens)) n)

-- ---- whole walks

module _ {C A R : Type 0} {classes : List ℕ} {rows : C → Rows classes} {yields : C → A → R → Type 0} where
  -- what a walk says where the reader reads
  pub walk_yields : {r : Parser A} {at : ℕ} {v : R} {next : ℕ} → Walks rows yields r at v next → (c : C) → (rows c).low ≤ at → {a : A} {n : ℕ}
      → r (drop at (rows c).tokens) ≡ read a n → (next ≤ (rows c).high → yields c a v) × (next ≡ at + n)
  walk_yields {r} {at} {v} {next} h c l {a} {n} e = go (rw e at (h.means c l))
    where
      go : Means (rows c).high (yields c) v next at (read a n) → (next ≤ (rows c).high → yields c a v) × (next ≡ at + n)
      go (meant y q) = (y, q)

  -- the same walk of a reader that does the same there
  pub walk_same : {r s : Parser A} {at : ℕ} {v : R} {next : ℕ} → ((c : C) → s (drop at (rows c).tokens) ≡ r (drop at (rows c).tokens))
      → Walks rows yields r at v next → Walks rows yields s at v next
  walk_same e h = record { onward = h.onward; means = λ c l. rw (e c) (h.means c l) }

  -- the same end by another name
  pub walk_next : {r : Parser A} {at : ℕ} {v : R} {next m : ℕ} → m ≡ next → Walks rows yields r at v next → Walks rows yields r at v m
  walk_next e h = rw e h

  pub loop_next : {whole : Parser A} {test : ℕ → Bool} {step : A → Token → Parser A} {at : ℕ} {v : R} {i j : ℕ} → j ≡ i
      → Looping rows yields whole test step at v i → Looping rows yields whole test step at v j
  loop_next e h = rw e h

  -- the same walk, with what follows from what it gives
  pub walk_then : {Q : Type 0} {other : C → A → Q → Type 0} {r : Parser A} {at : ℕ} {v : R} {u : Q} {next : ℕ}
      → ((c : C) (a : A) → (rows c).low ≤ at → next ≤ (rows c).high → yields c a v → other c a u) → Walks rows yields r at v next → Walks rows other r at u next
  walk_then {Q} {other} {r} {at} {v} {u} {next} f h = record { onward = h.onward; means = λ c l. go c l (h.means c l) }
    where
      go : (c : C) → (rows c).low ≤ at → {p : Parse A} → Means (rows c).high (yields c) v next at p → Means (rows c).high (other c) u next at p
      go c l (meant {a = a} y e) = meant (λ k. f c a l k (y k)) e
      go c l vain = vain

  -- the same walk in other worlds
  pub walk_in : {D : Type 0} (f : D → C) {r : Parser A} {at : ℕ} {v : R} {next : ℕ} → Walks rows yields r at v next
      → Walks (λ d. rows (f d)) (λ d. yields (f d)) r at v next
  walk_in f h = record { onward = h.onward; means = λ d l. h.means (f d) l }

  -- two walks of one reader
  pub walk_both : {Q : Type 0} {other : C → A → Q → Type 0} {r : Parser A} {at : ℕ} {v : R} {u : Q} {next m : ℕ} → Walks rows yields r at v next
      → Walks rows other r at u m → Walks {R = R × Q} rows (λ c a p. yields c a p.0 × other c a p.1) r at (v, u) next
  walk_both {Q} {other} {r} {at} {v} {u} {next} {m} h g = record { onward = h.onward; means = λ c l. go c (h.means c l) (g.means c l) }
    where
      go : (c : C) {p : Parse A} → Means (rows c).high (yields c) v next at p → Means (rows c).high (other c) u m at p
          → Means {R = R × Q} (rows c).high (λ a p. yields c a p.0 × other c a p.1) (v, u) next at p
      go c (meant y e) (meant z d) = meant (λ k. (y k, z (omega arith))) e
      go c vain vain = vain

-- ---- loops

module _ {C A R : Type 0} {classes : List ℕ} (rows : C → Rows classes) (yields : C → A → R → Type 0) where
  module _ (test : ℕ → Bool) (step : A → Token → Parser A) where
    module _ {whole : Parser A} {at : ℕ} {v : R} {i : ℕ} (g : Looping rows yields whole test step at v i) where
      -- no token is left, or the next one fails the test
      pub walk_stops : test (get_or classes i 0) ≡ false → Walks rows yields whole at v i
      walk_stops e = record { onward = g.onward; means = λ c l. g.rest c l v i (λ a y. on c a y (ltb i (length classes)) refl) }
        where
          on : (c : C) (a : A) → (i ≤ (rows c).high → yields c a v) → (t : Bool) → ltb i (length classes) ≡ t
              → MeansAt (rows c) (yields c) (loop test step a 0) i v i
          on c a y true q =
              let h = ltb-true i (length classes) q in
              rw (
                row_token (rows c) i h,
                loop_stops test step a (nth_token (rows c).tokens i) (drop (i + 1) (rows c).tokens)
                    (ap test (row_class (rows c) i h) ∙ e),
              )
              (meant y (sym (add-zero i)))
          on c a y false q = rw (rows_end (rows c) i (ltb-false i (length classes) q), loop_ends test step a) (meant y (sym (add-zero i)))

      -- the next token passes the test, and the step after it reads on
      pub walk_turns : {j : ℕ} {u : R} {n : ℕ} → i < length classes → test (get_or classes i 0) ≡ true → Steps (length classes) i j → j ≤ n
          → ((c : C) → (rows c).low ≤ i → (a : A) → (i ≤ (rows c).high → yields c a v)
          → MeansAt (rows c) (yields c) (step a (nth_token (rows c).tokens i)) j u n)
          → Looping rows yields whole test step at u n
      walk_turns {j} {u} {n} h e s o f = record {
        onward = omega (arith, g.onward, s.onward);
        rest = λ c l x next k. g.rest c l x next (λ a y. on c a x next k (f c (omega (arith, g.onward)) a y));
      }
        where
          on : (c : C) (a : A) (x : R) (next : ℕ)
              → ((b : A) → (n ≤ (rows c).high → yields c b u) → MeansAt (rows c) (yields c) (loop test step b 0) n x next)
              → MeansAt (rows c) (yields c) (step a (nth_token (rows c).tokens i)) j u n
              → MeansAt (rows c) (yields c) (loop test step a 0) i x next
          on c a x next k m =
              rw (
                row_token (rows c) i h,
                loop_turns test step a (nth_token (rows c).tokens i) (drop (i + 1) (rows c).tokens)
                    (ap test (row_class (rows c) i h) ∙ e),
              )
              (means_shift i 1 (rw (s.steps h) at (then_means (rows c) (yields c) (step a (nth_token (rows c).tokens i)) (λ b. loop test step b 0) m k)))

  module _ (test : ℕ → Bool) (join : Token → A → A → A) (item : Parser A) where
    -- a chain begins with its first item
    pub chain_begins : {at : ℕ} {v : R} {i : ℕ} → Walks rows yields item at v i → Looping rows yields (chain test join item) test (joined item join) at v i
    unfolding chain
    chain_begins {at} {v} {i} h = record {
      onward = h.onward;
      rest = λ c l u next k. then_means (rows c) (yields c) item (λ a. loop test (joined item join) a 0) (h.means c l) k;
    }

    -- an operator, and another item
    pub chain_turns : {whole : Parser A} {at : ℕ} {v : R} {i j : ℕ} {x u : R} {n : ℕ} → Looping rows yields whole test (joined item join) at v i
        → test 0 ≡ false → test (get_or classes i 0) ≡ true → Steps (length classes) i j → Walks rows yields item j x n
        → ((c : C) (a b : A) → Stands (rows c) i (get_or classes i 0) → yields c a v → yields c b x → yields c (join (nth_token (rows c).tokens i) a b) u)
        → Looping rows yields whole test (joined item join) at u n
    unfolding joined
    chain_turns {v = v} {i = i} {j = j} {x = x} {u = u} {n = n} g z e s h f =
        walk_turns test (joined item join) g (test_inside test classes i z e) e s h.onward λ c l a y.
        then_means (rows c) (yields c) item (λ b. give (join (nth_token (rows c).tokens i) a b)) (h.means c (omega (arith, s.onward))) λ b q.
        give_means (rows c) (yields c) (join (nth_token (rows c).tokens i) a b)
        (λ k. f c a b (stands l (omega arith) (test_inside test classes i z e) refl s h.onward k) (y (omega (arith, s.onward, h.onward))) (q k)) refl

module _ {C A Q R : Type 0} {classes : List ℕ} (rows : C → Rows classes) (first : C → A → Q → Type 0) (yields : C → List A → R → Type 0)
    (k : ℕ) (item : Token → Parser A) where
  -- no item yet
  pub many_begins : (at : ℕ) {v : R} → ((c : C) → yields c [] v) → Looping rows yields (many k item) (λ d. eqb d k) (added item) at v at
  unfolding many
  many_begins at y = record { onward = omega arith; rest = λ c l u next f. f [] (λ h. y c) }

  -- another item, which begins with a token of class k
  pub many_turns : {whole : Parser (List A)} {at : ℕ} {v : R} {i j : ℕ} {x : Q} {u : R} {n : ℕ}
      → Looping rows yields whole (λ d. eqb d k) (added item) at v i → 0 < k → get_or classes i 0 ≡ k → Steps (length classes) i j → j ≤ n
      → ((c : C) → (rows c).low ≤ i → MeansAt (rows c) (first c) (item (nth_token (rows c).tokens i)) j x n)
      → ((c : C) (xs : List A) (a : A) → Stands (rows c) i k → yields c xs v → first c a x → yields c (xs ++ a ∷ []) u)
      → Looping rows yields whole (λ d. eqb d k) (added item) at u n
  unfolding added
  many_turns {v = v} {i = i} {j = j} {x = x} {u = u} {n = n} g p e s o h f =
      walk_turns rows yields (λ d. eqb d k) (added item) g (class_inside classes i e p) (eq-eqb (get_or classes i 0) k e) s o λ c l xs y.
      then_means (rows c) (yields c) (item (nth_token (rows c).tokens i)) (λ a. give (xs ++ a ∷ [])) (h c l) λ a q.
      give_means (rows c) (yields c) (xs ++ a ∷ [])
      (λ z. f c xs a (stands l (omega arith) (class_inside classes i e p) e s o z) (y (omega (arith, s.onward))) (q z)) refl

  pub many_stops : {whole : Parser (List A)} {at : ℕ} {v : R} {i : ℕ} → Looping rows yields whole (λ d. eqb d k) (added item) at v i
      → (get_or classes i 0 ≡ k → ⊥) → Walks rows yields whole at v i
  many_stops {i = i} g e = walk_stops rows yields (λ d. eqb d k) (added item) g (ne_eqb (get_or classes i 0) k e)
