-- Where tokens of wanted classes stand in a list of tokens, and what each of them begins: one law for each combinator of readers.
use Prim.Native.Nat.{ℕ, zero, suc, ◌+◌, ◌≤◌, ◌<◌}
use native.Mathlib.Omega.{arith}
use mathlib.Core.Path.{◌≡◌, refl, sym, ap, ◌∙◌, subst}
use mathlib.Core.Bool.{Bool, true, false}
use mathlib.Core.List.{List, [], ◌∷◌, ◌++◌, map, flat_map, append-nil, append_assoc, nil≢cons, head-eq_of_cons-eq, tail-eq_of_cons-eq}
use mathlib.Core.Option.{some}
use lib.Dec.{eqb}
use lib.ListN.{length, take, drop, get_elem?}
use lib.Seq.{drop-drop}
use borrow.Author.Tests.{eqb-true, eqb-false}
use Rattle.text.specs.definitions.Tokens.{Token}
use Rattle.text.specs.definitions.Readers.{
  Parse,
  read,
  unfit_after,
  Parser,
  shift,
  give,
  halt,
  expected,
  expect,
  pick,
  next_is,
  if_next,
  continued,
  and_then,
  stepped,
  turned,
  loop,
  joined,
  chain,
  added,
  many,
}
use Rattle.text.proofs.laws.ReaderLaws.{expect_takes}
use Rattle.text.proofs.laws.ListLaws.{none_some, some_injective, flatMap_append}
use Rattle.text.proofs.laws.TreeLaws.{read_tree, refused_read}

-- ---- what a reader has read

pub read_count : {A : Type 0} {a b : A} {m n : ℕ} → read a m ≡ read b n → m ≡ n
read_count h = cc

shift_reads : {A : Type 0} (n : ℕ) (p : Parse A) {a : A} {m : ℕ} → shift n p ≡ read a m → (k : ℕ) × (p ≡ read a k) × (n + k ≡ m)
unfolding shift
shift_reads n (read b k) h = (k, ap (λ c. read c k) (read_tree h), read_count h)
shift_reads n (unfit_after k) h = absurd (refused_read h)

module _ {A : Type 0} where
  -- the first of what is left stands at that number
  pub drop_stands : (xs : List A) (p : ℕ) {x : A} {ys : List A} → drop p xs ≡ x ∷ ys → (get_elem? xs p ≡ some x) × (drop (suc p) xs ≡ ys)
  drop_stands [] zero h = absurd (nil≢cons h)
  drop_stands [] (suc p) h = absurd (nil≢cons h)
  drop_stands (y ∷ xs) zero h = (ap some (head-eq_of_cons-eq h), tail-eq_of_cons-eq h)
  drop_stands (y ∷ xs) (suc p) h = drop_stands xs p h

  pub stands_below : (xs : List A) (p : ℕ) {x : A} → get_elem? xs p ≡ some x → p < length xs
  stands_below [] p h = absurd (none_some h)
  stands_below (y ∷ xs) zero h = omega arith
  stands_below (y ∷ xs) (suc p) h = let l = stands_below xs p h in omega arith

  pub stands_drop : (xs : List A) (p : ℕ) {x : A} → get_elem? xs p ≡ some x → drop p xs ≡ x ∷ drop (suc p) xs
  stands_drop [] p h = absurd (none_some h)
  stands_drop (y ∷ xs) zero h = ap (λ z. z ∷ xs) (some_injective h)
  stands_drop (y ∷ xs) (suc p) h = stands_drop xs p h

-- token number p has class c, and the reader reads the tree from the tokens after it
pub record Starts {A : Type 0} (ts : List Token) (p c : ℕ) (after : Token → Parser A) (a : A) : Type 0 where
  pub token : Token
  pub stands : get_elem? ts p ≡ some token
  pub class : token.class ≡ c
  pub used : ℕ
  pub reads : after token (drop (suc p) ts) ≡ read a used

module _ (ts : List Token) (p : ℕ) where
  pub expect_starts : {A : Type 0} (c : ℕ) (k : Token → Parser A) (a : A) (n : ℕ) → expect c k (drop p ts) ≡ read a n
      → (s : Starts ts p c k a) × (suc s.used ≡ n)
  unfolding expect
  expect_starts {A} c k a n e = go (drop p ts) refl e
    where
      after : (b : Bool) (t : Token) (us : List Token) → drop p ts ≡ t ∷ us → eqb t.class c ≡ b → expected b (k t) us ≡ read a n
          → (s : Starts ts p c k a) × (suc s.used ≡ n)
      after false t us d q e = absurd (refused_read e)
      after true t us d q e =
          let (m, r, i) = shift_reads 1 (k t us) e in
          let (s, l) = drop_stands ts p d in
          (record { token = t; stands = s; class = eqb-true t.class c q; used = m; reads = ap (k t) l ∙ r }, omega arith)

      go : (us : List Token) → drop p ts ≡ us → expect c k us ≡ read a n → (s : Starts ts p c k a) × (suc s.used ≡ n)
      go [] d e = absurd (refused_read e)
      go (t ∷ us) d e = after (eqb t.class c) t us d refl e

  -- what was read first, and what then
  pub and_then_parts : {A B : Type 0} (r : Parser A) (k : A → Parser B) (b : B) (n : ℕ) → and_then r k (drop p ts) ≡ read b n
      → (a : A) × (m : ℕ) × (r (drop p ts) ≡ read a m) × (j : ℕ) × (k a (drop (p + m) ts) ≡ read b j) × (m + j ≡ n)
  unfolding and_then
  and_then_parts {A} {B} r k b n e = go (r (drop p ts)) refl e
    where
      go : (q : Parse A) → r (drop p ts) ≡ q → continued q (drop p ts) k ≡ read b n
          → (a : A) × (m : ℕ) × (r (drop p ts) ≡ read a m) × (j : ℕ) × (k a (drop (p + m) ts) ≡ read b j) × (m + j ≡ n)
      go (unfit_after m) q e = absurd (refused_read e)
      go (read a m) q e =
          let (j, s, i) = shift_reads m (k a (drop m (drop p ts))) e in
          (a, m, q, j, ap (k a) (sym (drop-drop m p ts)) ∙ s, i)

  -- of a step that reads an item and makes a tree of it
  given_parts : {A B : Type 0} (r : Parser A) (f : A → B) (b : B) (n : ℕ) → and_then r (λ a. give (f a)) (drop p ts) ≡ read b n
      → (a : A) × (r (drop p ts) ≡ read a n) × (f a ≡ b)
  unfolding give
  given_parts r f b n e =
      let (a, m, d, j, g, i) = and_then_parts r (λ a. give (f a)) b n e in
      let k : 0 ≡ j = read_count g in
      let l : m ≡ n = omega arith in
      (a, d ∙ ap (read a) l, read_tree g)

-- ---- tokens of wanted classes

-- of the tokens number p up to number q, without it, those of wanted classes are the items, in order, each as `at` says
pub data Spots {X : Type 0} (ts : List Token) (wanted : ℕ → Bool) (at : ℕ → X → Type 0) : ℕ → ℕ → List X → Type 0 where
  over : {p : ℕ} → Spots ts wanted at p p []
  skip : {p q : ℕ} {xs : List X} (t : Token) → get_elem? ts p ≡ some t → wanted t.class ≡ false → Spots ts wanted at (suc p) q xs
      → Spots ts wanted at p q xs
  spot : {p q : ℕ} {x : X} {xs : List X} (t : Token) → get_elem? ts p ≡ some t → wanted t.class ≡ true → at p x → Spots ts wanted at (suc p) q xs
      → Spots ts wanted at p q (x ∷ xs)

module _ {X : Type 0} {ts : List Token} {wanted : ℕ → Bool} {at : ℕ → X → Type 0} where
  pub spots_append : {p q r : ℕ} {xs ys : List X} → Spots ts wanted at p q xs → Spots ts wanted at q r ys → Spots ts wanted at p r (xs ++ ys)
  spots_append over g = g
  spots_append (skip t s w h) g = skip t s w (spots_append h g)
  spots_append (spot t s w x h) g = spot t s w x (spots_append h g)

  pub spots_le : {p q : ℕ} {xs : List X} → Spots ts wanted at p q xs → p ≤ q
  spots_le over = omega arith
  spots_le (skip t s w h) = let l = spots_le h in omega arith
  spots_le (spot t s w a h) = let l = spots_le h in omega arith

  pub spots_to : {p q r : ℕ} {xs : List X} → q ≡ r → Spots ts wanted at p q xs → Spots ts wanted at p r xs
  spots_to {p} {xs = xs} e h = subst (λ n. Spots ts wanted at p n xs) e h

-- fewer classes: of each item the part that they have
module _ {X Y : Type 0} {ts : List Token} {wanted chosen : ℕ → Bool} {at : ℕ → X → Type 0} {at' : ℕ → Y → Type 0} (part : X → List Y)
    (outside : (c : ℕ) → wanted c ≡ false → chosen c ≡ false) (inside : (p : ℕ) (x : X) → at p x → Spots ts chosen at' p (suc p) (part x)) where
  pub spots_select : {p q : ℕ} {xs : List X} → Spots ts wanted at p q xs → Spots ts chosen at' p q (flat_map part xs)
  unfolding flat_map
  spots_select over = over
  spots_select (skip t s w h) = skip t s (outside t.class w) (spots_select h)
  spots_select (spot {p = p} {x = x} t s w a h) = spots_append (inside p x a) (spots_select h)

-- where there are none, no token is of a wanted class
pub spots_none : {X : Type 0} {ts : List Token} {wanted : ℕ → Bool} {at : ℕ → X → Type 0} {p q : ℕ} → Spots ts wanted at p q []
    → (k : ℕ) → p ≤ k → k < q → (t : Token) × (get_elem? ts k ≡ some t) × (wanted t.class ≡ false)
spots_none over k l m = absurd (omega arith)
spots_none {ts = ts} {wanted} {q = q} (skip {p = p} t s w h) k l m = go (eqb p k) refl (spots_none h k)
  where
    go : (b : Bool) → eqb p k ≡ b → (suc p ≤ k → k < q → (t : Token) × (get_elem? ts k ≡ some t) × (wanted t.class ≡ false))
        → (t : Token) × (get_elem? ts k ≡ some t) × (wanted t.class ≡ false)
    go true e f = (t, ap (get_elem? ts) (sym (eqb-true p k e)) ∙ s, w)
    go false e f = f (omega (arith, eqb-false p k e)) m

-- the offsets of the tokens of wanted classes
unfoldable pub offset_if : Bool → Token → List ℕ → List ℕ
offset_if true t os = t.at ∷ os
offset_if false t os = os

unfoldable pub offsets_of : (ℕ → Bool) → List Token → List ℕ
unfolding offset_if
offsets_of wanted [] = []
offsets_of wanted (t ∷ ts) = offset_if (wanted t.class) t (offsets_of wanted ts)

module _ {X : Type 0} {ts : List Token} {wanted : ℕ → Bool} {at : ℕ → X → Type 0} (offset : X → ℕ)
    (is_at : (p : ℕ) (x : X) (t : Token) → at p x → get_elem? ts p ≡ some t → t.at ≡ offset x) where
  pub spots_offsets : {p q : ℕ} {xs : List X} → Spots ts wanted at p q xs → (n : ℕ) → p + n ≡ q → offsets_of wanted (take n (drop p ts)) ≡ map offset xs
  unfolding offsets_of
  spots_offsets over zero e = refl
  spots_offsets over (suc n) e = absurd (omega arith)
  spots_offsets (skip t s w h) zero e = absurd (omega (arith, spots_le h))
  spots_offsets (skip {p = p} t s w h) (suc n) e = rw (stands_drop ts p s, w) (spots_offsets h n (omega arith))
  spots_offsets (spot t s w a h) zero e = absurd (omega (arith, spots_le h))
  spots_offsets (spot {p = p} {x = x} t s w a h) (suc n) e = rw (stands_drop ts p s, w, is_at p x t a s, spots_offsets h n (omega arith))

-- what r reads from token number p: the items of its wanted tokens are as `has` says of the tree
pub record Marks {X : Type 0} (ts : List Token) (wanted : ℕ → Bool) (at : ℕ → X → Type 0) {A : Type 0} (p : ℕ) (r : Parser A) (has : A → List X → Type 0)
    : Type 0 where
  pub marks : (a : A) (n : ℕ) → r (drop p ts) ≡ read a n → (xs : List X) × Spots ts wanted at p (p + n) xs × has a xs

module _ {X : Type 0} {ts : List Token} {wanted : ℕ → Bool} {at : ℕ → X → Type 0} where
  module _ {A : Type 0} {p : ℕ} {has : A → List X → Type 0} where
    pub give_marks : (a : A) → has a [] → Marks ts wanted at p (give a) has
    unfolding give
    give_marks a h = record {
      marks = λ b n e.
          let k : 0 ≡ n = read_count e in
          ([], spots_to (omega arith) over, subst (λ c. has c []) (read_tree e) h);
    }

    pub halt_marks : Marks ts wanted at p halt has
    unfolding halt
    halt_marks = record { marks = λ a n e. absurd (refused_read e) }

    -- a token of no wanted class
    pub expect_skip : {c : ℕ} {k : Token → Parser A} → wanted c ≡ false
        → ((t : Token) → get_elem? ts p ≡ some t → t.class ≡ c → Marks ts wanted at (suc p) (k t) has) → Marks ts wanted at p (expect c k) has
    expect_skip {c} {k} w f = record { marks = λ a n e. go a n (expect_starts ts p c k a n e) }
      where
        go : (a : A) (n : ℕ) → (s : Starts ts p c k a) × (suc s.used ≡ n) → (xs : List X) × Spots ts wanted at p (p + n) xs × has a xs
        go a n (s, i) =
            let (xs, q, h) = (f s.token s.stands s.class).marks a s.used s.reads in
            let l : suc p + s.used ≡ p + n = omega arith in
            (xs, skip s.token s.stands (ap wanted s.class ∙ w) (spots_to l q), h)

    -- a token of a wanted class: its item is known once the tree is
    pub expect_spot : {c : ℕ} {k : Token → Parser A} → wanted c ≡ true
        → ((t : Token) → get_elem? ts p ≡ some t → t.class ≡ c
        → Marks ts wanted at (suc p) (k t) (λ a xs. (n : ℕ) → k t (drop (suc p) ts) ≡ read a n → (x : X) × at p x × has a (x ∷ xs)))
        → Marks ts wanted at p (expect c k) has
    expect_spot {c} {k} w f = record { marks = λ a n e. go a n (expect_starts ts p c k a n e) }
      where
        go : (a : A) (n : ℕ) → (s : Starts ts p c k a) × (suc s.used ≡ n) → (xs : List X) × Spots ts wanted at p (p + n) xs × has a xs
        go a n (s, i) =
            let (xs, q, h) = (f s.token s.stands s.class).marks a s.used s.reads in
            let (x, r, g) = h s.used s.reads in
            let l : suc p + s.used ≡ p + n = omega arith in
            (x ∷ xs, spot s.token s.stands (ap wanted s.class ∙ w) r (spots_to l q), g)

    pub if_next_marks : (c : ℕ) {r s : Parser A} → Marks ts wanted at p r has → Marks ts wanted at p s has → Marks ts wanted at p (if_next c r s) has
    unfolding if_next
    if_next_marks c {r} {s} f g = record { marks = λ a n. go (next_is c (drop p ts)) a n }
      where
        go : (b : Bool) (a : A) (n : ℕ) → pick b r s (drop p ts) ≡ read a n → (xs : List X) × Spots ts wanted at p (p + n) xs × has a xs
        go true a n e = f.marks a n e
        go false a n e = g.marks a n e

  module _ {A B : Type 0} {p : ℕ} {r : Parser A} {k : A → Parser B} {has : A → List X → Type 0} {wants : B → List X → Type 0} where
    pub and_then_marks : Marks ts wanted at p r has
        → ((a : A) (xs : List X) → has a xs → (q : ℕ) → Marks ts wanted at q (k a) (λ b ys. wants b (xs ++ ys)))
        → Marks ts wanted at p (and_then r k) wants
    and_then_marks f g = record { marks = λ b n e. go b n (and_then_parts ts p r k b n e) }
      where
        go : (b : B) (n : ℕ)
            → (a : A) × (m : ℕ) × (r (drop p ts) ≡ read a m) × (j : ℕ) × (k a (drop (p + m) ts) ≡ read b j) × (m + j ≡ n)
            → (xs : List X) × Spots ts wanted at p (p + n) xs × wants b xs
        go b n (a, m, d, j, e, i) =
            let (xs, q, h) = f.marks a m d in
            let (ys, s, w) = (g a xs h (p + m)).marks b j e in
            let l : p + m + j ≡ p + n = omega arith in
            (xs ++ ys, spots_to l (spots_append q s), w)

  -- of which the first part has no wanted token
  pub and_then_plain : {A B : Type 0} {p : ℕ} {r : Parser A} {k : A → Parser B} {wants : B → List X → Type 0}
      → Marks ts wanted at p r (λ a xs. xs ≡ []) → ((a : A) (q : ℕ) → Marks ts wanted at q (k a) wants) → Marks ts wanted at p (and_then r k) wants
  and_then_plain {k = k} {wants = wants} f g =
      and_then_marks f (λ a xs e q. subst (λ l. Marks ts wanted at q (k a) (λ b ys. wants b (l ++ ys))) (sym e) (g a q))

  -- and of which that part is known with its end
  pub and_then_known : {A B : Type 0} {p : ℕ} {r : Parser A} {k : A → Parser B} {wants : B → List X → Type 0}
      → Marks ts wanted at p r (λ a xs. xs ≡ []) → ((a : A) (m : ℕ) → r (drop p ts) ≡ read a m → Marks ts wanted at (p + m) (k a) wants)
      → Marks ts wanted at p (and_then r k) wants
  and_then_known {A} {B} {p} {r} {k} {wants} f g = record { marks = λ b n e. go b n (and_then_parts ts p r k b n e) }
    where
      go : (b : B) (n : ℕ) → (a : A) × (m : ℕ) × (r (drop p ts) ≡ read a m) × (j : ℕ) × (k a (drop (p + m) ts) ≡ read b j) × (m + j ≡ n)
          → (xs : List X) × Spots ts wanted at p (p + n) xs × wants b xs
      go b n (a, m, d, j, e, i) =
          let (xs, q, h) = f.marks a m d in
          let (ys, s, w) = (g a m d).marks b j e in
          let l : p + m + j ≡ p + n = omega arith in
          (ys, spots_to l (spots_append (subst (λ zs. Spots ts wanted at p (p + m) zs) h q) s), w)

  -- one turn: the token that passes the test, and what the step reads after it
  module _ {A : Type 0} (test : ℕ → Bool) (step : A → Token → Parser A) (has : A → List X → Type 0)
      (turn : (p : ℕ) (a : A) (xs : List X) → has a xs → (t : Token) → get_elem? ts p ≡ some t → test t.class ≡ true → (b : A) (n : ℕ)
      → step a t (drop (suc p) ts) ≡ read b n → (ys : List X) × Spots ts wanted at p (suc p + n) ys × has b (xs ++ ys)) where
    loop_from : (us : List Token) (o p more : ℕ) → drop p ts ≡ us → (a : A) (xs : List X) → Spots ts wanted at o (p + more) xs → has a xs
        → (b : A) (n : ℕ) → loop test step a more us ≡ read b n → (ys : List X) × Spots ts wanted at o (p + n) ys × has b ys
    unfolding loop
    loop_from [] o p more d a xs s h b n e =
        let l : p + more ≡ p + n = ap (λ k. p + k) (read_count e) in
        (xs, spots_to l s, subst (λ c. has c xs) (read_tree e) h)
    loop_from (t ∷ us) o p (suc more) d a xs s h b n e =
        let (m, r, i) = shift_reads 1 (loop test step a more us) e in
        let before : p + suc more ≡ suc p + more = omega arith in
        let (ys, q, g) = loop_from us o (suc p) more (drop_stands ts p d).1 a xs (spots_to before s) h b m r in
        let after : suc p + m ≡ p + n = omega arith in
        (ys, spots_to after q, g)
    loop_from (t ∷ us) o p zero d a xs s h b n e = go (test t.class) refl e (loop_from us o (suc p))
      where
        Rest : Type 0
        Rest = (more : ℕ) → drop (suc p) ts ≡ us → (c : A) (zs : List X) → Spots ts wanted at o (suc p + more) zs → has c zs
            → (b : A) (n : ℕ) → loop test step c more us ≡ read b n → (ys : List X) × Spots ts wanted at o (suc p + n) ys × has b ys

        after : test t.class ≡ true → (q : Parse A) → step a t us ≡ q → stepped q (λ c m. loop test step c m us) ≡ read b n → Rest
            → (ys : List X) × Spots ts wanted at o (p + n) ys × has b ys
        after w (unfit_after m) q e k = absurd (refused_read e)
        after w (read c m) q e k =
            let (j, r, i) = shift_reads 1 (loop test step c m us) e in
            let (stands, rest) = drop_stands ts p d in
            let (zs, u, g) = turn p a xs h t stands w c m (ap (step a t) rest ∙ q) in
            let here : p + 0 ≡ p = omega arith in
            let (ys, v, f) = k m rest c (xs ++ zs) (spots_append (spots_to here s) u) g b j r in
            let l : suc p + j ≡ p + n = omega arith in
            (ys, spots_to l v, f)

        go : (passes : Bool) → test t.class ≡ passes → turned passes a (step a t) (λ c m. loop test step c m us) us ≡ read b n → Rest
            → (ys : List X) × Spots ts wanted at o (p + n) ys × has b ys
        go false w e k =
            let l : p + 0 ≡ p + n = ap (λ k. p + k) (read_count e) in
            (xs, spots_to l s, subst (λ c. has c xs) (read_tree e) h)
        go true w e k = after w (step a t us) refl e k

    pub loop_marks : {p : ℕ} (a : A) → has a [] → Marks ts wanted at p (loop test step a 0) has
    loop_marks {p} a h = record { marks = loop_from (drop p ts) p p 0 refl a [] (spots_to start over) h }
      where
        start : p ≡ p + 0
        start = omega arith

  -- operators of no wanted class
  pub chain_marks : {A : Type 0} {p : ℕ} (test : ℕ → Bool) (join : Token → A → A → A) {item : Parser A} (out : A → List X)
      → ((c : ℕ) → test c ≡ true → wanted c ≡ false) → ((t : Token) (a b : A) → out (join t a b) ≡ out a ++ out b)
      → ((q : ℕ) → Marks ts wanted at q item (λ a xs. xs ≡ out a)) → Marks ts wanted at p (chain test join item) (λ a xs. xs ≡ out a)
  unfolding chain joined
  chain_marks {A} test join {item} out w j f =
      and_then_marks (f _) (λ a xs e q. loop_marks test (joined item join) (λ b ys. xs ++ ys ≡ out b) (turn xs) a (append-nil xs ∙ e))
    where
      turn : (zs : List X) (p : ℕ) (a : A) (xs : List X) → zs ++ xs ≡ out a → (t : Token) → get_elem? ts p ≡ some t → test t.class ≡ true → (b : A) (n : ℕ)
          → joined item join a t (drop (suc p) ts) ≡ read b n → (ys : List X) × Spots ts wanted at p (suc p + n) ys × (zs ++ (xs ++ ys) ≡ out b)
      turn zs p a xs h t s passes b n e =
          let (c, r, i) = given_parts ts (suc p) item (join t a) b n e in
          let (ys, q, o) = (f (suc p)).marks c n r in
          (ys, skip t s (w t.class passes) q, sym (append_assoc zs xs ys) ∙ ap (λ l. l ++ ys) h ∙ ap (λ l. out a ++ l) o ∙ sym (j t a c) ∙ ap out i)

  -- items with their first tokens
  pub many_marks : {A : Type 0} {p : ℕ} (c : ℕ) (item : Token → Parser A) (each : A → List X)
      → ((q : ℕ) → Marks ts wanted at q (expect c item) (λ a xs. xs ≡ each a)) → Marks ts wanted at p (many c item) (λ before xs. xs ≡ flat_map each before)
  unfolding many added flat_map shift
  many_marks {A} c item each f = loop_marks (λ d. eqb d c) (added item) (λ before xs. xs ≡ flat_map each before) turn [] refl
    where
      turn : (p : ℕ) (before : List A) (xs : List X) → xs ≡ flat_map each before → (t : Token) → get_elem? ts p ≡ some t → eqb t.class c ≡ true
          → (bs : List A) (n : ℕ) → added item before t (drop (suc p) ts) ≡ read bs n
          → (ys : List X) × Spots ts wanted at p (suc p + n) ys × (xs ++ ys ≡ flat_map each bs)
      turn p before xs h t s passes bs n e =
          let (a, r, i) = given_parts ts (suc p) (item t) (λ a. before ++ a ∷ []) bs n e in
          let here : expect c item (drop p ts) ≡ read a (1 + n) =
          ap (expect c item) (stands_drop ts p s) ∙ expect_takes c item t (drop (suc p) ts) (eqb-true t.class c passes) ∙ ap (shift 1) r in
          let (ys, q, o) = (f p).marks a (1 + n) here in
          let l : p + (1 + n) ≡ suc p + n = omega arith in (
            ys,
            spots_to l q,
            ap (λ l. l ++ ys) h ∙ ap (λ l. flat_map each before ++ l) (o ∙ sym (append-nil (each a))) ∙ sym (flatMap_append each before (a ∷ []))
                ∙ ap (flat_map each) i,
          )
