-- Items that stand one after another: what `many` reads, and where each item begins.
use Prim.Native.Nat.{ℕ, zero, suc, ◌+◌, ◌≤◌, ◌<◌}
use native.Mathlib.Nat.{add-zero}
use native.Mathlib.Numerals.{add-one}
use native.Mathlib.Omega.{arith}
use mathlib.Core.Path.{◌≡◌, refl, sym, ap, ◌∙◌, subst, subst₂}
use mathlib.Core.Bool.{Bool, true, false}
use mathlib.Core.List.{List, [], ◌∷◌, ◌++◌, append-nil, append_assoc}
use lib.Dec.{eqb}
use lib.ListN.{drop}
use borrow.Author.Tests.{eqb-true}
use Rattle.text.specs.definitions.Tokens.{Token}
use Rattle.text.specs.definitions.Readers.{Parse, read, unfit_after, Parser, shift, give, stepped, turned, loop, added, many}
use Rattle.text.proofs.laws.TreeLaws.{read_tree, refused_read}
use Rattle.text.proofs.laws.SpotLaws.{read_count, drop_stands, and_then_parts}
use Rattle.checking.specs.inner_contracts.Directory.{Begins}
use Rattle.checking.specs.inner_contracts.Sequences.{Sequence, over, one}

module _ {A : Type 0} {ts : List Token} {c : ℕ} {item : Token → Parser A} where
  pub sequence_order : {p q : ℕ} {xs : List A} → Sequence ts c item p q xs → p ≤ q
  sequence_order over = omega arith
  sequence_order {p} {q} (one b s) = let h : p + 1 + b.used ≤ q = sequence_order s in omega arith

  pub sequence_append : {p q r : ℕ} {xs ys : List A} → Sequence ts c item p q xs → Sequence ts c item q r ys → Sequence ts c item p r (xs ++ ys)
  sequence_append over g = g
  sequence_append (one b s) g = one b (sequence_append s g)

  -- one item more at the end
  pub sequence_snoc : {p q : ℕ} {xs : List A} {x : A} → Sequence ts c item p q xs → (b : Begins ts q c item x)
      → Sequence ts c item p (q + 1 + b.used) (xs ++ x ∷ [])
  sequence_snoc s b = sequence_append s (one b over)

  -- none is left
  pub sequence_ends : {p q : ℕ} {xs : List A} → Sequence ts c item p q xs → q ≤ p → (xs ≡ []) × (p ≡ q)
  sequence_ends over h = (refl, refl)
  sequence_ends {p} {q} (one b s) h = let l : p + 1 + b.used ≤ q = sequence_order s in absurd (omega arith)

  sequence_from : {p q o r : ℕ} {xs : List A} → p ≡ o → q ≡ r → Sequence ts c item p q xs → Sequence ts c item o r xs
  sequence_from {xs = xs} e f s = subst₂ (λ (m n : ℕ). Sequence ts c item m n xs) e f s

-- the first item, and those after it
pub record First {A : Type 0} (ts : List Token) (c : ℕ) (item : Token → Parser A) (p q : ℕ) (xs : List A) : Type 0 where
  pub head : A
  pub tail : List A
  pub joins : head ∷ tail ≡ xs
  pub begins : Begins ts p c item head
  pub within : p + 1 + begins.used ≤ q
  pub rest : Sequence ts c item (p + 1 + begins.used) q tail

pub sequence_first : {A : Type 0} {ts : List Token} {c : ℕ} {item : Token → Parser A} {p q : ℕ} {xs : List A} → Sequence ts c item p q xs → p < q
    → First ts c item p q xs
sequence_first over h = absurd (omega arith)
sequence_first (one {x = x} {xs = xs} b s) h = record { head = x; tail = xs; joins = refl; begins = b; within = sequence_order s; rest = s }

shift_reads : {A : Type 0} (n : ℕ) (p : Parse A) {a : A} {m : ℕ} → shift n p ≡ read a m → (k : ℕ) × (p ≡ read a k) × (n + k ≡ m)
unfolding shift
shift_reads n (read b k) h = (k, ap (λ x. read x k) (read_tree h), read_count h)
shift_reads n (unfit_after k) h = absurd (refused_read h)

module _ {A : Type 0} (ts : List Token) (c : ℕ) (item : Token → Parser A) where
  -- the items that a loop adds to those before
  record Added (before all : List A) (p q : ℕ) : Type 0 where
    items : List A
    joins : before ++ items ≡ all
    stand : Sequence ts c item p q items

  added_reads : (before all : List A) (t : Token) (p n : ℕ) → added item before t (drop p ts) ≡ read all n
      → (x : A) × (item t (drop p ts) ≡ read x n) × (before ++ x ∷ [] ≡ all)
  unfolding added give
  added_reads before all t p n e = go (and_then_parts ts p (item t) (λ x. give (before ++ x ∷ [])) all n e)
    where
      go : (x : A) × (m : ℕ) × (item t (drop p ts) ≡ read x m) × (j : ℕ) × (give (before ++ x ∷ []) (drop (p + m) ts) ≡ read all j) × (m + j ≡ n)
          → (x : A) × (item t (drop p ts) ≡ read x n) × (before ++ x ∷ [] ≡ all)
      go (x, m, d, j, g, i) = let z : 0 ≡ j = read_count g in let l : m ≡ n = omega arith in (x, d ∙ ap (read x) l, read_tree g)

  loop_adds : (us : List Token) (p more : ℕ) → drop p ts ≡ us → (before all : List A) (n : ℕ) → loop (λ d. eqb d c) (added item) before more us ≡ read all n
      → Added before all (p + more) (p + n)
  unfolding loop
  loop_adds [] p more d before all n e = record {
    items = [];
    joins = append-nil before ∙ read_tree e;
    stand = sequence_from refl (ap (λ k. p + k) (read_count e)) over;
  }
  loop_adds (t ∷ us) p (suc more) d before all n e =
      let (m, r, i) = shift_reads 1 (loop (λ d. eqb d c) (added item) before more us) e in
      let a = loop_adds us (suc p) more (drop_stands ts p d).1 before all m r in
      let f : suc p + more ≡ p + suc more = omega arith in
      let g : suc p + m ≡ p + n = omega arith in
      record { items = a.items; joins = a.joins; stand = sequence_from f g a.stand }
  loop_adds (t ∷ us) p zero d before all n e = go (eqb t.class c) refl e (loop_adds us (suc p))
    where
      Rest : Type 0
      Rest = (more : ℕ) → drop (suc p) ts ≡ us → (before all : List A) (n : ℕ) → loop (λ d. eqb d c) (added item) before more us ≡ read all n
          → Added before all (suc p + more) (suc p + n)

      turn : t.class ≡ c → (q : Parse (List A)) → added item before t us ≡ q → stepped q (λ b m. loop (λ d. eqb d c) (added item) b m us) ≡ read all n
          → Rest → Added before all (p + 0) (p + n)
      turn w (unfit_after m) s e k = absurd (refused_read e)
      turn w (read both m) s e k =
          let (j, r, i) = shift_reads 1 (loop (λ d. eqb d c) (added item) both m us) e in
          let (stands, rest) = drop_stands ts p d in
          let (x, l, f) = added_reads before both t (suc p) m (ap (added item before t) rest ∙ s) in
          let a = k m rest both all j r in
          let b : Begins ts p c item x = record { token = t; stands = stands; class = w; used = m; reads = rw (add-one p) l } in
          let g : suc p + m ≡ p + 1 + m = omega arith in
          let h : suc p + j ≡ p + n = omega arith in
          record {
            items = x ∷ a.items;
            joins = sym (append_assoc before (x ∷ []) a.items) ∙ ap (λ y. y ++ a.items) f ∙ a.joins;
            stand = sequence_from (sym (add-zero p)) refl (one b (sequence_from g h a.stand));
          }

      go : (passes : Bool) → eqb t.class c ≡ passes
          → turned passes before (added item before t) (λ b m. loop (λ d. eqb d c) (added item) b m us) us ≡ read all n → Rest → Added before all (p + 0) (p + n)
      go false w e k = record { items = []; joins = append-nil before ∙ read_tree e; stand = sequence_from refl (ap (λ k. p + k) (read_count e)) over }
      go true w e k = turn (eqb-true t.class c w) (added item before t us) refl e k

  -- what `many` reads stands item after item
  pub many_sequence : {p : ℕ} {xs : List A} {n : ℕ} → many c item (drop p ts) ≡ read xs n → Sequence ts c item p (p + n) xs
  unfolding many
  many_sequence {p} {xs} {n} e =
      let a = loop_adds (drop p ts) p 0 refl [] xs n e in
      subst (λ (ys : List A). Sequence ts c item p (p + n) ys) a.joins (sequence_from (add-zero p) refl a.stand)
