-- Where the parts of an entity stand among the tokens, and what their columns say.
use Prim.Native.Nat.{ℕ, suc, ◌+◌, ◌≤◌}
use native.Mathlib.Omega.{arith}
use mathlib.Core.Path.{◌≡◌, refl, sym, ap, ◌∙◌, subst}
use mathlib.Core.Bool.{Bool, true, false}
use mathlib.Core.List.{List}
use mathlib.Core.Option.{some}
use lib.Dec.{eqb}
use lib.ListN.{get_or, get_elem?, drop}
use borrow.Author.Tests.{eq-eqb}
use Rattle.text.specs.definitions.Tokens.{Token, NAME, WHOLE_NUMBER, REAL_NUMBER, ENTITY, TRUE, FALSE, BRACE_OPEN, BRACE_CLOSE, COLON, EQUALS, MINUS}
use Rattle.text.specs.definitions.Syntax.{Literal, truth, whole_number, real_number, literal_kind, Assignment, Entity}
use Rattle.text.specs.definitions.Readers.{read, Parser, give, expect, pick, next_is, if_next, and_then, many}
use Rattle.text.specs.definitions.Grammar.{name_of, number_reader, literal_reader, assignment_after, entity_after}
use Rattle.text.proofs.laws.TreeLaws.{read_tree}
use Rattle.text.proofs.laws.SpotLaws.{read_count, Starts, expect_starts, and_then_parts}
use Rattle.checking.specs.inner_contracts.Directory.{ColumnsOf, Named, Begins}
use Rattle.checking.specs.inner_contracts.Kinds.{literal_class}
use Rattle.checking.specs.inner_contracts.Sequences.{Sequence}
use Rattle.checking.specs.inner_contracts.DeclarationWalk.{literal_end, BodyOf}
use Rattle.checking.proofs.laws.SequenceLaws.{many_sequence}

-- what is read by a choice is read by one of the two
pub by_next : {A X : Type 0} (c : ℕ) (r s : Parser A) (us : List Token) {a : A} {n : ℕ} → if_next c r s us ≡ read a n → (r us ≡ read a n → X)
    → (s us ≡ read a n → X) → X
unfolding if_next pick
by_next {A} {X} c r s us {a} {n} e f g = go (next_is c us) e
  where
    go : (b : Bool) → pick b r s us ≡ read a n → X
    go true h = f h
    go false h = g h

-- ---- a literal

-- a literal of one token
record Plain (classes : List ℕ) (p : ℕ) (l : Literal) (n : ℕ) : Type 0 where
  count : n ≡ 1
  unsigned : eqb (get_or classes p 0) MINUS ≡ false
  kind : literal_class (get_or classes p 0) ≡ literal_kind l

-- a literal of n tokens, and the class of the last
pub record LiteralOf (classes : List ℕ) (p : ℕ) (l : Literal) (n : ℕ) : Type 0 where
  pub next : literal_end classes p + 1 ≡ p + n
  pub onward : p ≤ literal_end classes p
  pub kind : literal_class (get_or classes (literal_end classes p) 0) ≡ literal_kind l

plain_literal : {classes : List ℕ} {p : ℕ} {l : Literal} {n : ℕ} → Plain classes p l n → LiteralOf classes p l n
unfolding literal_end
plain_literal {classes} {p} h =
    let e : literal_end classes p ≡ p = rw (h.unsigned, literal_end) in
    record { next = ap (λ k. k + 1) e ∙ ap (λ k. p + k) (sym h.count); onward = omega arith; kind = rw e h.kind }

signed_literal : {classes : List ℕ} {p : ℕ} {l : Literal} {n m : ℕ} → get_or classes p 0 ≡ MINUS → Plain classes (suc p) l m → suc m ≡ n
    → LiteralOf classes p l n
unfolding literal_end
signed_literal {classes} {p} c h i =
    let e : literal_end classes p ≡ p + 1 = rw (eq-eqb (get_or classes p 0) MINUS c, literal_end) in
    let f : suc p ≡ p + 1 = omega arith in
    let z = h.count in
    record { next = omega arith; onward = omega arith; kind = rw e (rw f at h.kind) }

module _ {text classes offsets lengths : List ℕ} {ts : List Token} (columns : ColumnsOf text classes offsets lengths ts) where
  one_token : (c p : ℕ) (make : Token → Literal) {l : Literal} {n : ℕ} → eqb c MINUS ≡ false
      → ((t : Token) → literal_class c ≡ literal_kind (make t)) → expect c (λ t. give (make t)) (drop p ts) ≡ read l n → Plain classes p l n
  unfolding give
  one_token c p make {l} {n} u k e = go (expect_starts ts p c (λ t. give (make t)) l n e)
    where
      go : (s : Starts ts p c (λ t. give (make t)) l) × (suc s.used ≡ n) → Plain classes p l n
      go (s, i) =
          let f : get_or classes p 0 ≡ c = sym (columns.class p s.token s.stands) ∙ s.class in
          let z : 0 ≡ s.used = read_count s.reads in
          record { count = omega arith; unsigned = rw f u; kind = rw f (k s.token ∙ ap literal_kind (read_tree s.reads)) }

  number_stands : (negative : Bool) (p : ℕ) {l : Literal} {n : ℕ} → number_reader negative (drop p ts) ≡ read l n → Plain classes p l n
  unfolding number_reader literal_class literal_kind
  number_stands negative p {l} {n} e =
      by_next WHOLE_NUMBER (expect WHOLE_NUMBER λ t. give (whole_number negative t.value))
      (expect REAL_NUMBER λ t. give (real_number negative t.value)) (drop p ts) e
      (one_token WHOLE_NUMBER p (λ t. whole_number negative t.value) refl (λ t. refl))
      (one_token REAL_NUMBER p (λ t. real_number negative t.value) refl (λ t. refl))

  pub literal_stands : (p : ℕ) {l : Literal} {n : ℕ} → literal_reader (drop p ts) ≡ read l n → LiteralOf classes p l n
  unfolding literal_reader literal_class literal_kind
  literal_stands p {l} {n} e =
      by_next TRUE (expect TRUE λ t. give (truth true)) (if_next FALSE (expect FALSE λ t. give (truth false)) signed_or_number) (drop p ts) e
      (λ h. plain_literal (one_token TRUE p (λ t. truth true) refl (λ t. refl) h)) λ e.
      by_next FALSE (expect FALSE λ t. give (truth false)) signed_or_number (drop p ts) e
      (λ h. plain_literal (one_token FALSE p (λ t. truth false) refl (λ t. refl) h)) λ e.
      by_next MINUS (expect MINUS λ t. number_reader true) (number_reader false) (drop p ts) e
      (λ h. signed (expect_starts ts p MINUS (λ t. number_reader true) l n h)) λ h.
      plain_literal (number_stands false p h)
    where
      signed_or_number : Parser Literal
      signed_or_number = if_next MINUS (expect MINUS λ t. number_reader true) (number_reader false)

      signed : (s : Starts ts p MINUS (λ t. number_reader true) l) × (suc s.used ≡ n) → LiteralOf classes p l n
      signed (s, i) = signed_literal (sym (columns.class p s.token s.stands) ∙ s.class) (number_stands true (suc p) s.reads) i

-- ---- an assignment

pub record AssignmentAt (classes offsets : List ℕ) (ts : List Token) (q : ℕ) (a : Assignment) (used : ℕ) : Type 0 where
  pub named : Named ts q a.name
  pub equals : get_or offsets (q + 1) 0 ≡ a.equals_at
  pub next : literal_end classes (q + 2) + 1 ≡ q + 1 + used
  pub onward : q + 2 ≤ literal_end classes (q + 2)
  pub kind : literal_class (get_or classes (literal_end classes (q + 2)) 0) ≡ literal_kind a.literal

module _ {text classes offsets lengths : List ℕ} {ts : List Token} (columns : ColumnsOf text classes offsets lengths ts) where
  pub assignment_stands : {q : ℕ} {a : Assignment} (b : Begins ts q NAME assignment_after a) → AssignmentAt classes offsets ts q a b.used
  unfolding assignment_after give
  assignment_stands {q} {a} b = by_equals (expect_starts ts (q + 1) EQUALS tail a b.used b.reads)
    where
      make : Token → Literal → Assignment
      make e l = record { name = name_of b.token; equals_at = e.at; literal = l }

      tail : Token → Parser Assignment
      tail e = and_then literal_reader λ l. give (make e l)

      by_literal : (e : Token) (n : ℕ) → get_elem? ts (q + 1) ≡ some e → suc n ≡ b.used
          → (l : Literal) × (m : ℕ) × (literal_reader (drop (suc (q + 1)) ts) ≡ read l m) × (j : ℕ)
          × (give (make e l) (drop (suc (q + 1) + m) ts) ≡ read a j) × (m + j ≡ n)
          → AssignmentAt classes offsets ts q a b.used
      by_literal e n s i (l, m, d, j, g, k) =
          let f : suc (q + 1) ≡ q + 2 = omega arith in
          let h : LiteralOf classes (q + 2) l m = literal_stands columns (q + 2) (rw f at d) in
          let z : 0 ≡ j = read_count g in
          let t : make e l ≡ a = read_tree g in
          record {
            named = record { token = b.token; stands = b.stands; is = ap (λ x. x.name) t };
            equals = sym (columns.offset (q + 1) e s) ∙ ap (λ x. x.equals_at) t;
            next = omega (arith, h.next);
            onward = h.onward;
            kind = h.kind ∙ ap (λ x. literal_kind x.literal) t;
          }

      by_equals : (s : Starts ts (q + 1) EQUALS tail a) × (suc s.used ≡ b.used) → AssignmentAt classes offsets ts q a b.used
      by_equals (s, i) =
          by_literal s.token s.used s.stands i
          (and_then_parts ts (suc (q + 1)) literal_reader (λ l. give (make s.token l)) a s.used s.reads)

-- ---- an entity

-- the name of the interface, and what stands after the `{`
pub record EntityAt (ts : List Token) (p : ℕ) (x : Entity) : Type 0 where
  pub interface : Named ts (p + 3) x.interface
  pub body : BodyOf ts (p + 5) x

pub entity_stands : {ts : List Token} {p : ℕ} {x : Entity} → Begins ts p ENTITY entity_after x → EntityAt ts p x
unfolding entity_after give
entity_stands {ts} {p} {x} b = by_name (expect_starts ts (p + 1) NAME after_name x b.used b.reads).0
  where
    make : Token → Token → List Assignment → Token → Entity
    make n i set c = record { at = b.token.at; name = name_of n; interface = name_of i; assignments = set; close_at = c.at }

    close : Token → Token → List Assignment → Parser Entity
    close n i set = expect BRACE_CLOSE λ c. give (make n i set c)

    assignments : Token → Token → Token → Parser Entity
    assignments n i o = and_then (many NAME assignment_after) λ set. close n i set

    after_interface : Token → Token → Parser Entity
    after_interface n i = expect BRACE_OPEN (assignments n i)

    after_colon : Token → Token → Parser Entity
    after_colon n t = expect NAME (after_interface n)

    after_name : Token → Parser Entity
    after_name n = expect COLON (after_colon n)

    by_close : (n i : Token) (set : List Assignment) (q : ℕ) → get_elem? ts (suc (suc (p + 1))) ≡ some i → Sequence ts NAME assignment_after (p + 5) q set
        → Starts ts q BRACE_CLOSE (λ c. give (make n i set c)) x → EntityAt ts p x
    by_close n i set q stands seq s =
        let t : make n i set s.token ≡ x = read_tree s.reads in
        let e : suc (suc (p + 1)) ≡ p + 3 = omega arith in
        record {
          interface = record { token = i; stands = rw e at stands; is = ap (λ y. y.interface) t };
          body = record {
            close = q;
            set = subst (λ (y : Entity). Sequence ts NAME assignment_after (p + 5) q y.assignments) t seq;
            closing = s.token;
            stands = s.stands;
            class = s.class;
            offset = ap (λ y. y.close_at) t;
          };
        }

    by_body : (n i : Token) → get_elem? ts (suc (suc (p + 1))) ≡ some i → (used : ℕ)
        → (set : List Assignment) × (m : ℕ) × (many NAME assignment_after (drop (suc (suc (suc (suc (p + 1))))) ts) ≡ read set m) × (j : ℕ)
        × (close n i set (drop (suc (suc (suc (suc (p + 1)))) + m) ts) ≡ read x j) × (m + j ≡ used)
        → EntityAt ts p x
    by_body n i stands used (set, m, d, j, g, k) =
        let e : suc (suc (suc (suc (p + 1)))) ≡ p + 5 = omega arith in
        by_close n i set (p + 5 + m) stands (many_sequence ts NAME assignment_after (rw e at d))
        (expect_starts ts (p + 5 + m) BRACE_CLOSE (λ c. give (make n i set c)) x j (rw e at g)).0

    by_open : (n i : Token) → get_elem? ts (suc (suc (p + 1))) ≡ some i → Starts ts (suc (suc (suc (p + 1)))) BRACE_OPEN (assignments n i) x → EntityAt ts p x
    by_open n i stands s =
        by_body n i stands s.used
        (and_then_parts ts (suc (suc (suc (suc (p + 1))))) (many NAME assignment_after) (close n i) x s.used s.reads)

    by_interface : (n : Token) → Starts ts (suc (suc (p + 1))) NAME (after_interface n) x → EntityAt ts p x
    by_interface n s =
        by_open n s.token s.stands
        (expect_starts ts (suc (suc (suc (p + 1)))) BRACE_OPEN (assignments n s.token) x s.used s.reads).0

    by_colon : (n : Token) → Starts ts (suc (p + 1)) COLON (after_colon n) x → EntityAt ts p x
    by_colon n s = by_interface n (expect_starts ts (suc (suc (p + 1))) NAME (after_interface n) x s.used s.reads).0

    by_name : Starts ts (p + 1) NAME after_name x → EntityAt ts p x
    by_name s = by_colon s.token (expect_starts ts (suc (p + 1)) COLON (after_colon s.token) x s.used s.reads).0
