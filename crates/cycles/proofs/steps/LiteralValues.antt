-- The value of a literal, by the classes and values of its tokens.
use Prim.Native.Nat.{ℕ, suc, ◌+◌, ◌≤◌}
use native.Mathlib.Omega.{arith}
use mathlib.Core.Path.{◌≡◌, sym, ap, ◌∙◌}
use mathlib.Core.Bool.{Bool, true, false}
use mathlib.Core.List.{List}
use lib.ListN.{length, get_or, drop, get_or-eq_default}
use Rattle.values.specs.declared.Value.{Value}
use Rattle.values.specs.declared.Value.TheVariants.{Truth}
use Rattle.text.specs.definitions.Tokens.{Token, WHOLE_NUMBER, REAL_NUMBER, TRUE, FALSE, MINUS}
use Rattle.text.specs.definitions.Syntax.{Literal, truth, whole_number, real_number, literal_value}
use Rattle.text.specs.definitions.Readers.{read, Parser, give, expect, if_next}
use Rattle.text.specs.definitions.Grammar.{number_reader, literal_reader}
use Rattle.text.proofs.laws.TreeLaws.{read_tree}
use Rattle.text.proofs.laws.SpotLaws.{Starts, expect_starts}
use Rattle.checking.proofs.laws.EntityTokens.{by_next}
use Rattle.cycles.specs.inner_contracts.FreshMemory.{LiteralColumns, NumberAt, LiteralAt}

-- ---- what was read

module _ {classes values : List ℕ} {ts : List Token} (columns : LiteralColumns classes values ts) where
  one_token : (c i : ℕ) (make : ℕ → Literal) {l : Literal} {n : ℕ} → expect c (λ t. give (make t.value)) (drop i ts) ≡ read l n
      → (get_or classes i 0 ≡ c) × (l ≡ make (get_or values i 0))
  unfolding give
  one_token c i make {l} {n} e = go (expect_starts ts i c (λ t. give (make t.value)) l n e).0
    where
      go : Starts ts i c (λ t. give (make t.value)) l → (get_or classes i 0 ≡ c) × (l ≡ make (get_or values i 0))
      go s = (
        sym (columns.class i s.token s.stands) ∙ s.class,
        sym (read_tree s.reads) ∙ ap make (columns.value i s.token s.stands),
      )

  number_reads : {X : Type 0} (negative : Bool) (i : ℕ) {l : Literal} {n : ℕ} → number_reader negative (drop i ts) ≡ read l n
      → (get_or classes i 0 ≡ WHOLE_NUMBER → l ≡ whole_number negative (get_or values i 0) → X)
      → (get_or classes i 0 ≡ REAL_NUMBER → l ≡ real_number negative (get_or values i 0) → X) → X
  unfolding number_reader
  number_reads negative i e f g =
      by_next WHOLE_NUMBER (expect WHOLE_NUMBER λ t. give (whole_number negative t.value))
      (expect REAL_NUMBER λ t. give (real_number negative t.value)) (drop i ts) e
      (λ h. let p = one_token WHOLE_NUMBER i (whole_number negative) h in f p.0 p.1)
      (λ h. let p = one_token REAL_NUMBER i (real_number negative) h in g p.0 p.1)

  literal_reads : {X : Type 0} (i : ℕ) {l : Literal} {n : ℕ} → literal_reader (drop i ts) ≡ read l n
      → (get_or classes i 0 ≡ TRUE → l ≡ truth true → X) → (get_or classes i 0 ≡ FALSE → l ≡ truth false → X)
      → (get_or classes i 0 ≡ MINUS → (m : ℕ) → number_reader true (drop (suc i) ts) ≡ read l m → X)
      → (number_reader false (drop i ts) ≡ read l n → X) → X
  unfolding literal_reader
  literal_reads {X} i {l} {n} e yes_true yes_false minus number =
      by_next TRUE (expect TRUE λ t. give (truth true)) (if_next FALSE (expect FALSE λ t. give (truth false)) signed_or_number) (drop i ts) e
      (λ h. let p = one_token TRUE i (λ v. truth true) h in yes_true p.0 p.1) λ e.
      by_next FALSE (expect FALSE λ t. give (truth false)) signed_or_number (drop i ts) e
      (λ h. let p = one_token FALSE i (λ v. truth false) h in yes_false p.0 p.1) λ e.
      by_next MINUS (expect MINUS λ t. number_reader true) (number_reader false) (drop i ts) e
      (λ h. signed (expect_starts ts i MINUS (λ t. number_reader true) l n h).0) number
    where
      signed_or_number : Parser Literal
      signed_or_number = if_next MINUS (expect MINUS λ t. number_reader true) (number_reader false)

      signed : Starts ts i MINUS (λ t. number_reader true) l → X
      signed s = minus (sym (columns.class i s.token s.stands) ∙ s.class) s.used s.reads

-- ---- what code finds

module _ {classes values : List ℕ} {i n : ℕ} (e : n ≡ get_or values i 0) {class : ℕ} (c : class ≡ get_or classes i 0) {negative : Bool} {v : Value} where
  pub number_whole : class ≡ WHOLE_NUMBER → v ≡ literal_value (whole_number negative n) → NumberAt classes values negative i v
  number_whole h q = record {
    is = λ ts columns l m r.
        number_reads columns negative i r (λ k p. q ∙ rw (e, p)) (λ k p. absurd (omega arith));
  }

  pub number_real : (class ≡ WHOLE_NUMBER → ⊥) → v ≡ literal_value (real_number negative n) → NumberAt classes values negative i v
  number_real h q = record {
    is = λ ts columns l m r.
        number_reads columns negative i r (λ k p. absurd (h (c ∙ k))) (λ k p. q ∙ rw (e, p));
  }

module _ {classes values : List ℕ} {i : ℕ} where
  -- no literal begins with a token of that class
  no_literal : (get_or classes i 0 ≡ TRUE → ⊥) → (get_or classes i 0 ≡ FALSE → ⊥) → (get_or classes i 0 ≡ MINUS → ⊥)
      → (get_or classes i 0 ≡ WHOLE_NUMBER → ⊥) → (get_or classes i 0 ≡ REAL_NUMBER → ⊥) → {v : Value} → LiteralAt classes values i v
  no_literal a b c d e = record {
    is = λ ts columns l n r.
        literal_reads columns i r (λ k p. absurd (a k)) (λ k p. absurd (b k)) (λ k m s. absurd (c k)) (λ s.
        number_reads columns false i s (λ k p. absurd (d k)) (λ k p. absurd (e k)));
  }

  pub literal_outside : length classes ≤ i → {v : Value} → LiteralAt classes values i v
  literal_outside h =
      let z = get_or-eq_default classes 0 h in
      no_literal (λ k. omega arith) (λ k. omega arith) (λ k. omega arith) (λ k. omega arith) (λ k. omega arith)

  pub literal_true : get_or classes i 0 ≡ TRUE → LiteralAt classes values i (Truth true)
  unfolding literal_value
  literal_true h = record {
    is = λ ts columns l n r.
        literal_reads columns i r (λ k p. rw p) (λ k p. absurd (omega arith)) (λ k m s. absurd (omega arith)) (λ s.
        number_reads columns false i s (λ k p. absurd (omega arith)) (λ k p. absurd (omega arith)));
  }

  pub literal_false : get_or classes i 0 ≡ FALSE → LiteralAt classes values i (Truth false)
  unfolding literal_value
  literal_false h = record {
    is = λ ts columns l n r.
        literal_reads columns i r (λ k p. absurd (omega arith)) (λ k p. rw p) (λ k m s. absurd (omega arith)) (λ s.
        number_reads columns false i s (λ k p. absurd (omega arith)) (λ k p. absurd (omega arith)));
  }

  pub literal_minus : get_or classes i 0 ≡ MINUS → {v : Value} → NumberAt classes values true (i + 1) v → LiteralAt classes values i v
  literal_minus h q =
      let e : suc i ≡ i + 1 = omega arith in
      record {
        is = λ ts columns l n r.
            literal_reads columns i r (λ k p. absurd (omega arith)) (λ k p. absurd (omega arith))
            (λ k m s. q.is ts columns l m (rw e at s)) (λ s.
            number_reads columns false i s (λ k p. absurd (omega arith)) (λ k p. absurd (omega arith)));
      }

  pub literal_number : (get_or classes i 0 ≡ TRUE → ⊥) → (get_or classes i 0 ≡ FALSE → ⊥) → (get_or classes i 0 ≡ MINUS → ⊥)
      → {v : Value} → NumberAt classes values false i v → LiteralAt classes values i v
  literal_number a b c q = record {
    is = λ ts columns l n r.
        literal_reads columns i r (λ k p. absurd (a k)) (λ k p. absurd (b k)) (λ k m s. absurd (c k)) (λ s. q.is ts columns l n s);
  }

-- by the class of the first token
pub ruleset literals_found = (literal_outside, literal_true, literal_false, literal_minus, literal_number)
