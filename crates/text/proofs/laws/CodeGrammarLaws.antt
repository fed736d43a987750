-- Laws of the grammar's readers in code where one combinator is not enough: by how many openers may come, and what a file's answer says.
use Prim.Native.Nat.{ℕ, zero, suc, ◌+◌, ◌-◌, ◌≤◌, ◌<◌}
use mathlib.Core.Path.{◌≡◌, refl, sym, ◌∙◌, ap, subst}
use mathlib.Core.List.{List, [], ◌∷◌}
use mathlib.Core.Bool.{Bool, true, false, ◌||◌}
use mathlib.Core.Option.{none}
use native.Mathlib.Nat.{zero-add}
use native.Mathlib.Omega.{arith}
use lib.Dec.{eqb}
use lib.ListN.{length, drop, length-drop, drop_of_length-le}
use borrow.Author.Tests.{eqb-true}
use Rattle.std.specs.Prelude.{Result, Ok, Err}
use Rattle.text.specs.declared.grammar.Unfit.{Unfit}
use Rattle.text.specs.definitions.Tokens.{Token, NAME, TRUE, FALSE, WHOLE_NUMBER, REAL_NUMBER, ROUND_OPEN, ROUND_CLOSE}
use Rattle.text.specs.definitions.Syntax.{Name, Expression, literal, truth, Target, Condition, clause, changed, Call, File}
use Rattle.text.specs.definitions.Readers.{Parse, read, unfit_after, Parser, give, halt, expect}
use Rattle.text.specs.definitions.Grammar.{
  number_reader,
  member_reader,
  simple_or,
  opener_reader,
  factor_reader,
  clause_reader,
  atom_reader,
  condition_reader,
  file_reader,
}
use Rattle.text.specs.definitions.Parse.{ungrammatical_at, offset_of, ended, parsed, parse}
use Rattle.text.specs.inner_contracts.EnumAnswers.{parsing_answer}
use Rattle.text.specs.inner_contracts.ParseAnswers.{
  Parsed,
  Next,
  Refused,
  classes_of,
  parse_answer,
  answer_from,
  ReadsAs,
  is_unsigned,
  Passes,
  MakesFile,
  UnfitAt,
  Agrees,
  outcome_answer,
  ParsesAs,
}
use Rattle.text.proofs.laws.ReaderLaws.{count}
use Rattle.text.proofs.laws.PredictiveLaws.{parses_bounded}
use Rattle.text.proofs.laws.GrammarLaws.{file_parses}
use Rattle.text.proofs.laws.CodeReaderLaws.{
  same_length,
  and_then_answers,
  and_give_answers,
  expect_answers,
  give_answers,
  halt_answers,
  Sees,
  SeesNot,
  seen_other,
  seen_answers,
  unpassed,
  passes_seen,
  if_next_answers,
  chosen_answers,
  if_not_answers,
}

-- trees, where it matters not which
abbrev some_name : Name
some_name = record { bytes = []; at = 0 }

abbrev pub some_expression : Expression
some_expression = literal (truth true)

abbrev pub some_target : Target
some_target = record { name = some_name; declares = none }

abbrev pub some_condition : Condition
some_condition = clause (record { at = 0; event = some_name; target = some_target; filter = none; test = changed })

abbrev pub some_call : Call
some_call = record { at = 0; action = some_name; open_at = 0; parameter = some_expression; target = some_target; filter = none }

-- a literal without sign, by its class
by_unsigned : (P : ℕ → Type 0) (c : ℕ) → is_unsigned c ≡ true → P TRUE → P FALSE → P WHOLE_NUMBER → P REAL_NUMBER → P c
unfolding is_unsigned
by_unsigned P c e t f w r =
    let for : (d : ℕ) → P d → eqb c d ≡ true → P c = λ d h k. subst P (sym (eqb-true c d k)) h in
    either_way (eqb c TRUE || eqb c FALSE) (eqb c WHOLE_NUMBER || eqb c REAL_NUMBER) e
    (λ e. either_way (eqb c TRUE) (eqb c FALSE) e (for TRUE t) (for FALSE f))
    (λ e. either_way (eqb c WHOLE_NUMBER) (eqb c REAL_NUMBER) e (for WHOLE_NUMBER w) (for REAL_NUMBER r))
  where
    either_way : {Q : Type 0} (a b : Bool) → (a || b) ≡ true → (a ≡ true → Q) → (b ≡ true → Q) → Q
    either_way true b e f g = f refl
    either_way false b e f g = g e

module _ {cs : List ℕ} {at : ℕ} where
  module _ {q : Parsed} where
    -- a factor that is no opener is read whatever may come
    factor_simple : (depth : ℕ) → ((other : Parser Expression) → ReadsAs cs (simple_or other) (Next at) q) → ReadsAs cs (factor_reader depth) (Next at) q
    unfolding factor_reader
    factor_simple zero h = h halt
    factor_simple (suc left) h = h (opener_reader (factor_reader left))

    pub factor_name : (depth : ℕ) → Sees cs at NAME → ReadsAs cs member_reader (Next at) q
        → ReadsAs cs (factor_reader depth) (Next at) q
    unfolding simple_or
    factor_name depth n h = factor_simple depth λ other. if_next_answers n _ h

  -- a literal without sign is one token
  pub factor_unsigned : (depth : ℕ) → Passes cs at is_unsigned true → ReadsAs cs (factor_reader depth) (Next at) (Next (at + 1))
  unfolding simple_or number_reader
  factor_unsigned depth n = factor_simple depth λ other.
      by_unsigned (λ c. Sees cs at c → ReadsAs cs (simple_or other) (Next at) (Next (at + 1))) (passes_seen n).0 (passes_seen n).2
      (λ s. if_not_answers (seen_other s (λ e. omega arith)) _ (chosen_answers s _ λ t. give_answers _ _))
      (λ s. if_not_answers (seen_other s (λ e. omega arith)) _ (if_not_answers (seen_other s (λ e. omega arith)) _ (chosen_answers s _ λ t. give_answers _ _)))
      (λ s. if_not_answers (seen_other s (λ e. omega arith)) _ (if_not_answers (seen_other s (λ e. omega arith)) _ (if_not_answers (seen_other s (λ e. omega arith)) _
      (if_next_answers s _ (and_give_answers (chosen_answers s _ λ t. give_answers _ _) _)))))
      (λ s. if_not_answers (seen_other s (λ e. omega arith)) _ (if_not_answers (seen_other s (λ e. omega arith)) _ (if_not_answers (seen_other s (λ e. omega arith)) _
      (if_not_answers (seen_other s (λ e. omega arith)) _
      (if_next_answers s _ (and_give_answers (if_not_answers (seen_other s (λ e. omega arith)) _ (expect_answers REAL_NUMBER (seen_answers s) λ t. give_answers _ _)) _))))))
      (passes_seen n).1

  module _ {q : Parsed} (a : SeesNot cs at NAME) (n : Passes cs at is_unsigned false) where
    -- only an opener is left
    simple_lacks : (other : Parser Expression) → ReadsAs cs other (Next at) q → ReadsAs cs (simple_or other) (Next at) q
    unfolding simple_or is_unsigned
    simple_lacks other h =
        if_not_answers a _ (if_not_answers (unpassed n TRUE refl) _ (if_not_answers (unpassed n FALSE refl) _
        (if_not_answers (unpassed n WHOLE_NUMBER refl) _ (if_not_answers (unpassed n REAL_NUMBER refl) _ h))))

    pub factor_opens : (depth : ℕ) → (depth ≡ 0 → ⊥) → ReadsAs cs (opener_reader (factor_reader (depth - 1))) (Next at) q
        → ReadsAs cs (factor_reader depth) (Next at) q
    unfolding factor_reader
    factor_opens zero z h = absurd (z refl)
    factor_opens (suc left) z h = let k : suc left - 1 ≡ left = omega arith in simple_lacks (opener_reader (factor_reader left)) (rw k at h)

  pub factor_halts : {depth : ℕ} → SeesNot cs at NAME → Passes cs at is_unsigned false → depth ≡ 0 → ReadsAs cs (factor_reader depth) (Next at) (Refused at)
  unfolding factor_reader
  factor_halts a n z = rw z (simple_lacks a n halt (halt_answers at))

  -- an atom is a clause where no opener may come or none comes
  module _ {q : Parsed} where
    pub atom_halts : {depth : ℕ} → depth ≡ 0 → ReadsAs cs (clause_reader depth) (Next at) q → ReadsAs cs (atom_reader depth) (Next at) q
    unfolding atom_reader
    atom_halts e h = rw e (rw e at h)

    pub atom_lacks : (depth : ℕ) → (depth ≡ 0 → ⊥) → SeesNot cs at ROUND_OPEN → ReadsAs cs (clause_reader depth) (Next at) q
        → ReadsAs cs (atom_reader depth) (Next at) q
    unfolding atom_reader
    atom_lacks zero z e h = absurd (z refl)
    atom_lacks (suc left) z e h = if_not_answers e _ h

    pub atom_opens : {v : Parsed} (depth : ℕ) → (depth ≡ 0 → ⊥) → Sees cs at ROUND_OPEN → ReadsAs cs (condition_reader (depth - 1)) (Next (at + 1)) v
        → ReadsAs cs (expect ROUND_CLOSE give) v q → ReadsAs cs (atom_reader depth) (Next at) q
    unfolding atom_reader condition_reader
    atom_opens zero z e i o = absurd (z refl)
    atom_opens (suc left) z e i o =
        let k : suc left - 1 ≡ left = omega arith in
        chosen_answers e _ λ t. and_then_answers (rw k at i) some_condition λ c. expect_answers ROUND_CLOSE o λ t. give_answers _ _

-- an answer that says enough of the tokens has document 01's number
module _ {cs : List ℕ} where
  answers_unfit : {u : Unfit} → ((ts : List Token) → classes_of ts ≡ cs → UnfitAt ts u.at) → ParsesAs cs (Err u)
  unfolding Agrees parsing_answer outcome_answer
  answers_unfit h = record { answered = λ ts e end. rw ((h ts e).parses end); told = h }

  answers_file : ((ts : List Token) → classes_of ts ≡ cs → MakesFile ts) → ParsesAs cs (Ok tt)
  unfolding Agrees parsing_answer outcome_answer
  answers_file h = record { answered = λ ts e end. rw ((h ts e).parses end); told = h }

-- what a file's answer says of the tokens
module _ {cs : List ℕ} where
  pub file_refused : {u : Unfit} → ReadsAs cs file_reader (Next 0) (Refused u.at) → ParsesAs cs (Err u)
  unfolding Agrees answer_from parse_answer parse parsed count
  file_refused {u} h = answers_unfit λ ts e. on ts (file_reader ts) refl (h.told ts e)
    where
      on : (ts : List Token) (x : Parse File) → file_reader ts ≡ x → Refused u.at ≡ parse_answer 0 x → UnfitAt ts u.at
      on ts (read f n) e i = let z : ◌≡◌ {A = ℕ} 0 1 = cc in absurd (omega arith)
      on ts (unfit_after n) e i =
          let k : u.at ≡ n = cc (zero-add n) in
          record {
            within = omega (arith, rw e at ((parses_bounded file_parses).bound ts));
            parses = λ end. rw (k, e);
          }

  pub file_left : {u : Unfit} → ReadsAs cs file_reader (Next 0) (Next u.at) → u.at < length cs → ParsesAs cs (Err u)
  unfolding Agrees answer_from parse_answer parse parsed ended offset_of
  file_left {u} h l = answers_unfit λ ts e. on ts (file_reader ts) refl (h.told ts e) (same_length cs ts e)
    where
      left : (end : ℕ) (f : File) (us : List Token) → 0 < length us → ended end f us ≡ ungrammatical_at (offset_of end us)
      left end f [] l = absurd (omega arith)
      left end f (t ∷ ts) l = refl

      on : (ts : List Token) (x : Parse File) → file_reader ts ≡ x → Next u.at ≡ parse_answer 0 x → length ts ≡ length cs → UnfitAt ts u.at
      on ts (unfit_after n) e i j = let z : ◌≡◌ {A = ℕ} 0 1 = cc in absurd (omega arith)
      on ts (read f n) e i j =
          let k : u.at ≡ n = cc (zero-add n) in
          record { within = omega arith; parses = λ end. rw (k, e) (left end f (drop n ts) (omega (arith, length-drop n ts))) }

  pub file_whole : {at : ℕ} → ReadsAs cs file_reader (Next 0) (Next at) → length cs ≤ at → ParsesAs cs (Ok tt)
  unfolding Agrees answer_from parse_answer parse parsed ended count
  file_whole {at} h l = answers_file λ ts e. on ts (file_reader ts) refl (h.told ts e) (same_length cs ts e)
    where
      on : (ts : List Token) (x : Parse File) → file_reader ts ≡ x → Next at ≡ parse_answer 0 x → length ts ≡ length cs → MakesFile ts
      on ts (unfit_after n) e i j = let z : ◌≡◌ {A = ℕ} 0 1 = cc in absurd (omega arith)
      on ts (read f n) e i j =
          let k : at ≡ n = cc (zero-add n) in
          let m : n ≡ length ts = omega (arith, rw e at ((parses_bounded file_parses).bound ts)) in
          record { file = f; reads = e ∙ ap (read f) m; parses = λ end. rw (e, drop_of_length-le ts {i = n} (omega arith)) }

-- for callers, by the answer
module _ {cs : List ℕ} {r : Result (Unit {0}) Unfit} (h : ParsesAs cs r) (ts : List Token) (e : classes_of ts ≡ cs) where
  pub file_made : r ≡ Ok tt → MakesFile ts
  unfolding Agrees
  file_made i = subst (Agrees ts) i (h.told ts e)

  pub token_unfit : {u : Unfit} → r ≡ Err u → UnfitAt ts u.at
  unfolding Agrees
  token_unfit i = subst (Agrees ts) i (h.told ts e)
