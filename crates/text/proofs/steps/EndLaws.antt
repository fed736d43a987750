-- Where the parser ends a reading, the walk of its reader ends.
use Prim.Native.Nat.{ℕ, suc, ◌+◌}
use mathlib.Core.Path.{◌≡◌, refl, sym, ap, ◌∙◌, subst}
use mathlib.Core.List.{List, [], ◌∷◌}
use mathlib.Core.Option.{some}
use native.Mathlib.Omega.{arith}
use lib.ListN.{length, get_or, get_elem?, drop}
use Rattle.std.specs.Prelude.{Result, Ok, Err}
use Rattle.std.specs.Result.{result_unwrap_or}
use Rattle.text.specs.declared.grammar.Unfit.{Unfit}
use Rattle.text.specs.definitions.Tokens.{Token}
use Rattle.text.specs.definitions.Readers.{Parse, read, unfit_after, Parser}
use Rattle.text.specs.inner_contracts.ParseAnswers.{Parsed, Next, Refused, classes_of, parse_answer, answer_from, ReadsAs, ReadsFrom}
use Rattle.text.specs.inner_contracts.Walks.{Rows, meant, vain, MeansAt, Walks, ReadThere, Ends}
use Rattle.text.proofs.laws.CodeReaderLaws.{reads_onward}
use Rattle.text.proofs.laws.WalkLaws.{walk_yields}

-- what is refused has no next token
pub refused_not_next : {p : Parsed} {i j : ℕ} → p ≡ Refused j → p ≡ Next i → ⊥
refused_not_next r e = let z : ◌≡◌ {A = ℕ} 0 1 = cc in absurd (omega arith)

pub next_same : {p : Parsed} {i j : ℕ} → p ≡ Next i → p ≡ Next j → i ≡ j
next_same {p} {i} {j} e q =
    let k : Next i ≡ Next j = sym e ∙ q in
    cc

-- tokens that have the classes of a column one by one have them all
column_of : (ts : List Token) (cs : List ℕ) → length ts ≡ length cs
    → ((i : ℕ) (t : Token) → get_elem? ts i ≡ some t → t.class ≡ get_or cs i 0) → classes_of ts ≡ cs
column_of [] [] n f = refl
column_of [] (c ∷ cs) n f = absurd (omega arith)
column_of (t ∷ ts) [] n f = absurd (omega arith)
column_of (t ∷ ts) (c ∷ cs) n f =
    let e : t.class ≡ c = f 0 t refl in
    rw (e, column_of ts cs (omega arith) (λ i u q. f (suc i) u q))

pub row_classes : {classes : List ℕ} (w : Rows classes) → classes_of w.tokens ≡ classes
row_classes {classes} w = column_of w.tokens classes w.count w.class

module _ {A : Type 0} {classes : List ℕ} {r : Parser A} {at next : ℕ} where
  read_there : (w : Rows classes) → ((a : A) (n : ℕ) → r (drop at w.tokens) ≡ read a n → next ≡ at + n) → MeansAt w (ReadThere r at next w) r at tt next
  read_there w f = go (r (drop at w.tokens)) refl
    where
      go : (p : Parse A) → r (drop at w.tokens) ≡ p → MeansAt w (ReadThere r at next w) r at tt next
      go (read a n) e = rw e (meant (λ i. record { used = n; reads = e; ends = f a n e }) (f a n e))
      go (unfit_after n) e = rw e vain

  -- a walk that gives more
  pub walk_ends : {R : Type 0} {yields : Rows classes → A → R → Type 0} {v : R} → Walks (λ w. w) yields r at v next → Ends classes r at next
  walk_ends h = record { onward = h.onward; means = λ w l. read_there w (λ a n e. (walk_yields h w l e).1) }

  -- by the parser
  pub read_ends : ReadsAs classes r (Next at) (Next next) → Ends classes r at next
  unfolding answer_from parse_answer
  read_ends h = record {
    onward = reads_onward h;
    means = λ w l. read_there w λ a n e. let i = h.told w.tokens (row_classes w) ∙ ap (parse_answer at) e in cc;
  }

-- which walks nothing where it refuses
pub refused_ends : {A : Type 0} {classes : List ℕ} {r : Parser A} {at n : ℕ} → ReadsAs classes r (Next at) (Refused n) → Ends classes r at at
unfolding answer_from parse_answer
refused_ends {at = at} h = record {
  onward = omega arith;
  means = λ w l. read_there w λ a n e.
      let i = h.told w.tokens (row_classes w) ∙ ap (parse_answer at) e in
      let z : ◌≡◌ {A = ℕ} 0 1 = cc in
      absurd (omega arith);
}

-- by the parser's answer
pub answer_ends : {A : Type 0} {classes : List ℕ} {r : Parser A} {at : ℕ} (x : Result ℕ Unfit) {next : ℕ} → ReadsFrom classes r at x → next ≡ result_unwrap_or x at
    → Ends classes r at next
answer_ends {classes = classes} {r = r} {at = at} (Ok n) h e = subst (λ m. Ends classes r at m) (sym e) (read_ends h)
answer_ends {classes = classes} {r = r} {at = at} (Err u) h e = subst (λ m. Ends classes r at m) (sym e) (refused_ends h)
