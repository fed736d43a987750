-- What the parser answers: it accepts the grammatical lists of tokens, and refuses where a list ceases to begin one.
use Prim.Native.Nat.{ℕ}
use mathlib.Core.Path.{◌≡◌, refl, sym, ◌∙◌, ap, subst}
use mathlib.Core.List.{List, [], ◌∷◌, ◌++◌, map-append, append-nil, cons≢nil}
use native.Mathlib.Omega.{arith}
use lib.ListN.{length, drop, length-append}
use lib.Seq.{drop-length}
use Rattle.text.specs.definitions.Tokens.{Token}
use Rattle.text.specs.definitions.Syntax.{File}
use Rattle.text.specs.definitions.Readers.{Parse, read, unfit_after}
use Rattle.text.specs.definitions.Grammar.{file_reader}
use Rattle.text.specs.definitions.Parse.{grammatical, ungrammatical_at, offset_of, ended, parsed, parse}
use Rattle.text.specs.definitions.Language.{file_language, Grammatical}
use Rattle.text.specs.definitions.Viable.{FirstUnfit}
use Rattle.text.proofs.laws.ReaderLaws.{count}
use Rattle.text.proofs.laws.LanguageLaws.{classes, sample, classes_sample, Clear}
use Rattle.text.proofs.laws.TraceLaws.{Fits, Trace, trace_result, trace_again, trace_rest}
use Rattle.text.proofs.laws.GrammarLaws.{file_parses}

words : (ts : List Token) → file_language (classes ts) → Grammatical ts
unfolding Grammatical
words ts w = w

-- a grammatical list is read whole
whole : (ts : List Token) → Grammatical ts → (f : File) × (file_reader ts ≡ read f (length ts))
unfolding Grammatical Clear
whole ts w =
    let u = file_parses.complete ts [] w tt in
    (u.tree, ap file_reader (sym (append-nil ts)) ∙ u.reads)

-- so what is refused, or not read whole, is not grammatical
refused_word : (n : ℕ) (ts : List Token) → file_reader ts ≡ unfit_after n → Grammatical ts → ⊥
refused_word n ts e w =
    let r = (whole ts w).1 in
    let z : ◌≡◌ {A = ℕ} 0 1 = cc in absurd (omega arith)

read_word : (f : File) (n : ℕ) (ts : List Token) → file_reader ts ≡ read f n → Grammatical ts → length ts ≡ n
read_word f n ts e w = let r = (whole ts w).1 in cc

-- by what is left after a file
ended_accepts : (end : ℕ) (f g : File) (rest : List Token) → ended end g rest ≡ grammatical f → rest ≡ []
unfolding ended
ended_accepts end f g [] e = refl
ended_accepts end f g (t ∷ ts) e = let z : ◌≡◌ {A = ℕ} 0 1 = cc in absurd (omega arith)

ended_refuses : (end at : ℕ) (g : File) (rest : List Token) → ended end g rest ≡ ungrammatical_at at → (offset_of end rest ≡ at) × ¬ (rest ≡ [])
unfolding ended offset_of
ended_refuses end at g [] e = let z : ◌≡◌ {A = ℕ} 0 1 = cc in absurd (omega arith)
ended_refuses end at g (t ∷ ts) e = (cc, cons≢nil)

pub accepts : (end : ℕ) (ts : List Token) → Grammatical ts → (f : File) × (parse end ts ≡ grammatical f)
unfolding parse parsed ended
accepts end ts w =
    let (f, e) = whole ts w in
    (f, ap (parsed end ts) e ∙ ap (ended end f) (drop-length ts))

-- where nothing is left, all was read
all_read : {p : Parse File} {ts : List Token} (t : Trace file_reader file_language ts p) → drop (count p) ts ≡ [] → t.front ≡ ts
all_read t e = sym (append-nil t.front) ∙ ap (λ l. t.front ++ l) (sym e ∙ trace_rest t) ∙ t.joins

pub accepted : (end : ℕ) (ts : List Token) (f : File) → parse end ts ≡ grammatical f → Grammatical ts
unfolding parse parsed Fits count
accepted end ts f e = go (file_reader ts) (file_parses.trace ts) e
  where
    go : (p : Parse File) → Trace file_reader file_language ts p → parsed end ts p ≡ grammatical f → Grammatical ts
    go (unfit_after n) t e = let z : ◌≡◌ {A = ℕ} 0 1 = cc in absurd (omega arith)
    go (read g n) t e = subst Grammatical (all_read t (ended_accepts end f g (drop n ts) e)) (words t.front t.fits)

-- a refused token, or the first that is left over after a whole file, is the first unfit one
module _ (end at : ℕ) (ts : List Token) where
  at_refused : (n : ℕ) → offset_of end (drop n ts) ≡ at → Trace file_reader file_language ts (unfit_after n) → FirstUnfit end ts at
  unfolding Fits count
  at_refused n e t = record {
    front = t.front;
    rest = t.rest;
    joins = t.joins;
    stands = ap (offset_of end) (sym (trace_rest t)) ∙ e;
    more = sample t.fits.0;
    begins = words (t.front ++ sample t.fits.0) (rw (map-append, classes_sample) t.fits.1);
    breaks = λ u others after h w. refused_word n (t.front ++ u ∷ after) (trace_again t u others after h) w;
    ends = λ h w. refused_word n ts (trace_result t) w;
  }

  at_left_over : (f : File) (n : ℕ) → ended end f (drop n ts) ≡ ungrammatical_at at → Trace file_reader file_language ts (read f n) → FirstUnfit end ts at
  unfolding Fits count
  at_left_over f n e t =
      let (stands, left) = ended_refuses end at f (drop n ts) e in
      record {
        front = t.front;
        rest = t.rest;
        joins = t.joins;
        stands = ap (offset_of end) (sym (trace_rest t)) ∙ stands;
        more = [];
        begins = rw append-nil (words t.front t.fits);
        breaks = λ u others after h w.
            let all : length (t.front ++ u ∷ after) ≡ n = read_word f n (t.front ++ u ∷ after) (trace_again t u others after h) w in
            omega (arith, t.counts, length-append t.front (u ∷ after));
        ends = λ h w. left (trace_rest t ∙ h);
      }

pub refuses : (end : ℕ) (ts : List Token) (at : ℕ) → parse end ts ≡ ungrammatical_at at → FirstUnfit end ts at
unfolding parse parsed
refuses end ts at e = go (file_reader ts) (file_parses.trace ts) e
  where
    go : (p : Parse File) → Trace file_reader file_language ts p → parsed end ts p ≡ ungrammatical_at at → FirstUnfit end ts at
    go (unfit_after n) t e = at_refused end at ts n (cc) t
    go (read f n) t e = at_left_over end at ts f n e t
