-- Laws of the readers in code, one for each combinator: from what the parts answer to what the whole answers.
use Prim.Native.Nat.{ℕ, zero, suc, ◌+◌, ◌≤◌, ◌<◌}
use mathlib.Core.Path.{◌≡◌, refl, sym, ◌∙◌, ap}
use mathlib.Core.List.{List, [], ◌∷◌}
use mathlib.Core.Bool.{Bool, true, false, false≢true}
use mathlib.Core.Logic.{◌⊎◌, inl, inr}
use native.Mathlib.Nat.{add-zero}
use native.Mathlib.Omega.{arith}
use lib.Dec.{eqb}
use lib.ListN.{length, drop, length-drop, length-map}
use lib.Seq.{drop-cons, drop-drop}
use borrow.Author.Tests.{eq-eqb, ne_eqb, eqb-true}
use Rattle.std.specs.Prelude.{Some, Result, Ok, Err, slice_get}
use Rattle.std.specs.Option.{option_eq}
use Rattle.std.proofs.lemmas.Option.{none-some}
use Rattle.text.specs.declared.grammar.Unfit.{Unfit}
use Rattle.text.specs.definitions.Tokens.{Token, TRUE, FALSE, WHOLE_NUMBER, REAL_NUMBER}
use Rattle.text.specs.definitions.Readers.{
  Parse,
  read,
  unfit_after,
  Parser,
  shift,
  give,
  halt,
  expected,
  expect,
  next_is,
  if_next,
  continued,
  and_then,
  loop,
  joined,
  chain,
  added,
  many,
}
use Rattle.text.specs.inner_contracts.ParseAnswers.{
  Parsed,
  Next,
  Refused,
  parsed_of,
  classes_of,
  parse_answer,
  answer_from,
  ReadsAs,
  ReadsFrom,
  any_token,
  classes_from,
  first_class,
  first_passes,
  is_class,
  is_either,
  is_unsigned,
  Passes,
  Repeats,
  none_begins,
  item_unfit,
  item_read,
}
use Rattle.text.proofs.laws.ReaderLaws.{expect_takes, expect_refuses, if_next_first, if_next_second, loop_ends, loop_stops, loop_turns}
use Rattle.text.proofs.laws.LanguageLaws.{sample, classes_sample}

-- a token, where it matters not which
abbrev pub some_token : Token
some_token = record { class = 0; at = 0; bytes = []; value = 0 }

drop_classes : (at : ℕ) (ts : List Token) → classes_of (drop at ts) ≡ drop at (classes_of ts)
drop_classes zero ts = refl
drop_classes (suc at) [] = refl
drop_classes (suc at) (t ∷ ts) = drop_classes at ts

pub same_length : (cs : List ℕ) (ts : List Token) → classes_of ts ≡ cs → length ts ≡ length cs
same_length cs ts e = sym (length-map ts _) ∙ ap length e

answer_shift : {A : Type 0} (at n : ℕ) (p : Parse A) → parse_answer at (shift n p) ≡ parse_answer (at + n) p
unfolding parse_answer shift
answer_shift at n (read a k) = let e : at + (n + k) ≡ at + n + k = omega arith in rw e
answer_shift at n (unfit_after k) = let e : at + (n + k) ≡ at + n + k = omega arith in rw e

-- one reader for another that makes the same of the tokens that are left
pub instead : {A : Type 0} {r s : Parser A} {cs : List ℕ} (p : Parsed) {q : Parsed} → ((us : List Token) → classes_of us ≡ classes_from cs p → s us ≡ r us)
    → ReadsAs cs s p q → ReadsAs cs r p q
unfolding answer_from classes_from
instead (Next at) same h = record {
  told = λ ts e. h.told ts e ∙ ap (parse_answer at) (same (drop at ts) (drop_classes at ts ∙ ap (drop at) e));
}
instead (Refused at) same h = record { told = h.told }

-- a reading leaves no more tokens than it found
pub tokens_left : {A : Type 0} {cs : List ℕ} {r : Parser A} {p q : Parsed} → ReadsAs cs r p q
    → length (classes_from cs q) ≤ length (classes_from cs p)
unfolding answer_from parse_answer classes_from
tokens_left {A} {cs} {r} {p} {q} h = on p (h.told (sample cs) (classes_sample cs))
  where
    part : (at : ℕ) (x : Parse A) → q ≡ parse_answer at x → length (classes_from cs q) ≤ length (drop at cs)
    part at (read a n) e = rw e (simp length-drop (omega arith))
    part at (unfit_after n) e = rw e (omega arith)

    on : (p : Parsed) → q ≡ answer_from p r (sample cs) → length (classes_from cs q) ≤ length (classes_from cs p)
    on (Next at) e = part at (r (drop at (sample cs))) e
    on (Refused at) e = rw e (omega arith)

module _ {A : Type 0} {cs : List ℕ} where
  pub give_answers : (a : A) (p : Parsed) → ReadsAs cs (give a) p p
  unfolding answer_from parse_answer give
  give_answers a (Next at) = record { told = λ ts e. ap Next (sym (add-zero at)) }
  give_answers a (Refused at) = record { told = λ ts e. refl }

  pub halt_answers : (at : ℕ) → ReadsAs cs (halt {A = A}) (Next at) (Refused at)
  unfolding answer_from parse_answer halt
  halt_answers at = record { told = λ ts e. ap Refused (sym (add-zero at)) }

  -- an answer that `?` passes on
  pub unfit : {r : Parser A} {p : Parsed} {u : Unfit} → ReadsAs cs r p (Refused u.at) → {x : Result ℕ Unfit} → x ≡ Err u → ReadsAs cs r p (parsed_of x)
  unfit h e = rw e h

  -- what was refused stays so, whatever was still to be read
  pub refused : {r : Parser A} {at : ℕ} → ReadsAs cs r (Refused at) (Refused at)
  unfolding answer_from
  refused = record { told = λ ts e. refl }

module _ {A B : Type 0} {cs : List ℕ} {r : Parser A} {p q : Parsed} (h : ReadsAs cs r p q) where
  -- what r answers, and from there on what k answers, whatever tree it is given; after a refusal, one tree serves
  pub and_then_answers : A → {k : A → Parser B} {w : Parsed} → ((a : A) → ReadsAs cs (k a) q w) → ReadsAs cs (and_then r k) p w
  unfolding answer_from parse_answer and_then
  and_then_answers one {k} {w} f = record { told = λ ts e. on ts e p (h.told ts e) }
    where
      next : (ts : List Token) → classes_of ts ≡ cs → (a : A) (s : Parsed) → q ≡ s → w ≡ answer_from s (k a) ts
      next ts e a s i = (f a).told ts e ∙ ap (λ s. answer_from s (k a) ts) i

      part : (ts : List Token) → classes_of ts ≡ cs → (at : ℕ) (x : Parse A) → q ≡ parse_answer at x
          → w ≡ parse_answer at (continued x (drop at ts) k)
      part ts e at (read a n) i =
          next ts e a (Next (at + n)) i ∙ ap (λ us. parse_answer (at + n) (k a us)) (sym (drop-drop n at ts))
          ∙ sym (answer_shift at n (k a (drop n (drop at ts))))
      part ts e at (unfit_after n) i = next ts e one (Refused (at + n)) i

      on : (ts : List Token) → classes_of ts ≡ cs → (p : Parsed) → q ≡ answer_from p r ts → w ≡ answer_from p (and_then r k) ts
      on ts e (Next at) i = part ts e at (r (drop at ts)) i
      on ts e (Refused at) i = next ts e one (Refused at) i

  -- where only the tree is made from what was read
  pub and_give_answers : (f : A → B) → ReadsAs cs (and_then r λ a. give (f a)) p q
  unfolding answer_from parse_answer and_then continued give shift
  and_give_answers f = record { told = λ ts e. on ts p (h.told ts e) }
    where
      part : (ts : List Token) (at : ℕ) (x : Parse A) → q ≡ parse_answer at x → q ≡ parse_answer at (continued x (drop at ts) λ a. give (f a))
      part ts at (read a n) i = i ∙ ap (λ n. Next (at + n)) (sym (add-zero n))
      part ts at (unfit_after n) i = i

      on : (ts : List Token) (p : Parsed) → q ≡ answer_from p r ts → q ≡ answer_from p (and_then r λ a. give (f a)) ts
      on ts (Next at) i = part ts at (r (drop at ts)) i
      on ts (Refused at) i = i

module _ {A : Type 0} {cs : List ℕ} (c : ℕ) {k : Token → Parser A} {p q w : Parsed} where
  pub expect_answers : ReadsAs cs (expect c give) p q → ((t : Token) → ReadsAs cs (k t) q w) → ReadsAs cs (expect c k) p w
  unfolding expect expected continued and_then give shift
  expect_answers h f = instead p (λ us e. same us) (and_then_answers h some_token f)
    where
      on : (b : Bool) (t : Token) (ts : List Token) → continued (expected b (give t) ts) (t ∷ ts) k ≡ expected b (k t) ts
      on true t ts = refl
      on false t ts = refl

      same : (us : List Token) → and_then (expect c give) k us ≡ expect c k us
      same [] = refl
      same (t ∷ ts) = on (eqb t.class c) t ts

-- the class c comes next, or it does not
comes : (c : ℕ) (us : List Token) → first_class (classes_of us) ≡ Some c → next_is c us ≡ true
unfolding next_is first_class
comes c [] e = absurd (none-some c e)
comes c (t ∷ ts) e = eq-eqb t.class c (cc)

lacks : (c : ℕ) (us : List Token) → (first_class (classes_of us) ≡ Some c → ⊥) → next_is c us ≡ false
unfolding next_is first_class
lacks c [] e = refl
lacks c (t ∷ ts) e = ne_eqb t.class c λ f. e (ap Some f)

-- any token is the expected one, where that comes
comes_any : (c : ℕ) (us : List Token) → next_is c us ≡ true → any_token us ≡ expect c give us
unfolding any_token give next_is shift
comes_any c [] i = absurd (false≢true i)
comes_any c (t ∷ ts) i = sym (expect_takes c give t ts (eqb-true t.class c i))

-- the class c is seen at an index, or it is not
pub record Sees (cs : List ℕ) (at c : ℕ) : Type 0 where
  pub is : first_class (classes_from cs (Next at)) ≡ Some c

pub record SeesNot (cs : List ℕ) (at c : ℕ) : Type 0 where
  pub is : first_class (classes_from cs (Next at)) ≡ Some c → ⊥

module _ {cs : List ℕ} {at : ℕ} where
  -- by a test for the class
  pub seen : {c : ℕ} → Passes cs at (is_class c) true → Sees cs at c
  unfolding first_passes first_class is_class
  seen {c} h = record { is = go (classes_from cs (Next at)) h.is }
    where
      go : (ds : List ℕ) → true ≡ first_passes (is_class c) ds → first_class ds ≡ Some c
      go [] i = absurd (false≢true (sym i))
      go (d ∷ ds) i = ap Some (eqb-true d c (sym i))

  -- a class that would pass a test which fails is not seen
  pub unpassed : {test : ℕ → Bool} → Passes cs at test false → (c : ℕ) → test c ≡ true → SeesNot cs at c
  unfolding first_passes first_class
  unpassed {test} h c t = record { is = go (classes_from cs (Next at)) h.is }
    where
      go : (ds : List ℕ) → false ≡ first_passes test ds → first_class ds ≡ Some c → ⊥
      go [] i f = none-some c f
      go (d ∷ ds) i f = let k : d ≡ c = cc in false≢true (i ∙ ap test k ∙ t)

  pub unseen : {c : ℕ} → Passes cs at (is_class c) false → SeesNot cs at c
  unfolding is_class
  unseen {c} h = unpassed h c (eq-eqb c c refl)

  pub seen_other : {c d : ℕ} → Sees cs at c → (c ≡ d → ⊥) → SeesNot cs at d
  seen_other {c} {d} s n = record { is = λ e. let k : Some c ≡ Some d = sym s.is ∙ e in n cc }

  module _ {c : ℕ} (s : Sees cs at c) where
    -- there is a token
    pub seen_below : at < length cs
    unfolding classes_from first_class
    seen_below = go (drop at cs) refl s.is
      where
        go : (ds : List ℕ) → drop at cs ≡ ds → first_class ds ≡ Some c → at < length cs
        go [] e i = absurd (none-some c i)
        go (d ∷ ds) e i = omega (arith, length-drop at cs, ap length e)

    pub seen_taken : ReadsAs cs any_token (Next at) (Next (at + 1))
    unfolding answer_from parse_answer any_token
    seen_taken = record {
      told = λ ts e. let first = drop-cons ts at some_token (omega (arith, seen_below, same_length cs ts e)) in rw first;
    }

    -- the token that was looked at is the expected one
    pub seen_answers : ReadsAs cs (expect c give) (Next at) (Next (at + 1))
    seen_answers = instead (Next at) (λ us i. comes_any c us (comes c us (ap first_class i ∙ s.is))) seen_taken

    pub seen_less : length (classes_from cs (Next (at + 1))) < length (classes_from cs (Next at))
    unfolding classes_from
    seen_less = omega (arith, seen_below, length-drop at cs, length-drop (at + 1) cs)

    pub if_next_answers : {A : Type 0} {r : Parser A} (o : Parser A) {q : Parsed} → ReadsAs cs r (Next at) q → ReadsAs cs (if_next c r o) (Next at) q
    if_next_answers {r = r} o h = instead (Next at) (λ us i. sym (if_next_first c r o us (comes c us (ap first_class i ∙ s.is)))) h

    -- the two together
    pub chosen_answers : {A : Type 0} {k : Token → Parser A} (o : Parser A) {w : Parsed} → ((t : Token) → ReadsAs cs (k t) (Next (at + 1)) w)
        → ReadsAs cs (if_next c (expect c k) o) (Next at) w
    chosen_answers o f = if_next_answers o (expect_answers c seen_answers f)

  module _ {c : ℕ} (s : SeesNot cs at c) where
    pub if_not_answers : {A : Type 0} (r : Parser A) {o : Parser A} {q : Parsed} → ReadsAs cs o (Next at) q → ReadsAs cs (if_next c r o) (Next at) q
    if_not_answers r {o} h = instead (Next at) (λ us i. sym (if_next_second c r o us (lacks c us (λ f. s.is (sym (ap first_class i) ∙ f))))) h

    -- another class is seen than the expected one, or none
    pub unfit_answers : {A : Type 0} (k : Token → Parser A) → ReadsAs cs (expect c k) (Next at) (Refused at)
    unfolding halt next_is expect
    unfit_answers k = instead (Next at) (λ us i. same us (lacks c us (λ f. s.is (sym (ap first_class i) ∙ f)))) (halt_answers at)
      where
        same : (us : List Token) → next_is c us ≡ false → halt us ≡ expect c k us
        same [] i = refl
        same (t ∷ ts) i = sym (expect_refuses c k t ts i)

-- there is a token where a test passes
pub passes_seen : {cs : List ℕ} {at : ℕ} {test : ℕ → Bool} → Passes cs at test true → (c : ℕ) × Sees cs at c × (test c ≡ true)
unfolding first_passes first_class
passes_seen {cs} {at} {test} h = go (classes_from cs (Next at)) refl h.is
  where
    go : (ds : List ℕ) → classes_from cs (Next at) ≡ ds → true ≡ first_passes test ds → (c : ℕ) × Sees cs at c × (test c ≡ true)
    go [] e i = absurd (false≢true (sym i))
    go (d ∷ ds) e i = (d, record { is = rw e }, sym i)

pub passes_below : {cs : List ℕ} {at : ℕ} {test : ℕ → Bool} → Passes cs at test true → at < length cs
passes_below h = seen_below (passes_seen h).1

-- a loop after some turns: who answers the rest answers the loop; and, given a tree, there are no more tokens left than before them
pub record Going {A : Type 0} (cs : List ℕ) (test : ℕ → Bool) (step : A → Token → Parser A) (p q : Parsed) : Type 0 where
  pub finish : (r : Parsed) → ((a : A) → ReadsAs cs (loop test step a 0) q r) → (a : A) → ReadsAs cs (loop test step a 0) p r
  pub no_more : A → length (classes_from cs q) ≤ length (classes_from cs p)

module _ {A : Type 0} {cs : List ℕ} {test : ℕ → Bool} {step : A → Token → Parser A} {p : Parsed} where
  pub begins : Going cs test step p p
  begins = record { finish = λ r f. f; no_more = λ a. omega arith }

  module _ {at : ℕ} (g : Going cs test step p (Next at)) where
    pub stops : Passes cs at test false → (a : A) → ReadsAs cs (loop test step a 0) p (Next at)
    unfolding give first_passes
    stops n = g.finish (Next at) λ a. instead (Next at) (λ us i. same a us (ap (first_passes test) i ∙ sym n.is)) (give_answers a (Next at))
      where
        same : (a : A) (us : List Token) → first_passes test (classes_of us) ≡ false → give a us ≡ loop test step a 0 us
        same a [] i = sym (loop_ends test step a)
        same a (t ∷ ts) i = sym (loop_stops test step a t ts i)

    pub goes_on : Passes cs at test true → {v : Parsed} → ((a : A) (t : Token) → ReadsAs cs (step a t) (Next (at + 1)) v) → Going cs test step p v
    unfolding any_token first_passes and_then continued
    goes_on n s = record {
      finish = λ r f. g.finish r λ a. instead (Next at) (λ us i. same a us (ap (first_passes test) i ∙ sym n.is))
          (and_then_answers (seen_taken (passes_seen n).1) some_token λ t. and_then_answers (s a t) a f);
      no_more = λ a. omega (arith, g.no_more a, seen_less (passes_seen n).1, tokens_left (s a some_token));
    }
      where
        same : (a : A) (us : List Token) → first_passes test (classes_of us) ≡ true
            → and_then any_token (λ t. and_then (step a t) λ b. loop test step b 0) us ≡ loop test step a 0 us
        same a [] i = absurd (false≢true i)
        same a (t ∷ ts) i = sym (loop_turns test step a t ts i)

-- the two kinds of loops: their steps, and the whole
module _ {A : Type 0} {cs : List ℕ} {p q : Parsed} where
  module _ (join : Token → A → A → A) {item : Parser A} (h : ReadsAs cs item p q) where
    pub joined_answers : (a : A) (t : Token) → ReadsAs cs (joined item join a t) p q
    unfolding joined
    joined_answers a t = and_give_answers h _

    pub chain_answers : (test : ℕ → Bool) {w : Parsed} → A → ((a : A) → ReadsAs cs (loop test (joined item join) a 0) q w)
        → ReadsAs cs (chain test join item) p w
    unfolding chain
    chain_answers test one f = and_then_answers h one f

  pub added_answers : {item : Token → Parser A} → ((t : Token) → ReadsAs cs (item t) p q) → (before : List A) (t : Token)
      → ReadsAs cs (added item before t) p q
  unfolding added
  added_answers h before t = and_give_answers (h t) _

  pub many_answers : (c : ℕ) (item : Token → Parser A) → ((a : List A) → ReadsAs cs (loop (is_class c) (added item) a 0) p q)
      → ReadsAs cs (many c item) p q
  unfolding many is_class
  many_answers c item f = f []

-- where a chain's loop takes a token, no more are left than the chain found
pub chain_left : {A B : Type 0} {cs : List ℕ} {test : ℕ → Bool} {step : A → Token → Parser A} {r : Parser B} {p q : Parsed} {at : ℕ} → A
    → ReadsAs cs r p q → Going cs test step q (Next at) → Passes cs at test true → length (classes_from cs (Next (at + 1))) ≤ length (classes_from cs p)
chain_left one h g n = omega (arith, tokens_left h, g.no_more one, seen_less (passes_seen n).1)

-- a turn of a loop leaves fewer tokens
pub turn_less : {A : Type 0} {cs : List ℕ} {r : Parser A} {v : Parsed} {test : ℕ → Bool} {at : ℕ} → Passes cs at test true → ReadsAs cs r (Next (at + 1)) v
    → length (classes_from cs v) < length (classes_from cs (Next at))
turn_less n s = omega (arith, seen_less (passes_seen n).1, tokens_left s)

-- a reading goes onward
pub reads_onward : {A : Type 0} {cs : List ℕ} {r : Parser A} {at next : ℕ} → ReadsAs cs r (Next at) (Next next) → at ≤ next
unfolding answer_from parse_answer
reads_onward {A} {cs} {r} {at} {next} h = go (r (drop at (sample cs))) (h.told (sample cs) (classes_sample cs))
  where
    go : (x : Parse A) → Next next ≡ parse_answer at x → at ≤ next
    go (read a n) i = let k : next ≡ at + n = cc in omega arith
    go (unfit_after n) i = let z : ◌≡◌ {A = ℕ} 0 1 = cc in absurd (omega arith)

-- items that a loop reads one after another are those of `many`
pub repeats_many : {A : Type 0} {cs : List ℕ} {first : ℕ} {item : ℕ → Result ℕ Unfit → Type 0} (reader : Token → Parser A) {at : ℕ} {r : Result ℕ Unfit}
    → Repeats cs first item at r → ((at next : ℕ) → item at (Ok next) → (t : Token) → ReadsAs cs (reader t) (Next at) (Next next))
    → ((at : ℕ) (u : Unfit) → item at (Err u) → (t : Token) → ReadsAs cs (reader t) (Next at) (Refused u.at)) → ReadsFrom cs (many first reader) at r
repeats_many {A} {cs} {first} {item} reader h ok err = many_answers first reader (go begins h)
  where
    go : {p : Parsed} {at : ℕ} {r : Result ℕ Unfit} → Going cs (is_class first) (added reader) p (Next at) → Repeats cs first item at r
        → (a : List A) → ReadsAs cs (loop (is_class first) (added reader) a 0) p (parsed_of r)
    go g (none_begins n) = stops g n
    go g (item_unfit {at} {u} n i) = (goes_on g n (added_answers (err (at + 1) u i))).finish _ (λ a. refused)
    go g (item_read {at} {next} n i h) = go (goes_on g n (added_answers (ok (at + 1) next i))) h

-- ---- the tests of the next token

-- for one class, by what the slice has there
pub class_passes : (cs : List ℕ) (at c : ℕ) {b : Bool} → b ≡ option_eq eqb (slice_get cs at) (Some c) → Passes cs at (is_class c) b
unfolding classes_from first_passes is_class
class_passes cs at c e = record { is = e ∙ go at cs }
  where
    go : (i : ℕ) (ds : List ℕ) → option_eq eqb (slice_get ds i) (Some c) ≡ first_passes (is_class c) (drop i ds)
    go zero [] = refl
    go zero (d ∷ ds) = refl
    go (suc i) [] = refl
    go (suc i) (d ∷ ds) = go i ds

-- for any of two tests
module _ {cs : List ℕ} {at : ℕ} {f k : ℕ → Bool} where
  pub first_of_two : ((c : ℕ) → f c ≡ true → k c ≡ true) → Passes cs at f true → Passes cs at k true
  unfolding first_passes
  first_of_two h n = record { is = go (classes_from cs (Next at)) n.is }
    where
      go : (ds : List ℕ) → true ≡ first_passes f ds → true ≡ first_passes k ds
      go [] i = i
      go (d ∷ ds) i = sym (h d (sym i))

  pub second_of_two : {g : ℕ → Bool} {b : Bool} → ((c : ℕ) → f c ≡ false → k c ≡ g c) → Passes cs at f false → Passes cs at g b → Passes cs at k b
  unfolding first_passes
  second_of_two {g} {b} h n m = record { is = go (classes_from cs (Next at)) n.is m.is }
    where
      go : (ds : List ℕ) → false ≡ first_passes f ds → b ≡ first_passes g ds → b ≡ first_passes k ds
      go [] i j = j
      go (d ∷ ds) i j = j ∙ sym (h d (sym i))

module _ (c d e : ℕ) where
  pub either_first : is_class c e ≡ true → is_either c d e ≡ true
  unfolding is_class is_either
  either_first h = rw h

  pub either_second : is_class c e ≡ false → is_either c d e ≡ is_class d e
  unfolding is_class is_either
  either_second h = rw h

pub unsigned_first : (c : ℕ) → is_either TRUE FALSE c ≡ true → is_unsigned c ≡ true
unfolding is_either is_unsigned
unsigned_first c h = rw h

pub unsigned_second : (c : ℕ) → is_either TRUE FALSE c ≡ false → is_unsigned c ≡ is_either WHOLE_NUMBER REAL_NUMBER c
unfolding is_either is_unsigned
unsigned_second c h = rw h

pub either_seen : {cs : List ℕ} {at c d : ℕ} → Passes cs at (is_either c d) true → Sees cs at c ⊎ Sees cs at d
unfolding is_either
either_seen {cs} {at} {c} {d} n = by (passes_seen n).0 (passes_seen n).1 (passes_seen n).2
  where
    by : (e : ℕ) → Sees cs at e → is_either c d e ≡ true → Sees cs at c ⊎ Sees cs at d
    by e s t = go (eqb e c) refl
      where
        go : (b : Bool) → eqb e c ≡ b → Sees cs at c ⊎ Sees cs at d
        go true k = inl (rw (eqb-true e c k) at s)
        go false k = inr (rw (eqb-true e d (rw k at t)) at s)

-- the expected token leaves fewer
pub expect_less : {cs : List ℕ} (c : ℕ) {at next : ℕ} → ReadsAs cs (expect c give) (Next at) (Next next)
    → length (classes_from cs (Next next)) < length (classes_from cs (Next at))
unfolding answer_from parse_answer classes_from expect expected give shift
expect_less {cs} c {at} {next} h = go (drop at (sample cs)) (drop_classes at (sample cs) ∙ ap (drop at) (classes_sample cs)) (h.told (sample cs) (classes_sample cs))
  where
    go : (us : List Token) → classes_of us ≡ drop at cs → Next next ≡ parse_answer at (expect c give us) → length (drop next cs) < length (drop at cs)
    go [] i e = let z : ◌≡◌ {A = ℕ} 0 1 = cc in absurd (omega arith)
    go (t ∷ ts) i e = by (eqb t.class c) e
      where
        by : (b : Bool) → Next next ≡ parse_answer at (expected b (give t) ts) → length (drop next cs) < length (drop at cs)
        by true f = let k : next ≡ at + 1 = cc in omega (arith, length-drop at cs, length-drop next cs, ap length i)
        by false f = let z : ◌≡◌ {A = ℕ} 0 1 = cc in absurd (omega arith)
