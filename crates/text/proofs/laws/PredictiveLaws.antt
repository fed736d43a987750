-- Predictive parsing: a reader takes the words of a language, and refuses where no word goes on, by one token of look-ahead. Each combinator keeps that.
use Prim.Native.Nat.{ℕ, zero, suc}
use mathlib.Core.Path.{◌≡◌, refl, sym, ◌∙◌, ap, subst, fun_ext}
use mathlib.Core.List.{List, [], ◌∷◌, ◌++◌, map-append, cons≢nil}
use mathlib.Core.Bool.{Bool, true, false}
use lib.Dec.{eqb}
use lib.ListN.{drop}
use borrow.Author.Tests.{eqb-true, not-false}
use Rattle.text.specs.definitions.Tokens.{Token}
use Rattle.text.specs.definitions.Readers.{
  read,
  unfit_after,
  Parser,
  shift,
  give,
  expected,
  expect,
  next_is,
  if_next,
  continued,
  and_then,
  loop,
  joined,
  chain,
  added,
  many,
}
use Rattle.text.specs.definitions.Language.{Language, Only, only, ◌⨾◌, sequel, ◌or◌, first, second, Many, nothing, further, Maybe}
use Rattle.text.proofs.laws.ReaderLaws.{count, Bounded, expect_takes, expect_refuses, if_next_first, if_next_second, loop_ends, loop_stops, loop_turns}
use Rattle.text.proofs.laws.LanguageLaws.{
  classes,
  sample,
  classes_sample,
  Empty,
  empty,
  ◌⊆◌,
  drop_empty,
  add_empty,
  from_maybe,
  to_maybe,
  in_first,
  in_second,
  to_further,
  cut,
  Parts,
  parts,
  is,
  is_not,
  ◌∪◌,
  Leads,
  leads_only,
  Single,
  single_token,
  Clear,
  Outside,
  outside_append,
  Among,
  among_self,
  among_left,
  among_right,
  Avoids,
  avoids_only,
  avoids_then,
  Follows,
  follows_empty,
  follows_many,
  follows_∅,
}
use Rattle.text.proofs.laws.TraceLaws.{
  Fits,
  Trace,
  trace_bound,
  trace_in,
  end_trace,
  stop_trace,
  cons_trace,
  choice_trace,
  then_trace,
  Reads,
  reads_cons,
  reads_then,
}

module _ {A : Type 0} where
  -- a reader parses a language; the set p has the classes with which a word may go on: where none of them comes next, the reader takes a word whole
  pub record Parses (r : Parser A) (L : Language) (p : ℕ → Bool) : Type 0 where
    pub word : List ℕ
    pub spells : L word
    pub trace : (ts : List Token) → Trace r L ts (r ts)
    pub complete : (xs rest : List Token) → L (classes xs) → Clear p (classes rest) → Reads r xs rest

  module _ {r : Parser A} {L : Language} {p : ℕ → Bool} where
    pub parses_bounded : Parses r L p → Bounded r
    parses_bounded q = record { bound = λ ts. trace_bound (q.trace ts) }

    -- a tree that the reader can give
    some_tree : Parses r L p → A
    unfolding Clear
    some_tree q = (q.complete (sample q.word) [] (rw classes_sample q.spells) tt).tree

    pub parses_in : {M : Language} → L ⊆ M → M ⊆ L → Parses r L p → Parses r M p
    parses_in to from q = record {
      word = q.word;
      spells = to.holds q.spells;
      trace = λ ts. trace_in to (q.trace ts);
      complete = λ xs rest w h. q.complete xs rest (from.holds w) h;
    }

    pub parses_among : {s : ℕ → Bool} → Among p s → Parses r L p → Parses r L s
    parses_among k q = record {
      word = q.word;
      spells = q.spells;
      trace = q.trace;
      complete = λ xs rest w h. q.complete xs rest w (k.clears (classes rest) h);
    }

    pub parses_same : {s : Parser A} → ((ts : List Token) → r ts ≡ s ts) → Parses r L p → Parses s L p
    parses_same e q = subst (λ x. Parses x L p) (fun_ext e) q

  give_reads : (a : A) (xs rest : List Token) → Empty (classes xs) → Reads (give a) xs rest
  unfolding give
  give_reads a [] rest w = record { tree = a; reads = refl }
  give_reads a (_ ∷ _) rest w = elim w [ ]

  pub give_parses : {p : ℕ → Bool} (a : A) → Parses (give a) Empty p
  unfolding give count Fits
  give_parses a = record {
    word = [];
    spells = empty;
    trace = λ ts. record { front = []; rest = ts; joins = refl; counts = refl; again = λ others h. refl; fits = empty };
    complete = λ xs rest w h. give_reads a xs rest w;
  }

module _ {A B : Type 0} {r : Parser A} {k : A → Parser B} {L M : Language} {p q : ℕ → Bool} where
  pub and_then_parses : Parses r L p → Follows p q M → ((a : A) → Parses (k a) M q) → Parses (and_then r k) (L ⨾ M) q
  and_then_parses f h g =
      let s = g (some_tree f) in
      record {
        word = f.word ++ s.word;
        spells = sequel f.spells s.spells;
        trace = λ ts. then_trace r k L M ts s.word s.spells (f.trace ts) (λ a n e. (g a).trace (drop n ts));
        complete = λ xs rest w c. whole xs rest c (parts w xs refl);
      }
    where
      whole : (xs rest : List Token) → Clear q (classes rest) → Parts L M xs → Reads (and_then r k) xs rest
      whole xs rest c w =
          let ahead : Clear p (classes (w.back ++ rest)) = rw map-append (h.clears w.right (classes rest) c) in
          let u = f.complete w.front (w.back ++ rest) w.left ahead in
          let v = (g u.tree).complete w.back rest w.right c in
          subst (λ x. Reads (and_then r k) x rest) w.joins (reads_then r k w.front w.back rest u v)

module _ {A B : Type 0} where
  pub and_then_last : {r : Parser A} {L : Language} {p : ℕ → Bool} (f : A → B) → Parses r L p → Parses (and_then r (λ a. give (f a))) L p
  and_then_last f q = parses_in drop_empty add_empty (and_then_parses q (follows_empty among_self) λ a. give_parses (f a))

-- one token of class c
token_trace : (c : ℕ) (ts : List Token) → Trace (expect c give) (Only c) ts (expect c give ts)
unfolding expect count Fits
token_trace c [] = end_trace refl (c ∷ [], only)
token_trace c (t ∷ ts) = go (eqb t.class c) refl
  where
    go : (b : Bool) → eqb t.class c ≡ b → Trace (expect c give) (Only c) (t ∷ ts) (expect c give (t ∷ ts))
    go true e = trace_in drop_empty (cons_trace (Only c) t ts (leads_only.spells t.class e)
        (λ others. expect_takes c give t others (eqb-true t.class c e)) ((give_parses {p = is c} t).trace ts))
    go false e = stop_trace t ts (unfit_after 0) refl (c ∷ [], only) (λ others. expect_refuses c give t others e)

token_reads : (c : ℕ) (xs rest : List Token) → Single (is c) xs → Reads (expect c give) xs rest
unfolding give shift
token_reads c xs rest s =
    rw s.alone (record { tree = s.token; reads = expect_takes c give s.token rest (eqb-true s.token.class c s.passes) })

token_parses : {p : ℕ → Bool} (c : ℕ) → Parses (expect c give) (Only c) p
token_parses c = record {
  word = c ∷ [];
  spells = only;
  trace = token_trace c;
  complete = λ xs rest w h. token_reads c xs rest (single_token leads_only xs w);
}

module _ {A : Type 0} where
  token_then : (c : ℕ) (k : Token → Parser A) (ts : List Token) → and_then (expect c give) k ts ≡ expect c k ts
  unfolding and_then continued expect expected shift give
  token_then c k [] = refl
  token_then c k (t ∷ ts) = go (eqb t.class c)
    where
      go : (b : Bool) → continued (expected b (give t) ts) (t ∷ ts) k ≡ expected b (k t) ts
      go true = refl
      go false = refl

  pub expect_parses : {c : ℕ} {k : Token → Parser A} {L : Language} {p : ℕ → Bool} → ((t : Token) → Parses (k t) L p) → Parses (expect c k) (Only c ⨾ L) p
  expect_parses {c} {k} q = parses_same (token_then c k) (and_then_parses (token_parses c) follows_∅ q)

  pub expect_last : {c : ℕ} {p : ℕ → Bool} (f : Token → A) → Parses (expect c (λ t. give (f t))) (Only c) p
  expect_last f = parses_in drop_empty add_empty (expect_parses λ t. give_parses (f t))

next_is_it : (c : ℕ) (ts : List Token) → Outside (is_not c) (classes ts) → next_is c ts ≡ true
unfolding next_is Outside
next_is_it c [] h = absurd h
next_is_it c (t ∷ ts) h = not-false (eqb t.class c) h

next_is_other : (c : ℕ) (ts : List Token) → Clear (is c) (classes ts) → next_is c ts ≡ false
unfolding next_is Clear
next_is_other c [] h = refl
next_is_other c (t ∷ ts) h = h

module _ {A : Type 0} (c : ℕ) {r s : Parser A} {L M : Language} {p : ℕ → Bool} where
  -- a choice: the words of the one begin with c, and those of the other do not
  pub if_next_parses : Avoids (is_not c) L → Follows (is c) p M → Parses r L p → Parses s M p → Parses (if_next c r s) (L or M) p
  if_next_parses a h f g = record {
    word = f.word;
    spells = first f.spells;
    trace = λ ts. traced ts (next_is c ts) refl;
    complete = whole;
  }
    where
      traced : (ts : List Token) (b : Bool) → next_is c ts ≡ b → Trace (if_next c r s) (L or M) ts (if_next c r s ts)
      traced ts true e = choice_trace c ts true e (if_next_first c r s) (trace_in in_first (f.trace ts))
      traced ts false e = choice_trace c ts false e (if_next_second c r s) (trace_in in_second (g.trace ts))

      whole : (xs rest : List Token) → (L or M) (classes xs) → Clear p (classes rest) → Reads (if_next c r s) xs rest
      whole xs rest (first w) k =
          let u = f.complete xs rest w k in
          let begins : Outside (is_not c) (classes (xs ++ rest)) = rw map-append (outside_append (is_not c) (classes xs) (classes rest) (a.outside w)) in
          record { tree = u.tree; reads = if_next_first c r s (xs ++ rest) (next_is_it c (xs ++ rest) begins) ∙ u.reads }
      whole xs rest (second w) k =
          let u = g.complete xs rest w k in
          let begins : Clear (is c) (classes (xs ++ rest)) = rw map-append (h.clears w (classes rest) k) in
          record { tree = u.tree; reads = if_next_second c r s (xs ++ rest) (next_is_other c (xs ++ rest) begins) ∙ u.reads }

module _ {A : Type 0} (c : ℕ) {r : Parser A} {L : Language} {p : ℕ → Bool} where
  pub maybe_parses : (a : A) → Avoids (is_not c) L → Among (is c) p → Parses r L p → Parses (if_next c r (give a)) (Maybe L) p
  maybe_parses a o k q = parses_in to_maybe from_maybe (if_next_parses c o (follows_empty k) q (give_parses a))

-- what holds of all last parts of a list, if it holds of one where it holds of all last parts of its tail
drops : (Q : List Token → Type 0) → Q [] → ((t : Token) (ts : List Token) → ((k : ℕ) → Q (drop k ts)) → Q (t ∷ ts))
    → (ts : List Token) (k : ℕ) → Q (drop k ts)
drops Q z s [] zero = z
drops Q z s [] (suc k) = z
drops Q z s (t ∷ ts) zero = s t ts (drops Q z s ts)
drops Q z s (t ∷ ts) (suc k) = drops Q z s ts k

module _ {A : Type 0} {test : ℕ → Bool} {step : A → Token → Parser A} {O L : Language} {p : ℕ → Bool}
    (leads : Leads test O) (q : (a : A) (t : Token) → Parses (step a t) L p) (o : Avoids p O) where
  loop_trace : (ts : List Token) (a : A) → Trace (loop test step a 0) (Many (O ⨾ L)) ts (loop test step a 0 ts)
  unfolding count Fits
  loop_trace ts = drops Q ends goes_on ts 0
    where
      Q : List Token → Type 0
      Q ts = (a : A) → Trace (loop test step a 0) (Many (O ⨾ L)) ts (loop test step a 0 ts)

      ends : Q []
      ends a = end_trace (rw (loop_ends test step a)) (rw (loop_ends test step a) nothing)

      turn : (t : Token) (ts : List Token) → ((k : ℕ) → Q (drop k ts)) → (a : A) (b : Bool) → test t.class ≡ b
          → Trace (loop test step a 0) (Many (O ⨾ L)) (t ∷ ts) (loop test step a 0 (t ∷ ts))
      turn t ts h a true e = trace_in to_further
          (cons_trace O t ts (leads.spells t.class e) (λ others. loop_turns test step a t others e)
          (then_trace (step a t) (λ b. loop test step b 0) L (Many (O ⨾ L)) ts [] nothing ((q a t).trace ts) (λ b n r. h n b)))
      turn t ts h a false e = stop_trace t ts (read a 0) refl nothing (λ others. loop_stops test step a t others e)

      goes_on : (t : Token) (ts : List Token) → ((k : ℕ) → Q (drop k ts)) → Q (t ∷ ts)
      goes_on t ts h a = turn t ts h a (test t.class) refl

  loop_rests : (a : A) (xs rest : List Token) → classes xs ≡ [] → Clear (test ∪ p) (classes rest) → Reads (loop test step a 0) xs rest
  unfolding Clear
  loop_rests a (t ∷ ts) rest e h = absurd (cons≢nil e)
  loop_rests a [] [] e h = record { tree = a; reads = loop_ends test step a }
  loop_rests a [] (t ∷ ts) e h = record { tree = a; reads = loop_stops test step a t ts ((among_left test p).clears (t.class ∷ []) h) }

  loop_reads : {cs : List ℕ} → Many (O ⨾ L) cs → (a : A) (xs rest : List Token) → classes xs ≡ cs → Clear (test ∪ p) (classes rest)
      → Reads (loop test step a 0) xs rest
  loop_reads nothing a xs rest e h = loop_rests a xs rest e h
  loop_reads (further {xs = cs} {ys = ds} w m) a xs rest e h =
      let c = cut cs ds xs e in
      let i = parts w c.front c.left in
      let s = single_token leads i.front i.left in
      let t = s.token in
      let follows : Follows p (test ∪ p) (Many (O ⨾ L)) = follows_many (avoids_then o) (among_right test p) in
      let ahead : Clear p (classes (c.back ++ rest)) = rw (map-append, c.right) (follows.clears m (classes rest) h) in
      let u = (q a t).complete i.back (c.back ++ rest) i.right ahead in
      let v = loop_reads m u.tree c.back rest c.right h in
      let all = reads_cons t (λ others. loop_turns test step a t others s.passes)
      (reads_then (step a t) (λ b. loop test step b 0) i.back c.back rest u v) in
      let joins = ap (λ x. x ++ i.back ++ c.back) (sym s.alone) ∙ ap (λ x. x ++ c.back) i.joins ∙ c.joins in
      subst (λ x. Reads (loop test step a 0) x rest) joins all

  pub loop_parses : (a : A) → Parses (loop test step a 0) (Many (O ⨾ L)) (test ∪ p)
  loop_parses a = record {
    word = [];
    spells = nothing;
    trace = λ ts. loop_trace ts a;
    complete = λ xs rest w h. loop_reads w a xs rest refl h;
  }

module _ {A : Type 0} {test : ℕ → Bool} {item : Parser A} {O L : Language} {p : ℕ → Bool} where
  pub chain_parses : (join : Token → A → A → A) → Leads test O → Avoids p O → Parses item L p
      → Parses (chain test join item) (L ⨾ Many (O ⨾ L)) (test ∪ p)
  unfolding chain joined
  chain_parses join leads o q =
      and_then_parses q (follows_many (avoids_then o) (among_right test p)) (loop_parses leads (λ a t. and_then_last (join t a) q) o)

module _ {A : Type 0} (c : ℕ) {item : Token → Parser A} {L : Language} {p : ℕ → Bool} where
  pub many_parses : p c ≡ false → ((t : Token) → Parses (item t) L p) → Parses (many c item) (Many (Only c ⨾ L)) (is c ∪ p)
  unfolding many added
  many_parses e q = loop_parses leads_only (λ before t. and_then_last (λ a. before ++ a ∷ []) (q t)) (avoids_only e) []
