-- What a reader does at given tokens, and that it looks at no token after the next one: how such traces are put together.
use Prim.Native.Nat.{ℕ, suc, ◌+◌, ◌≤◌}
use mathlib.Core.Path.{◌≡◌, refl, sym, ◌∙◌, ap, subst}
use mathlib.Core.List.{List, [], ◌∷◌, ◌++◌, map-append, append_assoc}
use mathlib.Core.Bool.{Bool}
use native.Mathlib.Omega.{arith}
use lib.ListN.{length, drop, length-append}
use lib.Seq.{drop_at, drop-append_seam}
use Rattle.text.specs.definitions.Tokens.{Token}
use Rattle.text.specs.definitions.Readers.{Parse, read, unfit_after, Parser, shift, next_is, continued, and_then}
use Rattle.text.specs.definitions.Language.{Language, ◌⨾◌, sequel}
use Rattle.text.proofs.laws.ReaderLaws.{count, count_shift, and_then_reads, and_then_refuses}
use Rattle.text.proofs.laws.LanguageLaws.{classes, ◌⊆◌}

-- two lists of tokens that begin alike, or are both empty
unfoldable pub Meets : List Token → List Token → Type 0
Meets [] [] = Unit {0}
Meets [] (y ∷ ys) = ⊥
Meets (x ∷ xs) [] = ⊥
Meets (x ∷ xs) (y ∷ ys) = x ≡ y

meets_self : (ts : List Token) → Meets ts ts
unfolding Meets
meets_self [] = tt
meets_self (t ∷ ts) = refl

meets_after : (front a b : List Token) → Meets a b → Meets (front ++ a) (front ++ b)
unfolding Meets
meets_after [] a b h = h
meets_after (t ∷ ts) a b h = refl

next_same : (c : ℕ) (a b : List Token) → Meets a b → next_is c b ≡ next_is c a
unfolding Meets next_is
next_same c [] [] h = refl
next_same c [] (y ∷ ys) h = absurd h
next_same c (x ∷ xs) [] h = absurd h
next_same c (x ∷ xs) (y ∷ ys) h = rw h

module _ {A : Type 0} where
  -- the classes of the tokens taken are a word; those before a refused token begin one
  unfoldable pub Fits : Language → List ℕ → Parse A → Type 0
  Fits L cs (read a n) = L cs
  Fits L cs (unfit_after n) = (more : List ℕ) × L (cs ++ more)

  -- a reader r makes p of ts: it takes `front`, and does so wherever the next token is the same
  pub record Trace (r : Parser A) (L : Language) (ts : List Token) (p : Parse A) : Type 0 where
    pub front : List Token
    pub rest : List Token
    pub joins : front ++ rest ≡ ts
    pub counts : count p ≡ length front
    pub again : (others : List Token) → Meets rest others → r (front ++ others) ≡ p
    pub fits : Fits L (classes front) p

  -- all of xs is taken, and nothing of what comes after it
  pub record Reads (r : Parser A) (xs rest : List Token) : Type 0 where
    pub tree : A
    pub reads : r (xs ++ rest) ≡ read tree (length xs)

  module _ {r : Parser A} {L : Language} {ts : List Token} {p : Parse A} (t : Trace r L ts p) where
    pub trace_result : r ts ≡ p
    trace_result = ap r (sym t.joins) ∙ t.again t.rest (meets_self t.rest)

    -- with the same next token, whatever comes after it
    pub trace_again : (u : Token) (others after : List Token) → t.rest ≡ u ∷ others → r (t.front ++ u ∷ after) ≡ p
    unfolding Meets
    trace_again u others after e = t.again (u ∷ after) (subst (λ l. Meets l (u ∷ after)) (sym e) refl)

    pub trace_rest : drop (count p) ts ≡ t.rest
    trace_rest = ap (drop (count p)) (sym t.joins) ∙ drop_at t.front t.rest (count p) (sym t.counts)

    pub trace_bound : count p ≤ length ts
    trace_bound = omega (arith, t.counts, length-append t.front t.rest, ap length t.joins)

  fits_in : {L M : Language} → L ⊆ M → (cs : List ℕ) (p : Parse A) → Fits L cs p → Fits M cs p
  unfolding Fits
  fits_in i cs (read a n) f = i.holds f
  fits_in i cs (unfit_after n) f = (f.0, i.holds f.1)

  pub trace_in : {r : Parser A} {L M : Language} {ts : List Token} {p : Parse A} → L ⊆ M → Trace r L ts p → Trace r M ts p
  trace_in {p} i t = record {
    front = t.front;
    rest = t.rest;
    joins = t.joins;
    counts = t.counts;
    again = t.again;
    fits = fits_in i (classes t.front) p t.fits;
  }

  -- no token is taken: none is left, or the next one decides
  pub end_trace : {r : Parser A} {L : Language} → count (r []) ≡ 0 → Fits L [] (r []) → Trace r L [] (r [])
  unfolding Meets
  end_trace {r} c f = record { front = []; rest = []; joins = refl; counts = c; again = go; fits = f }
    where
      go : (others : List Token) → Meets [] others → r others ≡ r []
      go [] h = refl
      go (t ∷ ts) h = absurd h

  pub stop_trace : {r : Parser A} {L : Language} (t : Token) (ts : List Token) (p : Parse A) → count p ≡ 0 → Fits L [] p
      → ((others : List Token) → r (t ∷ others) ≡ p) → Trace r L (t ∷ ts) (r (t ∷ ts))
  unfolding Meets
  stop_trace {r} t ts p c f e = rw (e ts) (record { front = []; rest = t ∷ ts; joins = refl; counts = c; again = go; fits = f })
    where
      go : (others : List Token) → Meets (t ∷ ts) others → r others ≡ p
      go [] h = absurd h
      go (u ∷ us) h = rw (← h) (e us)

  fits_cons : (O M : Language) (c : ℕ) (cs : List ℕ) (p : Parse A) → O (c ∷ []) → Fits M cs p → Fits (O ⨾ M) (c ∷ cs) (shift 1 p)
  unfolding Fits shift
  fits_cons O M c cs (read a n) o f = sequel o f
  fits_cons O M c cs (unfit_after n) o f = (f.0, sequel o f.1)

  -- a token, and then what s does
  pub cons_trace : {r s : Parser A} (O : Language) {M : Language} (t : Token) (ts : List Token) → O (t.class ∷ [])
      → ((others : List Token) → r (t ∷ others) ≡ shift 1 (s others)) → Trace s M ts (s ts) → Trace r (O ⨾ M) (t ∷ ts) (r (t ∷ ts))
  cons_trace {r} {s} O {M} t ts o e u = rw (e ts) (record {
    front = t ∷ u.front;
    rest = u.rest;
    joins = ap (λ l. t ∷ l) u.joins;
    counts = omega (arith, count_shift 1 (s ts), u.counts);
    again = λ others h. e (u.front ++ others) ∙ ap (shift 1) (u.again others h);
    fits = fits_cons O M t.class (classes u.front) (s ts) o u.fits;
  })

  pub reads_cons : {r s : Parser A} {xs rest : List Token} (t : Token) → ((others : List Token) → r (t ∷ others) ≡ shift 1 (s others))
      → Reads s xs rest → Reads r (t ∷ xs) rest
  unfolding shift
  reads_cons {xs} {rest} t e q =
      let n : 1 + length xs ≡ suc (length xs) = omega arith in
      record { tree = q.tree; reads = e (xs ++ rest) ∙ ap (shift 1) q.reads ∙ ap (read q.tree) n }

  -- what r does, where the next token decides that s does so
  pub choice_trace : {r s : Parser A} {L : Language} (c : ℕ) (ts : List Token) (b : Bool) → next_is c ts ≡ b
      → ((others : List Token) → next_is c others ≡ b → s others ≡ r others) → Trace r L ts (r ts) → Trace s L ts (s ts)
  choice_trace c ts b e same t = rw (same ts e) (record {
    front = t.front;
    rest = t.rest;
    joins = t.joins;
    counts = t.counts;
    again = λ others h.
        let alike = next_same c (t.front ++ t.rest) (t.front ++ others) (meets_after t.front t.rest others h) in
        same (t.front ++ others) (alike ∙ ap (next_is c) t.joins ∙ e) ∙ t.again others h;
    fits = t.fits;
  })

  fits_then : (L M : Language) (xs ys : List ℕ) (n : ℕ) (p : Parse A) → L xs → Fits M ys p → Fits (L ⨾ M) (xs ++ ys) (shift n p)
  unfolding Fits shift
  fits_then L M xs ys n (read a k) l f = sequel l f
  fits_then L M xs ys n (unfit_after k) l f = (f.0, rw append_assoc (sequel l f.1))

module _ {A B : Type 0} (r : Parser A) (k : A → Parser B) where
  -- what r does, and then what k does with the tree; w is a word to complete with where r refuses
  pub then_trace : (L M : Language) (ts : List Token) (w : List ℕ) → M w → Trace r L ts (r ts)
      → ((a : A) (n : ℕ) → r ts ≡ read a n → Trace (k a) M (drop n ts) (k a (drop n ts)))
      → Trace (and_then r k) (L ⨾ M) ts (and_then r k ts)
  unfolding and_then continued count Fits
  then_trace L M ts w m t q = go (r ts) refl t
    where
      go : (p : Parse A) → r ts ≡ p → Trace r L ts p → Trace (and_then r k) (L ⨾ M) ts (continued p ts k)
      go (unfit_after n) e t = record {
        front = t.front;
        rest = t.rest;
        joins = t.joins;
        counts = t.counts;
        again = λ others h. and_then_refuses r k n (t.front ++ others) (t.again others h);
        fits = (t.fits.0 ++ w, rw (← append_assoc) (sequel t.fits.1 m));
      }
      go (read a n) e t =
          let u = q a n e in
          let left : u.front ++ u.rest ≡ t.rest = u.joins ∙ trace_rest t in
          record {
            front = t.front ++ u.front;
            rest = u.rest;
            joins = append_assoc t.front u.front u.rest ∙ ap (λ l. t.front ++ l) left ∙ t.joins;
            counts = omega (arith, count_shift n (k a (drop n ts)), length-append t.front u.front, t.counts, u.counts);
            again = λ others h.
                let more = u.front ++ others in
                let meets : Meets t.rest more = subst (λ l. Meets l more) left (meets_after u.front u.rest others h) in
                ap (and_then r k) (append_assoc t.front u.front others)
                ∙ and_then_reads r k a n (t.front ++ more) (t.again more meets)
                ∙ ap (λ l. shift n (k a l)) (drop_at t.front more n (sym t.counts))
                ∙ ap (shift n) (u.again others h);
            fits = rw map-append (fits_then L M (classes t.front) (classes u.front) n (k a (drop n ts)) t.fits u.fits);
          }

  pub reads_then : (ys zs rest : List Token) (q : Reads r ys (zs ++ rest)) → Reads (k q.tree) zs rest → Reads (and_then r k) (ys ++ zs) rest
  unfolding shift
  reads_then ys zs rest q u = record {
    tree = u.tree;
    reads = ap (and_then r k) (append_assoc ys zs rest)
        ∙ and_then_reads r k q.tree (length ys) (ys ++ (zs ++ rest)) q.reads
        ∙ ap (λ l. shift (length ys) (k q.tree l)) (drop-append_seam ys (zs ++ rest))
        ∙ ap (shift (length ys)) u.reads
        ∙ ap (read u.tree) (sym (length-append ys zs));
  }
