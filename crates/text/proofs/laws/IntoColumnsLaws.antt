-- Laws of what lexing gives: columns that are too short, what each answer of `lex` tells its caller, and the answers before the loop.
use mathlib.Core.Path.{◌≡◌, refl, sym, ap, ◌∙◌}
use mathlib.Core.List.{List}
use mathlib.Core.Bool.{Bool, true, false}
use Prim.Native.Nat.{ℕ, ◌<◌, ◌≤◌}
use native.Mathlib.Omega.{arith}
use lib.Dec.{ltb}
use lib.ListN.{length}
use borrow.Author.Tests.{lt-ltb, le-ltb, ltb-true, ltb-false}
use Rattle.std.specs.Prelude.{Result, Ok, Err, min}
use Rattle.text.specs.declared.SyntaxError.{SyntaxError}
use Rattle.text.specs.declared.SyntaxError.TheVariants.{TooLong, NoTokenAt, UnfitAt, NoRoom}
use Rattle.text.specs.definitions.Tokens.{tokens, no_token_at, tokens_of}
use Rattle.text.specs.inner_contracts.EnumAnswers.{syntax_answer}
use Rattle.text.specs.inner_contracts.TokenTable.{
  TokenColumns,
  rows,
  lacks_rows,
  IntoColumns,
  too_long,
  no_room,
  lexing,
  into_columns,
  columns_answer,
  told,
  Inside,
  Lexes,
}

-- ---- short columns

module _ (m : ℕ) (t : TokenColumns) where
  pub lacks_classes : length t.classes < m → lacks_rows m t ≡ true
  unfolding lacks_rows
  lacks_classes c = rw (lt-ltb (length t.classes) m c)

  module _ (c : m ≤ length t.classes) where
    pub lacks_offsets : length t.offsets < m → lacks_rows m t ≡ true
    unfolding lacks_rows
    lacks_offsets o = rw (le-ltb (length t.classes) m c, lt-ltb (length t.offsets) m o)

    module _ (o : m ≤ length t.offsets) where
      pub lacks_lengths : length t.lengths < m → lacks_rows m t ≡ true
      unfolding lacks_rows
      lacks_lengths l = rw (le-ltb (length t.classes) m c, le-ltb (length t.offsets) m o, lt-ltb (length t.lengths) m l)

      module _ (l : m ≤ length t.lengths) where
        pub lacks_values : length t.values < m → lacks_rows m t ≡ true
        unfolding lacks_rows
        lacks_values v =
            rw (
              le-ltb (length t.classes) m c,
              le-ltb (length t.offsets) m o,
              le-ltb (length t.lengths) m l,
              lt-ltb (length t.values) m v,
            )

        pub has_rows : m ≤ length t.values → lacks_rows m t ≡ false
        unfolding lacks_rows
        has_rows v =
            rw (
              le-ltb (length t.classes) m c,
              le-ltb (length t.offsets) m o,
              le-ltb (length t.lengths) m l,
              le-ltb (length t.values) m v,
            )

-- the fewest rows decide
pub lacks_fewest : (m n : ℕ) (t : TokenColumns) → n ≡ min (min (min (length t.classes) (length t.offsets)) (length t.lengths)) (length t.values) → n < m → lacks_rows m t ≡ true
lacks_fewest m n t e h = go (ltb (length t.classes) m) refl (ltb (length t.offsets) m) refl (ltb (length t.lengths) m) refl
  where
    go : (a : Bool) → ltb (length t.classes) m ≡ a → (b : Bool) → ltb (length t.offsets) m ≡ b → (d : Bool) → ltb (length t.lengths) m ≡ d → lacks_rows m t ≡ true
    go true a b f d g = lacks_classes m t (ltb-true _ m a)
    go false a true f d g = lacks_offsets m t (ltb-false _ m a) (ltb-true _ m f)
    go false a false f true g = lacks_lengths m t (ltb-false _ m a) (ltb-false _ m f) (ltb-true _ m g)
    go false a false f false g =
        let c = ltb-false _ m a in
        let o = ltb-false _ m f in
        let l = ltb-false _ m g in
        lacks_values m t c o l (omega arith)

-- ---- the outcome by the two tests

module _ (text : List ℕ) (t : TokenColumns) where
  pub into_columns_long : 32768 < length text → into_columns text t ≡ too_long
  unfolding into_columns
  into_columns_long h = rw (lt-ltb 32768 (length text) h)

  pub into_columns_short : length text ≤ 32768 → lacks_rows (length text) t ≡ true → into_columns text t ≡ no_room
  unfolding into_columns
  into_columns_short h e = rw (le-ltb 32768 (length text) h, e)

  pub into_columns_lexing : length text ≤ 32768 → lacks_rows (length text) t ≡ false → into_columns text t ≡ lexing (tokens_of text)
  unfolding into_columns
  into_columns_lexing h e = rw (le-ltb 32768 (length text) h, e)

-- what an outcome tells of a text and columns
abbrev pub IntoColumnsSays : List ℕ → TokenColumns → IntoColumns → Type 0
IntoColumnsSays text t too_long = 32768 < length text
IntoColumnsSays text t no_room = (length text ≤ 32768) × (lacks_rows (length text) t ≡ true)
IntoColumnsSays text t (lexing x) = (length text ≤ 32768) × (tokens_of text ≡ x)

into_columns_says : (text : List ℕ) (t : TokenColumns) → IntoColumnsSays text t (into_columns text t)
into_columns_says text t = go (ltb 32768 (length text)) refl (lacks_rows (length text) t) refl
  where
    go : (a : Bool) → ltb 32768 (length text) ≡ a → (b : Bool) → lacks_rows (length text) t ≡ b → IntoColumnsSays text t (into_columns text t)
    go true e b f = let h = ltb-true 32768 (length text) e in rw (into_columns_long text t h) h
    go false e true f = let h = ltb-false 32768 (length text) e in rw (into_columns_short text t h f) (h, f)
    go false e false f = let h = ltb-false 32768 (length text) e in rw (into_columns_lexing text t h f) (h, refl)

-- ---- what each answer of `lex` tells

module _ (text : List ℕ) (t u : TokenColumns) where
  pub count_says : (n : ℕ) → Lexes text t u (Ok n) → (length text ≤ 32768) × (tokens_of text ≡ tokens (rows n u text))
  unfolding told
  count_says n l = rw (← l.says) at (into_columns_says text t)

  pub bad_says : (p : ℕ) → Lexes text t u (Err (NoTokenAt p)) → (length text ≤ 32768) × (tokens_of text ≡ no_token_at p)
  unfolding told
  bad_says p l = rw (← l.says) at (into_columns_says text t)

  pub too_long_says : Lexes text t u (Err TooLong) → 32768 < length text
  unfolding told
  too_long_says l = rw (← l.says) at (into_columns_says text t)

  pub no_room_says : Lexes text t u (Err NoRoom) → (length text ≤ 32768) × (lacks_rows (length text) t ≡ true)
  unfolding told
  no_room_says l = rw (← l.says) at (into_columns_says text t)

-- ---- an answer as document 01's number

pub lexed_as : (x : Result ℕ SyntaxError) (text : List ℕ) (t u : TokenColumns) → Inside x u text → told x u text ≡ into_columns text t
    → syntax_answer x ≡ columns_answer (λ ts. 0) (into_columns text t)
unfolding syntax_answer columns_answer told
lexed_as x text t u h e = of_answer x h ∙ ap (columns_answer (λ ts. 0)) e
  where
    of_answer : (y : Result ℕ SyntaxError) → Inside y u text → syntax_answer y ≡ columns_answer (λ ts. 0) (told y u text)
    of_answer (Ok n) h = refl
    of_answer (Err TooLong) h = refl
    of_answer (Err (NoTokenAt p)) h = refl
    of_answer (Err (UnfitAt p)) h = absurd h
    of_answer (Err NoRoom) h = refl

-- ---- the answers before the loop

pub too_long_lexes : (text : List ℕ) (t : TokenColumns) → 32768 < length text → Lexes text t t (Err TooLong)
unfolding told
too_long_lexes text t h = record {
  answer = lexed_as (Err TooLong) text t t tt (sym (into_columns_long text t h));
  says = sym (into_columns_long text t h);
  inside = tt;
  classes_kept = refl;
  offsets_kept = refl;
  lengths_kept = refl;
  values_kept = refl;
}

pub no_room_lexes : (text : List ℕ) (t : TokenColumns) → length text ≤ 32768 → lacks_rows (length text) t ≡ true → Lexes text t t (Err NoRoom)
unfolding told
no_room_lexes text t h e = record {
  answer = lexed_as (Err NoRoom) text t t tt (sym (into_columns_short text t h e));
  says = sym (into_columns_short text t h e);
  inside = tt;
  classes_kept = refl;
  offsets_kept = refl;
  lengths_kept = refl;
  values_kept = refl;
}
