-- Laws of the lexer's loop: its rows and what is left of the text give the text's tokens.
use mathlib.Core.Path.{◌≡◌, refl, sym, ap, ◌∙◌}
use mathlib.Core.List.{List, [], ◌∷◌, ◌++◌, append_assoc, append-nil}
use mathlib.Core.Bool.{Bool, true, false}
use Prim.Native.Nat.{ℕ, ◌+◌, ◌-◌, ◌<◌, ◌≤◌}
use native.Mathlib.Omega.{arith}
use lib.Dec.{eqb}
use lib.ListN.{length, get_or, set, drop, length-set}
use lib.Seq.{get_or-set_same, get_or-set_other}
use borrow.Author.Tests.{eqb-true, eqb-false}
use Rattle.text.specs.declared.Item.TheVariants.{Gap, Found, Bad, End}
use Rattle.std.specs.Prelude.{Ok, Err}
use Rattle.text.specs.declared.SyntaxError.TheVariants.{NoTokenAt}
use Rattle.text.specs.definitions.Tokens.{Token, Lexing, tokens, no_token_at, add_token, tokens_from, tokens_of}
use Rattle.text.specs.inner_contracts.TokenTable.{token_at, TokenColumns, columns_of, rows, lexing, into_columns, told, Lexes}
use Rattle.text.proofs.laws.IntoColumnsLaws.{has_rows, into_columns_lexing, lexed_as}
use Rattle.text.proofs.steps.StepLaws.{answer_says}
use Rattle.text.proofs.laws.RowLaws.{rows_put}

-- tokens in front of what the rest gives
unfoldable pub onto : List Token → Lexing → Lexing
onto front (tokens ts) = tokens (front ++ ts)
onto front (no_token_at p) = no_token_at p

onto_none : (x : Lexing) → onto [] x ≡ x
unfolding onto
onto_none (tokens ts) = refl
onto_none (no_token_at p) = refl

onto_one : (front : List Token) (t : Token) (x : Lexing) → onto front (add_token t x) ≡ onto (front ++ (t ∷ [])) x
unfolding onto add_token
onto_one front t (tokens ts) = ap tokens (sym (append_assoc front (t ∷ []) ts))
onto_one front t (no_token_at p) = refl

-- the first n rows of columns, which began as t, are the tokens of the text up to an offset
pub record Going (text : List ℕ) (t : TokenColumns) (cs os ls vs : List ℕ) (at n : ℕ) : Type 0 where
  pub allowed : length text ≤ 32768
  pub inside : at ≤ length text
  pub fewer : n ≤ at
  pub parts : (i : ℕ) → i < n → get_or os i 0 + get_or ls i 0 ≤ length text
  pub room_classes : length text ≤ length cs
  pub room_offsets : length text ≤ length os
  pub room_lengths : length text ≤ length ls
  pub room_values : length text ≤ length vs
  pub kept_classes : length cs ≡ length t.classes
  pub kept_offsets : length os ≡ length t.offsets
  pub kept_lengths : length ls ≡ length t.lengths
  pub kept_values : length vs ≡ length t.values
  pub so_far : tokens_of text ≡ onto (rows n (columns_of cs os ls vs) text) (tokens_from 0 at (drop at text))

-- a token from `at` to `next` can be stored in row n
pub record Storable (text cs os ls vs : List ℕ) (at n next : ℕ) : Type 0 where
  pub forward : at < next
  pub within : next ≤ length text
  pub offset_fits : at < 65536
  pub length_fits : next - at < 256
  pub class_room : n < length cs
  pub offset_room : n < length os
  pub length_room : n < length ls
  pub value_room : n < length vs

pub going_start : (text cs os ls vs : List ℕ) → length text ≤ 32768 → length text ≤ length cs → length text ≤ length os → length text ≤ length ls
    → length text ≤ length vs → Going text (columns_of cs os ls vs) cs os ls vs 0 0
unfolding rows tokens_of
going_start text cs os ls vs h c o l v = record {
  allowed = h;
  inside = omega arith;
  fewer = omega arith;
  parts = λ i z. absurd (omega arith);
  room_classes = c;
  room_offsets = o;
  room_lengths = l;
  room_values = v;
  kept_classes = refl;
  kept_offsets = refl;
  kept_lengths = refl;
  kept_values = refl;
  so_far = sym (onto_none (tokens_from 0 0 text));
}

module _ {text : List ℕ} {t : TokenColumns} {cs os ls vs : List ℕ} {at n : ℕ} (g : Going text t cs os ls vs at n) where
  lexes : (x : Lexing) → onto (rows n (columns_of cs os ls vs) text) (tokens_from 0 at (drop at text)) ≡ x → lexing x ≡ into_columns text t
  lexes x e = rw (
    into_columns_lexing text t g.allowed (has_rows (length text) t (omega (arith, g)) (omega (arith, g)) (omega (arith, g)) (omega (arith, g))),
    g.so_far,
    e,
  )

  pub going_end : token_at text at ≡ End → Lexes text t (columns_of cs os ls vs) (Ok n)
  unfolding told onto
  going_end e =
      let r = rw e at (answer_says text at) in
      let s = lexes (tokens (rows n (columns_of cs os ls vs) text)) (rw r.1 (ap tokens (append-nil (rows n (columns_of cs os ls vs) text)))) in
      record {
        answer = lexed_as (Ok n) text t (columns_of cs os ls vs) (omega (arith, g), g.parts) s;
        says = s;
        inside = (omega (arith, g), g.parts);
        classes_kept = g.kept_classes;
        offsets_kept = g.kept_offsets;
        lengths_kept = g.kept_lengths;
        values_kept = g.kept_values;
      }

  pub going_bad : token_at text at ≡ Bad → Lexes text t (columns_of cs os ls vs) (Err (NoTokenAt at))
  unfolding told onto
  going_bad e =
      let r = rw e at (answer_says text at) in
      let s = lexes (no_token_at at) (rw r.1) in
      record {
        answer = lexed_as (Err (NoTokenAt at)) text t (columns_of cs os ls vs) tt s;
        says = s;
        inside = tt;
        classes_kept = g.kept_classes;
        offsets_kept = g.kept_offsets;
        lengths_kept = g.kept_lengths;
        values_kept = g.kept_values;
      }

  pub going_gap : (next : ℕ) → token_at text at ≡ Gap next → (at < next) × (next ≤ length text) × Going text t cs os ls vs next n
  going_gap next e =
      let r = rw e at (answer_says text at) in (
        r.0,
        r.1,
        record {
          allowed = g.allowed;
          inside = r.1;
          fewer = omega (arith, g, r.0);
          parts = g.parts;
          room_classes = g.room_classes;
          room_offsets = g.room_offsets;
          room_lengths = g.room_lengths;
          room_values = g.room_values;
          kept_classes = g.kept_classes;
          kept_offsets = g.kept_offsets;
          kept_lengths = g.kept_lengths;
          kept_values = g.kept_values;
          so_far = g.so_far ∙ ap (onto (rows n (columns_of cs os ls vs) text)) r.2;
        },
      )

  module _ (c v next : ℕ) (e : token_at text at ≡ Found c v next) where
    pub found_storable : Storable text cs os ls vs at n next
    found_storable = let r = rw e at (answer_says text at) in omega (arith, g, r.0, r.1, r.2)

    found_parts : (i : ℕ) → i < n + 1 → get_or (set os n at) i 0 + get_or (set ls n (next - at)) i 0 ≤ length text
    found_parts i z = go (eqb i n) refl
      where
        go : (s : Bool) → eqb i n ≡ s → get_or (set os n at) i 0 + get_or (set ls n (next - at)) i 0 ≤ length text
        go true s =
            let b = found_storable in
            rw (eqb-true i n s, get_or-set_same os n at 0 b.offset_room, get_or-set_same ls n (next - at) 0 b.length_room) (omega (arith, b))
        go false s =
            let other = eqb-false i n s in
            rw (get_or-set_other os n i at 0 other, get_or-set_other ls n i (next - at) 0 other) (g.parts i (omega arith))

    pub going_found : Going text t (set cs n c) (set os n at) (set ls n (next - at)) (set vs n v) next (n + 1)
    going_found =
        let r = rw e at (answer_says text at) in
        let b = found_storable in
        record {
          allowed = g.allowed;
          inside = r.1;
          fewer = omega (arith, g, r.0);
          parts = found_parts;
          room_classes = simp length-set g.room_classes;
          room_offsets = simp length-set g.room_offsets;
          room_lengths = simp length-set g.room_lengths;
          room_values = simp length-set g.room_values;
          kept_classes = length-set cs n c ∙ g.kept_classes;
          kept_offsets = length-set os n at ∙ g.kept_offsets;
          kept_lengths = length-set ls n (next - at) ∙ g.kept_lengths;
          kept_values = length-set vs n v ∙ g.kept_values;
          so_far = g.so_far
              ∙ ap (onto (rows n (columns_of cs os ls vs) text)) r.3
              ∙ onto_one (rows n (columns_of cs os ls vs) text) _ (tokens_from 0 next (drop next text))
              ∙ ap (λ (front : List Token). onto front (tokens_from 0 next (drop next text)))
              (sym (rows_put text cs os ls vs n c at (next - at) v b.class_room b.offset_room b.length_room b.value_room));
        }
