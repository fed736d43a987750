-- Facts of all tokens of a text: each is a part of it, they come one after another, and their classes, lengths and values are bounded.
use mathlib.Core.Path.{◌≡◌, refl, sym, ap, ◌∙◌, subst}
use mathlib.Core.List.{List, [], ◌∷◌, ◌++◌, nil≢cons}
use mathlib.Core.Bool.{Bool, true, false}
use Prim.Native.Nat.{ℕ, zero, suc, ◌+◌, ◌-◌, ◌<◌, ◌≤◌}
use native.Mathlib.Nat.{add-zero}
use native.Mathlib.Omega.{arith}
use lib.Dec.{ltb}
use lib.ListN.{length, get_or, take, drop, take-append-drop, length-drop}
use lib.Seq.{drop-nil, drop-drop, length-take-le}
use borrow.Author.Tests.{ltb-true, ltb-false}
use Rattle.text.specs.definitions.Tokens.{Token, Lexeme, gap, found, bad, item, Lexing, tokens, no_token_at, add_token, taken, tokens_from, tokens_of}
use Rattle.text.specs.inner_contracts.TokenTable.{TokenColumns, row_token, rows}
use Rattle.text.proofs.laws.ItemLaws.{Reaches, item_reaches}
use Rattle.text.proofs.laws.RowLaws.{drop_rows}

-- a token stands in the text at its offset
pub record InText (text : List ℕ) (t : Token) : Type 0 where
  pub stands : drop t.at text ≡ t.bytes ++ drop (t.at + length t.bytes) text
  pub within : t.at + length t.bytes ≤ length text
  pub not_empty : 0 < length t.bytes
  pub at_most_24 : length t.bytes ≤ 24
  pub class_bound : t.class ≤ 36
  pub value_bound : t.value ≤ 2147483647

-- tokens one after another, the first at `low` or later
abbrev pub InOrder : List ℕ → ℕ → List Token → Type 0
InOrder text low [] = Unit {0}
InOrder text low (t ∷ ts) = (low ≤ t.at) × InText text t × InOrder text (t.at + length t.bytes) ts

-- the same of what lexing gives; an offset that is refused lies in the text
abbrev pub LexingInOrder : List ℕ → ℕ → Lexing → Type 0
LexingInOrder text low (tokens ts) = InOrder text low ts
LexingInOrder text low (no_token_at p) = (low ≤ p) × (p < length text)

lower : (text : List ℕ) (low high : ℕ) (x : Lexing) → low ≤ high → LexingInOrder text high x → LexingInOrder text low x
lower text low high (tokens []) l h = tt
lower text low high (tokens (t ∷ ts)) l h = (omega (arith, h.0), h.1, h.2)
lower text low high (no_token_at p) l h = (omega (arith, h.0), h.1)

add_in_order : (text : List ℕ) (low : ℕ) (t : Token) (x : Lexing) → low ≤ t.at → InText text t → LexingInOrder text (t.at + length t.bytes) x
    → LexingInOrder text low (add_token t x)
unfolding add_token
add_in_order text low t (tokens ts) l i h = (l, i, h)
add_in_order text low t (no_token_at p) l i h = (omega (arith, h.0), h.1)

module _ (text : List ℕ) where
  next : (at b : ℕ) (bs : List ℕ) → drop at text ≡ b ∷ bs → drop (at + 1) text ≡ bs
  next at b bs e = rw (← drop-drop 1 at text, e)

  found_in_text : (at b : ℕ) (bs : List ℕ) (c v more : ℕ) → drop at text ≡ b ∷ bs → Reaches (length bs) (found c v more)
      → InText text (record { class = c; at = at; bytes = b ∷ take more bs; value = v })
  found_in_text at b bs c v more e k =
      let count : length (take more bs) ≡ more = length-take-le more bs k.0 in
      let all = length-drop at text in
      let here = ap length e in
      record {
        stands = rw (← drop-drop (suc (length (take more bs))) at text, e, count) (ap (◌∷◌ b) (sym (take-append-drop more bs)));
        within = omega arith;
        not_empty = omega arith;
        at_most_24 = omega (arith, k.1);
        class_bound = k.2;
        value_bound = k.3;
      }

  taken_in_order : (i : Lexeme) (at b : ℕ) (bs : List ℕ) (others : ℕ → Lexing) → drop at text ≡ b ∷ bs → Reaches (length bs) i
      → ((more : ℕ) → LexingInOrder text (at + 1 + more) (others more)) → LexingInOrder text at (taken i at b bs others)
  unfolding taken
  taken_in_order (gap more) at b bs others e k h = lower text at (at + 1 + more) (others more) (omega arith) (h more)
  taken_in_order (found c v more) at b bs others e k h =
      let count : length (take more bs) ≡ more = length-take-le more bs k.0 in
      add_in_order text at (record { class = c; at = at; bytes = b ∷ take more bs; value = v }) (others more) (omega arith) (found_in_text at b bs c v more e k)
      (lower text (at + suc (length (take more bs))) (at + 1 + more) (others more) (omega arith) (h more))
  taken_in_order bad at b bs others e k h = (omega arith, omega (arith, length-drop at text, ap length e))

  from_in_order : (skip at : ℕ) (bs : List ℕ) → drop at text ≡ bs → LexingInOrder text (at + skip) (tokens_from skip at bs)
  unfolding tokens_from
  from_in_order skip at [] e = tt
  from_in_order (suc skip) at (b ∷ bs) e =
      lower text (at + suc skip) (at + 1 + skip) (tokens_from skip (at + 1) bs) (omega arith) (from_in_order skip (at + 1) bs (next at b bs e))
  from_in_order zero at (b ∷ bs) e =
      rw (add-zero at)
      (taken_in_order (item b bs) at b bs (λ more. tokens_from more (at + 1) bs) e (item_reaches b bs)
      (λ more. from_in_order more (at + 1) bs (next at b bs e)))

  -- what lexing gives of a text
  pub lexing_in_order : LexingInOrder text 0 (tokens_of text)
  unfolding tokens_of
  lexing_in_order = from_in_order 0 0 text refl

  pub refused_within : (p : ℕ) → tokens_of text ≡ no_token_at p → p < length text
  refused_within p e = (rw e at lexing_in_order).1

-- ---- the token at an index

-- i tokens on, an offset is at least i more
module _ (text : List ℕ) where
  in_order_at : (low : ℕ) (ts : List Token) → InOrder text low ts → (i : ℕ) (t : Token) (rest : List Token) → drop i ts ≡ t ∷ rest
      → (low + i ≤ t.at) × InText text t × InOrder text (t.at + length t.bytes) rest
  in_order_at low [] h i t rest e = absurd (nil≢cons (sym (drop-nil i) ∙ e))
  in_order_at low (u ∷ us) h zero t rest e =
      let k : InOrder text low (t ∷ rest) = subst (InOrder text low) e h in
      (omega (arith, k.0), k.1, k.2)
  in_order_at low (u ∷ us) h (suc i) t rest e =
      let k = in_order_at (u.at + length u.bytes) us h.2 i t rest e in
      (omega (arith, h.0, h.1.not_empty, k.0), k.1, k.2)

  module _ (ts : List Token) (lexed : tokens_of text ≡ tokens ts) where
    in_order : InOrder text 0 ts
    in_order = rw lexed at (lexing_in_order text)

    pub token_in_text : (i : ℕ) (t : Token) (rest : List Token) → drop i ts ≡ t ∷ rest → InText text t
    token_in_text i t rest e = (in_order_at 0 ts in_order i t rest e).1

    -- a later token begins after the end of an earlier one
    pub tokens_apart : (i j : ℕ) (t u : Token) (r s : List Token) → drop i ts ≡ t ∷ r → drop j ts ≡ u ∷ s → i < j → t.at + length t.bytes ≤ u.at
    tokens_apart i j t u r s e f l =
        let k = j - suc i in
        let n : i + 1 + k ≡ j = omega arith in
        let left : r ≡ drop (i + 1) ts = rw (← drop-drop 1 i ts, e) in
        let there : drop k r ≡ u ∷ s = rw (left, drop-drop k (i + 1) ts, n) f in
        omega (arith, (in_order_at (t.at + length t.bytes) r (in_order_at 0 ts in_order i t r e).2 k u s there).0)

    pub tokens_ascend : (i j : ℕ) (t u : Token) (r s : List Token) → drop i ts ≡ t ∷ r → drop j ts ≡ u ∷ s → i < j → t.at < u.at
    tokens_ascend i j t u r s e f l = omega (arith, tokens_apart i j t u r s e f l, (token_in_text i t r e).not_empty)

    -- an offset tells the token
    pub same_offset : (i j : ℕ) (t u : Token) (r s : List Token) → drop i ts ≡ t ∷ r → drop j ts ≡ u ∷ s → t.at ≡ u.at → i ≡ j
    same_offset i j t u r s e f o = go (ltb i j) refl (ltb j i) refl
      where
        go : (a : Bool) → ltb i j ≡ a → (b : Bool) → ltb j i ≡ b → i ≡ j
        go true p b q = absurd (omega (arith, tokens_ascend i j t u r s e f (ltb-true i j p)))
        go false p true q = absurd (omega (arith, tokens_ascend j i u t s r f e (ltb-true j i q)))
        go false p false q = omega (arith, ltb-false i j p, ltb-false j i q)

-- ---- the same of rows

module _ (text : List ℕ) (n : ℕ) (c : TokenColumns) (lexed : tokens_of text ≡ tokens (rows n c text)) where
  pub row_in_text : (i : ℕ) → i < n → InText text (row_token c text i)
  row_in_text i h = token_in_text text (rows n c text) lexed i (row_token c text i) (drop (i + 1) (rows n c text)) (drop_rows n c text i h)

  pub rows_apart : (i j : ℕ) → i < j → j < n → (row_token c text i).at + length (row_token c text i).bytes ≤ (row_token c text j).at
  rows_apart i j l h =
      tokens_apart text (rows n c text) lexed i j (row_token c text i) (row_token c text j) (drop (i + 1) (rows n c text)) (drop (j + 1) (rows n c text))
      (drop_rows n c text i (omega arith))
      (drop_rows n c text j h)
      l

  pub rows_ascend : (i j : ℕ) → i < j → j < n → (row_token c text i).at < (row_token c text j).at
  rows_ascend i j l h = omega (arith, rows_apart i j l h, (row_in_text i (omega arith)).not_empty)

-- a row that lies in the text has as many bytes as its length says
pub row_length : (text : List ℕ) (c : TokenColumns) (i : ℕ) → get_or c.offsets i 0 + get_or c.lengths i 0 ≤ length text
    → length (row_token c text i).bytes ≡ get_or c.lengths i 0
unfolding row_token
row_length text c i h = length-take-le (get_or c.lengths i 0) (drop (get_or c.offsets i 0) text) (omega (arith, length-drop (get_or c.offsets i 0) text))
